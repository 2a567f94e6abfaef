-- How many bytes were read.
use Rattle.std.specs.Prelude.{ℕ, Result, Ok, Err}

-- to the end of the source or of the cells, or before a read failed
unfoldable pub count_of : Result ℕ ℕ → ℕ
count_of (Ok count) = count
count_of (Err count) = count
