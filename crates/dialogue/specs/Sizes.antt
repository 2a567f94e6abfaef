-- The sizes of what the program keeps, each named once. In the code struct `Program` has `PLACES`, `FILE_BYTES`, `KEPT_BYTES` and
-- `LINE_BYTES`, struct `Model` `MAX_VARIABLES` and `MAX_TRANSITIONS`.
use Rattle.std.specs.Prelude.{ℕ, suc}
use Rattle.model.specs.Sizes.{max_variables, file_layout, longest}
use Rattle.commands.specs.Commands.{too_long}
use Rattle.lines.specs.Lines.{room, value_width}

-- "Its record has 200 places."
abbrev pub places : ℕ
places = 200

-- no accepted file is longer: 3 "a length not 10 + 5N", N at most 12,000
abbrev pub longest_file : ℕ
longest_file = longest file_layout

-- the bytes kept of the file: one more tells a file that is too long
abbrev pub file_bytes : ℕ
file_bytes = suc longest_file

-- the bytes kept of a line: `f`, a space and 5 digits are 7; one more tells a line that is no command
abbrev pub kept_bytes : ℕ
kept_bytes = too_long

-- the bytes of the array for the lines: room for every line of a run
abbrev pub line_bytes : ℕ
line_bytes = room value_width max_variables
