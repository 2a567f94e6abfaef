-- 01: "lines of standard input: `f` space 1 to 3 digits, `u`, `m`"; 13 "a line is no command". 02, A7: "the program's `f` takes 1 to 5
-- digits". A line is its bytes without the line feed.
use Rattle.std.specs.Prelude.{Option, Some, None, Bool, cond, ◌&&◌, List, [], ◌∷◌, ℕ, leb, length, take, drop}
use Rattle.ascii.specs.Ascii.{space_byte, same, are_digits, value_of}
use Rattle.commands.specs.declared.Command.{Command}
use Rattle.commands.specs.declared.Command.TheVariants.{Fire, Undo, Marks}

-- the bytes `u`, `m`, `f`
abbrev pub undo_byte : ℕ
undo_byte = 117

abbrev pub marks_byte : ℕ
marks_byte = 109

abbrev pub fire_byte : ℕ
fire_byte = 102

-- 1 to 5 digits
abbrev pub least_digits : ℕ
least_digits = 1

abbrev pub most_digits : ℕ
most_digits = 5

-- 01's 1 to 3, kept for what is said of old files
abbrev pub old_most_digits : ℕ
old_most_digits = 3

-- at most so many digits, one at least
unfoldable pub is_number : ℕ → List ℕ → Bool
is_number most l = leb least_digits (length l) && (leb (length l) most && are_digits l)

-- `f` and one space come before a number
abbrev pub fire_prefix : List ℕ
fire_prefix = fire_byte ∷ space_byte ∷ []

-- the command of what follows `f` and a space
unfoldable pub fire_within : ℕ → List ℕ → Option Command
fire_within most l = cond (is_number most l) (Some (Fire (value_of l))) None

abbrev pub fire_of : List ℕ → Option Command
fire_of = fire_within most_digits

-- `u`, `m`, or `f`, one space and a number; anything else is no command
unfoldable pub command_within : ℕ → List ℕ → Option Command
command_within most l =
    cond (same l (undo_byte ∷ [])) (Some Undo)
    (cond (same l (marks_byte ∷ [])) (Some Marks)
    (cond (same (take 2 l) fire_prefix) (fire_within most (drop 2 l)) None))

abbrev pub command_of : List ℕ → Option Command
command_of = command_within most_digits

-- one byte more than the longest command has
abbrev pub too_long : ℕ
too_long = 8
