-- The statements on commands. Proved in proofs/.
use Rattle.std.specs.Prelude.{◌≡◌, None, List, ℕ, ◌≤◌, length, take}
use Rattle.commands.specs.Commands.{command_of, too_long}

-- a line of 8 or more bytes is no command, so the first 8 bytes tell a line's command
abbrev pub LongLineUnknown : Type 0
LongLineUnknown = (l : List ℕ) → too_long ≤ length l → command_of l ≡ None

abbrev pub CommandOfFirst : Type 0
CommandOfFirst = (l : List ℕ) → command_of l ≡ command_of (take too_long l)
