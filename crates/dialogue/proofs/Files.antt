-- The first 60,011 bytes of a file tell its check: what model tells of every layout, of the one that every call reads.
use native.Mathlib.Omega.{arith}
use Rattle.model.specs.Sizes.{file_layout}
use Rattle.model.proofs.LongFiles.{long_refused, verdict_of_kept}
use Rattle.dialogue.specs.Sizes.{file_bytes}
use Rattle.dialogue.specs.Theorems.{LongFileRefused, VerdictOfFirst}

pub verdict_of_first : VerdictOfFirst
verdict_of_first m = verdict_of_kept file_layout m file_bytes (omega arith)

pub long_file_refused : LongFileRefused
long_file_refused = long_refused file_layout
