-- What the calls ask of a model file, and what the check of the values tells.
use Rattle.std.specs.Prelude.{◌≡◌}
use Rattle.model.specs.declared.Sizes.{Sizes}
use Rattle.model.specs.Trees.{System}
use Rattle.model.specs.Check.{Verdict}
use Rattle.model.specs.Check.Verdict.{accepted}
use Rattle.semantics.specs.Meanings.{meaning_of}
use Rattle.standing.specs.declared.Declared.{Declared}
use Rattle.standing.specs.declared.RangeCheck.{RangeCheck}
use Rattle.standing.specs.Runs.{Answer}
use Rattle.standing.specs.Runs.Answer.{outside}
use Rattle.steps.specs.Declarations.{Declares}

-- the file is accepted, and this is what its model declares
pub record DeclaredIn (v : Verdict) (d : Declared) : Type 0 where
  pub sizes : Sizes
  pub system : System
  pub checked : v ≡ accepted sizes system
  pub declares : Declares (meaning_of system) d

-- the first variable outside its ends or none, and how many values were looked at
abbrev pub told_outside : RangeCheck → Answer
told_outside c = outside c.outside c.looked
