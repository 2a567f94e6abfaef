-- When two sorts, two wanted sorts, two places are one.
use Rattle.std.specs.Prelude.{Bool, true, false, Option, Some, None}
use Rattle.kinds.specs.declared.Place.{Place}
use Rattle.kinds.specs.declared.Place.TheVariants.{Nowhere, Variable, HighEnd, FirstValue, Transition, Instruction, Expression}
use Rattle.kinds.specs.declared.Sort.{Sort}
use Rattle.kinds.specs.declared.Sort.TheVariants.{Boolean, Number}

-- the two sorts are one
abbrev pub is_sort : Sort → Sort → Bool
is_sort Boolean Boolean = true
is_sort Number Number = true
is_sort _ _ = false

-- one sort, or both none
abbrev pub same_sort : Option Sort → Option Sort → Bool
same_sort None None = true
same_sort (Some a) (Some b) = is_sort a b
same_sort _ _ = false

-- the two places are one
abbrev pub is_place : Place → Place → Bool
is_place Nowhere Nowhere = true
is_place Variable Variable = true
is_place HighEnd HighEnd = true
is_place FirstValue FirstValue = true
is_place Transition Transition = true
is_place Instruction Instruction = true
is_place Expression Expression = true
is_place _ _ = false
