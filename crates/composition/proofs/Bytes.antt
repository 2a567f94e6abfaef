-- The kind of a kind's byte is the kind.
use mathlib.Core.Path.{◌≡◌, refl}
use Rattle.kinds.specs.declared.kind.Kind.{Kind}
use Rattle.kinds.specs.declared.kind.Kind.TheVariants as kind
use Rattle.kinds.specs.Kinds.{code_of}
use Rattle.composition.specs.Parts.{kind_at}

pub kind_itself : (k : Kind) → kind_at (code_of k) ≡ k
unfolding kind_at
kind_itself kind.BooleanVariable = refl
kind_itself kind.LowEnd = refl
kind_itself kind.HighEnd = refl
kind_itself kind.FirstValue = refl
kind_itself kind.Transition = refl
kind_itself kind.Skip = refl
kind_itself kind.Assignment = refl
kind_itself kind.IfThen = refl
kind_itself kind.Block = refl
kind_itself kind.Numeral = refl
kind_itself kind.Truth = refl
kind_itself kind.Variable = refl
kind_itself kind.Negation = refl
kind_itself kind.Conjunction = refl
kind_itself kind.Disjunction = refl
kind_itself kind.Equality = refl
kind_itself kind.Less = refl
kind_itself kind.LessOrEqual = refl
kind_itself kind.Sum = refl
kind_itself kind.Difference = refl
kind_itself kind.Product = refl
kind_itself kind.Quotient = refl
kind_itself kind.Remainder = refl
kind_itself kind.Conditional = refl
kind_itself kind.Equivalence = refl
