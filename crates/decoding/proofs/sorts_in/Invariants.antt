-- `sorts_in` meets its contract: the variables that are left stand from the present place on, whatever the parameters.
use mathlib.Core.List.{List}
use lib.IntN.{ℤ}
use Rattle.kinds.specs.declared.Sort.{Sort}
use Rattle.model.specs.Trees.{Variable}
use Rattle.decoding.proofs.StoredVariables.{VariablesStored}
use Rattle.decoding.proofs.sorts_in.Given as goal

abbrev pub sort : Variable → Sort
sort v = v.sort

abbrev pub invariant-loop-sort : goal.invariant-loop-sort
invariant-loop-sort l = (ps : List ℤ) → VariablesStored sort l.kinds ps l.sort-index l.at l.sorts l.initial.sorts
