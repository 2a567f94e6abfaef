-- The laws of order for accepted files.
use Prim.Native.Nat.{suc}
use native.Mathlib.Omega.{arith}
use lib.ListN.{length}
use Rattle.model.specs.Trees.{variables}
use Rattle.model.proofs.CheckExact.{check_exact}
use Rattle.expressions.specs.Expressions.{known_from}
use Rattle.semantics.specs.Theorems.{RoundsBounded, RoundsEnd, SequentialAgrees}
use Rattle.semantics.proofs.Rounds.{rounds_bounded_tree, fuel_not_met, assertion_targets}
use Rattle.semantics.proofs.Sequential.{sequential_tree}

pub rounds_bounded : RoundsBounded
rounds_bounded m s t b e ss long = rounds_bounded_tree t ((check_exact m b s t).0 e).2 ss

pub sequential_agrees : SequentialAgrees
sequential_agrees m s t b e ss h = sequential_tree t ((check_exact m b s t).0 e).2 ss

pub rounds_end : RoundsEnd
rounds_end m s t b e ss fuel u =
    fuel_not_met (variables t) t.assertion (length t.states) (length t.flows) (assertion_targets t ((check_exact m b s t).0 e).2)
    (known_from ss) fuel (suc (length t.flows)) u (omega arith)
