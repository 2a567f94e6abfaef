-- The variables, whose sorts the rest is checked over.
use mathlib.Core.Path.{◌≡◌, subst}
use mathlib.Core.List.{List}
use Prim.Native.Nat.{ℕ}
use Rattle.std.proofs.Common.{rules}
use Rattle.std.proofs.lemmas.Result.{err_from_is_err_and}
use Rattle.model.specs.Trees.{Variable, sorts_of}
use Rattle.model.specs.Walk.Walk.{found}
use Rattle.model.specs.Walk.{outcome, variable_at, row_at}
use Rattle.model.proofs.Systems.{variables_refused, system_walked}
use Rattle.model.proofs.walk.system.Goals as goal

pub returns-in_err-next : goal.returns-in_err-next
returns-in_err-next g c =
    let e = err_from_is_err_and c.from_residual.result c.from_residual.ensures.1 in
    rw (e.1, e.2) (variables_refused _ _ c.args.sizes (subst (λ k. c.variables-2.result ≡ outcome (row_at (variable_at c.args.tree.now.kinds.now c.args.tree.now.parameters.now) k 0)) (search rules) c.variables-2.ensures.0) c.in_err-next.was)

pub returns : goal.returns
returns g c = system_walked _ _ c.args.sizes (subst (λ k. c.variables-2.result ≡ outcome (row_at (variable_at c.args.tree.now.kinds.now c.args.tree.now.parameters.now) k 0)) (search rules) c.variables-2.ensures.0) _ c.in_ok-next.was
    (subst (λ k. (vs : List Variable) (next : ℕ) → row_at (variable_at c.args.tree.now.kinds.now c.args.tree.now.parameters.now) k 0 ≡ found vs next → c.variables-2.new.sorts ≡ sorts_of vs) (search rules) c.variables-2.ensures.1) c.rest.ensures
