-- One reading of an instruction over cells: its fault, whether anything is new, and what is known after it, as the definitions
-- have them.
use mathlib.Core.Path.{◌≡◌, refl, fun_ext}
use mathlib.Core.List.{List, map}
use Prim.Native.Nat.{◌≤◌}
use lib.IntN.{ℤ}
use Rattle.std.specs.Prelude.{Option as Optional}
use lib.ListN.{length}
use Rattle.model.specs.Trees.{Instruction, Variable}
use Rattle.model.specs.Walk.{Scope}
use Rattle.model.specs.WellFormed.{Scoped}
use Rattle.expressions.specs.Expressions.{Valuation}
use Rattle.interpreter.specs.Instructions.{any, effects, fault_of}
use Rattle.semantics.specs.Propagation.{is_new, extended}
use Rattle.interpreter.specs.Gathering.{Gathering, gathering, gather_all, nothing_found, fault_in}
use Rattle.expressions.specs.Cells.{valuation_of}
use Rattle.waiting.proofs.Gathering.{fault_folded, fresh_folded, given_folded}
use Rattle.waiting.proofs.Scoping.{scoped_effects}

-- what the gathering found and gave, over what was known at its beginning
pub record Gathers (vs : List Variable) (i : Instruction) (σ known : Valuation) (g : Gathering) : Type 0 where
  pub fault : fault_in g.found ≡ fault_of vs known (effects i σ)
  pub fresh : g.found.fresh ≡ any (is_new known) (effects i σ)
  pub given : valuation_of g.given ≡ extended (effects i σ) known

pub gathers : (vs : List Variable) (i : Instruction) (s : Scope) → Scoped i s → s.past ≤ length vs
    → (cells given : List (Optional ℤ)) → s.past ≤ length given
    → Gathers vs i (valuation_of cells) (valuation_of given)
    (gather_all (map (λ v. v.low) vs) (map (λ v. v.high) vs) (effects i (valuation_of cells)) (gathering nothing_found given))
gathers vs i s scoped past cells given long =
    let a = scoped_effects cells i s scoped {n = length given} {m = length vs} long past in
    record {
      fault = fault_folded vs refl refl given (effects i (valuation_of cells)) a;
      fresh = fresh_folded vs refl refl given (effects i (valuation_of cells)) a;
      given = fun_ext (given_folded vs refl refl given (effects i (valuation_of cells)) a);
    }
