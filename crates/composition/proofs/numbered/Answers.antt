-- The number, or the greatest of 31 bits in its place.
use Rattle.std.proofs.Common.{◌≡◌, ℕ, ◌<◌, min, ap, ◌∙◌, arith, pos, ℤ, rules, Result, Ok, Err}
use mir.Syntax.{w32}
use mir.Val.{SFits}
use mir.ValLaws.{to_z-of_z}
use Rattle.std.specs.Result.{OkIff, result_unwrap_or}
use Rattle.composition.specs.Parts.{held}
use Rattle.composition.proofs.Bytes.{kind_itself}
use Rattle.composition.proofs.numbered.Goals as goal

-- what a result that was tried comes to
saturated : {E : Type 0} (r : Result ℤ E) (n : ℕ) → OkIff r (SFits w32 (pos n)) (pos n) → result_unwrap_or r (pos 2147483647) ≡ pos (min n 2147483647)
saturated (Ok x) n h = h.1 ∙ ap (λ (k : ℕ). pos k) (let f : n < 2147483648 = h.0.sfits in omega arith)
saturated (Err e) n h = ap (λ (k : ℕ). pos k) (let f : n < 2147483648 → ⊥ = λ l. h (record { sfits = l }) in omega arith)

pub returns : goal.returns
unfolding held
returns c =
    let fits : SFits w32 c.unwrap_or-parameter.result = search rules in
    let is = c.unwrap_or-parameter.ensures ∙ saturated c.try_from.result c.args.number c.try_from.ensures in
    rw (to_z-of_z w32 c.unwrap_or-parameter.result fits, is, kind_itself c.args.kind)
