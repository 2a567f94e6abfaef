-- 35, 11, or the new model of the members.
use mathlib.Core.Path.{sym, ap, ◌∙◌}
use borrow.Author.Tests.{not-true, not-false}
use Rattle.standing.specs.Holding.{all_below}
use Rattle.standing.proofs.Holding.{below_itself}
use Rattle.engine.proofs.Loading.{loaded_guards}
use Rattle.synchronisation.proofs.Calling.{mandatory_missing, optional_missing, members_found, members_joined}
use Rattle.std.proofs.lemmas.Bool.{not_from_true, not_from_false}
use Rattle.synchronisation.proofs.join.Goals as goal

pub returns-then-not-all_below : goal.returns-then-not-all_below
returns-then-not-all_below c = λ s.
    let given = c.args in
    mandatory_missing s.loaded.decoded.system given.members.now.mandatory.now given.members.now.optional.now given.out.now (sym c.is_empty.ensures ∙ c.if-is_empty.false)
    (ap (λ n. all_below n given.members.now.mandatory.now) (sym (loaded_guards s.loaded)) ∙ sym (below_itself _ _ _ c.all_below.ensures) ∙ not-true _ (not_from_false _ c.if-not-all_below.true))

pub returns-then-not-all_below-2 : goal.returns-then-not-all_below-2
returns-then-not-all_below-2 c = λ s.
    let given = c.args in
    optional_missing s.loaded.decoded.system given.members.now.mandatory.now given.members.now.optional.now given.out.now (sym c.is_empty.ensures ∙ c.if-is_empty.false)
    (ap (λ n. all_below n given.members.now.mandatory.now) (sym (loaded_guards s.loaded)) ∙ sym (below_itself _ _ _ c.all_below.ensures) ∙ not-false _ (not_from_true _ c.if-not-all_below.false))
    (ap (λ n. all_below n given.members.now.optional.now) (sym (loaded_guards s.loaded)) ∙ sym (below_itself _ _ _ c.all_below-2.ensures) ∙ not-true _ (not_from_false _ c.if-not-all_below-2.true))

pub extend-requires : goal.extend-requires
extend-requires c =
    let given = c.args in
    let s = c.requires in
    let f =
    members_found s.loaded.decoded.system given.members.now.mandatory.now given.members.now.optional.now given.out.now (sym c.is_empty.ensures ∙ c.if-is_empty.false)
    (ap (λ n. all_below n given.members.now.mandatory.now) (sym (loaded_guards s.loaded)) ∙ sym (below_itself _ _ _ c.all_below.ensures) ∙ not-false _ (not_from_true _ c.if-not-all_below.false))
    (ap (λ n. all_below n given.members.now.optional.now) (sym (loaded_guards s.loaded)) ∙ sym (below_itself _ _ _ c.all_below-2.ensures) ∙ not-false _ (not_from_true _ c.if-not-all_below-2.false)) in
    (record { rows = s.rows; loaded = s.loaded; members = f }, s.sorts_held)

pub returns : goal.returns
returns c = λ s.
    let given = c.args in
    let t = s.loaded.decoded.system in
    let f =
    members_found t given.members.now.mandatory.now given.members.now.optional.now given.out.now (sym c.is_empty.ensures ∙ c.if-is_empty.false)
    (ap (λ n. all_below n given.members.now.mandatory.now) (sym (loaded_guards s.loaded)) ∙ sym (below_itself _ _ _ c.all_below.ensures) ∙ not-false _ (not_from_true _ c.if-not-all_below.false))
    (ap (λ n. all_below n given.members.now.optional.now) (sym (loaded_guards s.loaded)) ∙ sym (below_itself _ _ _ c.all_below-2.ensures) ∙ not-false _ (not_from_true _ c.if-not-all_below-2.false)) in
    members_joined t given.members.now.mandatory.now given.members.now.optional.now given.out.now f (c.extend.ensures (record { rows = s.rows; loaded = s.loaded; members = f }) s.sorts_held)
