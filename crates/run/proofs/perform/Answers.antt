-- `perform` meets its contract: each call from what its function ensures.
use mathlib.Core.Path.{subst}
use Rattle.run.specs.Lent.{store_in}
use Rattle.run.specs.Promises.{told, ValuePromise, PickPromise, FirstOutsidePromise}
use Rattle.run.proofs.Reached.{calls_reached}
use Rattle.run.proofs.Promised.{performed}
use borrow.Author.Rules.{rules}
use Rattle.run.proofs.perform.Goals as goal

pub returns-in-Check-clause-performed : goal.returns-in-Check-clause-performed
unfolding told
returns-in-Check-clause-performed c =
    let m = c.args.model.now in
    let lent = c.args.store.now in
    performed m c.type_inv.model (store_in lent) c.map.result c.in-Check.is (calls_reached.check m (store_in lent) c.check.result c.check.ensures) (search rules)

pub returns-in-Start-clause-performed : goal.returns-in-Start-clause-performed
unfolding told
returns-in-Start-clause-performed c =
    performed c.args.model.now c.type_inv.model (store_in c.args.store.now) c.map-in-Start.result c.in-Start.is c.start.ensures.performed (search rules)

pub returns-in-Fire-clause-performed : goal.returns-in-Fire-clause-performed
unfolding told
returns-in-Fire-clause-performed c =
    performed c.args.model.now c.type_inv.model (store_in c.args.store.now) c.map-in-Fire.result c.in-Fire.is c.fire.ensures.performed (search rules)

pub returns-in-Undo-clause-performed : goal.returns-in-Undo-clause-performed
unfolding told
returns-in-Undo-clause-performed c =
    performed c.args.model.now c.type_inv.model (store_in c.args.store.now) c.map-in-Undo.result c.in-Undo.is c.undo.ensures.performed (search rules)

pub returns-in-Marks-clause-performed : goal.returns-in-Marks-clause-performed
unfolding told
returns-in-Marks-clause-performed c =
    performed c.args.model.now c.type_inv.model (store_in c.args.store.now) c.map-in-Marks.result c.in-Marks.is c.copy_marks.ensures.performed (search rules)

pub returns-in-Value-clause-performed : goal.returns-in-Value-clause-performed
unfolding told
returns-in-Value-clause-performed c =
    let m = c.args.model.now in
    let lent = c.args.store.now in
    performed m c.type_inv.model (store_in lent) c.map-in-Value.result c.in-Value.is
    (calls_reached.value m lent.values.now lent.marks.now lent.history.now lent.n.now c.in-Value.variable lent.buffer.now c.value.result
    (subst (λ r. ValuePromise m r c.in-Value.variable c.value.result) c.run.ensures c.value.ensures)) (search rules)

pub returns-in-Pick-clause-performed : goal.returns-in-Pick-clause-performed
unfolding told
returns-in-Pick-clause-performed c =
    let m = c.args.model.now in
    let lent = c.args.store.now in
    performed m c.type_inv.model (store_in lent) c.map-in-Pick.result c.in-Pick.is
    (calls_reached.pick m lent.values.now lent.marks.now lent.history.now lent.n.now lent.buffer.now c.pick.result
    (subst (λ r. PickPromise m r c.pick.result) c.run-in-Pick.ensures c.pick.ensures)) (search rules)

pub returns-in-FirstOutside-clause-performed : goal.returns-in-FirstOutside-clause-performed
unfolding told
returns-in-FirstOutside-clause-performed c =
    let m = c.args.model.now in
    let lent = c.args.store.now in
    performed m c.type_inv.model (store_in lent) c.map-in-FirstOutside.result c.in-FirstOutside.is
    (calls_reached.first_outside m lent.values.now lent.marks.now lent.history.now lent.n.now lent.buffer.now c.first_outside.result
    (subst (λ r. FirstOutsidePromise m r.values c.first_outside.result) c.run-in-FirstOutside.ensures c.first_outside.ensures)) (search rules)
