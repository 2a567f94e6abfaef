use mathlib.Core.Path.{sym, ◌∙◌}
use native.Mathlib.Omega.{arith}
use lib.Seq.{length-take-le}
use Rattle.decoding.proofs.StoredGuards.{guards_begin, guards_turn, guards_stop, guards_end}
use Rattle.decoding.proofs.guard_places.Goals as goal

pub loop-guard-init : goal.loop-guard-init
loop-guard-init c = guards_begin c.args.nexts.now c.args.from _

pub returns-in_default : goal.returns-in_default
returns-in_default c = λ ts rest n e.
    let turn = c.loop-guard in
    absurd (guards_stop _ _ _ _ turn.guard-items _ turn.invariant c.loop-guard-test.true (omega (arith, c.in_default.ensures)) ts rest
    (n ∙ sym (length-take-le c.args.count c.args.guards.now c.requires.0)) e)

pub loop-guard-preserved : goal.loop-guard-preserved
loop-guard-preserved c =
    let turn = c.loop-guard in
    rw (c.from-at.ensures ∙ c.in-Some.ensures.lookup.3.1 0) (guards_turn _ _ _ _ turn.guard-items _ turn.invariant c.loop-guard-test.true)

pub returns : goal.returns
returns c = guards_end _ _ _ _ c.loop-guard.guard-items c.args.guards.now c.requires.0 c.loop-guard.invariant c.loop-guard-test.false
