-- `visit` meets its contract.
use native.Mathlib.Omega.{arith}
use Rattle.rounds.proofs.Visiting.{may_read, still_read}
use Rattle.rounds.proofs.visit.Goals as goal

pub gather-requires : goal.gather-requires
gather-requires c =
    let u = c.requires.0 in
    let f = u.1 in
    (may_read u.0 c.args.at (record { set = c.if-stamp-eq0.false; other = c.if-stamp-reading.false }) f.2, f.0, f.1, (f.4, f.6))

pub returns-clause-still : goal.returns-clause-still
returns-clause-still c =
    let e = c.gather.ensures in
    let u = c.requires.0 in
    (still_read u.0 c.args.at (record { set = c.if-stamp-eq0.false; other = c.if-stamp-reading.false }) e.read e.whole.0 e.whole.1 (omega (arith, c.requires.1, u.1.0))).0

pub returns-clause-done : goal.returns-clause-done
returns-clause-done c =
    let e = c.gather.ensures in
    let u = c.requires.0 in
    (still_read u.0 c.args.at (record { set = c.if-stamp-eq0.false; other = c.if-stamp-reading.false }) e.read e.whole.0 e.whole.1 (omega (arith, c.requires.1, u.1.0))).1
