-- The loop's invariant: the transitions left, after the last one fired, come to what all come to, and the cells to work in are blank.
use Rattle.std.specs.Prelude.{◌≡◌, length, drop, Ok}
use Rattle.results.specs.Results.{answered}
use Rattle.engine.specs.Lent.{OnLoadedIn, BlankFiringIn, SameWork}
use Rattle.replaying.specs.Moves.{fired_all}
use Rattle.replaying.proofs.refire.Given as goal

abbrev pub invariant-loop-transition : goal.invariant-loop-transition
invariant-loop-transition l = record {
  left : OnLoadedIn l.loaded.decoded.tables (λ m.
      fired_all m (drop l.transition-index l.entries) (answered (Ok l.count) l.values) ≡ fired_all m l.entries (answered (Ok l.rounds) l.fn.values));
  blank : BlankFiringIn l.loaded.decoded.tables l.work;
  same : SameWork l.initial.work l.work;
  long : length l.values ≡ length l.initial.values;
}
