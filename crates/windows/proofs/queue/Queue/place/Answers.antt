-- The place within the array, or past its end from its beginning on.
use Rattle.windows.proofs.Rings.{place_within, place_wrapped}
use Rattle.windows.proofs.queue.Queue.place.Goals as goal

pub returns-then-at-lt-MAX_WINDOW : goal.returns-then-at-lt-MAX_WINDOW
returns-then-at-lt-MAX_WINDOW c = place_within c.args.self.now.first c.args.before c.if-at-lt-MAX_WINDOW.true

pub returns-else-at-lt-MAX_WINDOW : goal.returns-else-at-lt-MAX_WINDOW
returns-else-at-lt-MAX_WINDOW c = place_wrapped c.args.self.now.first c.args.before c.if-at-lt-MAX_WINDOW.false
