-- As many entries as have entered and not departed.
use mathlib.Core.Path.{sym}
use Rattle.windows.proofs.Rings.{ring_length}
use Rattle.windows.proofs.queue.Queue.len.Goals as goal

pub returns : goal.returns
returns c = sym (ring_length c.args.self.now.entries c.args.self.now.first _)
