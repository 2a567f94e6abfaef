-- An active assignment gives its variable a value, and a variable that had none is queued.
use Rattle.variables.specs.Rows.{lows_in, highs_in}
use Rattle.reading.proofs.Giving.{known_given, room_left, new_given}
use Rattle.reading.proofs.Gathering.give.Goals as goal

pub bounds-self-self : goal.bounds-self-self
bounds-self-self c =
    let g = c.args.self.now in
    room_left (lows_in c.args.variables.now) (highs_in c.args.variables.now) g.given.now g.queue.now g.waits.now c.args.variable c.ranges.value g.found g.queued c.give.ensures c.requires.3.0 c.if-is_none.ensures c.requires.0

pub returns-then-is_none-clause-given : goal.returns-then-is_none-clause-given
returns-then-is_none-clause-given c =
    let g = c.args.self.now in
    (new_given (lows_in c.args.variables.now) (highs_in c.args.variables.now) g.given.now g.queue.now g.waits.now c.args.variable c.ranges.value g.found g.queued c.give.ensures c.requires.3.0 c.if-is_none.ensures c.requires.0).0

pub returns-then-is_none-clause-whole : goal.returns-then-is_none-clause-whole
returns-then-is_none-clause-whole c =
    let g = c.args.self.now in
    ((new_given (lows_in c.args.variables.now) (highs_in c.args.variables.now) g.given.now g.queue.now g.waits.now c.args.variable c.ranges.value g.found g.queued c.give.ensures c.requires.3.0 c.if-is_none.ensures c.requires.0).1, c.requires.3.1)

pub returns-else-is_none-clause-given : goal.returns-else-is_none-clause-given
returns-else-is_none-clause-given c =
    let g = c.args.self.now in
    (known_given (lows_in c.args.variables.now) (highs_in c.args.variables.now) g.given.now g.queue.now g.waits.now c.args.variable c.ranges.value g.found g.queued c.give.ensures c.requires.3.0 c.if-is_none.ensures).0

pub returns-else-is_none-clause-whole : goal.returns-else-is_none-clause-whole
returns-else-is_none-clause-whole c =
    let g = c.args.self.now in
    ((known_given (lows_in c.args.variables.now) (highs_in c.args.variables.now) g.given.now g.queue.now g.waits.now c.args.variable c.ranges.value g.found g.queued c.give.ensures c.requires.3.0 c.if-is_none.ensures).1, c.requires.3.1)
