-- What is done with the values of a run, as the code goes about it: it begins from the initial states or goes on from the values that
-- are there, then fires transitions one after another, up to the first that is refused.
use Rattle.std.specs.Prelude.{cond, List, [], ◌∷◌, ℕ, ◌-◌, ◌≤◌, ℤ, take}
use Rattle.semantics.specs.Meanings.{Meaning}
use Rattle.semantics.specs.Firing.{Left, fired, begun}
use Rattle.replaying.specs.declared.Move.{Move}
use Rattle.replaying.specs.declared.Move.TheVariants.{Start, Fire, Undo}
use Rattle.replaying.specs.Replays.{is_fired, initial}

-- a history of this length has the entries that the move fires: those recorded but the last, for an undo
unfoldable pub HasEntries : Move → ℕ → ℕ → Type 0
HasEntries Start long n = Unit {0}
HasEntries (Fire t) long n = Unit {0}
HasEntries Undo long n = n - 1 ≤ long

-- these transitions after what was fired before
unfoldable pub fired_all : Meaning → List ℕ → Left → Left
fired_all m [] l = l
fired_all m (t ∷ ts) l = cond (is_fired l.answer) (fired_all m ts (fired m t l.left)) l

-- a start, a fire, or a start and the transitions recorded but the last
unfoldable pub moved : Meaning → Move → List ℕ → ℕ → List ℤ → Left
moved m Start history n values = begun m (initial m) values
moved m (Fire t) history n values = fired m t values
moved m Undo history n values = fired_all m (take (n - 1) history) (begun m (initial m) values)
