-- 01, take back: start and the first recorded transitions, fired again. Over the meaning of an accepted model.
use Rattle.std.specs.Prelude.{Bool, cond, List, [], ◌∷◌, map, ℕ, ℤ, take, is_ok}
use Rattle.std.proofs.Math.Option.{Option, some, none}
use Rattle.semantics.specs.Meanings.{Meaning}
use Rattle.semantics.specs.Firing.{Firing, Left, fired, begun}

-- fired, not refused
abbrev pub is_fired : Firing → Bool
is_fired f = is_ok f

-- the initial values of the states
abbrev pub initial : Meaning → List ℤ
initial m = map (λ v. v.first) (take m.states m.declarations)

-- what follows on the values left, unless firing is refused
unfoldable pub go_on : (List ℤ → Option (List ℤ)) → Left → Option (List ℤ)
go_on next l = cond (is_fired l.answer) (next l.left) none

-- the values after these transitions, fired one after another; none if one is refused
unfoldable pub refire : Meaning → List ℕ → List ℤ → Option (List ℤ)
refire m [] values = some values
refire m (t ∷ ts) values = go_on (λ vs. refire m ts vs) (fired m t values)

-- the values after starting from these states and firing these transitions
unfoldable pub replay : Meaning → List ℤ → List ℕ → List ℤ → Option (List ℤ)
replay m ss ts values = go_on (λ vs. refire m ts vs) (begun m ss values)
