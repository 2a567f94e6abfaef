-- A value given: a variable that has one is not news; one that had none is queued, and there is room for it.
use mathlib.Core.Path.{◌≡◌, sym, ap, subst, ◌∙◌}
use mathlib.Core.Bool.{true, false}
use mathlib.Core.List.{List, [], ◌∷◌, ◌++◌, append-nil}
use Prim.Native.Nat.{ℕ, suc, ◌+◌, ◌<◌}
use native.Mathlib.Omega.{arith}
use lib.IntN.{ℤ}
use lib.ListN.{length, get_or, set, take, length-set}
use lib.Seq.{take-suc-set}
use mir.Syntax.{w32}
use mir.Val.{to_z, of_z, SFits}
use mir.ValLaws.{to_z-of_z}
use Rattle.std.specs.Prelude.{Option, Some, None, is_some}
use Rattle.interpreter.specs.declared.Gathered.{Gathered}
use Rattle.interpreter.specs.Instructions.Effect.{gives}
use Rattle.interpreter.specs.Gathering.{gathering, gather}
use Rattle.waiting.specs.News.{news_of, open_cells, Room}
use Rattle.waiting.proofs.News.{one_given, set_opens}
use Rattle.reading.specs.Readings.{held, giving}

module _ (lows highs : List ℤ) (given : List (Option ℤ)) (queue waits : List ℕ) (x : ℕ) {v : ℤ} (f : SFits w32 v) (found : Gathered) (queued : ℕ)
    {found' : Gathered} {given' : List (Option ℤ)} (e : gathering found' given' ≡ gather lows highs (gives x (to_z w32 (of_z w32 v))) (gathering found given)) (r : Room given queued queue) where
  gave : gathering found' given' ≡ gather lows highs (gives x v) (gathering found given)
  gave = e ∙ ap (λ z. gather lows highs (gives x z) (gathering found given)) (to_z-of_z w32 v f)

  -- what is held once the value was given, and the room in the queue
  abbrev Gives : ℕ → List ℕ → Type 0
  Gives queued' queue' =
      (held found' given' queued' queue' waits ≡ giving lows highs x v (held found given queued queue waits)) × Room given' queued' queue'

  pub known_given : is_some (get_or given x None) ≡ true → Gives queued queue
  unfolding news_of
  known_given k =
      let kept : given' ≡ given = ap (λ a. a.given) gave ∙ one_given lows highs x v (gathering found given) ∙ rw (k) in
      let news : take queued queue ≡ take queued queue ++ news_of (gives x v ∷ []) given = rw (k) (sym (append-nil (take queued queue))) in
      (λ j. record { gathered = gave j; news = news j; waits = waits }, subst (λ l. Room l queued queue) (sym kept) r)

  module _ (k : is_some (get_or given x None) ≡ false) (l : x < length given) where
    opens : open_cells (set given x (Some v)) < open_cells given
    opens = set_opens given x v l k

    pub room_left : queued < length queue
    room_left = omega (arith, opens, r)

    pub new_given : Gives (queued + 1) (set queue queued x)
    unfolding news_of
    new_given =
        let now-set : given' ≡ set given x (Some v) = ap (λ a. a.given) gave ∙ one_given lows highs x v (gathering found given) ∙ rw (k) in
        let n : queued + 1 ≡ suc queued = omega arith in
        let news : take (queued + 1) (set queue queued x) ≡ take queued queue ++ news_of (gives x v ∷ []) given =
        ap (λ m. take m (set queue queued x)) n ∙ take-suc-set queue queued x room_left ∙ rw (k) in
        (λ j. record { gathered = gave j; news = news j; waits = waits }, subst (λ l. Room l (queued + 1) (set queue queued x)) (sym now-set) (omega (arith, opens, r, length-set queue queued x)))
