-- What `start` and `fire` promise, from the equation alone; and what the move's answer allows before the history and the count follow it.
use mathlib.Core.Path.{◌≡◌, sym, ap}
use mathlib.Core.List.{List, []}
use Prim.Native.Nat.{ℕ, ◌<◌}
use mir.Syntax.{w8}
use mir.Val.{Fits}
use lib.IntN.{ℤ}
use lib.ListN.{length, get_or}
use Rattle.std.proofs.Common.{Result, Ok}
use Rattle.results.specs.declared.refusal.Refusal.{Refusal}
use Rattle.model.specs.Check.{verdict}
use Rattle.model.specs.Theorems.{Bytes}
use Rattle.run.specs.declared.Call.{Call}
use Rattle.run.specs.declared.Call.TheVariants.{Start, Fire}
use Rattle.run.specs.declared.Answer as declared
use Rattle.replaying.specs.declared.Move.TheVariants as moves
use Rattle.standing.specs.Runs.{Run, Store, Answer, Done, run, store, answered}
use Rattle.standing.specs.Runs.Answer.{rounds, done}
use Rattle.steps.specs.Answers.{seen_as, told_by, on_file}
use Rattle.steps.specs.Calls as calls
use Rattle.run.specs.Lists.{Promise}
use Rattle.run.specs.Promises.{told, StartPromise, FirePromise, PerformPromise}
use Rattle.run.proofs.Following.{Advanced, fire_on_file, undo_on_file, undo_zero}
use Rattle.run.proofs.Reached.{start_reached, fire_reached, undo_reached}
use Rattle.run.proofs.Bounds.{bounded, fire_fits, undo_fits}

answer_of_lem : {d e : Done Store} → d ≡ e → e.answer ≡ d.answer
answer_of_lem e = ap (λ (d : Done Store). d.answer) (sym e)

module _ (m : List ℕ) (fits : (i : ℕ) → Fits w8 (get_or m i 0)) where
  bytes : Bytes m
  bytes i h = (fits i).fits

  pub start_promised : (values : List ℤ) (marks : List ℕ) (n : ℕ) (r : Result ℕ Refusal) (values' : List ℤ) (marks' : List ℕ) (n' : ℕ)
      → ((history : List ℕ) → answered (seen_as rounds r) (run values' marks' history n')
      ≡ on_file (verdict m) (λ m. calls.start m (run values marks history n)) (run values marks history n))
      → StartPromise m values marks n r values' marks' n'
  start_promised values marks n r values' marks' n' e =
      let s = store (run values marks [] n) [] in
      (e, bounded m bytes Start s _ (start_reached m s (seen_as rounds r) (run values' marks' [] n') (e [])))

  pub fire_promised : (r : Run) (t : ℕ) (a : Result ℕ Refusal) (r' : Run)
      → answered (seen_as rounds a) r' ≡ on_file (verdict m) (λ m. calls.fire m t r) r
      → FirePromise m r.values r.marks r.history r.count t a r'.values r'.marks r'.history r'.count
  fire_promised r t a r' e = (e, bounded m bytes (Fire t) (store r []) _ (fire_reached m (store r []) (seen_as rounds a) r' t e))

  pub fire_allowed : (values : List ℤ) (marks history : List ℕ) (n t : ℕ) (r : Result ℕ Refusal) (new : List ℤ) (marked : List ℕ) (count : ℕ) → r ≡ Ok count
      → Advanced (verdict m) values marks history n new marked (moves.Fire t) r (run values marks history n)
      → (t < 65536) × (n < length history)
  unfolding told_by
  fire_allowed values marks history n t r new marked count q e =
      let s = store (run values marks history n) [] in
      fire_fits m bytes t s count
      (answer_of_lem (fire_reached m s (rounds count) _ t (fire_on_file (verdict m) values marks history n (rounds count) new marked t (rw q at e))))

  -- one call, given by value, whose answer tells this
  pub performed : {call c : Call} (s : Store) (a : Result declared.Answer Refusal) {s' : Store} → call ≡ c → {x : Answer}
      → Promise m c s (answered x s') → seen_as told a ≡ x → PerformPromise m call s a s'
  performed {c = c} s a {s'} called p tells = rw (called, tells) (p, bounded m bytes c s (answered _ s') p)

pub undo_allowed : (m : List ℕ) (values : List ℤ) (marks history : List ℕ) (n : ℕ) (r : Result ℕ Refusal) (new : List ℤ) (marked : List ℕ) (count : ℕ) → r ≡ Ok count
    → Advanced (verdict m) values marks history n new marked moves.Undo r (run values marks history n)
    → n ≡ 0 → ⊥
unfolding told_by
undo_allowed m values marks history n r new marked count q e =
    let s = store (run values marks history n) [] in
    let zero_answered = undo_zero (verdict m) values marks history n new marked r e count q in
    undo_fits m s (answer_of_lem (undo_reached m s done _ (undo_on_file (verdict m) values marks history n done new marked (rw zero_answered at e))))
