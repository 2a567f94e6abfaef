-- Lists of calls on a model file and on its shuffle: theorem OrderIndependent, from the theorems of the crates below.
use mathlib.Core.Path.{◌≡◌, refl, sym, ap, ap₂, ◌∙◌}
use mathlib.Core.List.{List, ◌∷◌}
use Prim.Native.Nat.{ℕ}
use Rattle.model.specs.Check.{Verdict, verdict}
use Rattle.model.specs.Theorems.{Bytes, ShuffledFile, ShuffledAccepted}
use Rattle.semantics.specs.Theorems.{ShuffledMeansSame}
use Rattle.run.specs.declared.Call.{Call}
use Rattle.standing.specs.Runs.{Store, Done}
use Rattle.run.specs.Lists.{call_on, call_by, call, calls_by, Performed}
use Rattle.run.specs.Lists.Performed.{nothing, next}
use Rattle.run.specs.Theorems.{OrderIndependent}

-- results that the promises allow are those of the definitions by a verdict by which each call is the file's
pub performed_by : (m : List ℕ) (v : Verdict) → ((c : Call) (s : Store) → call m c s ≡ call_by v c s) → {cs : List Call} {s : Store} {rs : List (Done Store)}
    → Performed m cs s rs → rs ≡ calls_by v cs s
unfolding calls_by
performed_by m v same nothing = refl
performed_by m v same (next {c = c} {cs = cs} {s = s} p rest) =
    let answer = p ∙ same c s in
    ap₂ (λ (x : Done Store) (xs : List (Done Store)). x ∷ xs) answer
    (performed_by m v same rest ∙ ap (λ (x : Done Store). calls_by v cs x.left) answer)

module _ (shuffled_accepted : ShuffledAccepted) (means-same : ShuffledMeansSame) where
  -- a call comes to the same on the shuffle
  shuffled_call : (m m' : List ℕ) → Bytes m → ShuffledFile m m' → (c : Call) (s : Store) → call m' c s ≡ call m c s
  unfolding call_by
  shuffled_call m m' b f c s =
      rw (shuffled_accepted m m' b f, f.read) (ap (λ x. call_on f.sizes x c s) (sym (means-same f.before f.after f.shuffled)))

  pub order_independence : OrderIndependent
  order_independence m m' b a f cs s rs rs' p p' =
      (performed_by m (verdict m) (λ c t. refl) p, performed_by m' (verdict m) (shuffled_call m m' b f) p')
