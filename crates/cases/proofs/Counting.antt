-- The tally with one case more.
use Rattle.std.proofs.Common.{◌≡◌, [], ◌∷◌, ◌++◌, sym, ap, ◌∙◌, ℕ, ◌+◌, ◌%◌, ◌^◌, ◌<◌, Bool, true, false, add-zero}
use mathlib.Core.Bool.{not}
use mir.Val.{bool_byte}
use native.Mathlib.Nat.{mod-eq_of_lt}
use Rattle.cases.specs.declared.Tally.{Tally}
use Rattle.std.proofs.lemmas.Fn.{FoldsTo-push}
use Rattle.std.proofs.lemmas.List.Sums.{fold-append}
use Rattle.cases.specs.Cases.{no_cases, more, counted_in, Tallied}

pub counted_by : (t : Tally) (s : Bool) {n : ℕ} → n ≡ bool_byte (not s) → t.differing < 2 ^ 64
    → ◌≡◌ {A = Tally} (record { cases = more t.cases; differing = (t.differing + n) % 2 ^ 64 }) (counted_in t s)
unfolding counted_in
counted_by t true {n} e h =
    let none : (t.differing + n) % 2 ^ 64 ≡ t.differing = rw (e, add-zero t.differing) (mod-eq_of_lt h) in
    rw none
counted_by t false e h = rw e

-- one answer more
pub one_more : {F : Type 0} (ran : F → Bool → F → Type 0) {first q u : F} {t t' : Tally} (s : Bool) → Tallied ran first q t → ran q s u → t' ≡ counted_in t s
    → Tallied ran first u t'
one_more ran {first} {q} {u} {t} s h r e =
    record {
      answers = h.answers ++ (s ∷ []);
      steps = FoldsTo-push ran first h.answers q s u h.steps r;
      count = e ∙ ap (λ x. counted_in x s) h.count ∙ sym (fold-append counted_in no_cases h.answers (s ∷ []));
    }
