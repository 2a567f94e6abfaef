-- What gtswide prints of an old file: there is room for the new file and for a refusal.
use mathlib.Core.Path.{◌≡◌, refl, sym, ap, ap₂, ◌∙◌}
use mathlib.Core.Logic.{inl, inr}
use mathlib.Core.Bool.{Bool, true, false, cond}
use mathlib.Core.List.{List}
use Prim.Native.Nat.{ℕ, ◌≤◌, min}
use native.Mathlib.Omega.{arith}
use borrow.Author.Tests.{le-ltb}
use lib.Dec.{ltb}
use lib.ListN.{length, take}
use Rattle.std.specs.Prelude.{Option, Some, None, Result, Ok, Err}
use Rattle.std.specs.Option.{unwrap_or}
use Rattle.std.proofs.lemmas.List.{take_min}
use Rattle.results.specs.declared.refusal.Refusal.{Refusal}
use Rattle.results.specs.declared.refusal.Refusal.TheVariants.{ShortSlice, TooManyVariables}
use Rattle.results.specs.Refusals.{number_of}
use Rattle.results.specs.Results.{answered, over}
use Rattle.model.specs.Sizes.{byte_layout}
use Rattle.model.specs.Check.{Verdict, byte_verdict}
use Rattle.model.specs.Check.Verdict.{refusal, accepted}
use Rattle.model.proofs.CheckRefusals.{Refused, of_sizes}
use Rattle.lines.specs.Lines.{refusal_text, room, mark_width, written_into, line_into}
use Rattle.rewriting.specs.Rewriting.{rewritten, rewritten_by, wide_text_by, wide_text, wide_into, text_bytes}
use Rattle.rewriting.specs.Theorems.{WideTextWhole}
use Rattle.model.proofs.CheckExact.{accepted_sized}
use Rattle.rewriting.proofs.Writing.{rewritten_length}

-- ---- the refusals of the old check

-- none that a slice is too short for the new file
unfoldable NeverShort : Verdict → Type 0
NeverShort (refusal r) = r ≡ ShortSlice → ⊥
NeverShort (accepted z t) = Unit {0}

never_short : (v : Verdict) → Refused (λ r. r ≡ TooManyVariables) v → NeverShort v
unfolding Refused NeverShort number_of
never_short (refusal r) (inl h) = λ e. let n = ap number_of e in omega (arith, n, h.1)
never_short (refusal r) (inr e) = λ f. let n = ap number_of (sym e ∙ f) in omega (arith, n)
never_short (accepted z t) h = tt

old_never_short : (m : List ℕ) → NeverShort (byte_verdict m)
old_never_short m = never_short (byte_verdict m) (of_sizes byte_layout m (λ r. r ≡ TooManyVariables) (λ h. refl))

-- ---- what `rewrite` answers is printed

ok_err : (n : ℕ) (r : Refusal) → ◌≡◌ {A = Result ℕ Refusal} (Ok n) (Err r) → ⊥
ok_err n r e = cc

ok_ok : (n k : ℕ) → ◌≡◌ {A = Result ℕ Refusal} (Ok n) (Ok k) → n ≡ k
ok_ok n k e = cc

err_err : (r k : Refusal) → ◌≡◌ {A = Result ℕ Refusal} (Err r) (Err k) → k ≡ r
err_err r k e = cc

module _ (m out new : List ℕ) where
  -- the new file
  file_by : (n : ℕ) (v : Verdict) → answered (Ok n) new ≡ rewritten_by m v out → written_into (Some n) new ≡ wide_into m v out
  unfolding rewritten_by wide_into line_into
  file_by n (refusal r) e = absurd (ok_err n r (ap (λ d. d.answer) e))
  file_by n (accepted z t) e = by (ltb (length out) (length (rewritten z m))) e
    where
      by : (b : Bool) → answered (Ok n) new ≡ cond b (answered (Err ShortSlice) out) (answered (Ok (length (rewritten z m))) (over (rewritten z m) out))
          → written_into (Some n) new ≡ cond b (written_into None out) (written_into (Some (length (rewritten z m))) (over (rewritten z m) out))
      by true f = absurd (ok_err n ShortSlice (ap (λ d. d.answer) f))
      by false f = ap₂ (λ n. written_into (Some n)) (ok_ok n (length (rewritten z m)) (ap (λ d. d.answer) f)) (ap (λ d. d.left) f)

  -- a slice that is too short
  short_by : (v : Verdict) → NeverShort v → answered (Err ShortSlice) new ≡ rewritten_by m v out → written_into None new ≡ wide_into m v out
  unfolding NeverShort rewritten_by wide_into line_into
  short_by (refusal r) o e = absurd (o (err_err ShortSlice r (ap (λ d. d.answer) e)))
  short_by (accepted z t) o e = by (ltb (length out) (length (rewritten z m))) e
    where
      by : (b : Bool) → answered (Err ShortSlice) new ≡ cond b (answered (Err ShortSlice) out) (answered (Ok (length (rewritten z m))) (over (rewritten z m) out))
          → written_into None new ≡ cond b (written_into None out) (written_into (Some (length (rewritten z m))) (over (rewritten z m) out))
      by true f = ap (written_into None) (ap (λ d. d.left) f)
      by false f = absurd (ok_err (length (rewritten z m)) ShortSlice (ap (λ d. d.answer) (sym f)))

  -- another refusal
  refusal_by : (r : Refusal) (v : Verdict) → (r ≡ ShortSlice → ⊥) → answered (Err r) new ≡ rewritten_by m v out
      → {w : Option ℕ} {last : List ℕ} → written_into w last ≡ line_into (room mark_width 0) (refusal_text (number_of r)) new → written_into w last ≡ wide_into m v out
  unfolding rewritten_by wide_into
  refusal_by r (refusal k) d e l =
      l ∙ ap₂ (λ r. line_into (room mark_width 0) (refusal_text (number_of r))) (sym (err_err r k (ap (λ d. d.answer) e))) (ap (λ d. d.left) e)
  refusal_by r (accepted z t) d e {w} {last} l = by (ltb (length out) (length (rewritten z m))) e
    where
      by : (b : Bool) → answered (Err r) new ≡ cond b (answered (Err ShortSlice) out) (answered (Ok (length (rewritten z m))) (over (rewritten z m) out))
          → written_into w last ≡ line_into (length (rewritten z m)) (rewritten z m) out
      by true f = absurd (d (sym (err_err r ShortSlice (ap (λ d. d.answer) f))))
      by false f = absurd (ok_err (length (rewritten z m)) r (ap (λ d. d.answer) (sym f)))

module _ (m out : List ℕ) {a : Result ℕ Refusal} {new : List ℕ} (e : answered a new ≡ rewritten_by m (byte_verdict m) out) where
  pub file_printed : {n : ℕ} → a ≡ Ok n → written_into (Some n) new ≡ wide_into m (byte_verdict m) out
  file_printed {n} q = file_by m out new n (byte_verdict m) (ap (λ a. answered a new) (sym q) ∙ e)

  pub short_printed : {r : Refusal} → a ≡ Err r → r ≡ ShortSlice → written_into None new ≡ wide_into m (byte_verdict m) out
  short_printed q s = short_by m out new (byte_verdict m) (old_never_short m) (ap (λ a. answered a new) (ap Err (sym s) ∙ sym q) ∙ e)

  pub refusal_printed : {r : Refusal} → a ≡ Err r → (r ≡ ShortSlice → ⊥)
      → {w : Option ℕ} {last : List ℕ} → written_into w last ≡ line_into (room mark_width 0) (refusal_text (number_of r)) new
      → written_into w last ≡ wide_into m (byte_verdict m) out
  refusal_printed {r} q d l = refusal_by m out new r (byte_verdict m) d (ap (λ a. answered a new) (sym q) ∙ e) l

-- ---- it is printed whole

whole : (out : List ℕ) (asked : ℕ) (text : List ℕ) → asked ≤ length out → line_into asked text out ≡ written_into (Some (length text)) (over text out)
unfolding line_into
whole out asked text r = rw (le-ltb (length out) asked r)

pub wide_text_whole : WideTextWhole
unfolding NeverShort wide_into wide_text_by
wide_text_whole m out h = by (byte_verdict m) refl (old_never_short m)
  where
    by : (v : Verdict) → byte_verdict m ≡ v → NeverShort v → wide_into m v out ≡ written_into (Some (length (wide_text_by m v))) (over (wide_text_by m v) out)
    by (refusal r) e o = whole out (room mark_width 0) (refusal_text (number_of r)) (omega arith)
    by (accepted z t) e o =
        let s = accepted_sized m z t e in
        whole out (length (rewritten z m)) (rewritten z m) (omega (arith, rewritten_length m z s, s.few))

-- of the first bytes that were read
pub kept_printed : (file out : List ℕ) (bytes : ℕ) {n room k : ℕ} {new : List ℕ} {w : Option ℕ} → length file ≡ room → n ≡ min bytes room → text_bytes ≤ length out
    → written_into w new ≡ wide_into (take n file) (byte_verdict (take n file)) out → k ≡ unwrap_or w 0
    → answered k new ≡ answered (length (wide_text (take bytes file))) (over (wide_text (take bytes file)) out)
kept_printed file out bytes {n} {w = w} l e h p q =
    let first : take n file ≡ take bytes file = ap (λ n. take n file) (e ∙ ap (min bytes) (sym l)) ∙ take_min bytes file in
    let f = p ∙ wide_text_whole (take n file) out h in
    ap₂ answered (q ∙ ap (λ o. unwrap_or o.answer 0) f) (ap (λ o. o.left) f)
    ∙ ap (λ m. answered (length (wide_text m)) (over (wide_text m) out)) first
