-- What `rewrite` leaves of an old file.
use mathlib.Core.Path.{◌≡◌, sym, ap, ap₂, ◌∙◌}
use mathlib.Core.List.{List}
use Prim.Native.Nat.{ℕ, ◌+◌, ◌-◌, ◌*◌, ◌≤◌, ◌<◌}
use native.Mathlib.Omega.{arith}
use borrow.Author.Tests.{lt-ltb, le-ltb}
use lib.ListN.{length, take, drop, length-drop}
use lib.Seq.{take_all}
use Rattle.std.specs.Prelude.{Ok, Err}
use Rattle.results.specs.declared.refusal.Refusal.{Refusal}
use Rattle.results.specs.declared.refusal.Refusal.TheVariants.{ShortSlice}
use Rattle.results.specs.Results.{answered, over}
use Rattle.model.specs.declared.Sizes.{Sizes}
use Rattle.model.specs.Sizes.{byte_layout, file_layout, header_bytes}
use Rattle.model.specs.Check.{Verdict, byte_verdict, answer_of}
use Rattle.model.proofs.Encoding.{SizedAs, header_length}
use Rattle.model.proofs.Verdicts.{answer_refused, answer_accepted}
use Rattle.model.proofs.CheckExact.{accepted_sized}
use Rattle.tapes.specs.Tapes.{Tape, tape, put_all}
use Rattle.tapes.proofs.Tapes.{put_append, put_over}
use Rattle.rewriting.specs.Rewriting.{rewritten, rewritten_by}

-- ---- the old check's answer

pub refused_rewritten : (m out : List ℕ) (r : Refusal) (v : Verdict) → answer_of v ≡ Err r → answered (Err r) out ≡ rewritten_by m v out
unfolding rewritten_by
refused_rewritten m out r v e = sym (ap (λ v. rewritten_by m v out) (answer_refused r v e))

pub rewritten_length : (m : List ℕ) (z : Sizes) → SizedAs byte_layout m z → length (rewritten z m) ≡ 10 + 5 * z.nodes
rewritten_length m z h = omega (arith, header_length file_layout z (drop 6 m), length-drop 6 m, h.long)

-- ---- the new file

module _ (m : List ℕ) (z : Sizes) (a : answer_of (byte_verdict m) ≡ Ok z) where
  old_sizes : SizedAs byte_layout m z
  old_sizes = let f = answer_accepted z (byte_verdict m) a in accepted_sized m z f.0 f.1

  pub old_nodes : z.nodes ≤ 4000
  old_nodes = old_sizes.few

  pub old_length : length m ≡ 6 + 5 * z.nodes
  old_length = old_sizes.long

  module _ (out : List ℕ) where
    pub short_rewritten : length out < 10 + 5 * z.nodes → answered (Err ShortSlice) out ≡ rewritten_by m (byte_verdict m) out
    unfolding rewritten_by
    short_rewritten h =
        rw ((answer_accepted z (byte_verdict m) a).1, lt-ltb (length out) (length (rewritten z m)) (omega (arith, rewritten_length m z old_sizes)))

    -- the header, then the nodes
    pub whole_rewritten : 10 + 5 * z.nodes ≤ length out → {t u v : Tape ℕ} {new : List ℕ} → t ≡ tape out 0 → u ≡ put_all (header_bytes file_layout z) t
        → v ≡ put_all (take (length m - 6) (drop 6 m)) u → new ≡ v.cells → answered (Ok (10 + 5 * z.nodes)) new ≡ rewritten_by m (byte_verdict m) out
    unfolding rewritten_by
    whole_rewritten h {t} {u} {v} {new} d e f g =
        let n = rewritten_length m z old_sizes in
        let all : take (length m - 6) (drop 6 m) ≡ drop 6 m = take_all (length m - 6) (drop 6 m) (omega (arith, length-drop 6 m)) in
        let put : v ≡ put_all (rewritten z m) (tape out 0) =
        f ∙ ap (λ l. put_all l u) all ∙ ap (put_all (drop 6 m)) (e ∙ ap (put_all (header_bytes file_layout z)) d)
        ∙ sym (put_append (header_bytes file_layout z) (drop 6 m) (tape out 0)) in
        let cells : new ≡ over (rewritten z m) out =
        g ∙ ap (λ (t : Tape ℕ). t.cells) (put ∙ put_over (rewritten z m) out (omega (arith, n))) in
        rw ((answer_accepted z (byte_verdict m) a).1, le-ltb (length out) (length (rewritten z m)) (omega (arith, n)))
        (ap₂ answered (ap Ok (sym n)) cells)
