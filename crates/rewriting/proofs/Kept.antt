-- The first 20,007 bytes of an old file tell what gtswide prints.
use mathlib.Core.Path.{◌≡◌, refl, sym, ap, ◌∙◌}
use mathlib.Core.Bool.{Bool, true, false}
use native.Mathlib.Omega.{arith}
use borrow.Author.Tests.{ltb-true, ltb-false}
use lib.Dec.{ltb}
use lib.ListN.{length, take}
use lib.Seq.{take_all}
use Rattle.model.specs.Sizes.{byte_layout, longest}
use Rattle.model.specs.Check.{Verdict, byte_verdict}
use Rattle.model.specs.Check.Verdict.{refusal, accepted}
use Rattle.model.proofs.LongFiles.{long_refused, verdict_of_kept}
use Rattle.rewriting.specs.Rewriting.{rewritten, wide_text_by, input_bytes}
use Rattle.rewriting.specs.Theorems.{RewriteOfKept}

pub rewrite_of_kept : RewriteOfKept
unfolding wide_text_by
rewrite_of_kept m =
    ap (wide_text_by (take input_bytes m)) (sym (verdict_of_kept byte_layout m input_bytes (omega arith))) ∙ by (byte_verdict m) refl
  where
    by : (v : Verdict) → byte_verdict m ≡ v → wide_text_by (take input_bytes m) v ≡ wide_text_by m v
    by (refusal r) e = refl
    by (accepted z t) e = within (ltb (longest byte_layout) (length m)) refl
      where
        within : (b : Bool) → ltb (longest byte_layout) (length m) ≡ b → rewritten z (take input_bytes m) ≡ rewritten z m
        within true h = absurd (long_refused byte_layout m (ltb-true (longest byte_layout) (length m) h) z t e)
        within false h = ap (rewritten z) (take_all input_bytes m (omega (arith, ltb-false (longest byte_layout) (length m) h)))
