-- What was read into the rest stands after what was there.
use Rattle.std.proofs.Common.{rules, ℕ, ◌+◌, ◌-◌, ◌≤◌, ◌≡◌, List, ◌++◌, length, take, drop, sym, ap, ◌∙◌, subst, le_refl, drop_at, length-take-le}
use Rattle.std.proofs.lemmas.Slice.{take-put_mid_below}
use Rattle.std.specs.Io.KnownBytes.{Consumes}
use Rattle.std.proofs.KnownBytes.{Consumes-trans}
use borrow.Rule.Slice.PartMut.{put_mid, post_of}
use lib.Seq.{take-add, take-append-le}
use Rattle.filling.proofs.fill.Goals as goal

-- the part's first cells follow those that stood before it
joined : (from count : ℕ) (bytes part : List ℕ) → from ≤ length bytes → count ≤ length part
    → take from bytes ++ take count part ≡ take (from + count) (put_mid from (length bytes - from) bytes part)
joined from count bytes part within fits =
    let after = post_of from (length bytes - from) bytes in
    let whole = put_mid from (length bytes - from) bytes part in
    let front : take from whole ≡ take from bytes = take-put_mid_below _ _ _ _ _ (le_refl _) within in
    let back : take count (drop from whole) ≡ take count part =
    ap (take count) (drop_at (take from bytes) (part ++ after) from (length-take-le from bytes within)) ∙ take-append-le count part after fits in
    sym (take-add from count whole ∙ ap (λ l. l ++ take count (drop from whole)) front ∙ ap (λ l. take from bytes ++ l) back)

pub loop-filled-preserved : goal.loop-filled-preserved
loop-filled-preserved g c =
    let from = c.loop-filled.filled in (
      search rules,
      search rules,
      subst (Consumes _ _) (joined from c.in-Ok.count c.loop-filled.bytes c.read.new.buf c.loop-filled.invariant.0 c.in-Ok.ensures.bound.0)
          (Consumes-trans _ _ _ _ _ c.loop-filled.invariant.2 c.in-Ok.ensures.bytes.0),
    )
