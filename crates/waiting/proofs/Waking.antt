-- A round over what waited: which marks are old, which are this round's, and what was read. At its end the marks are those of
-- what waits now, and what was read is enough.
use mathlib.Core.Path.{◌≡◌, refl, sym, ap, subst, ◌∙◌}
use mathlib.Core.Logic.{◌⊎◌, inl, inr, ⊎_elim}
use mathlib.Core.Bool.{Bool, true, false}
use mathlib.Core.List.Memᴰ
use mathlib.Core.List.{List, [], ◌∷◌, ◌++◌, Memᴰ}
use Prim.Native.Nat.{ℕ, ◌+◌, ◌≤◌, ◌<◌}
use native.Mathlib.Omega.{arith}
use borrow.Author.Tests.{eqb-true, eqb-false}
use lib.Dec.{eqb}
use lib.IntN.{ℤ}
use lib.ListN.{length, get_or}
use Rattle.model.specs.Trees.{Instruction}
use Rattle.model.specs.Trees.Instruction.{skip, assign, if_then, block}
use Rattle.model.specs.Standing.{InstructionAt, size_of}
use Rattle.expressions.specs.Expressions.{Valuation}
use Rattle.semantics.specs.Theorems.{Extends}
use Rattle.waiting.specs.Waiting.{waiting, Waits, Untouched}
use Rattle.waiting.specs.Spots.{Spot, spot, spots, instructions_of}
use Rattle.waiting.specs.Marks.{marked}
use Rattle.waiting.specs.Waking.{Old, Spotted, Marked, Woken, Passed}
use Rattle.waiting.proofs.Touched.{Enough}
use Rattle.waiting.proofs.Spots.{Apart, spot_waits, spot_stands, spot_within, spots_apart, spots_waiting, spot_from, from_spot, still_spot}
use Rattle.waiting.proofs.Marks.{Mark, mark_cases, length_marked, marked_outside, marked_spot, own_mark}
use Rattle.waiting.proofs.Mentions.{untouched}

pub positive : (i : Instruction) → 0 < size_of i
unfolding size_of
positive skip = omega arith
positive (assign x e) = omega arith
positive (if_then c i) = omega arith
positive (block is) = omega arith

instruction_member : (s : Spot) (ss : List Spot) → Memᴰ s ss → Memᴰ s.instruction (instructions_of ss)
unfolding instructions_of
instruction_member s ss (Memᴰ.head {x} {xs} e) = Memᴰ.head (ap (λ t. t.instruction) e)
instruction_member s ss (Memᴰ.tail {x} {xs} m) = Memᴰ.tail (instruction_member s xs m)

record Holder (ss : List Spot) (j : Instruction) : Type 0 where
  spot : Spot
  among : Memᴰ spot ss
  same : j ≡ spot.instruction

holder : (ss : List Spot) (j : Instruction) → Memᴰ j (instructions_of ss) → Holder ss j
unfolding instructions_of
holder [] j m = absurd (Memᴰ.not-nil m)
holder (s ∷ ss) j m =
    ⊎_elim (λ e. record { spot = s; among = Memᴰ.head refl; same = e })
    (λ n. let h = holder ss j n in record { spot = h.spot; among = Memᴰ.tail h.among; same = h.same })
    (Memᴰ.cases_cons m)

module _ (i : Instruction) (at : ℕ) (σ τ : Valuation) (r : ℕ) where
  pub woken_begins : (waits : List ℕ) → at + size_of i ≤ length waits → Marked i at σ waits → ((p : ℕ) → get_or waits p 0 < r) → Woken i at σ τ r waits []
  woken_begins waits l m below =
      record {
        among = λ s n. absurd (Memᴰ.not-nil n);
        rest = λ s n. inr (record { set = m.all s n; other = λ e. omega (arith, below s.place, e) });
        old = λ p o. m.only p o.set;
        new = λ p e. absurd (omega (arith, below p, e));
        full = λ s n. absurd (Memᴰ.not-nil n);
        done = λ s n. absurd (Memᴰ.not-nil n);
        stamps = λ p. omega (arith, below p);
        long = l;
      }

  -- a mark that is not old stays so
  still_done : (z old p : ℕ) (ss : List Spot) → Mark z old r ss p → (Old r old → ⊥) → Old r z → ⊥
  still_done z old p ss (Mark.kept e) f o = f (subst (λ n. Old r n) e o)
  still_done z old p ss (Mark.cleared e) f o = o.set e
  still_done z old p ss (Mark.stamped q m t e) f o = o.other e

  pub reading_keeps_done : (j : Instruction) (a : ℕ) (waits : List ℕ) (p : ℕ) → (Old r (get_or waits p 0) → ⊥) → Old r (get_or (marked j τ a r waits) p 0) → ⊥
  reading_keeps_done j a waits p f = still_done _ _ p (spots j τ a) (mark_cases τ r j a waits p) f

  module _ (larger : Extends σ τ) (later : 0 < r) where
    module _ {waits : List ℕ} {read : List Spot} (w : Woken i at σ τ r waits read) (s : Spot) (m : Memᴰ s (spots i σ at)) (o : Old r (get_or waits s.place 0)) where
      abbrev after : List ℕ
      after = marked s.instruction τ s.place r waits

      mark : (p : ℕ) → Mark (get_or after p 0) (get_or waits p 0) r (spots s.instruction τ s.place) p
      mark p = mark_cases τ r s.instruction s.place waits p

      reaches : s.place + size_of s.instruction ≤ length waits
      reaches = omega (arith, (spot_within σ i at s m).end, w.long)

      -- the places of another that waited stay
      beside : (t : Spot) → Memᴰ t (spots i σ at) → (p : ℕ) → t.place ≤ p → p < t.place + size_of t.instruction
          → (s ≡ t) ⊎ (get_or after p 0 ≡ get_or waits p 0)
      beside t n p l u = by (spots_apart σ i at s t m n)
        where
          by : Apart s t → (s ≡ t) ⊎ (get_or after p 0 ≡ get_or waits p 0)
          by (Apart.same e) = inl e
          by (Apart.before e) = inr (marked_outside τ r s.instruction s.place waits p (inr (omega (arith, e))))
          by (Apart.after e) = inr (marked_outside τ r s.instruction s.place waits p (inl (omega (arith, e))))

      old_after : (p : ℕ) → Old r (get_or after p 0) → Spotted i at σ p
      old_after p k = by (mark p)
        where
          by : Mark (get_or after p 0) (get_or waits p 0) r (spots s.instruction τ s.place) p → Spotted i at σ p
          by (Mark.kept e) = w.old p (subst (λ n. Old r n) e k)
          by (Mark.cleared e) = absurd (k.set e)
          by (Mark.stamped q n t e) = absurd (k.other e)

      new_after : (p : ℕ) → get_or after p 0 ≡ r → Spotted i at τ p
      new_after p k = by (mark p)
        where
          by : Mark (get_or after p 0) (get_or waits p 0) r (spots s.instruction τ s.place) p → Spotted i at τ p
          by (Mark.kept e) = w.new p (sym e ∙ k)
          by (Mark.cleared e) = absurd (omega (arith, e, k))
          by (Mark.stamped q n t e) = record { spot = q; among = from_spot σ τ larger i at s q m n; there = t }

      stamps_after : (p : ℕ) → get_or after p 0 ≤ r
      stamps_after p = by (mark p)
        where
          by : Mark (get_or after p 0) (get_or waits p 0) r (spots s.instruction τ s.place) p → get_or after p 0 ≤ r
          by (Mark.kept e) = omega (arith, e, w.stamps p)
          by (Mark.cleared e) = omega (arith, e)
          by (Mark.stamped q n t e) = omega (arith, e)

      read_before : (t : Spot) → Memᴰ t read → s ≡ t → ⊥
      read_before t n e = w.done t n (subst (λ q. Old r (get_or waits q.place 0)) e o)

      pub woken_reads : Woken i at σ τ r after (read ++ (s ∷ []))
      woken_reads =
          record {
            among =
                λ t n. ⊎_elim (λ k. w.among t k) (λ k. subst (λ q. Memᴰ q (spots i σ at)) (sym (Memᴰ.eq_of_singleton k)) m) (Memᴰ.append_cases read n);
            rest =
                λ t n. ⊎_elim (λ k. inl (Memᴰ.append_left (s ∷ []) k))
                (λ k. ⊎_elim (λ e. inl (Memᴰ.append_right read (Memᴰ.head (sym e)))) (λ e. inr (subst (λ z. Old r z) (sym e) k))
                (beside t n t.place (omega arith) (omega (arith, positive t.instruction))))
                (w.rest t n);
            old = old_after;
            new = new_after;
            full =
                λ t n q k. ⊎_elim
                (λ b. let z = spot_within τ t.instruction t.place q k in
                ⊎_elim (λ e. absurd (read_before t b e)) (λ e. e ∙ w.full t b q k)
                (beside t (w.among t b) q.place z.start (omega (arith, z.end, positive q.instruction))))
                (λ b. marked_spot τ r s.instruction s.place waits q reaches
                (subst (λ x. Memᴰ q (spots x.instruction τ x.place)) (Memᴰ.eq_of_singleton b) k))
                (Memᴰ.append_cases read n);
            done =
                λ t n k. ⊎_elim (λ b. still_done _ _ t.place (spots s.instruction τ s.place) (mark t.place) (w.done t b) k)
                (λ b. ⊎_elim (λ e. (subst (λ x. Old r (get_or after x.place 0)) (Memᴰ.eq_of_singleton b) k).set e)
                (λ e. (subst (λ x. Old r (get_or after x.place 0)) (Memᴰ.eq_of_singleton b) k).other e)
                (own_mark τ r s.instruction s.place waits σ (spot_waits σ i at s m) (omega (arith, reaches, positive s.instruction))))
                (Memᴰ.append_cases read n);
            stamps = stamps_after;
            long = omega (arith, w.long, length_marked τ r s.instruction s.place waits);
          }

    -- ---- the end of the round

    module _ {waits : List ℕ} {read : List Spot} (w : Woken i at σ τ r waits read)
        (quiet : (s : Spot) → Memᴰ s (spots i σ at) → Old r (get_or waits s.place 0) → Untouched s.instruction σ τ) where
      still : (s : Spot) → Memᴰ s (spots i σ at) → Old r (get_or waits s.place 0) → spots s.instruction τ s.place ≡ spot s.place s.instruction ∷ []
      still s m o = still_spot s.instruction σ τ s.place (spot_waits σ i at s m) (quiet s m o)

      pub marked_after : Marked i at τ waits
      marked_after =
          record {
            only = λ p n. by p n (eqb (get_or waits p 0) r) refl;
            all = λ q m e. let f = spot_from σ τ larger i at q m in
                ⊎_elim (λ k. omega (arith, w.full f.spot k q f.inside, e))
                (λ o. let n = subst (λ l. Memᴰ q l) (still f.spot f.among o) f.inside in
                o.set (ap (λ t. get_or waits t.place 0) (sym (Memᴰ.eq_of_singleton n)) ∙ e))
                (w.rest f.spot f.among);
          }
        where
          by : (p : ℕ) → (get_or waits p 0 ≡ 0 → ⊥) → (t : Bool) → eqb (get_or waits p 0) r ≡ t → Spotted i at τ p
          by p n true e = w.new p (eqb-true (get_or waits p 0) r e)
          by p n false e =
              let o : Old r (get_or waits p 0) = record { set = n; other = eqb-false (get_or waits p 0) r e } in
              let k = w.old p o in
              let l = still k.spot k.among (subst (λ z. Old r (get_or waits z 0)) (sym k.there) o) in
              record {
                spot = spot k.spot.place k.spot.instruction;
                among = from_spot σ τ larger i at k.spot (spot k.spot.place k.spot.instruction) k.among (subst (λ z. Memᴰ (spot k.spot.place k.spot.instruction) z) (sym l) (Memᴰ.head refl));
                there = k.there;
              }

      pub enough_read : Enough (waiting i σ) (instructions_of read) σ τ
      enough_read =
          record {
            some = λ j m. let h = holder read j m in
                subst (λ l. Memᴰ j l) (spots_waiting σ i at)
                (subst (λ k. Memᴰ k (instructions_of (spots i σ at))) (sym h.same) (instruction_member h.spot (spots i σ at) (w.among h.spot h.among)));
            waits = λ j m. let h = holder (spots i σ at) j (subst (λ l. Memᴰ j l) (sym (spots_waiting σ i at)) m) in
                subst (λ k. Waits k σ) (sym h.same) (spot_waits σ i at h.spot h.among);
            rest = λ j m. let h = holder (spots i σ at) j (subst (λ l. Memᴰ j l) (sym (spots_waiting σ i at)) m) in
                ⊎_elim (λ k. inl (subst (λ x. Memᴰ x (instructions_of read)) (sym h.same) (instruction_member h.spot read k)))
                (λ o. inr (subst (λ x. Untouched x σ τ) (sym h.same) (quiet h.spot h.among o)))
                (w.rest h.spot h.among);
          }

  -- ---- what still has an old mark mentions no variable whose mentions were all passed

  pub quiet_where_passed : (ks : List ℕ) (ps : List ℤ) → InstructionAt ks ps i at → (waits : List ℕ)
      → ((x : ℕ) → (σ x ≡ τ x) ⊎ Passed ks ps at r waits x)
      → (s : Spot) → Memᴰ s (spots i σ at) → Old r (get_or waits s.place 0) → Untouched s.instruction σ τ
  quiet_where_passed ks ps stands waits f s m o =
      untouched ks ps s.instruction s.place σ σ τ (spot_stands σ ks ps i at s stands m) (spot_waits σ i at s m)
      (λ x p k l z. ⊎_elim (λ e. e) (λ b. absurd (b p s.place (spot_within σ i at s m).start k z o)) (f x))
