-- The loop of `gather`: what is left of the instruction.
use mathlib.Core.Path.{◌≡◌, refl, sym, ap, ap₂, ◌∙◌}
use mathlib.Core.List.{List, ◌++◌, append-nil, append_assoc}
use Prim.Native.Nat.{ℕ, ◌+◌, ◌-◌, ◌≤◌, ◌<◌}
use native.Mathlib.Omega.{arith}
use lib.IntN.{ℤ}
use lib.ListN.{length}
use Rattle.model.specs.Trees.{Instruction, Instructions, count}
use Rattle.model.specs.Trees.Instructions.{none as no_branch, more}
use Rattle.model.specs.Standing.{InstructionAt, InstructionsAt, size_of, size_of_all}
use Rattle.variables.specs.Rows.{lows_in, highs_in}
use Rattle.expressions.specs.Expressions.{Valuation}
use Rattle.expressions.specs.Cells.{valuation_of}
use Rattle.interpreter.specs.Instructions.{effects, effects_of_all}
use Rattle.interpreter.specs.Cells.{NextPlaces, InstructionStands, TargetsBelow, AllTargetsBelow}
use Rattle.interpreter.specs.Gathering.{gather_all, at_once, due_after}
use Rattle.interpreter.proofs.Due.{joined, gather_append, count_joined, targets_joined, effects_joined, due_size, due_targets, instruction_within, moved, joined_stand, count_within, due_stand}
use Rattle.waiting.specs.News.{news_of}
use Rattle.waiting.specs.Marks.{marked, marked_in, mark_at_once}
use Rattle.waiting.proofs.Marks.{marks_joined, due_marks}
use Rattle.waiting.proofs.News.{effects_split, news_append}
use Rattle.reading.specs.declared.Reading.{Reading}
use Rattle.reading.specs.Readings.{Held, Walked, read_by, walked_by}

module _ (σ : Valuation) (lows highs : List ℤ) (r : ℕ) where
  -- the reading of instructions that stand one after the other from a place on
  abbrev read_all : Instructions → ℕ → Held → Held
  read_all is here h =
      record {
        gathered = gather_all lows highs (effects_of_all is σ) h.gathered;
        news = h.news ++ news_of (effects_of_all is σ) h.gathered.given;
        waits = marked_in is σ here r h.waits;
      }

  -- one node is done, and what is due after it comes before the rest
  node_read : (j : Instruction) (is : Instructions) (here : ℕ) (h : Held)
      → read_all (more j is) here h ≡ read_all (joined (due_after j σ) is) (here + size_of j - size_of_all (due_after j σ)) (walked_by lows highs σ here r j h).held
  unfolding effects_of_all marked_in walked_by
  node_read j is here h =
      let due = due_after j σ in
      let es = effects_of_all due σ ++ effects_of_all is σ in
      let g = gather_all lows highs (at_once j σ) h.gathered in
      let next = here + size_of j - size_of_all due in
      let split : effects j σ ++ effects_of_all is σ ≡ at_once j σ ++ es =
      ap (λ l. l ++ effects_of_all is σ) (effects_split σ j) ∙ append_assoc (at_once j σ) (effects_of_all due σ) (effects_of_all is σ) in
      let both : es ≡ effects_of_all (joined due is) σ = sym (effects_joined due is σ) in
      let past : here + size_of j ≡ next + size_of_all due = omega (arith, due_size σ j) in
      let gathered : gather_all lows highs (effects j σ ++ effects_of_all is σ) h.gathered ≡ gather_all lows highs (effects_of_all (joined due is) σ) g =
      ap (λ l. gather_all lows highs l h.gathered) split ∙ gather_append lows highs (at_once j σ) es h.gathered ∙ ap (λ l. gather_all lows highs l g) both in
      let news : h.news ++ news_of (effects j σ ++ effects_of_all is σ) h.gathered.given ≡ (h.news ++ news_of (at_once j σ) h.gathered.given) ++ news_of (effects_of_all (joined due is) σ) g.given =
      ap (λ l. h.news ++ news_of l h.gathered.given) split
      ∙ ap (λ l. h.news ++ l) (news_append lows highs (at_once j σ) es h.gathered)
      ∙ sym (append_assoc h.news (news_of (at_once j σ) h.gathered.given) (news_of es g.given))
      ∙ ap (λ l. (h.news ++ news_of (at_once j σ) h.gathered.given) ++ news_of l g.given) both in
      let marks : marked_in is σ (here + size_of j) r (marked j σ here r h.waits) ≡ marked_in (joined due is) σ next r (mark_at_once j σ here r h.waits) =
      ap₂ (λ n w. marked_in is σ n r w) past (due_marks σ r j here h.waits) ∙ sym (marks_joined σ r due is next (mark_at_once j σ here r h.waits)) in
      λ k. record { gathered = gathered k; news = news k; waits = marks k }

module _ (ks : List ℕ) (ps : List ℤ) (σ : Valuation) (lows highs : List ℤ) (r : ℕ) where
  -- instructions from place `here` on, as many as are due, are what is left of reading one at place `at`
  pub record Left (start : Held) (at : ℕ) (i : Instruction) (now : Held) (here due : ℕ) : Type 0 where
    pub rest : Instructions
    pub stands : InstructionsAt ks ps rest here
    pub counted : count rest ≡ due
    pub same : read_by lows highs σ at r i start ≡ read_all σ lows highs r rest here now
    pub targets : (n : ℕ) → TargetsBelow i n → AllTargetsBelow rest n

  module _ {start : Held} {at : ℕ} {i : Instruction} where
    pub all_left : InstructionAt ks ps i at → Left start at i start at 1
    unfolding InstructionsAt count effects_of_all AllTargetsBelow marked_in read_by
    all_left h =
        let e = append-nil (effects i σ) in
        record {
          rest = more i no_branch;
          stands = (h, tt);
          counted = refl;
          same = λ k. record {
            gathered = gather_all lows highs (sym e k) start.gathered;
            news = start.news ++ news_of (sym e k) start.gathered.given;
            waits = marked i σ at r start.waits;
          };
          targets = λ n t. (t, tt);
        }

-- the same of a reading
abbrev pub LeftIn : Reading → Held → ℕ → Instruction → Held → ℕ → ℕ → Type 0
LeftIn r start at i now here due =
    Left r.tables.now.kinds.now r.tables.now.parameters.now (valuation_of r.cells.now) (lows_in r.tables.now.variables.now) (highs_in r.tables.now.variables.now) r.round
    start at i now here due

module _ {ks : List ℕ} {ps : List ℤ} {σ : Valuation} {lows highs : List ℤ} {r : ℕ} {start : Held} {at : ℕ} {i : Instruction} {now : Held} {here due : ℕ}
    (left : Left ks ps σ lows highs r start at i now here due) where
  pub due_within : due ≤ length ks - here
  due_within = omega (arith, count_within ks ps left.rest here left.stands, left.counted)

  pub none_left : due ≤ 0 → now ≡ read_by lows highs σ at r i start
  unfolding count effects_of_all gather_all news_of marked_in
  none_left d = by left.rest left.counted left.same
    where
      by : (is : Instructions) → count is ≡ due → read_by lows highs σ at r i start ≡ read_all σ lows highs r is here now → now ≡ read_by lows highs σ at r i start
      by no_branch e s = (λ k. record { gathered = now.gathered; news = sym (append-nil now.news) k; waits = now.waits }) ∙ sym s
      by (more k is) e s = absurd (omega arith)

  pub next_stands : 0 < due → (nexts : List ℕ) → NextPlaces ks ps nexts → {variables given : ℕ} → TargetsBelow i variables → TargetsBelow i given → InstructionStands ks ps nexts variables given here
  unfolding count InstructionsAt AllTargetsBelow
  next_stands d nexts places {variables} {given} v g = by left.rest left.counted left.stands (left.targets variables v) (left.targets given g)
    where
      by : (is : Instructions) → count is ≡ due → InstructionsAt ks ps is here → AllTargetsBelow is variables → AllTargetsBelow is given → InstructionStands ks ps nexts variables given here
      by no_branch e s x y = absurd (omega arith)
      by (more j is) e s x y = record { instruction = j; stands = s.0; target_variables = x.0; target_given = y.0; places = places }

  module _ (d : 0 < due) {w : Walked} (told : (j : Instruction) → InstructionAt ks ps j here → w ≡ walked_by lows highs σ here r j now) where
    pub step_left : Left ks ps σ lows highs r start at i w.held w.next (due - 1 + w.due) × (here < w.next) × (here < length ks)
    unfolding count InstructionsAt AllTargetsBelow walked_by
    step_left = by left.rest left.counted left.stands left.same left.targets
      where
        by : (is : Instructions) → count is ≡ due → InstructionsAt ks ps is here → read_by lows highs σ at r i start ≡ read_all σ lows highs r is here now
            → ((n : ℕ) → TargetsBelow i n → AllTargetsBelow is n)
            → Left ks ps σ lows highs r start at i w.held w.next (due - 1 + w.due) × (here < w.next) × (here < length ks)
        by no_branch e s h t = absurd (omega arith)
        by (more j is) e s h t =
            let q = told j s.0 in
            let m : w.next ≡ here + size_of j - size_of_all (due_after j σ) = ap (λ x. x.next) q in
            let k : w.due ≡ count (due_after j σ) = ap (λ x. x.due) q in (
              record {
                rest = joined (due_after j σ) is;
                stands =
                    moved ks ps (joined (due_after j σ) is) (sym m)
                    (joined_stand ks ps (due_after j σ) is _ (due_stand ks ps σ j here s.0) (moved ks ps is (omega (arith, due_size σ j)) s.1));
                counted = count_joined (due_after j σ) is ∙ omega arith;
                same = h ∙ node_read σ lows highs r j is here now ∙ ap (λ x. read_all σ lows highs r (joined (due_after j σ) is) x.next x.held) (sym q);
                targets = λ n u. targets_joined (due_after j σ) is n (due_targets σ j n (t n u).0) (t n u).1;
              },
              omega (arith, due_size σ j, m),
              (instruction_within ks ps j here s.0).0,
            )
