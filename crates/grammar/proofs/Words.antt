-- The words of a text: what goes on as long as it can is exactly what is spelled.
use mathlib.Core.Path.{◌≡◌, refl, sym, ap, subst, ◌∙◌}
use mathlib.Core.Bool.{Bool, true, false, cond, not, ◌&&◌, ◌||◌, and-false}
use mathlib.Core.Logic.{◌⊎◌, inl, inr}
use mathlib.Core.List.{List, [], ◌∷◌, ◌++◌, append-nil, append_assoc, cons≢nil, nil≢cons, head-eq_of_cons-eq}
use Prim.Native.Nat.{ℕ}
use native.Mathlib.Omega.{arith}
use borrow.Author.Tests.{eqb-true, eqb-false, ne_eqb}
use lib.Dec.{T, eqb, ltb, lt→ltb, eqb→eq, eqb-suc-zero}
use lib.ListN.{length}
use Rattle.ascii.specs.Ascii.{same}
use Rattle.grammar.specs.Words.{is_letter_or_digit, is_run, is_among, two_byte_signs, is_word, alone, begun, words_after, words_of, Longest, Spelled}
use Rattle.grammar.specs.Words.Spelled.{nothing, space, word}
use Rattle.grammar.specs.Theorems.{WordsExact}
use Rattle.grammar.proofs.Tests.{or_either, or_left, or_right, and_left, and_right, both, is_true, is_false, passes, fails}

-- ---- what is a word

-- a word of two bytes or more is a run, or has two
longer : (a x : ℕ) (t : List ℕ) → T (is_word (a ∷ x ∷ t)) → T (is_run (a ∷ x ∷ t)) ⊎ (t ≡ [])
unfolding is_word is_among two_byte_signs same
longer a x [] h = inr refl
longer a x (b ∷ t) h = by (or_either (ltb 0 (length (a ∷ x ∷ b ∷ t)) && is_run (a ∷ x ∷ b ∷ t)) _ h)
  where
    by : T (ltb 0 (length (a ∷ x ∷ b ∷ t)) && is_run (a ∷ x ∷ b ∷ t)) ⊎ T (is_among two_byte_signs (a ∷ x ∷ b ∷ t) || (eqb (length (a ∷ x ∷ b ∷ t)) 1 && not (same (a ∷ x ∷ b ∷ t) (32 ∷ []))))
        → T (is_run (a ∷ x ∷ b ∷ t)) ⊎ (b ∷ t ≡ [])
    by (inl r) = inl (and_right (ltb 0 (length (a ∷ x ∷ b ∷ t))) _ r)
    by (inr r) =
        let one : T (eqb (length (a ∷ x ∷ b ∷ t)) 1) = and_left (eqb (length (a ∷ x ∷ b ∷ t)) 1) _ (simp and-false at r) in
        absurd (omega (arith, eqb→eq))

-- no word begins with a space
no_space : (t : List ℕ) → T (is_word (32 ∷ t)) → ⊥
unfolding is_word is_run is_among two_byte_signs same
no_space [] h = h
no_space (b ∷ t) h = by (longer 32 b t h)
  where
    by : T (is_run (32 ∷ b ∷ t)) ⊎ (t ≡ []) → ⊥
    by (inl r) = r
    by (inr e) = subst (λ (l : List ℕ). T (is_word (32 ∷ b ∷ l))) e h

-- one byte is a word unless it is a space
pub one_byte : (b : ℕ) → (b ≡ 32 → ⊥) → T (is_word (b ∷ []))
unfolding is_word same
one_byte b h = or_right (is_run (b ∷ [])) _ (or_right (is_among two_byte_signs (b ∷ [])) _ (rw (ne_eqb b 32 h) tt))

-- the beginning of a run is a run
run_before : (u v : List ℕ) → T (is_run (u ++ v)) → T (is_run u)
unfolding is_run
run_before [] v h = tt
run_before (a ∷ u) v h =
    both (is_letter_or_digit a) (is_run u) (and_left (is_letter_or_digit a) (is_run (u ++ v)) h) (run_before u v (and_right (is_letter_or_digit a) (is_run (u ++ v)) h))

-- nothing has nothing before it
empty_before : (u v : List ℕ) → u ++ v ≡ [] → u ++ v ≡ u
empty_before [] v e = e
empty_before (a ∷ u) v e = absurd (cons≢nil e)

-- the beginning of a word is a word
beginning : (a : ℕ) (u v : List ℕ) → T (is_word (a ∷ u ++ v)) → T (is_word (a ∷ u))
unfolding is_word
beginning a [] v h = one_byte a (λ e. no_space v (subst (λ (b : ℕ). T (is_word (b ∷ v))) e h))
beginning a (x ∷ u) v h = by (longer a x (u ++ v) h)
  where
    by : T (is_run (a ∷ x ∷ u ++ v)) ⊎ (u ++ v ≡ []) → T (is_word (a ∷ x ∷ u))
    by (inl r) =
        let n = length (a ∷ x ∷ u) in
        or_left (ltb 0 n && is_run (a ∷ x ∷ u)) (is_among two_byte_signs (a ∷ x ∷ u) || (eqb n 1 && not (same (a ∷ x ∷ u) (32 ∷ []))))
        (both (ltb 0 n) (is_run (a ∷ x ∷ u)) (lt→ltb 0 n (omega arith)) (run_before (a ∷ x ∷ u) v r))
    by (inr e) = subst (λ (l : List ℕ). T (is_word (a ∷ x ∷ l))) (empty_before u v e) h

-- ---- every text is spelled by its words

-- what a word begun may be: nothing yet, or a word
pub data Begun : List ℕ → Type 0 where
  none : Begun []
  some : (a : ℕ) (w : List ℕ) → T (is_word (a ∷ w)) → Begun (a ∷ w)

-- a byte more of a word
longer_begun : (w : List ℕ) (b : ℕ) → T (is_word (w ++ (b ∷ []))) → Begun (w ++ (b ∷ []))
longer_begun [] b h = some b [] h
longer_begun (a ∷ w) b h = some a (w ++ (b ∷ [])) h

-- a byte after a space or a word: a space is passed over, any other begins a word
after_byte : (b : ℕ) (text : List ℕ) → ((w : List ℕ) → Begun w → Spelled (w ++ text) (words_after text w))
    → Spelled (b ∷ text) (words_after text (begun b))
after_byte b text ih = by (eqb b 32) refl
  where
    by : (t : Bool) → eqb b 32 ≡ t → Spelled (b ∷ text) (words_after text (cond t [] (b ∷ [])))
    by true e = rw (eqb-true b 32 e) (space (ih [] none))
    by false e = ih (b ∷ []) (some b [] (one_byte b (eqb-false b 32 e)))

-- a word by itself
alone_word : (a : ℕ) (w : List ℕ) → alone (a ∷ w) ≡ (a ∷ w) ∷ []
alone_word a w = rw (eqb-suc-zero (length w))

-- a word that no next byte makes longer
longest_before : (a : ℕ) (w : List ℕ) (b : ℕ) (text : List ℕ) → T (is_word (a ∷ w)) → is_word (a ∷ w ++ (b ∷ [])) ≡ false → Longest (a ∷ w) (b ∷ text)
longest_before a w b text h e =
    record {
      is_one = h;
      ends = λ c rest same g. fails (is_word (a ∷ w ++ (b ∷ []))) e (rw (head-eq_of_cons-eq same) g);
    }

-- a word at the end
longest_at_end : (w : List ℕ) → T (is_word w) → Longest w []
longest_at_end w h = record { is_one = h; ends = λ b rest e g. nil≢cons e }

-- the next byte goes on with what is begun, or what is begun ends before it
byte_after : (b : ℕ) (text : List ℕ) {w : List ℕ} → Begun w → (t : Bool) → is_word (w ++ (b ∷ [])) ≡ t → Spelled (b ∷ text) (words_after text (begun b))
    → (T (is_word (w ++ (b ∷ []))) → Spelled (w ++ (b ∷ []) ++ text) (words_after text (w ++ (b ∷ []))))
    → Spelled (w ++ (b ∷ text)) (cond t (words_after text (w ++ (b ∷ []))) (alone w ++ words_after text (begun b)))
byte_after b text {w} g true e next more = rw (append_assoc w (b ∷ []) text) at (more (passes (is_word (w ++ (b ∷ []))) e))
byte_after b text none false e next more = next
byte_after b text (some a v h) false e next more = rw (alone_word a v) (word (a ∷ v) (b ∷ text) _ (longest_before a v b text h e) next)

-- by the bytes that are left
spelled_after : (text w : List ℕ) → Begun w → Spelled (w ++ text) (words_after text w)
unfolding words_after
spelled_after [] w none = nothing
spelled_after [] w (some a v h) = rw (alone_word a v) (word (a ∷ v) [] [] (longest_at_end (a ∷ v) h) nothing)
spelled_after (b ∷ text) w g =
    byte_after b text g (is_word (w ++ (b ∷ []))) refl (after_byte b text (spelled_after text))
    (λ h. spelled_after text (w ++ (b ∷ [])) (longer_begun w b h))

-- ---- a text is spelled in one way

-- the beginning of a word up to a byte
beginning_at : (u : List ℕ) (b : ℕ) (v : List ℕ) → T (is_word (u ++ (b ∷ v))) → T (is_word (u ++ (b ∷ [])))
beginning_at [] b v h = beginning b [] v h
beginning_at (a ∷ u) b v h = beginning a (u ++ (b ∷ [])) v (rw (append_assoc u (b ∷ []) v) h)

-- bytes that go on to a word
pub along : (v u text : List ℕ) → T (is_word (u ++ v)) → words_after (v ++ text) u ≡ words_after text (u ++ v)
unfolding words_after
along [] u text h = ap (words_after text) (sym (append-nil u))
along (b ∷ v) u text h =
    rw (is_true (is_word (u ++ (b ∷ []))) (beginning_at u b v h))
    (along v (u ++ (b ∷ [])) text (rw (append_assoc u (b ∷ []) v) h) ∙ ap (words_after text) (append_assoc u (b ∷ []) v))

-- the first byte of what follows a space or a word
pub first_byte : (b : ℕ) (text : List ℕ) → words_after (b ∷ text) [] ≡ words_after text (begun b)
unfolding words_after is_word is_run is_among two_byte_signs same
first_byte b text = by (eqb b 32) refl
  where
    by : (t : Bool) → eqb b 32 ≡ t → cond (is_word (b ∷ [])) (words_after text (b ∷ [])) (words_after text (begun b)) ≡ words_after text (cond t [] (b ∷ []))
    by true e = rw (eqb-true b 32 e)
    by false e = rw (is_true (is_word (b ∷ [])) (one_byte b (eqb-false b 32 e)))

-- after a word that goes on no longer, the rest stands for itself
pub after_word : (w text : List ℕ) → Longest w text → words_after text w ≡ w ∷ words_after text []
unfolding words_after is_word is_run is_among two_byte_signs same
after_word [] text h = absurd h.is_one
after_word (a ∷ w) [] h = alone_word a w
after_word (a ∷ w) (b ∷ text) h =
    rw (is_false (is_word (a ∷ w ++ (b ∷ []))) (h.ends b text refl), alone_word a w) (ap (λ (vs : List (List ℕ)). (a ∷ w) ∷ vs) (sym (first_byte b text)))

-- by its words
spelled_once : {text : List ℕ} {ws : List (List ℕ)} → Spelled text ws → words_of text ≡ ws
unfolding words_after
spelled_once nothing = refl
spelled_once (space {text = text} s) = first_byte 32 text ∙ spelled_once s
spelled_once (word w text ws h s) = along w [] text h.is_one ∙ after_word w text h ∙ ap (λ (vs : List (List ℕ)). w ∷ vs) (spelled_once s)

-- "longest" is said of one way to tell words apart
pub words_exact : WordsExact
words_exact text ws = (λ e. subst (Spelled text) e (spelled_after text [] none), spelled_once)
