-- The worked texts: computed from the definitions, the longest by a derivation.
use mathlib.Core.Path.{◌≡◌, refl, sym, ap, subst}
use mathlib.Core.List.{List, [], ◌∷◌, map, nil≢cons, head-eq_of_cons-eq}
use Prim.Native.Nat.{ℕ}
use lib.Dec.{T, lit≤}
use Rattle.ascii.specs.Ascii.{same, are_digits, value_after}
use Rattle.kinds.specs.declared.Sort.TheVariants.{Boolean}
use Rattle.model.specs.Trees.{depth_of_expression}
use Rattle.grammar.specs.Words.{words_after, is_word, is_run, is_letter_or_digit, is_among, two_byte_signs, Longest, Spelled}
use Rattle.grammar.specs.Words.Spelled.{nothing, space, word as spelt}
use Rattle.grammar.specs.declared.Token.{Token}
use Rattle.grammar.specs.declared.Token.TheVariants.{Variable, If, Then, Else}
use Rattle.grammar.specs.Tokens.{token_of, token_among, other_token, fixed_words, is_numeral}
use Rattle.grammar.specs.Phrases.{Phrase, Derives, is_chained, whole_level}
use Rattle.grammar.specs.Phrases.Phrase.{variable, conditional}
use Rattle.grammar.specs.Phrases.Derives.{by_tighter, by_variable, by_conditional}
use Rattle.grammar.specs.Reading.{phrase_of, entire, read_at, level_by, whole_by, chain_by, call_by, arguments_by, prefix_by, related_by, chain, and_then, is_next, after_next}
use Rattle.grammar.specs.Theorems.{Reads}
use Rattle.grammar.proofs.Scanning.{run_longest}
use Rattle.grammar.proofs.Readings.{reading_exact}
use Rattle.composition.specs.Typing.{equal, operation_sort, prefix_sort, sort_in, variables_below, prefixed_by, operated_by, call_operator, expression_of}
use Rattle.texts.specs.Texts.{meant_by, typed_over}
use Rattle.texts.specs.Rows.{OrderRows, ConditionalRow, TextRows}

-- ---- `if v0 then v1 else v0`

-- a run ends before a space
before_space : (a : ℕ) (u rest : List ℕ) → T (is_run (a ∷ u)) → Longest (a ∷ u) (32 ∷ rest)
before_space a u rest r =
    run_longest a u (32 ∷ rest) r (λ b t e h. subst (λ (c : ℕ). T (is_letter_or_digit c)) (sym (head-eq_of_cons-eq e)) h)

-- its words
abbrev choice_text : List ℕ
choice_text =
    105 ∷ 102 ∷ 32 ∷ 118 ∷ 48 ∷ 32 ∷ 116 ∷ 104 ∷ 101 ∷ 110 ∷ 32 ∷ 118 ∷ 49 ∷ 32 ∷ 101 ∷ 108 ∷ 115 ∷ 101 ∷ 32 ∷ 118 ∷ 48 ∷ []

abbrev choice_words : List (List ℕ)
choice_words =
    (105 ∷ 102 ∷ []) ∷ (118 ∷ 48 ∷ []) ∷ (116 ∷ 104 ∷ 101 ∷ 110 ∷ []) ∷ (118 ∷ 49 ∷ []) ∷ (101 ∷ 108 ∷ 115 ∷ 101 ∷ []) ∷ (118 ∷ 48 ∷ []) ∷ []

choice_spelled : Spelled choice_text choice_words
unfolding is_run
choice_spelled =
    spelt (105 ∷ 102 ∷ []) _ _ (before_space 105 (102 ∷ []) _ tt)
    (space (spelt (118 ∷ 48 ∷ []) _ _ (before_space 118 (48 ∷ []) _ tt)
    (space (spelt (116 ∷ 104 ∷ 101 ∷ 110 ∷ []) _ _ (before_space 116 (104 ∷ 101 ∷ 110 ∷ []) _ tt)
    (space (spelt (118 ∷ 49 ∷ []) _ _ (before_space 118 (49 ∷ []) _ tt)
    (space (spelt (101 ∷ 108 ∷ 115 ∷ 101 ∷ []) _ _ (before_space 101 (108 ∷ 115 ∷ 101 ∷ []) _ tt)
    (space (spelt (118 ∷ 48 ∷ []) [] [] (run_longest 118 (48 ∷ []) [] tt (λ b t e h. nil≢cons e)) nothing))))))))))

-- what they mean
choice_tokens : map token_of choice_words
    ≡ If ∷ Variable 0 ∷ Then ∷ Variable 1 ∷ Else ∷ Variable 0 ∷ []
unfolding same are_digits value_after token_of token_among other_token fixed_words is_numeral
choice_tokens = refl

-- a variable is a whole phrase
whole_variable : (n : ℕ) → Derives whole_level (Variable n ∷ []) (variable n)
whole_variable n =
    by_tighter (lit≤ tt) (by_tighter (lit≤ tt) (by_tighter (lit≤ tt) (by_tighter (lit≤ tt)
    (by_tighter (lit≤ tt) (by_tighter (lit≤ tt) (by_tighter (lit≤ tt) (by_tighter (lit≤ tt) by_variable)))))))

abbrev choice : Phrase
choice = conditional (variable 0) (variable 1) (variable 0)

choice_reads : Reads choice_text choice
choice_reads =
    record {
      words = choice_words;
      spelled = choice_spelled;
      derived =
          subst (λ (ts : List Token). Derives whole_level ts choice) (sym choice_tokens)
          (by_conditional _ _ _ _ _ _ (whole_variable 0) (whole_variable 1) (whole_variable 0));
    }

conditional_row : ConditionalRow
unfolding meant_by sort_in variables_below expression_of depth_of_expression
conditional_row = ap (meant_by (Boolean ∷ Boolean ∷ [])) ((reading_exact choice_text choice).1 choice_reads)

-- ---- the others

-- the answer's order, whatever the text is
order_rows : OrderRows
unfolding typed_over
order_rows = (refl, refl)

-- one by one
pub text_rows : TextRows
unfolding meant_by phrase_of entire read_at level_by whole_by chain_by call_by arguments_by prefix_by related_by chain and_then is_next after_next is_chained words_after is_word is_run is_among two_byte_signs same are_digits value_after token_of token_among other_token fixed_words is_numeral operation_sort prefix_sort sort_in variables_below prefixed_by equal operated_by call_operator expression_of depth_of_expression
text_rows =
    ((refl, refl, refl, refl, refl, refl), (refl, refl, refl), (refl, refl, refl, refl), (refl, refl, refl, refl, refl), (refl, refl), order_rows, conditional_row)
