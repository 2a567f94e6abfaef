-- Short texts and what they mean, over variables of the given sorts.
use Rattle.std.specs.Prelude.{◌≡◌, List, [], ◌∷◌, ℕ, pos, replicate, Err}
use Rattle.results.specs.Results.{answered}
use Rattle.results.specs.declared.refusal.Refusal.TheVariants.{ShortSlice, NoSuchVariable, NotInGrammar, TypesDoNotFit, TextTooLarge}
use Rattle.kinds.specs.declared.Sort.{Sort}
use Rattle.kinds.specs.declared.Sort.TheVariants.{Boolean, Number}
use Rattle.evaluation.specs.declared.Operator.TheVariants.{Conjunction, Disjunction, Equality, Less, LessOrEqual, Sum, Difference, Product, Quotient, Remainder, Equivalence}
use Rattle.model.specs.Trees.Expression.{numeral, truth, variable, negation, binary, if_then_else}
use Rattle.grammar.specs.Reading.{phrase_of}
use Rattle.texts.specs.Texts.{Meant, meant_by, slices, typed_over}
use Rattle.texts.specs.Texts.Meant.{refused, meant}

-- a text over variables of these sorts
abbrev pub meaning : List Sort → List ℕ → Meant
meaning sorts text = meant_by sorts (phrase_of text)

-- `-v0 +v1`, `1-2-3`, `1>=2*3`, `1<-2`, `div(7,2)`, `mod(7,2)`
abbrev pub NumberRows : Type 0
NumberRows =
    (meaning (Number ∷ Number ∷ []) (45 ∷ 118 ∷ 48 ∷ 32 ∷ 43 ∷ 118 ∷ 49 ∷ []) ≡ meant (binary Difference (numeral (pos 0)) (binary Sum (variable 0) (variable 1))))
    × (meaning [] (49 ∷ 45 ∷ 50 ∷ 45 ∷ 51 ∷ []) ≡ meant (binary Difference (binary Difference (numeral (pos 1)) (numeral (pos 2))) (numeral (pos 3))))
    × (meaning [] (49 ∷ 62 ∷ 61 ∷ 50 ∷ 42 ∷ 51 ∷ []) ≡ meant (binary LessOrEqual (binary Product (numeral (pos 2)) (numeral (pos 3))) (numeral (pos 1))))
    × (meaning [] (49 ∷ 60 ∷ 45 ∷ 50 ∷ []) ≡ meant (binary Less (numeral (pos 1)) (binary Difference (numeral (pos 0)) (numeral (pos 2)))))
    × (meaning [] (100 ∷ 105 ∷ 118 ∷ 40 ∷ 55 ∷ 44 ∷ 50 ∷ 41 ∷ []) ≡ meant (binary Quotient (numeral (pos 7)) (numeral (pos 2))))
    × (meaning [] (109 ∷ 111 ∷ 100 ∷ 40 ∷ 55 ∷ 44 ∷ 50 ∷ 41 ∷ []) ≡ meant (binary Remainder (numeral (pos 7)) (numeral (pos 2))))

-- `1>2`, `1<=2`, `1==2` (node 38)
abbrev pub RelationRows : Type 0
RelationRows =
    (meaning [] (49 ∷ 62 ∷ 50 ∷ []) ≡ meant (binary Less (numeral (pos 2)) (numeral (pos 1))))
    × (meaning [] (49 ∷ 60 ∷ 61 ∷ 50 ∷ []) ≡ meant (binary LessOrEqual (numeral (pos 1)) (numeral (pos 2))))
    × (meaning [] (49 ∷ 61 ∷ 61 ∷ 50 ∷ []) ≡ meant (binary Equality (numeral (pos 1)) (numeral (pos 2))))

-- `true==v0` (node 47), `true!=v0`, `not v0`, `v0 or v0 and v1`
abbrev pub BooleanRows : Type 0
BooleanRows =
    (meaning (Boolean ∷ []) (116 ∷ 114 ∷ 117 ∷ 101 ∷ 61 ∷ 61 ∷ 118 ∷ 48 ∷ []) ≡ meant (binary Equivalence (truth (pos 1)) (variable 0)))
    × (meaning (Boolean ∷ []) (116 ∷ 114 ∷ 117 ∷ 101 ∷ 33 ∷ 61 ∷ 118 ∷ 48 ∷ []) ≡ meant (negation (binary Equivalence (truth (pos 1)) (variable 0))))
    × (meaning (Boolean ∷ []) (110 ∷ 111 ∷ 116 ∷ 32 ∷ 118 ∷ 48 ∷ []) ≡ meant (negation (variable 0)))
    × (meaning (Boolean ∷ Boolean ∷ []) (118 ∷ 48 ∷ 32 ∷ 111 ∷ 114 ∷ 32 ∷ 118 ∷ 48 ∷ 32 ∷ 97 ∷ 110 ∷ 100 ∷ 32 ∷ 118 ∷ 49 ∷ []) ≡ meant (binary Disjunction (variable 0) (binary Conjunction (variable 0) (variable 1))))

-- `1<2<3`, `1+-2`, `01`, `2147483648` and the empty text are not in the grammar
abbrev pub GrammarRows : Type 0
GrammarRows =
    (meaning [] (49 ∷ 60 ∷ 50 ∷ 60 ∷ 51 ∷ []) ≡ refused NotInGrammar)
    × (meaning [] (49 ∷ 43 ∷ 45 ∷ 50 ∷ []) ≡ refused NotInGrammar)
    × (meaning [] (48 ∷ 49 ∷ []) ≡ refused NotInGrammar)
    × (meaning [] (50 ∷ 49 ∷ 52 ∷ 55 ∷ 52 ∷ 56 ∷ 51 ∷ 54 ∷ 52 ∷ 56 ∷ []) ≡ refused NotInGrammar)
    × (meaning [] [] ≡ refused NotInGrammar)

-- `+true` wants a number; `v7+true` has a variable too large, which comes first
abbrev pub SortRows : Type 0
SortRows =
    (meaning [] (43 ∷ 116 ∷ 114 ∷ 117 ∷ 101 ∷ []) ≡ refused TypesDoNotFit)
    × (meaning [] (118 ∷ 55 ∷ 43 ∷ 116 ∷ 114 ∷ 117 ∷ 101 ∷ []) ≡ refused NoSuchVariable)

-- 201 spaces into no cell are 34, the empty text into no cell is 10
abbrev pub OrderRows : Type 0
OrderRows =
    (typed_over [] (replicate 201 32) (slices [] []) ≡ answered (Err TextTooLarge) (slices [] []))
    × (typed_over [] [] (slices [] []) ≡ answered (Err ShortSlice) (slices [] []))

-- `if v0 then v1 else v0`
abbrev pub ConditionalRow : Type 0
ConditionalRow =
    meaning (Boolean ∷ Boolean ∷ [])
    (105 ∷ 102 ∷ 32 ∷ 118 ∷ 48 ∷ 32 ∷ 116 ∷ 104 ∷ 101 ∷ 110 ∷ 32 ∷ 118 ∷ 49 ∷ 32 ∷ 101 ∷ 108 ∷ 115 ∷ 101 ∷ 32 ∷ 118 ∷ 48 ∷ [])
    ≡ meant (if_then_else (variable 0) (variable 1) (variable 0))

-- the worked texts
abbrev pub TextRows : Type 0
TextRows = NumberRows × RelationRows × BooleanRows × GrammarRows × SortRows × OrderRows × ConditionalRow
