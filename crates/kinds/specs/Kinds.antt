-- 01's list of kinds: the byte of each, and by its byte where it may stand, how many children it has, what it yields, what it
-- asks of its operands. 01: "A kind byte is looked up in a table of 256 rows: where the kind may stand, how many children it
-- has, what it yields; the table follows the list above at every byte".
use Rattle.std.specs.Prelude.{Bool, cond, ◌&&◌, ◌||◌, List, [], ◌∷◌, ◌≡◌, ◌≢◌, ℕ, zero, suc, ◌<◌, eqb, leb, get_or, Option, Some, None, Result, MatchResult}
use Rattle.kinds.specs.declared.kind.Kind.{Kind}
use Rattle.kinds.specs.declared.kind.Kind.TheVariants as kind
use Rattle.kinds.specs.declared.kind.UnknownKind.{UnknownKind}
use Rattle.kinds.specs.declared.Place.{Place}
use Rattle.kinds.specs.declared.Place.TheVariants.{Nowhere, Variable, HighEnd, FirstValue, Transition, Instruction, Expression}
use Rattle.kinds.specs.declared.Sort.{Sort}
use Rattle.kinds.specs.declared.Sort.TheVariants.{Boolean, Number}
use Rattle.kinds.specs.declared.Row.{Row}
use Rattle.kinds.specs.declared.table.TheConstants.{ROWS}
use Rattle.evaluation.specs.declared.Operator.{Operator}
use Rattle.evaluation.specs.declared.Operator.TheVariants.{Conjunction, Disjunction, Equality, Less, LessOrEqual, Sum, Difference, Product, Quotient, Remainder, Equivalence}

-- k is one of low to high
abbrev pub between : ℕ → ℕ → ℕ → Bool
between low high k = leb low k && leb k high

-- the byte of a kind
abbrev pub code_of : Kind → ℕ
code_of kind.BooleanVariable = 1
code_of kind.LowEnd = 2
code_of kind.HighEnd = 3
code_of kind.FirstValue = 4
code_of kind.Transition = 5
code_of kind.Skip = 16
code_of kind.Assignment = 17
code_of kind.IfThen = 18
code_of kind.Block = 19
code_of kind.Numeral = 32
code_of kind.Truth = 33
code_of kind.Variable = 34
code_of kind.Negation = 35
code_of kind.Conjunction = 36
code_of kind.Disjunction = 37
code_of kind.Equality = 38
code_of kind.Less = 39
code_of kind.LessOrEqual = 40
code_of kind.Sum = 41
code_of kind.Difference = 42
code_of kind.Product = 43
code_of kind.Quotient = 44
code_of kind.Remainder = 45
code_of kind.Conditional = 46
code_of kind.Equivalence = 47

-- the kind of a byte, or the byte where it stands for none
abbrev pub Decodes : ℕ → Result Kind UnknownKind → Type 0
Decodes byte r = MatchResult r (λ kind. code_of kind ≡ byte) (λ e. (e.0 ≡ byte) × ((kind : Kind) → code_of kind ≢ byte))

-- what a row yields and what is wanted of an expression: a sort, or none where the byte alone does not tell it (34, 46) or the
-- kind is no expression
abbrev pub boolean_sort : Option Sort
boolean_sort = Some Boolean

abbrev pub number_sort : Option Sort
number_sort = Some Number

abbrev pub no_sort : Option Sort
no_sort = None

-- where a kind may stand
unfoldable pub place_of : ℕ → Place
place_of k =
    cond (eqb k 1 || eqb k 2) Variable
    (cond (eqb k 3) HighEnd
    (cond (eqb k 4) FirstValue
    (cond (eqb k 5) Transition
    (cond (between 16 19 k) Instruction
    (cond (between 32 47 k) Expression Nowhere)))))

-- 19 has P children
unfoldable pub children_of : ℕ → ℕ
children_of k =
    cond (eqb k 17 || eqb k 35) 1
    (cond (eqb k 5 || eqb k 18 || between 36 45 k || eqb k 47) 2
    (cond (eqb k 46) 3 0))

-- 01: "Kinds 33, 35 to 40 and 47 yield Booleans, 32 and 41 to 45 numbers"; 34 yields its variable's sort, 46 the wanted one
unfoldable pub result_of : ℕ → Option Sort
result_of k =
    cond (eqb k 33 || between 35 40 k || eqb k 47) boolean_sort
    (cond (eqb k 32 || between 41 45 k) number_sort no_sort)

unfoldable pub row_of : ℕ → Row
row_of k = record { place = place_of k; children = children_of k; result = result_of k }

-- a rule at so many places, counted from i
unfoldable pub column : {A : Type 0} → (ℕ → A) → ℕ → ℕ → List A
column f i zero = []
column f i (suc n) = f i ∷ column f (suc i) n

-- 01: "a table of 256 rows": the row of every byte, by 01's list
unfoldable pub table : List Row
table = column row_of 0 256

-- the row of a kind byte in a table of rows; past the table's end the row of nowhere
unfoldable pub row_in : List Row → ℕ → Row
row_in rows k = get_or rows k (record { place = Nowhere; children = 0; result = None })

-- 01: "the table follows the list above at every byte": the table that the code reads, and 01's. Proved in proofs/Follows.antt.
abbrev pub TableFollows : Type 0
TableFollows = (k : ℕ) → k < 256 → (row_in ROWS k ≡ row_of k) × (row_in table k ≡ row_of k)

-- 01: "Operands of 35 to 37 and 47 are Boolean, of 38 to 45 numbers." Of other kinds it has no meaning.
unfoldable pub operand_sort : ℕ → Sort
operand_sort k = cond (between 35 37 k || eqb k 47) Boolean Number

-- the kind of an operator
unfoldable pub kind_of : Operator → ℕ
kind_of Conjunction = 36
kind_of Disjunction = 37
kind_of Equality = 38
kind_of Less = 39
kind_of LessOrEqual = 40
kind_of Sum = 41
kind_of Difference = 42
kind_of Product = 43
kind_of Quotient = 44
kind_of Remainder = 45
kind_of Equivalence = 47

-- the operator of a kind with two operands, the inverse of `kind_of`; of other kinds it has no meaning
unfoldable pub operator_of : ℕ → Operator
operator_of k =
    cond (eqb k 36) Conjunction
    (cond (eqb k 37) Disjunction
    (cond (eqb k 38) Equality
    (cond (eqb k 39) Less
    (cond (eqb k 40) LessOrEqual
    (cond (eqb k 41) Sum
    (cond (eqb k 42) Difference
    (cond (eqb k 43) Product
    (cond (eqb k 44) Quotient
    (cond (eqb k 45) Remainder Equivalence)))))))))
