-- How the table of next places is filled: what the decoding's private functions promise.
use Rattle.std.specs.Prelude.{cond, List, ℕ, zero, suc, ◌+◌, eqb, ltb, ℤ, pos, nat_abs, length, get_or, set}
use Rattle.kinds.specs.Kinds.{children_of}

-- the number of children of a node
unfoldable pub children_by : ℕ → ℤ → ℕ
children_by k p = cond (eqb k 19) (nat_abs p) (children_of k)

-- the place reached from place `at` by following so many entries, none of them past the last node
unfoldable pub following : List ℕ → ℕ → ℕ → ℕ → ℕ
following nexts nodes zero at = at
following nexts nodes (suc n) at = cond (ltb at nodes) (following nexts nodes n (get_or nexts at 0)) at

-- the entries below `left` filled from the last to the first: each follows its children's entries
unfoldable pub filled : List ℕ → List ℤ → ℕ → List ℕ → List ℕ
filled ks ps zero nexts = nexts
filled ks ps (suc left) nexts =
    filled ks ps left (set nexts left (following nexts (length ks) (children_by (get_or ks left 0) (get_or ps left (pos 0))) (left + 1)))
