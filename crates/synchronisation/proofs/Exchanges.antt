-- Shuffled members make a shuffled transition: an exchange in a member is one in each of its copies.
use mathlib.Core.List.{List, [], ◌∷◌}
use mathlib.Core.Option.{Option, some, none}
use Prim.Native.Nat.{ℕ, zero, suc}
use lib.ListN.{get_elem?}
use Rattle.evaluation.specs.declared.Operator.{Operator}
use Rattle.evaluation.specs.declared.Operator.TheVariants.{Conjunction, Disjunction}
use Rattle.model.specs.Trees.{Transition}
use Rattle.model.specs.Trees.Expression.{binary}
use Rattle.model.specs.Trees.Instruction.{if_then, block}
use Rattle.model.specs.Trees.Instructions.{more}
use Rattle.model.specs.Shuffle.{OperandsExchanged, Exchanged, BranchesExchanged, TransitionExchanged, OneExchanged}
use Rattle.model.specs.Shuffle.OperandsExchanged.{in_left, in_right}
use Rattle.model.specs.Shuffle.Exchanged.{in_test, in_body, in_block}
use Rattle.model.specs.Shuffle.BranchesExchanged.{in_branch, in_rest}
use Rattle.model.specs.Shuffle.TransitionExchanged.{in_guard, in_action}
use Rattle.model.specs.Shuffle.OneExchanged.{in_first, in_later}
use Rattle.synchronisation.specs.Synchronisations.{with_first, members_of, nested, guard_of, optional_branches, branches_of, together}

-- ---- any number of exchanges

-- a thing becomes another by steps, none included
pub data Several {A : Type 0} (R : A → A → Type 0) : A → A → Type 0 where
  done : {a : A} → Several R a a
  next : {a b c : A} → R a b → Several R b c → Several R a c

-- some steps and then others
join : {A : Type 0} {R : A → A → Type 0} {a b c : A} → Several R a b → Several R b c → Several R a c
join done s = s
join (next x r) s = next x (join r s)

-- exchanges in a part are exchanges in the whole
along : {A B : Type 0} {R : A → A → Type 0} {S : B → B → Type 0} (f : A → B) → ((a b : A) → R a b → S (f a) (f b))
    → {a b : A} → Several R a b → Several S (f a) (f b)
along f lift done = done
along f lift (next x r) = next (lift _ _ x) (along f lift r)

-- ---- lists of transitions

-- each has any number of exchanges
pub data Alike : List Transition → List Transition → Type 0 where
  nothing : Alike [] []
  also : {t t' : Transition} {ts ts' : List Transition} → Several TransitionExchanged t t' → Alike ts ts' → Alike (t ∷ ts) (t' ∷ ts')

-- a list is like itself
pub alike_same : (ts : List Transition) → Alike ts ts
alike_same [] = nothing
alike_same (t ∷ ts) = also done (alike_same ts)

-- lists that are like the same list are alike
pub alike_join : {ts us vs : List Transition} → Alike ts us → Alike us vs → Alike ts vs
alike_join nothing s = s
alike_join (also x r) (also y s) = also (join x y) (alike_join r s)

-- one exchange makes a list that is alike
pub one_alike : {ts ts' : List Transition} → OneExchanged ts ts' → Alike ts ts'
one_alike (in_first {ts = ts} x) = also (next x done) (alike_same ts)
one_alike (in_later x) = also done (one_alike x)

-- ---- members

-- both there and related, or neither there
unfoldable pub Matched : {A : Type 0} → (A → A → Type 0) → Option A → Option A → Type 0
Matched R none none = Unit {0}
Matched R none (some b) = ⊥
Matched R (some a) none = ⊥
Matched R (some a) (some b) = R a b

-- the same place has transitions that are alike
place_alike : {ts ts' : List Transition} → Alike ts ts' → (k : ℕ) → Matched (Several TransitionExchanged) (get_elem? ts k) (get_elem? ts' k)
unfolding Matched
place_alike nothing k = tt
place_alike (also x r) zero = x
place_alike (also x r) (suc k) = place_alike r k

-- one more keeps lists alike
first_alike : (t t' : Option Transition) (ts ts' : Option (List Transition)) → Matched (Several TransitionExchanged) t t' → Matched Alike ts ts'
    → Matched Alike (with_first t ts) (with_first t' ts')
unfolding Matched with_first
first_alike none none ts ts' h k = tt
first_alike none (some t') ts ts' h k = absurd h
first_alike (some t) none ts ts' h k = absurd h
first_alike (some t) (some t') none none h k = tt
first_alike (some t) (some t') none (some ts') h k = absurd k
first_alike (some t) (some t') (some ts) none h k = absurd k
first_alike (some t) (some t') (some ts) (some ts') h k = also h k

-- the same numbers find members that are alike
pub members_alike : {ts ts' : List Transition} → Alike ts ts' → (ks : List ℕ) → Matched Alike (members_of ts ks) (members_of ts' ks)
unfolding Matched members_of
members_alike r [] = nothing
members_alike {ts} {ts'} r (k ∷ ks) =
    first_alike (get_elem? ts k) (get_elem? ts' k) (members_of ts ks) (members_of ts' ks) (place_alike r k) (members_alike r ks)

-- ---- the new transition

-- an exchange in a transition is at most one in its guard
one_guard : {t t' : Transition} → TransitionExchanged t t' → Several OperandsExchanged t.guard t'.guard
one_guard (in_guard x) = next x done
one_guard (in_action x) = done

-- and at most one in its action
one_action : {t t' : Transition} → TransitionExchanged t t' → Several Exchanged t.action t'.action
one_action (in_guard x) = done
one_action (in_action x) = next x done

-- exchanges in a transition are exchanges in its guard
pub guards : {t t' : Transition} → Several TransitionExchanged t t' → Several OperandsExchanged t.guard t'.guard
guards done = done
guards (next x r) = join (one_guard x) (guards r)

-- and in its action
pub actions : {t t' : Transition} → Several TransitionExchanged t t' → Several Exchanged t.action t'.action
actions done = done
actions (next x r) = join (one_action x) (actions r)

-- exchanges in the members are exchanges in each copy of their guards
nested_alike : (op : Operator) {t t' : Transition} {ts ts' : List Transition} → Several TransitionExchanged t t' → Alike ts ts'
    → Several OperandsExchanged (nested op t ts) (nested op t' ts')
unfolding nested
nested_alike op x nothing = guards x
nested_alike op {t' = t'} x (also {t = u} {ts = us} y r) =
    join (along (λ g. binary op g (nested op u us)) (λ a b y. in_left y) (guards x))
    (along (λ g. binary op t'.guard g) (λ a b y. in_right y) (nested_alike op y r))

-- in the new guard
guard_alike : {ts ts' os os' : List Transition} → Alike ts ts' → Alike os os' → Several OperandsExchanged (guard_of ts os) (guard_of ts' os')
unfolding guard_of
guard_alike (also x r) s = nested_alike Conjunction x r
guard_alike nothing (also y s) = nested_alike Disjunction y s
guard_alike nothing nothing = done

-- in each optional branch
optional_alike : {os os' : List Transition} → Alike os os' → Several BranchesExchanged (optional_branches os) (optional_branches os')
unfolding optional_branches
optional_alike nothing = done
optional_alike (also {t = o} {t' = o'} {ts = os} x r) =
    join (along (λ g. more (if_then g o.action) (optional_branches os)) (λ a b y. in_branch (in_test y)) (guards x))
    (join (along (λ a. more (if_then o'.guard a) (optional_branches os)) (λ a b y. in_branch (in_body y)) (actions x))
    (along (λ is. more (if_then o'.guard o'.action) is) (λ a b y. in_rest y) (optional_alike r)))

-- in all branches
branches_alike : {ts ts' os os' : List Transition} → Alike ts ts' → Alike os os' → Several BranchesExchanged (branches_of ts os) (branches_of ts' os')
unfolding branches_of
branches_alike nothing s = optional_alike s
branches_alike {os = os} (also {t' = t'} {ts = ts} x r) s =
    join (along (λ a. more a (branches_of ts os)) (λ a b y. in_branch y) (actions x))
    (along (λ is. more t'.action is) (λ a b y. in_rest y) (branches_alike r s))

-- in the new transition
pub together_alike : (e : ℕ) {ts ts' os os' : List Transition} → Alike ts ts' → Alike os os'
    → Several TransitionExchanged (together e ts os) (together e ts' os')
together_alike e {ts} {ts'} {os} {os'} r s =
    join (along (λ g. record { event = e; guard = g; action = block (branches_of ts os) }) (λ a b y. in_guard y) (guard_alike r s))
    (along (λ is. record { event = e; guard = guard_of ts' os'; action = block is }) (λ a b y. in_action (in_block y)) (branches_alike r s))
