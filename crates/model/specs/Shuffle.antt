-- 01: "It is shuffled by any number of exchanges, each of two branches of one block (19), in an action or the assertion, or
-- of the two operands of one symmetric operator anywhere; what is exchanged moves with all its nodes. Sizes, variables and
-- the order of the transitions stay."
use Rattle.std.specs.Prelude.{◌≡◌, true, List, ◌∷◌, ℕ}
use Rattle.evaluation.specs.declared.Operator.{Operator}
use Rattle.evaluation.specs.Meaning.{symmetric}
use Rattle.model.specs.Trees.{Expression, Instruction, Instructions, Variable, Transition, System}
use Rattle.model.specs.Trees.Expression.{negation, binary, if_then_else}
use Rattle.model.specs.Trees.Instruction.{assign, if_then, block}
use Rattle.model.specs.Trees.Instructions.{more}

-- one exchange of the operands of a symmetric operator, anywhere in an expression
pub data OperandsExchanged : Expression → Expression → Type 0 where
  here : {op : Operator} {a b : Expression} → symmetric op ≡ true → OperandsExchanged (binary op a b) (binary op b a)
  in_negation : {a a' : Expression} → OperandsExchanged a a' → OperandsExchanged (negation a) (negation a')
  in_left : {op : Operator} {a a' b : Expression} → OperandsExchanged a a' → OperandsExchanged (binary op a b) (binary op a' b)
  in_right : {op : Operator} {a b b' : Expression} → OperandsExchanged b b' → OperandsExchanged (binary op a b) (binary op a b')
  in_condition : {c c' a b : Expression} → OperandsExchanged c c' → OperandsExchanged (if_then_else c a b) (if_then_else c' a b)
  in_then : {c a a' b : Expression} → OperandsExchanged a a' → OperandsExchanged (if_then_else c a b) (if_then_else c a' b)
  in_else : {c a b b' : Expression} → OperandsExchanged b b' → OperandsExchanged (if_then_else c a b) (if_then_else c a b')

-- the second list is the first with branch a in the place of one branch b
pub data Replaced (a b : Instruction) : Instructions → Instructions → Type 0 where
  first : {is : Instructions} → Replaced a b (more b is) (more a is)
  later : {i : Instruction} {is is' : Instructions} → Replaced a b is is' → Replaced a b (more i is) (more i is')

-- one exchange, of two branches of one block or of operands, anywhere in an instruction
mutual
  pub data Exchanged : Instruction → Instruction → Type 0 where
    in_assigned : {x : ℕ} {e e' : Expression} → OperandsExchanged e e' → Exchanged (assign x e) (assign x e')
    in_test : {c c' : Expression} {i : Instruction} → OperandsExchanged c c' → Exchanged (if_then c i) (if_then c' i)
    in_body : {c : Expression} {i i' : Instruction} → Exchanged i i' → Exchanged (if_then c i) (if_then c i')
    in_block : {is is' : Instructions} → BranchesExchanged is is' → Exchanged (block is) (block is')

  pub data BranchesExchanged : Instructions → Instructions → Type 0 where
    two : {a b : Instruction} {is is' : Instructions} → Replaced a b is is' → BranchesExchanged (more a is) (more b is')
    in_branch : {i i' : Instruction} {is : Instructions} → Exchanged i i' → BranchesExchanged (more i is) (more i' is)
    in_rest : {i : Instruction} {is is' : Instructions} → BranchesExchanged is is' → BranchesExchanged (more i is) (more i is')

-- one exchange in a transition's guard or action
pub data TransitionExchanged : Transition → Transition → Type 0 where
  in_guard : {e : ℕ} {g g' : Expression} {a : Instruction} → OperandsExchanged g g'
      → TransitionExchanged (record { event = e; guard = g; action = a }) (record { event = e; guard = g'; action = a })
  in_action : {e : ℕ} {g : Expression} {a a' : Instruction} → Exchanged a a'
      → TransitionExchanged (record { event = e; guard = g; action = a }) (record { event = e; guard = g; action = a' })

-- one exchange in one of the transitions
pub data OneExchanged : List Transition → List Transition → Type 0 where
  in_first : {t t' : Transition} {ts : List Transition} → TransitionExchanged t t' → OneExchanged (t ∷ ts) (t' ∷ ts)
  in_later : {t : Transition} {ts ts' : List Transition} → OneExchanged ts ts' → OneExchanged (t ∷ ts) (t ∷ ts')

-- one exchange in a model
pub data SystemExchanged : System → System → Type 0 where
  in_transitions : {ss fs : List Variable} {e : ℕ} {ts ts' : List Transition} {a : Instruction} → OneExchanged ts ts'
      → SystemExchanged
      (record { states = ss; flows = fs; events = e; transitions = ts; assertion = a })
      (record { states = ss; flows = fs; events = e; transitions = ts'; assertion = a })
  in_assertion : {ss fs : List Variable} {e : ℕ} {ts : List Transition} {a a' : Instruction} → Exchanged a a'
      → SystemExchanged
      (record { states = ss; flows = fs; events = e; transitions = ts; assertion = a })
      (record { states = ss; flows = fs; events = e; transitions = ts; assertion = a' })

-- any number of exchanges, none included
pub data Shuffled : System → System → Type 0 where
  same : {t : System} → Shuffled t t
  step : {t t' t'' : System} → SystemExchanged t t' → Shuffled t' t'' → Shuffled t t''
