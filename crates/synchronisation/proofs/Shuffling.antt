-- SynchronisedShuffled.
use mathlib.Core.Path.{◌≡◌, refl, sym, ap, ◌∙◌, subst, subst₂}
use mathlib.Core.Bool.{cond, ◌&&◌}
use mathlib.Core.List.{List, [], ◌∷◌, ◌++◌}
use mathlib.Core.Option.{Option, some, none}
use Prim.Native.Nat.{ℕ, ◌+◌, ◌*◌}
use lib.ListN.{length}
use Rattle.model.specs.Sizes.{file_layout, header_of, node_width}
use Rattle.model.specs.Trees.{Expression, Instruction, Transition, System, depth_of_expression, depth_of}
use Rattle.model.specs.Nodes.{nodes_of_system}
use Rattle.model.specs.Check.{verdict}
use Rattle.model.specs.WellFormed.{encode, encode_in, sizes_of}
use Rattle.model.specs.Shuffle.{OperandsExchanged, Exchanged, TransitionExchanged, OneExchanged, SystemExchanged, Shuffled}
use Rattle.model.specs.Shuffle.OneExchanged.{in_first, in_later}
use Rattle.model.specs.Shuffle.SystemExchanged.{in_transitions, in_assertion}
use Rattle.model.specs.Shuffle.Shuffled.{same, step}
use Rattle.model.specs.Theorems.{Bytes, ShuffledFile}
use Rattle.model.proofs.Encoding.{file, file_length}
use Rattle.model.proofs.Shuffling.{operands_depth, exchanged_depth, shuffled_sizes, shuffled_accepted}
use Rattle.std.proofs.Common.{Ok, Err}
use Rattle.results.specs.declared.refusal.Refusal.TheVariants.{NoMembers, LimitPassed}
use Rattle.synchronisation.specs.Synchronisations.{together, extended_by, synchronised_of, fits, is_empty}
use Rattle.synchronisation.specs.Synchronisations.{extended_into, joined_into, synchronised_in, synchronised_by}
use Rattle.synchronisation.specs.Theorems.{SynchronisedFile, SynchronisedShuffled}
use Rattle.synchronisation.proofs.Written.{passes_limit, written}
use Rattle.synchronisation.proofs.Answers.{cells_stay, refused_leaves_cells, answer_by}
use Rattle.synchronisation.proofs.Accepted.{synchronised_accepted}
use Rattle.synchronisation.proofs.Exchanges.{Several, Alike, alike_same, alike_join, one_alike, Matched, members_alike}
use Rattle.synchronisation.proofs.Exchanges.{guards, actions, together_alike}
use Rattle.synchronisation.proofs.Exchanges.Several.{done, next}

-- ---- the new model of a shuffled one

-- one exchange in a model leaves its transitions alike
system_alike : {t t' : System} → SystemExchanged t t' → Alike t.transitions t'.transitions
system_alike (in_transitions x) = one_alike x
system_alike (in_assertion {ts = ts} x) = alike_same ts

-- the transitions of a shuffled model are alike
transitions_alike : {t t' : System} → Shuffled t t' → Alike t.transitions t'.transitions
transitions_alike (same {t = t}) = alike_same t.transitions
transitions_alike (step x r) = alike_join (system_alike x) (transitions_alike r)

-- an exchange in a list is one in a longer list
one_before : {ts ts' : List Transition} (us : List Transition) → OneExchanged ts ts' → OneExchanged (ts ++ us) (ts' ++ us)
one_before us (in_first x) = in_first x
one_before us (in_later x) = in_later (one_before us x)

-- and so is one in its last transition
one_after : (ts : List Transition) {u u' : Transition} → TransitionExchanged u u' → OneExchanged (ts ++ (u ∷ [])) (ts ++ (u' ∷ []))
one_after [] x = in_first x
one_after (t ∷ ts) x = in_later (one_after ts x)

-- an exchange in a model is one in the model with one transition more
extended_exchange : (u : Transition) {t t' : System} → SystemExchanged t t' → SystemExchanged (extended_by t u) (extended_by t' u)
extended_exchange u (in_transitions x) = in_transitions (one_before (u ∷ []) x)
extended_exchange u (in_assertion x) = in_assertion x

-- first the exchanges of the model, then those of the new transition
extended_shuffled : {t t' : System} {u u' : Transition} → Shuffled t t' → Several TransitionExchanged u u'
    → Shuffled (extended_by t u) (extended_by t' u')
extended_shuffled same done = same
extended_shuffled (same {t = t}) (next x r) = step (in_transitions (one_after t.transitions x)) (extended_shuffled (same {t = t}) r)
extended_shuffled {u = u} (step x r) s = step (extended_exchange u x) (extended_shuffled r s)

module _ {t t' : System} (h : Shuffled t t') where
  -- a shuffled model has the same events
  same_events : t.events ≡ t'.events
  same_events = ap (λ s. s.events) (shuffled_sizes h)

  module _ {ts ts' os os' : List Transition} (r : Alike ts ts') (s : Alike os os') where
    -- the new transitions are alike
    new_alike : Several TransitionExchanged (together t.events ts os) (together t'.events ts' os')
    new_alike =
        subst (λ e. Several TransitionExchanged (together t.events ts os) (together e ts' os')) same_events (together_alike t.events r s)

    -- the new model of a shuffled one is a shuffled one
    new_shuffled : Shuffled (synchronised_of t ts os) (synchronised_of t' ts' os')
    new_shuffled = extended_shuffled h new_alike

-- ---- the same answer

-- exchanges keep the depth of an expression
several_depth : {e e' : Expression} → Several OperandsExchanged e e' → depth_of_expression e ≡ depth_of_expression e'
several_depth done = refl
several_depth (next x r) = operands_depth x ∙ several_depth r

-- and of an instruction
several_depth_of : {i i' : Instruction} → Several Exchanged i i' → depth_of i ≡ depth_of i'
several_depth_of done = refl
several_depth_of (next x r) = exchanged_depth x ∙ several_depth_of r

module _ {t t' : System} {u u' : Transition} (h : Shuffled t t') (x : Several TransitionExchanged u u') where
  -- the new models have the same number of nodes
  same_nodes : length (nodes_of_system (extended_by t u)) ≡ length (nodes_of_system (extended_by t' u'))
  same_nodes = ap (λ s. s.nodes) (shuffled_sizes (extended_shuffled h x))

  -- they keep the same limits
  same_fits : fits t u ≡ fits t' u'
  unfolding fits
  same_fits =
      rw (same_nodes, same_events h, ap (λ s. s.transitions) (shuffled_sizes h), several_depth (guards x), several_depth_of (actions x))

  -- their files have the same length
  same_length : length (encode (extended_by t u)) ≡ length (encode (extended_by t' u'))
  unfolding encode_in file
  same_length =
      file_length file_layout (sizes_of (extended_by t u)) (nodes_of_system (extended_by t u))
      ∙ ap (λ n. header_of file_layout + node_width * n) same_nodes ∙ sym (file_length file_layout (sizes_of (extended_by t' u')) (nodes_of_system (extended_by t' u')))

  -- so the answer is the same
  extended_answer : (old : List ℕ) → (extended_into t u old).answer ≡ (extended_into t' u' old).answer
  unfolding extended_into
  extended_answer old =
      let new = length (encode (extended_by t u)) in
      let new' = length (encode (extended_by t' u')) in
      let same : cond (passes_limit t u old) (Err LimitPassed) (Ok new) ≡ cond (passes_limit t' u' old) (Err LimitPassed) (Ok new') =
      rw (same_fits, same_length) in
      answer_by (passes_limit t u old) _ _ ∙ same ∙ sym (answer_by (passes_limit t' u' old) _ _)

-- 11 for the same members, then the same answer
joined_answer : {t t' : System} → Shuffled t t' → (ts ts' os os' : Option (List Transition)) → Matched Alike ts ts' → Matched Alike os os'
    → (old : List ℕ) → (joined_into t ts os old).answer ≡ (joined_into t' ts' os' old).answer
unfolding joined_into Matched
joined_answer h none none os os' r s old = refl
joined_answer h none (some ts') os os' r s old = absurd r
joined_answer h (some ts) none os os' r s old = absurd r
joined_answer h (some ts) (some ts') none none r s old = refl
joined_answer h (some ts) (some ts') none (some os') r s old = absurd s
joined_answer h (some ts) (some ts') (some os) none r s old = absurd s
joined_answer h (some ts) (some ts') (some os) (some os') r s old = extended_answer h (new_alike h r s) old

-- 35 for the same lists, then the same answer
same_answer : {t t' : System} → Shuffled t t' → (ms os old : List ℕ) → (synchronised_in t ms os old).answer ≡ (synchronised_in t' ms os old).answer
same_answer h ms os old =
    let r = transitions_alike h in
    answer_by (is_empty ms && is_empty os) _ _
    ∙ ap (cond (is_empty ms && is_empty os) (Err NoMembers)) (joined_answer h _ _ _ _ (members_alike r ms) (members_alike r os) old)
    ∙ sym (answer_by (is_empty ms && is_empty os) _ _)

-- ---- the files written

module _ {m m₁ ms os n n₁ : List ℕ} (b : Bytes m) (f : ShuffledFile m m₁) (g : SynchronisedFile m ms os n) (g₁ : SynchronisedFile m₁ ms os n₁) where
  -- the models that the files were written from
  before_shuffled : Shuffled g.before g₁.before
  before_shuffled =
      let read = f.read in
      let read₁ = shuffled_accepted m m₁ b f in
      let p : f.before ≡ g.before = cc g.read in
      let q : f.after ≡ g₁.before = cc g₁.read in
      subst₂ Shuffled p q f.shuffled

  -- the file of a shuffled model is that of a shuffled one
  files_shuffled : ShuffledFile n n₁
  unfolding Matched
  files_shuffled =
      let r = transitions_alike before_shuffled in
      record {
        sizes = sizes_of (synchronised_of g.before g.mandatory g.optional);
        before = synchronised_of g.before g.mandatory g.optional;
        after = synchronised_of g₁.before g₁.mandatory g₁.optional;
        read = synchronised_accepted m ms os n b g;
        shuffled =
            new_shuffled before_shuffled
            (subst₂ (Matched Alike) g.mandatory_found g₁.mandatory_found (members_alike r ms))
            (subst₂ (Matched Alike) g.optional_found g₁.optional_found (members_alike r os));
        written = g₁.written;
      }

pub synchronised_shuffled : SynchronisedShuffled
unfolding synchronised_by
synchronised_shuffled m m₁ b f ms os old =
    let e : (synchronised_by (verdict m) ms os old).answer ≡ (synchronised_by (verdict m₁) ms os old).answer =
    rw (f.read, shuffled_accepted m m₁ b f) (same_answer f.shuffled ms os old) in
    record {
      answer = e;
      files = λ n q. files_shuffled b f (written m ms os old n q) (written m₁ ms os old n (sym e ∙ q));
      rest = λ n q. (cells_stay (verdict m) ms os old n q).1 ∙ sym (cells_stay (verdict m₁) ms os old n (sym e ∙ q)).1;
      kept = λ n q. refused_leaves_cells (verdict m) ms os old n q ∙ sym (refused_leaves_cells (verdict m₁) ms os old n (sym e ∙ q));
    }
