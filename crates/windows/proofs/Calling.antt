-- What the check of the question answers, and what it finds: an accepted model and both expressions, over which the report is.
use mathlib.Core.Path.{◌≡◌, refl, sym, ap, ◌∙◌}
use mathlib.Core.List.{List}
use Prim.Native.Nat.{ℕ, ◌+◌}
use borrow.Author.Tests.{clash}
use lib.IntN.{ℤ}
use lib.ListN.{take}
use Rattle.std.specs.Prelude.{Some, Result, Ok, Err}
use Rattle.results.specs.Results.{answered}
use Rattle.results.specs.declared.refusal.Refusal.{Refusal}
use Rattle.kinds.specs.declared.Sort.{Sort}
use Rattle.kinds.specs.declared.Sort.TheVariants.{Boolean, Number}
use Rattle.model.specs.declared.Sizes.{Sizes}
use Rattle.model.specs.Trees.{Expression, System, variables}
use Rattle.model.specs.Walk.{Walk}
use Rattle.model.specs.Walk.Walk.{refused, found}
use Rattle.model.specs.Check.{Verdict, verdict, answer_of, expression_given, given_answer}
use Rattle.model.specs.Check.Verdict.{refusal, accepted}
use Rattle.model.proofs.Standing.{given_stands}
use Rattle.decoding.specs.Decoding.{sorts_after}
use Rattle.decoding.specs.Outside.{Handed, handed_in, on_found}
use Rattle.decoding.proofs.VariablesInUse.{SortsInUse, sorts_refused}
use Rattle.windows.specs.declared.Question.{Question}
use Rattle.windows.specs.Reports.{given_over, reported_over, reported_in}
use Rattle.windows.specs.Lent.{Asked, sizes_with, checked_question}

-- ---- the check of the question

module _ (m : List ℕ) (left : List Sort) (condition number : Handed) where
  -- the model's refusal comes first
  pub model_refused : (old : List Sort) (r : Result Sizes Refusal) (n : Refusal) → answered r left ≡ sorts_after (verdict m) old → r ≡ Err n
      → Err n ≡ checked_question (verdict m) condition number
  unfolding checked_question
  model_refused old r n e h = ap (λ v. checked_question v condition number) (sym (sorts_refused old left r n (verdict m) e h))

  module _ (s : Sizes) (used : SortsInUse m s left) where
    -- the check of an expression over the sorts that were decoded
    abbrev pub checked_over : Handed → Sort → Result (Unit {0}) Refusal
    checked_over h wanted = given_answer (expression_given h.kinds h.parameters (take (s.states + s.flows) left) (Some wanted))

    -- the answers of both, over the sorts that were decoded as over those of the model
    both_checked : sizes_with s (checked_over condition Boolean) (checked_over number Number) ≡ checked_question (verdict m) condition number
    unfolding checked_question
    both_checked =
        ap (λ (sorts : List Sort). sizes_with s (given_answer (expression_given condition.kinds condition.parameters sorts (Some Boolean)))
        (given_answer (expression_given number.kinds number.parameters sorts (Some Number)))) used.decoded
        ∙ ap (λ v. checked_question v condition number) (sym used.checked)

    pub condition_refused : (n : Refusal) → checked_over condition Boolean ≡ Err n → Err n ≡ checked_question (verdict m) condition number
    unfolding sizes_with
    condition_refused n e = rw e at both_checked

    module _ (u : Unit {0}) (first : checked_over condition Boolean ≡ Ok u) where
      pub number_refused : (n : Refusal) → checked_over number Number ≡ Err n → Err n ≡ checked_question (verdict m) condition number
      unfolding sizes_with
      number_refused n e = rw (first, e) at both_checked

      pub question_checked : (v : Unit {0}) → checked_over number Number ≡ Ok v → Ok s ≡ checked_question (verdict m) condition number
      unfolding sizes_with
      question_checked v e = rw (first, e) at both_checked

-- ---- what the check of the question finds

-- an accepted model of these sizes, and both expressions
pub record Posed (v : Verdict) (s : Sizes) (condition number : Handed) : Type 0 where
  pub system : System
  pub checked : v ≡ accepted s system
  pub truth : Expression
  pub value : Expression
  pub after_truth : ℕ
  pub after_value : ℕ
  pub truth_found : given_over (variables system) condition Boolean ≡ found truth after_truth
  pub value_found : given_over (variables system) number Number ≡ found value after_value

module _ (condition number : Handed) where
  -- sizes are answered where all three were found
  posed : (v : Verdict) (s : Sizes) → checked_question v condition number ≡ Ok s → Posed v s condition number
  unfolding checked_question sizes_with given_answer
  posed (refusal r) s e = absurd (clash cc)
  posed (accepted p t) s e = go (given_over (variables t) condition Boolean) (given_over (variables t) number Number) refl refl e
    where
      go : (f g : Walk Expression) → given_over (variables t) condition Boolean ≡ f → given_over (variables t) number Number ≡ g
          → sizes_with p (given_answer f) (given_answer g) ≡ Ok s → Posed (accepted p t) s condition number
      go (refused r) g h k e = absurd (clash cc)
      go (found b next) (refused r) h k e = absurd (clash cc)
      go (found b next) (found x last) h k e =
          let same : p ≡ s = cc in
          record {
            system = t;
            checked = ap (λ s. accepted s t) same;
            truth = b;
            value = x;
            after_truth = next;
            after_value = last;
            truth_found = h;
            value_found = k;
          }

  module _ (w : ℕ) (log old : List ℤ) where
    -- a refusal is that of the report
    pub not_posed : (v : Verdict) (n : Refusal) → checked_question v condition number ≡ Err n → answered (Err n) old ≡ reported_in v condition number w log old
    unfolding checked_question sizes_with given_answer reported_in on_found
    not_posed (refusal r) n e = let z : r ≡ n = cc in ap (λ r. answered (Err r) old) (sym z)
    not_posed (accepted p t) n e = go (given_over (variables t) condition Boolean) (given_over (variables t) number Number) e
      where
        go : (f g : Walk Expression) → sizes_with p (given_answer f) (given_answer g) ≡ Err n
            → answered (Err n) old ≡ on_found f old (λ b. on_found g old (λ x. reported_over (variables t) b x w log old))
        go (refused r) g e = let z : r ≡ n = cc in ap (λ r. answered (Err r) old) (sym z)
        go (found b next) (refused r) e = let z : r ≡ n = cc in ap (λ r. answered (Err r) old) (sym z)
        go (found b next) (found x last) e = absurd (clash cc)

    -- over what was found the report is that of the call
    report_posed : (v : Verdict) (s : Sizes) (p : Posed v s condition number)
        → reported_over (variables p.system) p.truth p.value w log old ≡ reported_in v condition number w log old
    unfolding reported_in on_found
    report_posed v s p = rw (p.checked, p.truth_found, p.value_found)

-- what the call asks and answers once the check has found these sizes
module _ (m : List ℕ) (s : Sizes) (q : Question) (checked : checked_question (verdict m) (handed_in q.condition) (handed_in q.number) ≡ Ok s) where
  abbrev whats_posed : Posed (verdict m) s (handed_in q.condition) (handed_in q.number)
  whats_posed = posed (handed_in q.condition) (handed_in q.number) (verdict m) s checked

  pub question_accepted : answer_of (verdict m) ≡ Ok s
  unfolding answer_of
  question_accepted = rw whats_posed.checked

  -- both expressions stand in the trees that are lent
  pub question_asked : Asked q
  question_asked =
      let p = whats_posed in
      record {
        condition = p.truth;
        number = p.value;
        condition_stands = given_stands q.condition.kinds.now q.condition.parameters.now _ (Some Boolean) p.truth_found;
        number_stands = given_stands q.number.kinds.now q.number.parameters.now _ (Some Number) p.value_found;
      }

  -- what is answered over every model and every two expressions is answered over these
  pub question_reported : (old : List ℤ) (answer : Result ℕ Refusal) (new : List ℤ)
      → ((a : Asked q) (t : System) → verdict m ≡ accepted s t → answered answer new ≡ reported_over (variables t) a.condition a.number q.window q.log.now old)
      → answered answer new ≡ reported_in (verdict m) (handed_in q.condition) (handed_in q.number) q.window q.log.now old
  unfolding question_asked
  question_reported old answer new f =
      let p = whats_posed in
      f question_asked p.system p.checked ∙ report_posed (handed_in q.condition) (handed_in q.number) q.window q.log.now old (verdict m) s p
