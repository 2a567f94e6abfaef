-- What each level returns: the reading of its words, part by part.
use mathlib.Core.Path.{◌≡◌, refl, sym, ◌∙◌}
use mathlib.Core.Bool.{true}
use Prim.Native.Nat.{suc}
use native.Mathlib.Nat.{le_refl}
use native.Mathlib.Omega.{arith}
use lib.Dec.{lit≤}
use lib.ListN.{length}
use Rattle.grammar.specs.Phrases.{is_chained}
use Rattle.grammar.specs.Phrases.Phrase.{enclosed, operation, call as callPhrase, conditional as conditionalPhrase}
use Rattle.grammar.specs.Reading.{and_then, is_next, after_next, arguments_by, call_by, prefix_by, related_by, whole_by}
use Rattle.grammar.proofs.Ordinals.{held_relation}
use Rattle.composition.specs.Parts.{written}
use Rattle.parser.specs.Levels.{operand_level}
use Rattle.parser.proofs.Steps.{next_word}
use Rattle.parser.proofs.Grouping.{readings, chained_ordinal, operand_low, chain_end, chain_other}
use Rattle.parser.proofs.Places.{further, handed_read, place_next, two_stand, three_stand, enclosed_stands, stands_earlier}
use Rattle.parser.proofs.Loops.{grouped_ends, grouped_refused, grouped_again}
use Rattle.parser.proofs.Forms.{reached_as, composed_read}
use Rattle.parser.proofs.source.Source.+reading.Goals as goal

-- ---- arguments of a call

pub arguments-returns : goal.arguments-returns
unfolding and_then is_next after_next arguments_by
arguments-returns t c =
    let source = c.args.self.now in
    let opening = c.in_ok-opened.ensures in
    let first = c.in_ok-first.ensures in
    let comma = c.in_ok-comma.ensures in
    let second = c.in_ok-second.ensures in
    let closing = c.in_ok-closed.ensures in
    let one = handed_read source (place_next source c.requires opening.after opening.within) first.stands in
    let phrase = callPhrase c.args.function first.phrase second.phrase in
    let made = c.called.ensures in
    composed_read source phrase (grind arith) made.composed.ends
    (two_stand source one comma.after comma.within second.stands phrase (omega (arith, closing.after)) closing.within
    (stands_earlier source (omega (arith, opening.after)) first.stands) made.composed
    (made.holds source.sorts.now first.phrase second.phrase (written c.args.nodes.now) c.whole.new.nodes first.stands.holds second.stands.holds))

-- ---- single words, parentheses, calls

pub call-returns-in_ok-next-in-Open : goal.call-returns-in_ok-next-in-Open
unfolding and_then is_next after_next call_by
call-returns-in_ok-next-in-Open t c =
    let source = c.args.self.now in
    let part = c.in_ok-part-in-Open.ensures in
    let closing = c.in_ok-next-in-Open.ensures in
    rw c.enclosed.ensures
    (composed_read source (enclosed part.phrase) (grind (arith, readings)) refl
    (enclosed_stands source (stands_earlier source (omega (arith, c.in_ok-word.ensures.after)) part.stands) closing.after closing.within))

-- ---- operators that group from the left

pub chain-returns : goal.chain-returns
chain-returns t c =
    let source = c.args.self.now in
    let below = operand_level c.args.level in
    grouped_ends below source c.args.nodes.now c.args.first c.loop-word.invariant
    (λ q. chain_end source.text.now c.loop-word.left.next below q c.in_default.ensures)

pub chain-returns-then-not-groups : goal.chain-returns-then-not-groups
chain-returns-then-not-groups t c =
    let source = c.args.self.now in
    let below = operand_level c.args.level in
    grouped_ends below source c.args.nodes.now c.args.first c.loop-word.invariant
    (λ q. chain_other source.text.now c.loop-word.left.next below q c.in-Some.ensures (sym c.groups.ensures ∙ c.if-not-groups.true))

pub chain-returns-in_err-right : goal.chain-returns-in_err-right
chain-returns-in_err-right t c =
    let source = c.args.self.now in
    let level = c.args.level in
    let token = c.in-Some.word.token in
    let groups : is_chained (suc (operand_level level)) token ≡ true = sym c.groups.ensures ∙ c.if-not-groups.false in
    let next = next_word source.text.now c.in-Some.ensures (chained_ordinal level token groups) in
    λ at before p s. rw c.from_residual.ensures
    (grouped_refused (operand_level level) source c.args.nodes.now c.args.first c.loop-word.invariant token c.in-Some.word.next (operand_low level) next groups
    c.in_err-right.ensures at before p s)

pub chain-loop-word-preserved : goal.chain-loop-word-preserved
chain-loop-word-preserved t c =
    let source = c.args.self.now in
    let level = c.args.level in
    let token = c.in-Some.word.token in
    let groups : is_chained (suc (operand_level level)) token ≡ true = sym c.groups.ensures ∙ c.if-not-groups.false in
    let next = next_word source.text.now c.in-Some.ensures (chained_ordinal level token groups) in
    grouped_again (operand_level level) source c.args.nodes.now c.args.first c.loop-word.invariant token c.in-Some.word.next (operand_low level) next groups
    c.in_ok-right.ensures c.operated-left.ensures.composed c.operated-left.ensures.holds

-- ---- signs

-- no sign: a sum
pub signed-returns-in_err-term : goal.signed-returns-in_err-term
unfolding and_then prefix_by
signed-returns-in_err-term t c =
    let term = c.in_err-term.ensures _ _ _ c.in_ok-factor.ensures.stands in
    grind (arith, readings)

pub signed-sum-requires : goal.signed-sum-requires
signed-sum-requires t c =
    let source = c.args.self.now in
    let term = c.in_ok-term.ensures _ _ _ c.in_ok-factor.ensures.stands in (
      further (length source.text.now) c.args.at c.in_ok-term.term.next 3 3 t c.decreases term.stands.after term.stands.within (lit≤ tt),
      handed_read source c.requires term.stands,
    )

pub signed-returns : goal.signed-returns
unfolding and_then prefix_by
signed-returns t c =
    let term = c.in_ok-term.ensures _ _ _ c.in_ok-factor.ensures.stands in
    reached_as c.args.self.now _ _ c.sum.result (grind (arith, readings)) (le_refl c.args.at) (c.sum.ensures _ _ _ term.stands)

-- ---- relations

pub relation-returns-then-not-is_relation : goal.relation-returns-then-not-is_relation
unfolding related_by
relation-returns-then-not-is_relation t c = λ at before p s.
    record { phrase = p; reads = grind (arith, held_relation); stands = s }

pub relation-returns : goal.relation-returns
unfolding and_then related_by
relation-returns t c = λ at before p s.
    let source = c.args.self.now in
    let next = c.in-Some.ensures in
    let right = c.in_ok-right.ensures in
    let phrase = operation c.in-Some.word.token p right.phrase in
    let made = c.operated.ensures in
    composed_read source phrase (grind (arith, readings)) made.composed.ends
    (two_stand source c.requires next.after next.within right.stands phrase (le_refl c.in_ok-right.right.next) right.stands.within s made.composed
    (made.holds source.sorts.now p right.phrase before c.args.nodes.now s.holds right.stands.holds))

-- ---- the whole

pub whole-returns-in_err-first : goal.whole-returns-in_err-first
unfolding and_then is_next whole_by
whole-returns-in_err-first t c =
    let first = c.in_err-first.ensures _ _ _ c.in_ok-operand.ensures.stands in
    grind (arith, readings)

pub whole-disjunction-requires : goal.whole-disjunction-requires
whole-disjunction-requires t c =
    let source = c.args.self.now in
    let first = c.in_ok-first.ensures _ _ _ c.in_ok-operand.ensures.stands in (
      further (length source.text.now) c.args.at c.in_ok-first.first.next 8 8 t c.decreases first.stands.after first.stands.within (lit≤ tt),
      handed_read source c.requires first.stands,
    )

pub whole-returns : goal.whole-returns
unfolding and_then is_next whole_by
whole-returns t c =
    let first = c.in_ok-first.ensures _ _ _ c.in_ok-operand.ensures.stands in
    reached_as c.args.self.now _ _ c.disjunction.result (grind (arith, readings)) (le_refl c.args.at)
    (c.disjunction.ensures _ _ _ first.stands)

-- ---- if-then-else

pub conditional-returns : goal.conditional-returns
unfolding and_then is_next after_next
conditional-returns t c =
    let source = c.args.self.now in
    let condition = c.in_ok-condition.ensures in
    let then = c.in_ok-then.ensures in
    let first = c.in_ok-first.ensures in
    let otherwise = c.in_ok-otherwise.ensures in
    let second = c.in_ok-second.ensures in
    let one = handed_read source c.requires condition.stands in
    let phrase = conditionalPhrase condition.phrase first.phrase second.phrase in
    let made = c.chosen.ensures in
    composed_read source phrase (grind arith) made.composed.ends
    (three_stand source one then.after then.within first.stands otherwise.after otherwise.within second.stands
    phrase condition.stands made.composed
    (made.holds source.sorts.now condition.phrase first.phrase second.phrase (written c.args.nodes.now) c.whole.new.nodes c.whole-2.new.nodes
    condition.stands.holds first.stands.holds second.stands.holds))
