-- The cycle of the levels. What falls is nine times the unread bytes of the text, and the level.
use Prim.Native.Nat.{◌+◌, ◌*◌, ◌-◌, suc}
use lib.ListN.{length}
use Rattle.parser.specs.Levels.{operand_level}
use Rattle.parser.proofs.Loops.{Grouped}
use Rattle.parser.proofs.source.Source.+reading.Given as goal

abbrev pub decreases-arguments : goal.decreases-arguments
decreases-arguments l = 9 * (length l.self.now.text.now - l.at) + 8

abbrev pub decreases-call : goal.decreases-call
decreases-call l = 9 * (length l.self.now.text.now - l.at) + 0

abbrev pub decreases-chain : goal.decreases-chain
decreases-chain l = 9 * (length l.self.now.text.now - l.first.next) + suc (operand_level l.level)

abbrev pub decreases-conditional : goal.decreases-conditional
decreases-conditional l = 9 * (length l.self.now.text.now - l.at) + 9

abbrev pub decreases-negation : goal.decreases-negation
decreases-negation l = 9 * (length l.self.now.text.now - l.at) + 5

abbrev pub decreases-operand : goal.decreases-operand
decreases-operand l = 9 * (length l.self.now.text.now - l.at) + 6

abbrev pub decreases-relation : goal.decreases-relation
decreases-relation l = 9 * (length l.self.now.text.now - l.first.next) + 4

abbrev pub decreases-signed : goal.decreases-signed
decreases-signed l = 9 * (length l.self.now.text.now - l.at) + 3

abbrev pub decreases-whole : goal.decreases-whole
decreases-whole l = 9 * (length l.self.now.text.now - l.at) + 8

abbrev pub invariant-chain-loop-word : goal.invariant-chain-loop-word
invariant-chain-loop-word l = Grouped (operand_level l.level) l.self l.initial.nodes l.initial.left l.nodes l.left

abbrev pub decreases-chain-loop-word : goal.decreases-chain-loop-word
decreases-chain-loop-word l = length l.self.text.now - l.left.next

abbrev pub decreases-product : goal.decreases-product
decreases-product l = 9 * (length l.self.now.text.now - l.first.next) + 2

abbrev pub decreases-sum : goal.decreases-sum
decreases-sum l = 9 * (length l.self.now.text.now - l.first.next) + 3

abbrev pub decreases-conjunction : goal.decreases-conjunction
decreases-conjunction l = 9 * (length l.self.now.text.now - l.first.next) + 7

abbrev pub decreases-disjunction : goal.decreases-disjunction
decreases-disjunction l = 9 * (length l.self.now.text.now - l.first.next) + 8
