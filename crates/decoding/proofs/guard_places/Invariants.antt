-- `guard_places` meets its contract: the transitions that are left stand from the present place on.
use Rattle.decoding.proofs.StoredGuards.{GuardsStored}
use Rattle.decoding.proofs.guard_places.Given as goal

abbrev pub invariant-loop-guard : goal.invariant-loop-guard
invariant-loop-guard l = GuardsStored l.nexts l.from l.guard-index l.at l.guard-items l.initial.guard-items
