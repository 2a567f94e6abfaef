-- `dispatch` meets its contract: the tests, the move on a copy, and what is stored of it.
use mathlib.Core.Path.{◌≡◌, sym, ap, ◌∙◌}
use mathlib.Core.Option.{none}
use Prim.Native.Nat.{◌≤◌}
use native.Mathlib.Omega.{arith}
use lib.IntN.{pos}
use Rattle.scratch.specs.Blank.{unknown_cell}
use lib.ListN.{length, take}
use lib.Seq.{length-take-le}
use Rattle.engine.specs.Lent.{LoadedIn}
use Rattle.engine.proofs.Counts.{meaning, rows_count, guards_count}
use Rattle.engine.proofs.Accepted.{loaded_in}
use Rattle.standing.specs.Runs.{Run, run_in, moving_run}
use Rattle.replaying.specs.Moves.{moved}
use Rattle.replaying.proofs.Slices.{meaning_complete}
use Rattle.steps.specs.Answers.{seen_as, told_by}
use Rattle.steps.specs.Lent.{refused_before, tested}
use Rattle.steps.proofs.Declarations.{loaded_declares}
use Rattle.steps.proofs.StepTests.{step_refused, passed_enough, passed_room, passed_entries, dispatched}
use Rattle.std.proofs.lemmas.Result.{err_from_is_err_and}
use Rattle.moving.proofs.Parts.{part_blank, part_length}
use Rattle.moving.proofs.dispatch.Goals as goal

pub returns-in_err-test-clause-moved : goal.returns-in_err-test-clause-moved
unfolding tested
returns-in_err-test-clause-moved g c =
    let lent : Run = moving_run c.args.run.now in
    let p = err_from_is_err_and c.from_residual.result c.from_residual.ensures.1 in
    λ d.
    rw (p.1, p.2) (step_refused (meaning d) lent c.args.step _
    (sym (ap tested c.in_err-test.was) ∙ c.test.ensures (meaning d) (loaded_declares c.args.loaded.now.decoded.tables d c.from.ensures) ∙ ap (refused_before (meaning d) c.args.step) c.shared-lent.ensures))

pub slice_bounds-copy-end : goal.slice_bounds-copy-end
slice_bounds-copy-end g c = sym (part_length (pos 0) _ g.row.VARIABLES c.requires.for_variables)

pub slice_bounds-copy-end-2 : goal.slice_bounds-copy-end-2
unfolding tested
slice_bounds-copy-end-2 g c =
    let lent : Run = run_in c.shared-lent.result in
    let d = loaded_in c.args.loaded.now.decoded in
    let passed : none ≡ refused_before (meaning d) c.args.step lent = sym (ap tested c.in_ok-test.was) ∙ c.test.ensures (meaning d) (loaded_declares c.args.loaded.now.decoded.tables d c.from.ensures) in
    sym (length-take-le _ lent.values (omega (arith, rows_count d, passed_enough (meaning d) lent c.args.step passed)))

pub copy-requires : goal.copy-requires
unfolding tested
copy-requires g c =
    let lent : Run = run_in c.shared-lent.result in
    let d = loaded_in c.args.loaded.now.decoded in
    let passed : none ≡ refused_before (meaning d) c.args.step lent = sym (ap tested c.in_ok-test.was) ∙ c.test.ensures (meaning d) (loaded_declares c.args.loaded.now.decoded.tables d c.from.ensures) in
    part_length (pos 0) _ g.row.VARIABLES c.requires.for_variables ∙ sym (length-take-le _ lent.values (omega (arith, rows_count d, passed_enough (meaning d) lent c.args.step passed)))

pub replay_within-firing-requires : goal.replay_within-firing-requires
unfolding tested
replay_within-firing-requires g c =
    let lent : Run = run_in c.shared-lent.result in
    let d = loaded_in c.args.loaded.now.decoded in
    let passed : none ≡ refused_before (meaning d) c.args.step lent = sym (ap tested c.in_ok-test.was) ∙ c.test.ensures (meaning d) (loaded_declares c.args.loaded.now.decoded.tables d c.from.ensures) in
    (c.requires, part_blank unknown_cell _ g.row.VARIABLES c.requires.for_variables, passed_entries (meaning d) lent c.args.step passed)

pub conclude-requires : goal.conclude-requires
unfolding tested
conclude-requires g c =
    let lent : Run = moving_run c.args.run.now in
    let d = loaded_in c.args.loaded.now.decoded in
    let passed : none ≡ refused_before (meaning d) c.args.step lent =
    sym (ap tested c.in_ok-test.was) ∙ c.test.ensures (meaning d) (loaded_declares c.args.loaded.now.decoded.tables d c.from.ensures) ∙ ap (refused_before (meaning d) c.args.step) c.shared-lent.ensures in
    let moves = c.replay_within-firing in (
      moves.auto.values ∙ c.copy.auto.cells ∙ part_length (pos 0) _ g.row.VARIABLES c.requires.for_variables,
      omega (arith, rows_count d, passed_enough (meaning d) lent c.args.step passed),
      omega (arith, guards_count d, passed_room (meaning d) lent c.args.step passed),
      moves.ensures.blank ∙ part_blank unknown_cell _ g.row.VARIABLES c.requires.for_variables,
    )

pub returns-clause-moved : goal.returns-clause-moved
unfolding tested
returns-clause-moved g c =
    let lent : Run = moving_run c.args.run.now in
    let rows = c.args.loaded.now.decoded.tables.variables.now in
    let passed : (d : LoadedIn c.args.loaded.now.decoded.tables) → none ≡ refused_before (meaning d) c.args.step lent =
    λ d. sym (ap tested c.in_ok-test.was) ∙ c.test.ensures (meaning d) (loaded_declares c.args.loaded.now.decoded.tables d c.from.ensures) ∙ ap (refused_before (meaning d) c.args.step) c.shared-lent.ensures in
    let d₀ = loaded_in c.args.loaded.now.decoded in
    let enough : length rows ≤ length lent.values = omega (arith, rows_count d₀, passed_enough (meaning d₀) lent c.args.step (passed d₀)) in
    let moves = c.replay_within-firing in
    let stored = c.copy in
    let part = part_length (pos 0) (length rows) g.row.VARIABLES c.requires.for_variables in
    let size : length moves.new.values ≡ length rows = moves.auto.values ∙ stored.auto.cells ∙ part in
    let copied : stored.new.cells ≡ take (length rows) lent.values =
    stored.ensures ∙ ap (λ (r : Run). take (length rows) r.values) c.shared-lent.ensures in
    λ d.
    dispatched (meaning d) lent c.args.step (passed d) (meaning_complete d) moves.result moves.new.values (size ∙ rows_count d)
    (moves.ensures.moved d ∙ ap (λ (r : Run). moved (meaning d) c.args.step r.history r.count stored.new.cells) c.shared-lent.ensures
    ∙ ap (moved (meaning d) c.args.step lent.history lent.count) (copied ∙ ap (λ k. take k lent.values) (rows_count d)))
    (seen_as (told_by c.args.step) c.answer_to.result) c.answer_to.ensures _ c.conclude.ensures.stored _ (c.conclude.ensures.marked d)
