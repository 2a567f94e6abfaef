-- Rows have gone by, as many as the iterator has counted; the cells are as many as a row has values.
use mathlib.Core.Path.{◌≡◌}
use lib.ListN.{length}
use Rattle.windows.specs.Lent.{Asked, AllFit}
use Rattle.windows.proofs.RowsGone.{Gone}
use Rattle.windows.proofs.slide.Given as goal

abbrev pub invariant-loop-row : goal.invariant-loop-row
invariant-loop-row l = record {
  fits : AllFit l.sliding;
  size : l.row-iterator.iter.size ≡ length l.initial.cells;
  gone : (a : Asked l.question) →
      Gone l.question.window a.condition a.number (length l.initial.cells) l.question.log.now l.initial.figures l.row-iterator.count l.row-iterator.iter.rest.now l.sliding l.figures;
}
