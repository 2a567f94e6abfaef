-- The parameters that are left are those that were given, on the tape as it was.
use mathlib.Core.Path.{◌≡◌}
use mathlib.Core.List.{flat_map}
use lib.ListN.{drop}
use Rattle.model.specs.Nodes.{parameter_bytes}
use Rattle.tapes.specs.Tapes.{tape_in, put_all}
use Rattle.encoding.proofs.put_file.Given as goal

abbrev pub invariant-loop-parameter : goal.invariant-loop-parameter
invariant-loop-parameter l =
    record {
      left : put_all (flat_map parameter_bytes (drop l.parameter-index l.tree.parameters.now)) (tape_in l.tape)
          ≡ put_all (flat_map parameter_bytes l.tree.parameters.now) (tape_in l.initial.tape);
      same_cells : l.tape.cells.ghost_name ≡ l.initial.tape.cells.ghost_name;
    }
