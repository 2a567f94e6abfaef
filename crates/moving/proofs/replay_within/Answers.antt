-- The parts of blank arrays that the model needs.
use lib.IntN.{pos}
use Rattle.scratch.specs.Blank.{unknown_cell}
use Rattle.moving.proofs.Parts.{part_blank}
use Rattle.moving.proofs.replay_within.Goals as goal

pub replay-requires : goal.replay-requires
replay-requires g c =
    let room = c.requires.0 in (
      record {
        zeros = part_blank (pos 0) _ g.row.VARIABLES room.for_variables;
        valuation =
            record {
              nothing_known = c.requires.1;
              gathering =
                  record {
                    nothing_given = part_blank unknown_cell _ g.row.VARIABLES room.for_variables;
                    nothing_queued = part_blank 0 _ g.row.VARIABLES room.for_variables;
                    nothing_marked = part_blank 0 _ g.row.NODES room.for_nodes;
                  };
            };
      },
      c.requires.2,
    )
