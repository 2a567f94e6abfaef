-- How many cells are enough for a model: few, many, or as many as the largest takes.
use Rattle.std.specs.Prelude.{Bool, cond, ◌&&◌, ℕ, ◌+◌, leb}
use Rattle.model.specs.declared.Sizes.{Sizes}
use Rattle.model.specs.declared.Room.{Room}
use Rattle.model.specs.declared.Room.TheVariants.{Few, Many, Most}

abbrev pub few_nodes : ℕ
few_nodes = 1024

abbrev pub few_variables : ℕ
few_variables = 256

-- as many as so few nodes can have (`FewTransitions`)
abbrev pub few_transitions : ℕ
few_transitions = 341

-- an old file has no more
abbrev pub many_nodes : ℕ
many_nodes = 4096

abbrev pub many_variables : ℕ
many_variables = 1024

abbrev pub many_transitions : ℕ
many_transitions = 1365

-- have so many cells room for the nodes and the variables
abbrev pub has_room : ℕ → ℕ → Sizes → Bool
has_room nodes variables s = leb s.nodes nodes && leb (s.states + s.flows) variables

unfoldable pub room_of : Sizes → Room
room_of s = cond (has_room few_nodes few_variables s) Few (cond (has_room many_nodes many_variables s) Many Most)
