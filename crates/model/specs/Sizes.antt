-- 01: "Sizes first: S (state variables), F (flow variables), E (events), T (transitions), one byte each, then N (nodes),
-- two bytes, low byte first." 02, A7: "S, F, E and T become two bytes each, low byte first". Refusals 1, 2, 37, 3 over a layout, so that
-- old files and those of every call are read in one place.
use Rattle.std.specs.Prelude.{cond, not, List, ◌++◌, ℕ, zero, suc, ◌+◌, ◌*◌, ◌^◌, eqb, ltb, length, get_or, Result, Ok, Err}
use Rattle.model.specs.declared.Layout.{Layout}
use Rattle.model.specs.declared.Sizes.{Sizes}
use Rattle.results.specs.declared.refusal.Refusal.{Refusal}
use Rattle.results.specs.declared.refusal.Refusal.TheVariants.{ShortFile, TooManyNodes, TooManyVariables, WrongLength}
use Rattle.model.specs.Nodes.{little_bytes}

-- 01: "then N (nodes), two bytes"
abbrev pub nodes_width : ℕ
nodes_width = 2

-- a node has a kind of one byte and its parameter of four (`parameter_width`)
abbrev pub node_width : ℕ
node_width = 5

-- the layout of old files. 01: "S (state variables), F (flow variables), E (events), T (transitions), one byte each", "N at most 4,000".
-- Two sizes of a byte each come to no more than 510, so 37 is none of its refusals (`OldHeader`).
abbrev pub byte_layout : Layout
byte_layout = record { width = 1; max_nodes = 4000; max_variables = 510 }

-- the layout that every call reads. 02, A7: "S, F, E and T become two bytes each, low byte first, the sizes ten bytes long, N at most
-- 12,000"; "37 S+F above 4,000"
abbrev pub file_layout : Layout
file_layout = record { width = 2; max_nodes = 12000; max_variables = 4000 }

-- the most nodes and variables of a model
abbrev pub max_nodes : ℕ
max_nodes = file_layout.max_nodes

abbrev pub max_variables : ℕ
max_variables = file_layout.max_variables

-- a transition has three nodes at least, and the assertion one (`FewTransitions`)
abbrev pub max_transitions : ℕ
max_transitions = 3999

-- each of S, F, E, T is below it
abbrev pub size_bound_of : Layout → ℕ
size_bound_of l = 256 ^ l.width

abbrev pub size_bound : ℕ
size_bound = size_bound_of file_layout

-- the bytes before the kinds: S, F, E, T, then N
abbrev pub header_of : Layout → ℕ
header_of l = 4 * l.width + nodes_width

-- the bytes of the longest file
abbrev pub longest : Layout → ℕ
longest l = header_of l + node_width * l.max_nodes

-- the number in `width` bytes from place `at` on, low byte first
unfoldable pub little_at : List ℕ → ℕ → ℕ → ℕ
little_at m at zero = 0
little_at m at (suc width) = get_or m at 0 + 256 * little_at m (at + 1) width

unfoldable pub sizes_in : Layout → List ℕ → Sizes
sizes_in l m =
    record {
      states = little_at m 0 l.width;
      flows = little_at m l.width l.width;
      events = little_at m (2 * l.width) l.width;
      transitions = little_at m (3 * l.width) l.width;
      nodes = little_at m (4 * l.width) nodes_width;
    }

-- 02, A7: 1 "under 10 bytes", 2 "N above 12,000", 37 "S+F above 4,000, between 2 and 3", 3 "a length not 10 + 5N", in this order; of an old
-- file 01's 1 "under 6 bytes", 2 "N above 4,000", 3 "length not 6 + 5N"
unfoldable pub sized : Layout → List ℕ → Result Sizes Refusal
sized l m =
    cond (ltb (length m) (header_of l)) (Err ShortFile)
    (cond (ltb l.max_nodes (sizes_in l m).nodes) (Err TooManyNodes)
    (cond (ltb l.max_variables ((sizes_in l m).states + (sizes_in l m).flows)) (Err TooManyVariables)
    (cond (not (eqb (length m) (header_of l + node_width * (sizes_in l m).nodes))) (Err WrongLength)
    (Ok (sizes_in l m)))))

-- the header's bytes
unfoldable pub header_bytes : Layout → Sizes → List ℕ
header_bytes l s =
    little_bytes l.width s.states
    ++ (little_bytes l.width s.flows
    ++ (little_bytes l.width s.events
    ++ (little_bytes l.width s.transitions ++ little_bytes nodes_width s.nodes)))
