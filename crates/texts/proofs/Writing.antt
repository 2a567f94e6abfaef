-- What `write_over` gives where no refusal is due, from the part that was read.
use mathlib.Core.Path.{◌≡◌, sym, ap, ◌∙◌}
use mathlib.Core.Bool.{Bool, true}
use mathlib.Core.List.{List, map}
use mathlib.Core.Option.{some}
use Prim.Native.Nat.{ℕ, ◌≤◌}
use native.Mathlib.Omega.{arith}
use borrow.Author.Tests.{le-ltb}
use lib.Dec.{T}
use lib.IntN.{ℤ}
use lib.ListN.{length, length-map}
use Rattle.results.specs.Results.{answered, over}
use Rattle.model.specs.Sizes.{max_variables}
use Rattle.model.specs.Trees.{depth_of_expression}
use Rattle.model.specs.Nodes as nodes
use Rattle.model.specs.Nodes.{nodes_of_expression}
use Rattle.model.specs.Check.{max_depth}
use Rattle.grammar.specs.Reading.{phrase_of}
use Rattle.grammar.proofs.Tests.{passes}
use Rattle.grammar.proofs.Readings.{reading_exact}
use Rattle.composition.specs.declared.Part.{Part}
use Rattle.composition.specs.Typing.{sort_in, variables_below, expression_of}
use Rattle.composition.specs.Parts.{Nodes, held, written}
use Rattle.parser.specs.Levels.{TextReadAs}
use Rattle.kinds.specs.declared.Sort.{Sort}
use Rattle.kinds.specs.Kinds.{code_of}
use Rattle.std.proofs.Common.{is_some, Ok}
use Rattle.texts.specs.Texts.{meant_by, Slices, slices, written_into, typed_over}
use Rattle.texts.specs.Texts.Meant.{meant}
use Rattle.texts.proofs.Limits.{Within, within_read}
use Rattle.texts.proofs.Narrow.{phrase_kinds, phrase_parameters}
use Rattle.texts.proofs.Small.{Small, read_small}

module _ (vs : List Sort) (text : List ℕ) (s : Slices) where
  module _ (w : Within text s) (cells : Nodes) where
    module _ (part : Part) (q : TextReadAs vs cells (phrase_of text) part) where
      read_means : typed_over vs text s ≡ written_into s (meant_by vs (some q.phrase))
      read_means = within_read vs text s w ∙ ap (λ o. written_into s (meant_by vs o)) q.reads

      beyond_as : {t : Bool} → part.below ≡ t → variables_below (length vs) q.phrase ≡ t
      beyond_as e = sym q.holds.below ∙ e

      module _ (b : part.below ≡ true) where
        module _ (n : is_some part.sort ≡ true) where
          fits : is_some (sort_in vs q.phrase) ≡ true
          fits = ap is_some (sym q.holds.sort) ∙ n

          -- its nodes
          abbrev own : List nodes.Node
          own = nodes_of_expression (expression_of vs q.phrase)

          means_nodes : part.depth ≤ max_depth → typed_over vs text s ≡ written_into s (meant (expression_of vs q.phrase))
          unfolding meant_by
          means_nodes d =
              rw (
                read_means,
                beyond_as b,
                fits,
                le-ltb max_depth (depth_of_expression (expression_of vs q.phrase)) (omega (arith, q.holds.depth)),
              )

          counted : length (written cells) ≡ length own
          counted = ap length q.holds.nodes ∙ length-map own held

          -- the kinds and the parameters of the nodes in use
          module _ (few : length vs ≤ max_variables) where
            below : T (variables_below (length vs) q.phrase)
            below = passes (variables_below (length vs) q.phrase) (beyond_as b)

            small : Small q.phrase
            small = read_small text q.phrase ((reading_exact text q.phrase).0 q.reads)

            kinds_own : map (λ n. code_of n.kind) (written cells) ≡ map (λ n. n.kind) own
            kinds_own = ap (map (λ n. code_of n.kind)) q.holds.nodes ∙ phrase_kinds vs few q.phrase small below

            parameters_own : map (λ n. n.parameter) (written cells) ≡ map (λ n. n.parameter) own
            parameters_own = ap (map (λ n. n.parameter)) q.holds.nodes ∙ phrase_parameters vs few q.phrase small below

          -- no refusal is due
          pub text_written : length vs ≤ max_variables → part.depth ≤ max_depth → {kinds : List ℕ} {parameters : List ℤ}
              → kinds ≡ over (map (λ n. code_of n.kind) (written cells)) s.kinds
              → parameters ≡ over (map (λ n. n.parameter) (written cells)) s.parameters
              → answered (Ok (length (written cells))) (slices kinds parameters) ≡ typed_over vs text s
          unfolding written_into
          text_written few d {kinds} {parameters} k r =
              let ks : kinds ≡ over (map (λ n. n.kind) own) s.kinds = k ∙ ap (λ (l : List ℕ). over l s.kinds) (kinds_own few) in
              let ps : parameters ≡ over (map (λ n. n.parameter) own) s.parameters = r ∙ ap (λ (l : List ℤ). over l s.parameters) (parameters_own few) in
              (λ i. answered (Ok (counted i)) (slices (ks i) (ps i)))
              ∙ sym (means_nodes d)
