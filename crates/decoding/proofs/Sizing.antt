-- The cells that are enough for an accepted model: few, many, or the most.
use mathlib.Core.Path.{◌≡◌}
use Prim.Native.Nat.{ℕ, ◌*◌, ◌<◌}
use native.Mathlib.Omega.{arith}
use Rattle.std.specs.Prelude.{List, Ok}
use Rattle.model.specs.declared.Sizes.{Sizes}
use Rattle.model.specs.Sizes.{file_layout, max_nodes, max_variables, max_transitions}
use Rattle.model.specs.declared.Room.TheVariants.{Few, Many}
use Rattle.model.specs.Room.{few_nodes, few_variables, few_transitions, many_nodes, many_variables, many_transitions, room_of}
use Rattle.model.specs.Check.{verdict, answer_of}
use Rattle.model.proofs.Bytes.{few_sizes, many_sizes}
use Rattle.model.proofs.FewTransitions as laws
use Rattle.decoding.specs.Decoding.{Enough}
use Rattle.model.proofs.Verdicts.{answer_accepted}
use Rattle.decoding.proofs.Preparing.{answer_sizes}

module _ (m : List ℕ) (s : Sizes) (e : answer_of (verdict m) ≡ Ok s) where
  -- three nodes for each transition, and one more
  few_guards : 3 * s.transitions < s.nodes
  few_guards = let a = answer_accepted s (verdict m) e in laws.few_transitions file_layout m s a.0 a.1

  pub enough_few : room_of s ≡ Few → Enough s few_nodes few_variables few_transitions
  enough_few h =
      let f = few_sizes s h in
      (record { for_nodes = f.0; for_variables = f.1; most_nodes = omega arith; most_variables = omega arith }, omega (arith, f.0, few_guards), omega arith)

  pub enough_many : room_of s ≡ Many → Enough s many_nodes many_variables many_transitions
  enough_many h =
      let f = many_sizes s h in
      (record { for_nodes = f.0; for_variables = f.1; most_nodes = omega arith; most_variables = omega arith }, omega (arith, f.0, few_guards), omega arith)

  pub enough_most : Enough s max_nodes max_variables max_transitions
  enough_most =
      let z = answer_sizes m s e in
      (record { for_nodes = z.few; for_variables = z.variables; most_nodes = omega arith; most_variables = omega arith }, omega (arith, z.few, few_guards), omega arith)
