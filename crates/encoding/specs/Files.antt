-- The bytes of a model file.
use mathlib.Core.List.{List, ◌++◌, flat_map}
use Rattle.std.specs.Prelude.{ℕ, ℤ}
use Rattle.model.specs.declared.Sizes.{Sizes}
use Rattle.model.specs.Nodes.{parameter_bytes}
use Rattle.model.specs.Sizes.{file_layout, header_bytes}

-- 01: "Sizes first [..]. Then two parallel arrays: N kinds of one byte, and N parameters of four bytes". `encode` of
-- crate `model` is this over the nodes of a tree.
unfoldable pub file_bytes : Sizes → List ℕ → List ℤ → List ℕ
file_bytes s ks ps = header_bytes file_layout s ++ (ks ++ flat_map parameter_bytes ps)
