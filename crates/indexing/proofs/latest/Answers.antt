-- A byte that stands for no kind stands for neither.
use mathlib.Core.Path.{refl}
use borrow.Author.Tests.{eqb-false}
use Rattle.kinds.specs.declared.kind.Kind.TheVariants as kind
use Rattle.kinds.proofs.Bytes.{no_kind}
use Rattle.indexing.proofs.latest.Goals as goal

pub returns-in_default-2 : goal.returns-in_default-2
returns-in_default-2 c =
    let none = no_kind _ _ _ c.try_from.ensures c.in_default.is in (
      λ k. absurd (eqb-false _ 17 (none kind.Assignment) k),
      λ k. absurd (eqb-false _ 18 (none kind.IfThen) k),
      λ _ _. refl,
    )
