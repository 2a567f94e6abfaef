-- An accepted old file is accepted when it is rewritten: it is the file of a well-formed tree, which the new layout has room for.
use mathlib.Core.Path.{◌≡◌, sym, ap, ◌∙◌}
use mathlib.Core.List.{◌++◌}
use native.Mathlib.Omega.{arith}
use Rattle.model.specs.Trees.{System}
use Rattle.model.specs.Sizes.{byte_layout, file_layout, header_bytes}
use Rattle.model.specs.Check.{verdict}
use Rattle.model.specs.Check.Verdict.{accepted}
use Rattle.model.specs.WellFormed.{WellFormed, WellFormedIn, encode, encode_in, sizes_of}
use Rattle.model.proofs.Encoding.{header_drop}
use Rattle.model.proofs.CheckExact.{layouts_sound, check_exact_in, encode_accepted}
use Rattle.rewriting.specs.Rewriting.{rewritten}
use Rattle.rewriting.specs.Theorems.{RewrittenAccepted}

wide_well_formed : (t : System) → WellFormedIn byte_layout t → WellFormed t
wide_well_formed t w =
    record {
      states = omega (arith, w.states);
      flows = omega (arith, w.flows);
      events = omega (arith, w.events);
      transitions = omega (arith, w.transitions);
      nodes = omega (arith, w.nodes);
      few = omega (arith, w.few);
      declared = w.declared;
      guarded = w.guarded;
      assertion = w.assertion;
      assertion_depth = w.assertion_depth;
    }

-- the file of a tree, rewritten, is its file in the new layout
encode_rewritten : (t : System) → rewritten (sizes_of t) (encode_in byte_layout t) ≡ encode t
unfolding encode_in
encode_rewritten t = ap (λ body. header_bytes file_layout (sizes_of t) ++ body) (header_drop byte_layout (sizes_of t) _)

pub rewritten_accepted : RewrittenAccepted
rewritten_accepted m b z t e =
    let x = (check_exact_in byte_layout layouts_sound.0 m b z t).0 e in
    ap verdict (ap (λ z. rewritten z m) x.1 ∙ ap (rewritten (sizes_of t)) x.0 ∙ encode_rewritten t)
    ∙ encode_accepted t (wide_well_formed t x.2) ∙ ap (λ z. accepted z t) (sym x.1)
