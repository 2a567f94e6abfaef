-- The pieces of a file, one after another, are the file.
use mathlib.Core.Path.{◌≡◌, sym, ap, ◌∙◌}
use mathlib.Core.List.{List, ◌++◌, flat_map}
use Prim.Native.Nat.{ℕ}
use lib.IntN.{ℤ}
use Rattle.model.specs.declared.Sizes.{Sizes}
use Rattle.model.specs.Nodes.{little_bytes, parameter_bytes}
use Rattle.model.specs.Sizes.{file_layout, header_bytes}
use Rattle.encoding.specs.Files.{file_bytes}
use Rattle.tapes.specs.Tapes.{Tape, put_all}
use Rattle.tapes.proofs.Tapes.{put_append}

-- a piece has been put, and then the rest
then_put : {A : Type 0} (front back : List A) (t : Tape A) {u v : Tape A} → u ≡ put_all front t → v ≡ put_all back u → v ≡ put_all (front ++ back) t
then_put front back t e f = f ∙ ap (put_all back) e ∙ sym (put_append front back t)

pub header_put : (s : Sizes) (t : Tape ℕ) {a b c d e : Tape ℕ} → a ≡ put_all (little_bytes 2 s.states) t → b ≡ put_all (little_bytes 2 s.flows) a
    → c ≡ put_all (little_bytes 2 s.events) b → d ≡ put_all (little_bytes 2 s.transitions) c → e ≡ put_all (little_bytes 2 s.nodes) d
    → e ≡ put_all (header_bytes file_layout s) t
unfolding header_bytes
header_put s t {a} {b} {c} p q r u v = then_put _ _ t p (then_put _ _ a q (then_put _ _ b r (then_put _ _ c u v)))

pub file_put : (s : Sizes) (ks : List ℕ) (ps : List ℤ) (t : Tape ℕ) {e f g : Tape ℕ} → e ≡ put_all (header_bytes file_layout s) t → f ≡ put_all ks e
    → g ≡ put_all (flat_map parameter_bytes ps) f → g ≡ put_all (file_bytes s ks ps) t
unfolding file_bytes
file_put s ks ps t {e} p q r = then_put _ _ t p (then_put ks (flat_map parameter_bytes ps) e q r)
