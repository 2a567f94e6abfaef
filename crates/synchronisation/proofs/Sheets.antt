-- What is put on a sheet, piece by piece and as a whole.
use mathlib.Core.Path.{◌≡◌, sym, ap, ◌∙◌}
use mathlib.Core.List.{List, [], ◌∷◌, ◌++◌, map, map-append}
use Prim.Native.Nat.{ℕ, ◌≤◌}
use native.Mathlib.Omega.{arith}
use lib.IntN.{ℤ}
use lib.ListN.{length, length-map}
use Rattle.std.specs.List.{between}
use Rattle.std.proofs.lemmas.Slice.{between_is}
use Rattle.results.specs.Results.{over}
use Rattle.model.specs.Nodes.{Node, node}
use Rattle.tapes.specs.Tapes.{Tape, tape, put, put_all}
use Rattle.tapes.proofs.Tapes.{put_append, put_none, put_over, put_full}
use Rattle.synchronisation.specs.Members.{Sheet, put_columns, put_nodes, Between}

pub sheet_path : {k k' : Tape ℕ} {p p' : Tape ℤ} → k ≡ k' → p ≡ p'
    → ◌≡◌ {A = Sheet} (record { kinds = k; parameters = p }) (record { kinds = k'; parameters = p' })
sheet_path e f = λ i. record { kinds = e i; parameters = f i }

-- ---- one node

pub node_put : (k : ℕ) (p : ℤ) (s : Sheet) {k' : Tape ℕ} {p' : Tape ℤ} → k' ≡ put k s.kinds → p' ≡ put p s.parameters
    → ◌≡◌ {A = Sheet} (record { kinds = k'; parameters = p' }) (put_nodes (node k p ∷ []) s)
unfolding put_all
node_put k p s e f = sheet_path e f

-- ---- several, one after another

pub nodes_put : (front back : List Node) (s : Sheet) → put_nodes (front ++ back) s ≡ put_nodes back (put_nodes front s)
nodes_put front back s =
    sheet_path
    (ap (λ (l : List ℕ). put_all l s.kinds) (map-append (λ n. n.kind) front back)
    ∙ put_append (map (λ n. n.kind) front) (map (λ n. n.kind) back) s.kinds)
    (ap (λ (l : List ℤ). put_all l s.parameters) (map-append (λ n. n.parameter) front back)
    ∙ put_append (map (λ n. n.parameter) front) (map (λ n. n.parameter) back) s.parameters)

-- ---- a part of other nodes

module _ (ks : List ℕ) (ps : List ℤ) where
  pub part_put : (ns : List Node) (from past : ℕ) (s : Sheet) {k : Tape ℕ} {p : Tape ℤ} → Between ks ps ns from past
      → k ≡ put_all (between from past ks) s.kinds → p ≡ put_all (between from past ps) s.parameters
      → ◌≡◌ {A = Sheet} (record { kinds = k; parameters = p }) (put_nodes ns s)
  part_put ns from past s b e f =
      sheet_path (e ∙ ap (λ (l : List ℕ). put_all l s.kinds) (between_is ks from past ∙ b.kinds))
      (f ∙ ap (λ (l : List ℤ). put_all l s.parameters) (between_is ps from past ∙ b.parameters))

-- past the last cells nothing is
pub nodes_none : (ns : List Node) (s : Sheet) → length s.kinds.cells ≤ s.kinds.at → length s.parameters.cells ≤ s.parameters.at → s ≡ put_nodes ns s
nodes_none ns s h g =
    sheet_path (put_none (map (λ n. n.kind) ns) s.kinds.cells s.kinds.at h)
    (put_none (map (λ n. n.parameter) ns) s.parameters.cells s.parameters.at g)

-- the first node that is left has been put, with the number x that was read
pub part_more : {ks ks' : List ℕ} {ps ps' : List ℤ} {k : ℕ} {p x : ℤ} (s : Sheet) {t v : Sheet} → ks ≡ k ∷ ks' → ps ≡ p ∷ ps' → x ≡ p
    → t ≡ put_nodes (node k x ∷ []) s → put_columns ks ps s ≡ v → put_columns ks' ps' t ≡ v
unfolding put_all
part_more {ks' = ks'} {ps' = ps'} {k = k} s e f read put whole =
    ap (put_columns ks' ps') put
    ∙ ap (λ (x : ℤ). put_columns ks' ps' (put_nodes (node k x ∷ []) s)) read
    ∙ sheet_path (ap (λ (l : List ℕ). put_all l s.kinds) (sym e)) (ap (λ (l : List ℤ). put_all l s.parameters) (sym f))
    ∙ whole

module _ {ks : List ℕ} {ps : List ℤ} (ns : List Node) (from past : ℕ) (b : Between ks ps ns from past) where
  -- none is left
  pub part_all : {ks' : List ℕ} {ps' : List ℤ} (s : Sheet) {t : Sheet} → ks' ≡ [] → ps' ≡ []
      → put_columns ks' ps' t ≡ put_columns (between from past ks) (between from past ps) s → t ≡ put_nodes ns s
  unfolding put_all
  part_all s {t} e f whole =
      sheet_path (ap (λ (l : List ℕ). put_all l t.kinds) (sym e)) (ap (λ (l : List ℤ). put_all l t.parameters) (sym f))
      ∙ whole
      ∙ sheet_path (ap (λ (l : List ℕ). put_all l s.kinds) (between_is ks from past ∙ b.kinds))
      (ap (λ (l : List ℤ). put_all l s.parameters) (between_is ps from past ∙ b.parameters))

-- ---- all of them, from the first cell on

module _ (ns : List Node) (ks : List ℕ) (ps : List ℤ) {s : Sheet}
    (e : s ≡ put_nodes ns (record { kinds = tape ks 0; parameters = tape ps 0 })) where
  kinds_put : s.kinds ≡ put_all (map (λ n. n.kind) ns) (tape ks 0)
  kinds_put = ap (λ (s : Sheet). s.kinds) e

  parameters_put : s.parameters ≡ put_all (map (λ n. n.parameter) ns) (tape ps 0)
  parameters_put = ap (λ (s : Sheet). s.parameters) e

  -- with room for all
  pub kinds_over : length ns ≤ length ks → (s.kinds.cells ≡ over (map (λ n. n.kind) ns) ks) × (s.kinds.at ≡ length ns)
  kinds_over h =
      let w = kinds_put ∙ put_over (map (λ n. n.kind) ns) ks (omega (arith, length-map ns (λ n. n.kind))) in
      (ap (λ (t : Tape ℕ). t.cells) w, ap (λ (t : Tape ℕ). t.at) w ∙ length-map ns (λ n. n.kind))

  pub parameters_over : length ns ≤ length ps → s.parameters.cells ≡ over (map (λ n. n.parameter) ns) ps
  parameters_over h =
      ap (λ (t : Tape ℤ). t.cells)
      (parameters_put ∙ put_over (map (λ n. n.parameter) ns) ps (omega (arith, length-map ns (λ n. n.parameter))))

  -- without
  pub nodes_full : length ks ≤ length ns → s.kinds.at ≡ length ks
  nodes_full h =
      ap (λ (t : Tape ℕ). t.at) kinds_put
      ∙ put_full (map (λ n. n.kind) ns) ks 0 (omega arith) (omega (arith, length-map ns (λ n. n.kind)))
