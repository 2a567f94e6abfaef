-- The tables of a decoded model tell the file that they are decoded from: so who knows that there is one has it.
use mathlib.Core.Path.{◌≡◌, refl, sym, ap, ap₂, ◌∙◌, subst}
use mathlib.Core.List.{List, ◌++◌, flat_map}
use Rattle.std.proofs.Math.Logic.{∥∥₁_elim}
use Prim.Native.Nat.{ℕ, ◌+◌}
use native.Mathlib.Omega.{arith}
use lib.IntN.{ℤ}
use lib.ListN.{drop, take-append-drop}
use lib.Seq.{drop-drop}
use Rattle.std.specs.Coded.{Coded, Coded-set, code_by, coded_ℤ, coded×}
use Rattle.std.proofs.Props.{props}
use Rattle.model.specs.declared.Model.{Model}
use Rattle.model.specs.Trees.{variables}
use Rattle.model.specs.Nodes.{parameter_bytes}
use Rattle.model.specs.Sizes.{file_layout, header_of, header_bytes}
use Rattle.model.specs.Check.{Verdict, verdict, kinds_in, parameters_in}
use Rattle.model.specs.Check.Verdict.{refusal, accepted}
use Rattle.model.specs.Theorems.{Bytes}
use Rattle.model.proofs.LittleBytes.{all_bytes, parameters_written}
use Rattle.model.proofs.Encoding.{header_written, sizes_path}
use Rattle.variables.specs.declared.VariableRow.{VariableRow}
use Rattle.variables.specs.Rows.{variable_rows}
use Rattle.decoding.specs.Decoding.{assertion_place, transitions_place, guard_places, nexts_of_system}
use Rattle.decoding.proofs.Accepted.{accepted_file}
use Rattle.engine.specs.Cells.{Loaded}
use Rattle.engine.specs.Lent.{LoadedIn}
use Rattle.engine.specs.declared.DecodedModel.{DecodedModel}

coded_row : Coded VariableRow
coded_row =
    code_by (ℤ × (ℤ × ℤ)) (coded× coded_ℤ (coded× coded_ℤ coded_ℤ)) (λ r. (r.low, (r.high, r.first))) (λ p. record { low = p.0; high = p.1.0; first = p.1.1 }) (λ _. refl)

row_set : IsSet VariableRow
row_set = Coded-set coded_row

module _ (model : Model) (kinds : List ℕ) (parameters : List ℤ) (rows : List VariableRow) (nexts guards : List ℕ) where
  -- header, kinds and parameters
  abbrev file_told : List ℕ
  file_told = header_bytes file_layout model.sizes ++ (kinds ++ flat_map parameter_bytes parameters)

  -- the tables are decoded from that file and no other
  one_file : (d : Loaded model kinds parameters rows nexts guards) → d.file ≡ file_told
  one_file d =
      let m = d.file in
      let n = model.sizes.nodes in
      let b = all_bytes m d.bytes in
      let f = (accepted_file m model.sizes d.decoded.system d.decoded.checked).sizes in
      let columns : drop (header_of file_layout) m ≡ kinds ++ flat_map parameter_bytes parameters =
      sym (take-append-drop n (drop (header_of file_layout) m))
      ∙ ap₂ ◌++◌ (sym d.decoded.kinds_decoded)
      (drop-drop n (header_of file_layout) m ∙ sym (parameters_written m b n (header_of file_layout + n) (omega (arith, f.long)))
      ∙ ap (flat_map parameter_bytes) (sym d.decoded.parameters_decoded)) in
      sym (header_written file_layout m b f.header) ∙ ap₂ ◌++◌ (ap (header_bytes file_layout) f.sizes) columns

  -- the check's verdict on a file is the model of the tables
  unfoldable Tabled : Verdict → Type 0
  Tabled (refusal r) = ⊥
  Tabled (accepted s t) =
      (s.states ≡ model.sizes.states) × (s.flows ≡ model.sizes.flows) × (s.events ≡ model.sizes.events)
      × (s.transitions ≡ model.sizes.transitions) × (s.nodes ≡ model.sizes.nodes)
      × (model.assertion ≡ assertion_place t) × (rows ≡ variable_rows (variables t))
      × (nexts ≡ nexts_of_system t) × (guards ≡ guard_places t.transitions (transitions_place t))

  tabled_prop : (v : Verdict) → IsProp (Tabled v)
  unfolding Tabled
  tabled_prop (refusal r) = Prim.hlevel props
  tabled_prop (accepted s t) = Prim.hlevel (props, row_set)

  -- what `Loaded` says, of the file told: there is one proof of it at most
  abbrev Told : Type 0
  Told =
      Bytes file_told × (kinds ≡ kinds_in file_layout model.sizes.nodes file_told)
      × (parameters ≡ parameters_in file_layout model.sizes.nodes file_told) × Tabled (verdict file_told)

  told_prop : IsProp Told
  told_prop = Prim.hlevel (props, tabled_prop)

  told : Loaded model kinds parameters rows nexts guards → Told
  unfolding Tabled
  told d =
      let e = one_file d in
      let c = d.decoded in (
        subst Bytes e d.bytes,
        c.kinds_decoded ∙ ap (kinds_in file_layout model.sizes.nodes) e,
        c.parameters_decoded ∙ ap (parameters_in file_layout model.sizes.nodes) e,
        subst Tabled (sym c.checked ∙ ap verdict e) (refl, refl, refl, refl, refl, c.assertion_decoded, c.variables_decoded, c.nexts_decoded, c.guards_decoded),
      )

  loaded_by : Told → Loaded model kinds parameters rows nexts guards
  unfolding Tabled
  loaded_by h = by (verdict file_told) refl h.3
    where
      by : (v : Verdict) → verdict file_told ≡ v → Tabled v → Loaded model kinds parameters rows nexts guards
      by (refusal r) e k = absurd k
      by (accepted s t) e k =
          record {
            file = file_told;
            bytes = h.0;
            decoded =
                record {
                  system = t;
                  checked = e ∙ ap (λ s. accepted s t) (sizes_path k.0 k.1 k.2 k.3 k.4);
                  assertion_decoded = k.5;
                  kinds_decoded = h.1;
                  parameters_decoded = h.2;
                  variables_decoded = k.6;
                  nexts_decoded = k.7;
                  guards_decoded = k.8;
                };
          }

-- the decoding that a decoded model is
pub loaded_in : (m : DecodedModel) → LoadedIn m.tables
loaded_in m =
    let t = m.tables in
    loaded_by t.model t.kinds.now t.parameters.now t.variables.now t.nexts.now t.guards.now
    (∥∥₁_elim m.accepted (told_prop t.model t.kinds.now t.parameters.now t.variables.now t.nexts.now t.guards.now)
    (told t.model t.kinds.now t.parameters.now t.variables.now t.nexts.now t.guards.now))
