-- The parts of the arrays that are in use after an accepted file was decoded: they are its decoding.
use mathlib.Core.Path.{◌≡◌, refl, sym, ap, ◌∙◌, subst}
use mathlib.Core.List.{List}
use Prim.Native.Nat.{ℕ, ◌+◌, ◌≤◌}
use native.Mathlib.Omega.{arith}
use mir.Syntax.{w8}
use mir.Val.{Fits}
use lib.ListN.{length, get_or, take, drop, length-take, length-map}
use lib.Seq.{take_at}
use Rattle.std.specs.Prelude.{Ok}
use Rattle.results.specs.Results.{over}
use Rattle.model.specs.declared.Sizes.{Sizes}
use Rattle.model.specs.declared.Model.{Model}
use Rattle.model.specs.Trees.{System, variables}
use Rattle.model.specs.Sizes.{file_layout}
use Rattle.model.specs.Check.{verdict, answer_of, kinds_in, parameters_in}
use Rattle.model.specs.Check.Verdict.{accepted}
use Rattle.model.specs.Theorems.{Bytes}
use Rattle.model.proofs.LittleBytes.{parameters_length}
use Rattle.model.proofs.CheckExact.{kinds_length}
use Rattle.variables.specs.Rows.{variable_row}
use Rattle.tables.specs.declared.Tables.{Tables}
use Rattle.decoding.specs.Decoding.{Decoded, Arrays, LentOf, decoded_over, assertion_place}
use Rattle.decoding.proofs.Accepted.{accepted_file}
use Rattle.decoding.proofs.Places.{nexts_length}
use Rattle.model.proofs.Verdicts.{answer_accepted}
use Rattle.decoding.proofs.Decoded.{guards_length, decoded_nodes, decoded_rows, decoded_variables}

-- the first cells of these arrays are the decoding of the file
abbrev pub DecodedIn : List ℕ → Arrays → Model → Type 0
DecodedIn m a d =
    Decoded m d (kinds_in file_layout d.sizes.nodes m) (take d.sizes.nodes a.parameters)
    (take (d.sizes.states + d.sizes.flows) a.variables) (take d.sizes.nodes a.nexts) (take d.sizes.transitions a.guards)

pub record InUse (m : List ℕ) (a : Arrays) (d : Model) : Type 0 where
  pub bytes : Bytes m
  pub decoding : DecodedIn m a d

-- a part as long as it should be lies within the whole
pub part_within : {A : Type 0} (n : ℕ) (l : List A) → n ≡ length (take n l) → n ≤ length l
part_within n l e = omega (arith, length-take n l, e)

-- ---- the tables that are lent out of these arrays

module _ (m : List ℕ) (a : Arrays) (d : Model) (u : InUse m a d) (t : Tables) (l : LentOf m a d t) where
  abbrev pub decoded_lent : Decoded m t.model t.kinds.now t.parameters.now t.variables.now t.nexts.now t.guards.now
  decoded_lent =
      let x = u.decoding in
      record {
        system = x.system;
        checked = x.checked ∙ ap (λ d. accepted d.sizes x.system) (sym l.model);
        assertion_decoded = ap (λ d. d.assertion) l.model ∙ x.assertion_decoded;
        kinds_decoded = l.kinds ∙ ap (λ d. kinds_in file_layout d.sizes.nodes m) (sym l.model);
        parameters_decoded = l.parameters ∙ x.parameters_decoded ∙ ap (λ d. parameters_in file_layout d.sizes.nodes m) (sym l.model);
        variables_decoded = l.variables ∙ x.variables_decoded;
        nexts_decoded = l.nexts ∙ x.nexts_decoded;
        guards_decoded = l.guards ∙ x.guards_decoded;
      }

  pub kinds_lent : length t.kinds.now ≡ d.sizes.nodes
  kinds_lent = ap length l.kinds ∙ decoded_nodes m d _ _ _ _ _ u.decoding

  pub rows_lent : length t.variables.now ≡ d.sizes.states + d.sizes.flows
  rows_lent = ap length l.variables ∙ decoded_rows m d _ _ _ _ _ u.decoding ∙ decoded_variables m d _ _ _ _ _ u.decoding

-- ---- what `decode` leaves

pub take_over : {A : Type 0} (new old : List A) (n : ℕ) → length new ≡ n → take n (over new old) ≡ new
take_over new old n e = take_at new (drop (length new) old) n e

module _ (m : List ℕ) (bytes : (i : ℕ) → Fits w8 (get_or m i 0)) (old : Arrays) where
  accepted_used : (s : Sizes) (t : System) → verdict m ≡ accepted s t
      → InUse m (decoded_over m s t old) (record { sizes = s; assertion = assertion_place t })
  unfolding decoded_over
  accepted_used s t v =
      let f = accepted_file m s t v in
      record {
        bytes = λ i h. (bytes i).fits;
        decoding =
            record {
              system = t;
              checked = v;
              assertion_decoded = refl;
              kinds_decoded = refl;
              parameters_decoded = take_over _ old.parameters _ (parameters_length m s.nodes _);
              variables_decoded = take_over _ old.variables _ (length-map (variables t) variable_row ∙ f.system.number);
              nexts_decoded = take_over _ old.nexts _ (nexts_length _ _ t f.system.stands ∙ kinds_length m s f.sizes);
              guards_decoded = take_over _ old.guards _ (guards_length t.transitions _ ∙ f.system.number_of_transitions);
            };
      }

  pub decoded_used : (new : Arrays) (s : Sizes) (d : Model) → answer_of (verdict m) ≡ Ok s → d.sizes ≡ s
      → ((t : System) → verdict m ≡ accepted s t → (d.assertion ≡ assertion_place t) × (new ≡ decoded_over m s t old)) → InUse m new d
  decoded_used new s d e z f =
      let a = answer_accepted s (verdict m) e in
      let g = f a.0 a.1 in
      let same : d ≡ record { sizes = s; assertion = assertion_place a.0 } = λ i. record { sizes = z i; assertion = g.0 i } in
      subst (InUse m new) (sym same) (subst (λ new. InUse m new (record { sizes = s; assertion = assertion_place a.0 })) (sym g.1) (accepted_used s a.0 a.1))
