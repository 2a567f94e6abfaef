-- OneTransitionMore.
use mathlib.Core.Path.{◌≡◌, refl, sym, subst, subst₂}
use mathlib.Core.List.{[], ◌∷◌}
use Prim.Native.Nat.{◌<◌}
use lib.Seq.{take-append_seam}
use Rattle.model.specs.Trees.{Transition, System}
use Rattle.model.specs.WellFormed.{All, sizes_of}
use Rattle.model.proofs.CheckExact.{check_exact}
use Rattle.synchronisation.specs.Synchronisations.{together, extended_by, synchronised_of}
use Rattle.synchronisation.specs.Theorems.{OneMore, OneTransitionMore}
use Rattle.synchronisation.proofs.Listed.{last_is, one_more, all_weaken}
use Rattle.synchronisation.proofs.Accepted.{before_formed, synchronised_accepted}

-- a transition under a new event, after the others
more_by : (t : System) (u : Transition) → u.event ≡ t.events → All (λ v. v.event < t.events) t.transitions
    → OneMore (sizes_of t) (sizes_of (extended_by t u)) t (extended_by t u)
more_by t u e h =
    record {
      states = refl;
      flows = refl;
      events = refl;
      transitions = one_more t.transitions u;
      variables_stay = refl;
      assertion_stays = refl;
      others = take-append_seam t.transitions (u ∷ []);
      new_event = (u, last_is t.transitions u, e);
      other_events = h;
    }

pub one_transition_more : OneTransitionMore
one_transition_more m ms os m' b f s t read =
    let new = synchronised_of f.before f.mandatory f.optional in
    let found = synchronised_accepted m ms os m' b f in
    let p : sizes_of new ≡ s = cc in
    let q : new ≡ t = cc in
    let old = ((check_exact m b f.sizes f.before).0 f.read).1 in
    subst₂ (λ s t. OneMore f.sizes s f.before t) p q
    (subst (λ z. OneMore z (sizes_of new) f.before new) (sym old)
    (more_by f.before (together f.before.events f.mandatory f.optional) refl
    (all_weaken _ _ (λ v g. g.event) f.before.transitions (before_formed b f).guarded)))
