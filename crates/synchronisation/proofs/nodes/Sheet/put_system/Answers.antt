-- The nodes before the assertion, the new transition, the assertion.
use mathlib.Core.Path.{◌∙◌, ap}
use native.Mathlib.Omega.{arith}
use Rattle.model.specs.Nodes.{nodes_of_transition}
use Rattle.engine.proofs.Loading.{loaded_well_formed}
use Rattle.synchronisation.specs.Synchronisations.{together}
use Rattle.synchronisation.specs.Members.{sheet_in, put_nodes}
use Rattle.synchronisation.proofs.Lists.{a_member}
use Rattle.synchronisation.proofs.Places.{loaded_events, members_stand, front_between, assertion_between}
use Rattle.synchronisation.proofs.NewNodes.{system_put}
use Rattle.synchronisation.proofs.nodes.Sheet.put_system.Goals as goal

pub copy-requires : goal.copy-requires
copy-requires c = (_, front_between c.requires.2.loaded)

pub put_transition-requires : goal.put_transition-requires
put_transition-requires c =
    let j = c.requires.2 in
    let d = j.loaded in
    let ms = c.args.members.now in
    let few = (loaded_well_formed d).events in rw c.copy.ensures.same_tables (
      omega (arith, loaded_events d, few),
      c.requires.0,
      c.requires.1,
      a_member ms.mandatory.now ms.optional.now j.members.given,
      (
        (j.members.mandatory, members_stand d ms.mandatory.now j.members.mandatory j.members.mandatory_found),
        (j.members.optional, members_stand d ms.optional.now j.members.optional j.members.optional_found),
      ),
    )

pub copy-requires-2 : goal.copy-requires-2
copy-requires-2 c = rw (c.put_transition.ensures.same_tables ∙ c.copy.ensures.same_tables) (_, assertion_between c.requires.2.loaded)

pub returns : goal.returns
returns c = λ j.
    let d = j.loaded in
    let ts = j.members.mandatory in
    let os = j.members.optional in
    let s = members_stand d c.args.members.now.mandatory.now ts j.members.mandatory_found in
    let s' = members_stand d c.args.members.now.optional.now os j.members.optional_found in
    system_put d.decoded.system (together d.decoded.system.events ts os) (sheet_in c.args.self.now)
    (c.copy.ensures.nodes _ (front_between d))
    (c.put_transition.ensures.nodes ts os (rw c.copy.ensures.same_tables s) (rw c.copy.ensures.same_tables s') ∙ ap (λ t. put_nodes (nodes_of_transition (together t.model.sizes.events ts os)) (sheet_in c.copy.new.self)) c.copy.ensures.same_tables ∙ ap (λ n. put_nodes (nodes_of_transition (together n ts os)) _) (loaded_events d))
    (c.copy-2.ensures.nodes _ (rw (c.put_transition.ensures.same_tables ∙ c.copy.ensures.same_tables) (assertion_between d)))
