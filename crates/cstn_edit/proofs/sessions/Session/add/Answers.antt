use Rattle.std.proofs.Common.{w32, to_z, of_z, ◌≡◌, ◌<◌, None, Some, length, refl, ap, arith, ◌∙◌}
use Rattle.std.specs.Prelude.{vec_capacity}
use Rattle.std.proofs.lemmas.Int.{to_z-of_z}
use Rattle.std.proofs.lemmas.List.{length-map}
use Rattle.cstn_label.specs.Labels.{IsPlain}
use Rattle.cstn_label.specs.Read.{marks}
use Rattle.cstn_net.specs.Limits.{most_edits}
use Rattle.cstn_net.specs.declared.constraints.Constraint.{Constraint}
use Rattle.cstn_net.specs.Networks.{IsValue, IsLeastUnobserved}
use Rattle.cstn_net.specs.Read.{the_network, the_constraint}
use Rattle.cstn_change.specs.Changes.{adds, refusal}
use Rattle.cstn_change.specs.Read.{the_change_refusal}
use Rattle.cstn_change.specs.declared.errors.EditError.TheVariants.{NoRoom, ValueRange, NotObserved}
use Rattle.cstn_edit.specs.Sessions.{EditSessionParts}
use Rattle.cstn_edit.specs.Edits.{the_session, with_change}
use Rattle.cstn_edit.specs.Fresh.{constraint_ids}
use Rattle.cstn_edit.proofs.EditLemmas.{added_seen, refusal_seen, refused_where}
use Rattle.cstn_edit.proofs.FreshLemmas.{some_short, added_freshened}
use Rattle.cstn_edit.proofs.AddLemmas.{added_session}
use Rattle.cstn_edit.proofs.sessions.Session.add.Goals as goal

pub returns-clause-session : goal.returns-clause-session
returns-clause-session c = λ ok.
    added_seen _ c.args.self.now c.insert.new.self
    (record { id = c.self.inside.next; from = c.args.from; to = c.args.to; most = to_z w32 (of_z w32 c.args.most); label = c.args.label })
    c.insert.new.self.spare c.self.view_is c.insert.ensures.insert refl
    ∙ ap (λ z. with_change (the_session c.args.self.now) (adds c.args.from.0 c.args.to.0 z (marks c.args.label))) (to_z-of_z w32 c.args.most c.ranges.most)

pub invariant_of-self : goal.invariant_of-self
invariant_of-self c =
    let few = c.in_default.ensures.below in
    let short : length c.self.inside.net.constraints < c.self.inside.room = let room = c.in_default.ensures.possible.room in omega (arith, room, length-map c.self.inside.net.constraints the_constraint) in
    let pushed = rw c.unwrap.ensures at c.push.ensures.items in (
      added_session c.derivations_move.ensures.elsewhere c.self.inside.net c.insert.new.self _ c.self.inside.log c.self.inside.room c.self.inside.edits c.self.inside.next
          c.self.inside.last c.self.invariant.0 c.insert.ensures.insert c.insert.ensures.spare few short refl,
      added_freshened c.self.inside.net c.insert.new.self _ c.self.inside.log c.self.inside.room c.self.inside.fresh.items c.push.new.self.items c.self.inside.settled (vec_capacity c.self.inside.fresh) (vec_capacity c.self.inside.list) (vec_capacity c.push.new.self) c.self.inside.next
          c.self.invariant.1 c.self.invariant.0.below (omega arith) c.insert.ensures.insert pushed (omega (arith, c.push.ensures.capacity, c.push.ensures.lower_bound)),
    )

pub unwrap-requires : goal.unwrap-requires
unwrap-requires c =
    let room = c.in_default.ensures.possible.room in
    let some = some_short c.self.inside.fresh.items (constraint_ids c.self.inside.net.constraints) c.self.invariant.1.some in
    c.push.ensures.succeeds (omega (arith, some, room, length-map c.self.inside.net.constraints the_constraint, length-map c.self.inside.net.constraints (λ (d : Constraint). d.id), c.self.invariant.1.for_fresh, c.self.inside.fresh.ok))

pub returns-in-Some-clause-refusal : goal.returns-in-Some-clause-refusal
returns-in-Some-clause-refusal c =
    refusal_seen _ c.args.self.now (adds c.args.from.0 c.args.to.0 c.args.most (marks c.args.label)) (Some (the_change_refusal c.in-Some.error)) c.self.view_is
    (c.in-Some.ensures.refusal c.self.inside.next c.args.from.0 c.args.to.0 ∙ ap (λ z. refusal c.self.inside.room (record { net = the_network c.self.inside.net; fresh = c.self.inside.next; edits = c.self.inside.edits }) (adds c.args.from.0 c.args.to.0 z (marks c.args.label))) (to_z-of_z w32 c.args.most c.ranges.most))

pub returns-clause-refusal : goal.returns-clause-refusal
returns-clause-refusal c =
    refusal_seen _ c.args.self.now (adds c.args.from.0 c.args.to.0 c.args.most (marks c.args.label)) None c.self.view_is
    (c.in_default.ensures.refusal c.self.inside.next c.args.from.0 c.args.to.0 ∙ ap (λ z. refusal c.self.inside.room (record { net = the_network c.self.inside.net; fresh = c.self.inside.next; edits = c.self.inside.edits }) (adds c.args.from.0 c.args.to.0 z (marks c.args.label))) (to_z-of_z w32 c.args.most c.ranges.most))

pub returns-in-Some-clause-no_room : goal.returns-in-Some-clause-no_room
returns-in-Some-clause-no_room c = λ room.
    let both = c.in-Some.ensures.no_room room in
    let fits = c.self.invariant.0.fits in
    refused_where _ c.args.self.now c.in-Some.error (NoRoom room)
    (λ (v : EditSessionParts). (v.edits < most_edits) × (length v.net.constraints ≡ v.room) × (room ≡ v.room)) c.self.view_is (
      λ e. let said = both.0 e in (said.0, (let full = said.1 in omega arith), said.2),
      λ said. both.1 (said.0, (let full = said.1 in omega arith), said.2),
    )

pub returns-in-Some-clause-value : goal.returns-in-Some-clause-value
returns-in-Some-clause-value c = λ v.
    refused_where _ c.args.self.now c.in-Some.error (ValueRange v)
    (λ (s : EditSessionParts). (s.edits < most_edits) × (length s.net.constraints < s.room) × (IsValue c.args.most → ⊥) × (v ≡ c.args.most)) c.self.view_is
    (rw (to_z-of_z w32 c.args.most c.ranges.most) at (c.in-Some.ensures.value v))

pub returns-in-Some-clause-observed : goal.returns-in-Some-clause-observed
returns-in-Some-clause-observed c = λ p.
    refused_where _ c.args.self.now c.in-Some.error (NotObserved p)
    (λ (s : EditSessionParts). (s.edits < most_edits) × (length s.net.constraints < s.room) × IsValue c.args.most × IsPlain (marks c.args.label)
    × IsLeastUnobserved (the_network s.net) (marks c.args.label) p.index) c.self.view_is
    (rw (to_z-of_z w32 c.args.most c.ranges.most) at (c.in-Some.ensures.observed p))
