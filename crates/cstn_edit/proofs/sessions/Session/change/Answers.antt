use Rattle.std.proofs.Common.{◌≡◌, ◌≢◌, ◌<◌, ◌+◌, ◌∙◌, ◌↔◌, w32, to_z, of_z, [], length, true, map, None, Some, refl, sym, subst, ap, arith}
use Rattle.std.specs.Prelude.{vec_capacity}
use Rattle.std.proofs.lemmas.Int.{to_z-of_z}
use Rattle.std.proofs.lemmas.List.{length-map}
use Rattle.std.specs.List.{All}
use Rattle.cstn_net.specs.Limits.{most_edits}
use Rattle.cstn_net.specs.Networks.{IsValue, count}
use Rattle.cstn_net.specs.Read.{NetworkParts, the_network, the_constraint, with_most}
use Rattle.cstn_log.specs.Cuts.{chosen, dropped, marked_staying}
use Rattle.cstn_log.specs.Entries.{the_entries}
use Rattle.cstn_change.specs.Changes.{revalues, refusal, with_value}
use Rattle.cstn_change.specs.Read.{the_change_refusal}
use Rattle.cstn_change.specs.declared.errors.EditError.TheVariants.{NoSuch, ValueRange}
use Rattle.cstn_change.proofs.IdLemmas.{with_most_seen}
use Rattle.cstn_edit.specs.Sessions.{EditSessionParts, IsEditSession, kept_of, kept_list}
use Rattle.cstn_edit.specs.Edits.{with_change, the_session}
use Rattle.cstn_edit.specs.Fresh.{IsFreshened}
use Rattle.cstn_edit.proofs.EditLemmas.{refusal_seen, refused_where, taken_where, others_seen}
use Rattle.cstn_edit.proofs.FreshLemmas.{cut_freshened, with_there}
use Rattle.cstn_edit.proofs.CutLemmas.{cut_session, kept_dropped, others_with, with_below}
use Rattle.cstn_edit.proofs.sessions.Session.change.Goals as goal

pub invariant_of-self : goal.invariant_of-self
invariant_of-self c =
    let inside = c.self.inside in
    let old = c.self.invariant.0 in
    let cs = inside.net.constraints in
    let new : NetworkParts = record inside.net { constraints = map (with_most c.args.id (to_z w32 (of_z w32 c.args.most))) cs } in
    let long = length-map cs (with_most c.args.id (to_z w32 (of_z w32 c.args.most))) in
    let made = rw c.set_most-self-inside.ensures.set at c.forget-self-inside.ensures.fresh in
    subst (λ (n : NetworkParts). IsEditSession n c.forget-self-inside.new.log inside.room (inside.edits + 1) inside.next None × IsFreshened n c.forget-self-inside.new.log inside.room c.forget-self-inside.new.fresh.items c.forget-self-inside.result (vec_capacity c.forget-self-inside.new.fresh) (vec_capacity c.forget-self-inside.new.list)) (sym c.set_most-self-inside.ensures.set) (
      cut_session inside.net new inside.log c.forget-self-inside.new.log inside.room inside.edits c.args.id inside.next inside.last old
          c.in_default.ensures.below
          c.forget-self-inside.ensures.short refl
          (others_with c.args.id (to_z w32 (of_z w32 c.args.most)) cs) (omega (arith, long)) (omega (arith, long, old.spare))
          (with_below c.args.id inside.next (to_z w32 (of_z w32 c.args.most)) cs old.below)
          c.forget-self-inside.ensures.dropped (omega (arith, c.forget-self-inside.ensures.births)) c.forget-self-inside.ensures.size.0 c.forget-self-inside.ensures.size.1,
      cut_freshened inside.net new inside.log c.forget-self-inside.new.log inside.room c.args.id inside.fresh.items c.forget-self-inside.new.fresh.items inside.settled c.forget-self-inside.result _ _ _ _
          c.self.invariant.1 refl (λ d has other. with_there c.args.id (to_z w32 (of_z w32 c.args.most)) (map the_constraint cs) d (rw (with_most_seen c.args.id (to_z w32 (of_z w32 c.args.most)) cs) at has) other) made c.forget-self-inside.ensures.settled
          (omega (arith, c.forget-self-inside.ensures.room.0, c.self.invariant.1.for_list)) (omega (arith, c.forget-self-inside.ensures.room.1, c.self.invariant.1.for_fresh)),
    )

pub returns-clause-kept : goal.returns-clause-kept
returns-clause-kept c = λ ok.
    let inside = c.self.inside in
    let points : count (the_network c.set_most-self-inside.new.self) ≡ count (the_network inside.net) =
    ap (λ (n : NetworkParts). count (the_network n)) c.set_most-self-inside.ensures.set in
    subst (λ (v : EditSessionParts). kept_list (the_network c.set_most-self-inside.new.self) c.forget-self-inside.new.log.cap (the_entries c.forget-self-inside.new.log.entries) ≡ dropped (kept_of v) c.args.id)
    c.self.view_is
    (kept_dropped (the_network inside.net) (the_network c.set_most-self-inside.new.self) inside.log c.forget-self-inside.new.log c.args.id points
    c.forget-self-inside.ensures.size.0 c.forget-self-inside.ensures.dropped)

pub returns-clause-session : goal.returns-clause-session
returns-clause-session c = λ ok.
    let inside = c.self.inside in
    let cs = inside.net.constraints in
    let most = to_z w32 (of_z w32 c.args.most) in
    others_seen c.args.self.now inside.net c.set_most-self-inside.new.self inside.log c.forget-self-inside.new.log (map (with_most c.args.id most) cs)
    (map (with_value c.args.id most)) inside.room inside.edits c.args.id inside.net.spare inside.tries.count inside.next inside.last inside.fresh.items inside.settled
    c.self.view_is c.set_most-self-inside.ensures.set (with_most_seen c.args.id most cs) c.forget-self-inside.ensures.size.0 c.forget-self-inside.ensures.dropped
    ∙ ap (λ z. with_change (the_session c.args.self.now) (revalues c.args.id z)) (to_z-of_z w32 c.args.most c.ranges.most)

pub forget-self-inside-requires : goal.forget-self-inside-requires
forget-self-inside-requires c =
    let cs = c.self.inside.net.constraints in
    let long = length-map cs (with_most c.args.id (to_z w32 (of_z w32 c.args.most))) in
    omega (arith, ap (λ (n : NetworkParts). length n.constraints) c.set_most-self-inside.ensures.set, long, c.self.invariant.0.fits, c.self.invariant.1.for_list)

pub returns-clause-settled : goal.returns-clause-settled
returns-clause-settled c = λ ok.
    subst (λ (v : EditSessionParts). (c.forget-self-inside.result ≡ true) ↔ ((v.settled ≡ true) × (c.forget-self-inside.new.log.entries ≡ v.entries))) c.self.view_is
    c.forget-self-inside.ensures.settled

pub returns-clause-ids : goal.returns-clause-ids
returns-clause-ids c = λ ok.
    subst (λ (v : EditSessionParts). c.forget-self-inside.new.log.ids ≡ chosen (marked_staying c.args.id [] (the_entries v.entries)) v.ids) c.self.view_is
    c.forget-self-inside.ensures.ids

pub returns-in-Some-clause-refusal : goal.returns-in-Some-clause-refusal
returns-in-Some-clause-refusal c =
    refusal_seen _ c.args.self.now (revalues c.args.id c.args.most) (Some (the_change_refusal c.in-Some.error)) c.self.view_is
    (c.in-Some.ensures.refusal c.self.inside.room c.self.inside.next ∙ ap (λ z. refusal c.self.inside.room (record { net = the_network c.self.inside.net; fresh = c.self.inside.next; edits = c.self.inside.edits }) (revalues c.args.id z)) (to_z-of_z w32 c.args.most c.ranges.most))

pub returns-clause-refusal : goal.returns-clause-refusal
returns-clause-refusal c =
    refusal_seen _ c.args.self.now (revalues c.args.id c.args.most) None c.self.view_is
    (c.in_default.ensures.refusal c.self.inside.room c.self.inside.next ∙ ap (λ z. refusal c.self.inside.room (record { net = the_network c.self.inside.net; fresh = c.self.inside.next; edits = c.self.inside.edits }) (revalues c.args.id z)) (to_z-of_z w32 c.args.most c.ranges.most))

pub returns-in-Some-clause-none : goal.returns-in-Some-clause-none
returns-in-Some-clause-none c = λ other.
    refused_where _ c.args.self.now c.in-Some.error (NoSuch other)
    (λ (s : EditSessionParts). (s.edits < most_edits) × All (λ d. d.id ≢ c.args.id) s.net.constraints × (other ≡ c.args.id)) c.self.view_is
    (c.in-Some.ensures.none other)

pub returns-in-Some-clause-value : goal.returns-in-Some-clause-value
returns-in-Some-clause-value c = λ v.
    refused_where _ c.args.self.now c.in-Some.error (ValueRange v)
    (λ (s : EditSessionParts). (s.edits < most_edits) × (All (λ d. d.id ≢ c.args.id) s.net.constraints → ⊥) × (IsValue c.args.most → ⊥)
    × (v ≡ c.args.most)) c.self.view_is
    (rw (to_z-of_z w32 c.args.most c.ranges.most) at (c.in-Some.ensures.value v))

pub returns-clause-none : goal.returns-clause-none
returns-clause-none c = λ other.
    taken_where _ c.args.self.now _ (NoSuch other)
    (λ (s : EditSessionParts). (s.edits < most_edits) × All (λ d. d.id ≢ c.args.id) s.net.constraints × (other ≡ c.args.id)) c.self.view_is
    (c.in_default.ensures.none other)
