use Rattle.std.proofs.Common.{◌≡◌, ◌≢◌, ◌<◌, ◌+◌, ◌↔◌, [], length, true, map, None, Some, not, refl, sym, subst, ap, arith}
use Rattle.std.specs.Prelude.{vec_capacity}
use Rattle.std.proofs.lemmas.List.Elements.{All-filter}
use Rattle.std.specs.List.{All}
use Rattle.cstn_net.specs.Limits.{most_edits}
use Rattle.cstn_net.specs.Networks.{count}
use Rattle.cstn_net.specs.Read.{NetworkParts, the_network, the_constraint, has_id, without_id}
use Rattle.cstn_log.specs.Cuts.{chosen, dropped, marked_staying}
use Rattle.cstn_log.specs.Entries.{the_entries}
use Rattle.cstn_change.specs.Changes.{removes, constraints_without}
use Rattle.cstn_change.specs.Read.{the_change_refusal}
use Rattle.cstn_change.specs.declared.errors.EditError.TheVariants.{NoSuch}
use Rattle.cstn_change.proofs.IdLemmas.{without_seen}
use Rattle.cstn_edit.specs.Sessions.{EditSessionParts, IsEditSession, kept_of, kept_list}
use Rattle.cstn_edit.specs.Fresh.{IsFreshened}
use Rattle.cstn_edit.proofs.EditLemmas.{refusal_seen, refused_where, others_seen}
use Rattle.cstn_edit.proofs.FreshLemmas.{cut_freshened, left_there}
use Rattle.cstn_edit.proofs.CutLemmas.{some_where, where_some, cut_session, kept_dropped, others_left, without_many, without_few}
use Rattle.cstn_edit.proofs.sessions.Session.remove.Goals as goal

gone : (c : goal.After-self-3-1) → c.take_out.new.self ≡ record c.self.inside.net {
  constraints = without_id c.args.id c.self.inside.net.constraints;
  spare = c.self.inside.net.spare + 1;
}
gone c = where_some _ c.take_out.result (some_where c.take_out.result c.take_out.ensures.none c.in_default.ensures.present) c.take_out.ensures.gone

pub invariant_of-self : goal.invariant_of-self
invariant_of-self c =
    let inside = c.self.inside in
    let old = c.self.invariant.0 in
    let cs = inside.net.constraints in
    let left : NetworkParts = record inside.net { constraints = without_id c.args.id cs; spare = inside.net.spare + 1 } in
    let made = rw (gone c) at c.forget-self-inside.ensures.fresh in
    let size = without_few c.args.id cs in
    subst (λ (n : NetworkParts). IsEditSession n c.forget-self-inside.new.log inside.room (inside.edits + 1) inside.next None × IsFreshened n c.forget-self-inside.new.log inside.room c.forget-self-inside.new.fresh.items c.forget-self-inside.result (vec_capacity c.forget-self-inside.new.fresh) (vec_capacity c.forget-self-inside.new.list)) (sym (gone c)) (
      cut_session inside.net left inside.log c.forget-self-inside.new.log inside.room inside.edits c.args.id inside.next inside.last old
          c.in_default.ensures.below
          c.forget-self-inside.ensures.short refl
          (others_left c.args.id cs) size
          (omega (arith, old.spare, without_many inside.net c.args.id c.network_is_well_formed.ensures))
          (All-filter (λ d. not (has_id c.args.id d)) (λ d. d.id < inside.next) cs old.below)
          c.forget-self-inside.ensures.dropped (omega (arith, c.forget-self-inside.ensures.births)) c.forget-self-inside.ensures.size.0 c.forget-self-inside.ensures.size.1,
      cut_freshened inside.net left inside.log c.forget-self-inside.new.log inside.room c.args.id inside.fresh.items c.forget-self-inside.new.fresh.items inside.settled c.forget-self-inside.result _ _ _ _
          c.self.invariant.1 refl (λ d has other. left_there c.args.id (map the_constraint cs) d (rw (without_seen c.args.id cs) at has)) made c.forget-self-inside.ensures.settled
          (omega (arith, c.forget-self-inside.ensures.room.0, c.self.invariant.1.for_list)) (omega (arith, c.forget-self-inside.ensures.room.1, c.self.invariant.1.for_fresh)),
    )

pub returns-clause-kept : goal.returns-clause-kept
returns-clause-kept c = λ ok.
    let inside = c.self.inside in
    let points : count (the_network c.take_out.new.self) ≡ count (the_network inside.net) = ap (λ (n : NetworkParts). count (the_network n)) (gone c) in
    subst (λ (v : EditSessionParts). kept_list (the_network c.take_out.new.self) c.forget-self-inside.new.log.cap (the_entries c.forget-self-inside.new.log.entries) ≡ dropped (kept_of v) c.args.id)
    c.self.view_is
    (kept_dropped (the_network inside.net) (the_network c.take_out.new.self) inside.log c.forget-self-inside.new.log c.args.id points
    c.forget-self-inside.ensures.size.0 c.forget-self-inside.ensures.dropped)

pub returns-clause-session : goal.returns-clause-session
returns-clause-session c = λ ok.
    let inside = c.self.inside in
    let cs = inside.net.constraints in
    others_seen c.args.self.now inside.net c.take_out.new.self inside.log c.forget-self-inside.new.log (without_id c.args.id cs) (constraints_without c.args.id)
    inside.room inside.edits c.args.id (inside.net.spare + 1) inside.tries.count inside.next inside.last inside.fresh.items inside.settled c.self.view_is (gone c)
    (without_seen c.args.id cs) c.forget-self-inside.ensures.size.0 c.forget-self-inside.ensures.dropped

pub forget-self-inside-requires : goal.forget-self-inside-requires
forget-self-inside-requires c =
    let left = where_some _ c.take_out.result (some_where c.take_out.result c.take_out.ensures.none c.in_default.ensures.present) c.take_out.ensures.gone in
    omega (arith, ap (λ (n : NetworkParts). length n.constraints) left, without_few c.args.id c.self.inside.net.constraints, c.self.invariant.0.fits, c.self.invariant.1.for_list)

pub returns-clause-settled : goal.returns-clause-settled
returns-clause-settled c = λ ok.
    subst (λ (v : EditSessionParts). (c.forget-self-inside.result ≡ true) ↔ ((v.settled ≡ true) × (c.forget-self-inside.new.log.entries ≡ v.entries))) c.self.view_is
    c.forget-self-inside.ensures.settled

pub returns-clause-ids : goal.returns-clause-ids
returns-clause-ids c = λ ok.
    subst (λ (v : EditSessionParts). c.forget-self-inside.new.log.ids ≡ chosen (marked_staying c.args.id [] (the_entries v.entries)) v.ids) c.self.view_is
    c.forget-self-inside.ensures.ids

pub returns-in-Some-clause-refusal : goal.returns-in-Some-clause-refusal
returns-in-Some-clause-refusal c =
    refusal_seen _ c.args.self.now (removes c.args.id) (Some (the_change_refusal c.in-Some.error)) c.self.view_is
    (c.in-Some.ensures.refusal c.self.inside.room c.self.inside.next)

pub returns-clause-refusal : goal.returns-clause-refusal
returns-clause-refusal c =
    refusal_seen _ c.args.self.now (removes c.args.id) None c.self.view_is
    (c.in_default.ensures.refusal c.self.inside.room c.self.inside.next)

pub returns-in-Some-clause-none : goal.returns-in-Some-clause-none
returns-in-Some-clause-none c = λ other.
    refused_where _ c.args.self.now c.in-Some.error (NoSuch other)
    (λ (s : EditSessionParts). (s.edits < most_edits) × All (λ d. d.id ≢ c.args.id) s.net.constraints × (other ≡ c.args.id)) c.self.view_is
    (c.in-Some.ensures.none other)
