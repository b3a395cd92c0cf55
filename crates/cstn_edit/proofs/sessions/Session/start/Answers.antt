use Rattle.std.proofs.Common.{arith, ap, sym, subst}
use Rattle.cstn_net.specs.Read.{the_network}
use Rattle.cstn_log.specs.Entries.{the_entries, first_entries}
use Rattle.std.proofs.Common.{◌≡◌}
use Rattle.std.proofs.lemmas.Bool.{false≢true}
use Rattle.cstn_edit.specs.Edits.{Session}
use Rattle.cstn_edit.specs.Fresh.{constraint_ids}
use Rattle.cstn_edit.proofs.FreshLemmas.{some_none}
use Rattle.cstn_edit.proofs.StartLemmas.{started_log, started_session, started_seen}
use Rattle.cstn_net.specs.Read.{NetworkParts}
use Rattle.std.specs.List.{All}
use Rattle.std.proofs.Common.{◌<◌, ◌^◌}
use Rattle.cstn_change.proofs.IdLemmas.{ids_of as ids_below}
use Rattle.cstn_edit.proofs.sessions.Session.start.Goals as goal

pub invariant_of-result : goal.invariant_of-result
invariant_of-result c =
    let log = c.in_ok-log.log in
    let net = the_network c.reserve.new.self in
    let size = c.in_ok-log.ensures.size in
    let starts = subst (λ cap. the_entries log.entries ≡ first_entries net cap) (sym size.0) c.in_ok-log.ensures.start in
    let kept = started_log net log starts size.1 c.in_ok-log.ensures.derivation (omega (arith, size.0, c.args.cap.some))
    (omega (arith, size.0, c.args.cap.most)) in (
      started_session c.args.net c.reserve.new.self log c.args.room c.id_above-next.result c.reserve.ensures.well_formed
          c.reserve.ensures.same c.requires.room c.requires.most_room c.id_above-next.ensures.each
          (omega (arith, c.id_above-next.ensures.above, c.id_above-next.ensures.small)) c.in_ok-reserve.ensures.room kept
          c.in_ok-log.ensures.births c.id_above-next.ensures.above,
      record {
        some = rw c.in_ok-fresh.ensures.items (some_none (constraint_ids c.reserve.new.self.constraints));
        spent = λ t. absurd (false≢true t);
        for_fresh = omega (arith, c.in_ok-fresh.ensures.capacity);
        for_list = omega (arith, c.in_ok-list.ensures.capacity);
      },
    )

pub returns-clause-session : goal.returns-clause-session
returns-clause-session c =
    let log = c.in_ok-log.log in
    let net = c.reserve.new.self in
    let size = c.in_ok-log.ensures.size in
    let starts = subst (λ cap. the_entries log.entries ≡ first_entries (the_network net) cap) (sym size.0) c.in_ok-log.ensures.start in
    started_seen c.args.net net log c.args.room 0 c.id_above-next.result c.reserve.ensures.same starts c.id_above-next.ensures.above

pub returns-clause-kept : goal.returns-clause-kept
returns-clause-kept c = ap (λ (s : Session). s.kept) (returns-clause-session c)

pub id_above-next-requires : goal.id_above-next-requires
id_above-next-requires c = record {
  ids = ids_below (2 ^ 31) c.reserve.new.self.constraints
      (subst (λ (n : NetworkParts). All (λ d. d.id < 2 ^ 31) n.constraints) (sym c.reserve.ensures.same) c.requires.ids);
}
