use Rattle.std.specs.Prelude.{List, ℕ, false}
use Rattle.cstn_reply.specs.Written.{LiveState, view}
use Rattle.cstn_reply.specs.Read.{the_said}
use Rattle.cstn_run.specs.hosted.Sessions.{host_turn, host_wants, host_ending}
use Rattle.cstn_run.specs.hosted.SessionRead.{the_host_session}
use Rattle.cstn_follow.specs.Marks.{marked_ending}
use Rattle.cstn_follow.specs.MarkedRead.{the_marked}
use Rattle.cstn_run.specs.Sessions.{guided_turn, guided_ending}
use Rattle.cstn_top.specs.declared.commands.Prepared.TheVariants.{Says, Runs, Edits, Follows, Hosts}
use Rattle.cstn_top.specs.commands.Follow.{marked_turn}
use Rattle.cstn_top.proofs.Endings.{text_end, opened_ends, opened_ended, ends_as, opened_stops, ended_stops, stops_as}
use Rattle.cstn_top.proofs.top.speak.Goals as goal

pub returns-in-Says-clause-ends : goal.returns-in-Says-clause-ends
returns-in-Says-clause-ends g c =
    let seen : LiveState = view g.S.Source.left g.S.Source.faults g.S.Source.reads c.args.live.now in
    ends_as _ (Says c.in-Says.said) seen seen _ _ _ c.in-Says.is
    (text_end (the_said c.in-Says.said) c.deref.result.now seen _ _ c.status.result _ c.deref.ensures.value c.status.ensures.status c.finish.ensures.written)

pub returns-in-Runs-clause-ends : goal.returns-in-Runs-clause-ends
returns-in-Runs-clause-ends g c =
    ends_as _ (Runs c.in-Runs.opening c.in-Runs.session) _ _ _ _ _ c.in-Runs.is
    (opened_ends (λ (line : List ℕ). false) guided_turn guided_ending c.in-Runs.session _ _ _ _ _ _ _ c.deref-in-Runs.ensures.value c.converse.ensures.ends)

pub returns-in-Edits-clause-ends : goal.returns-in-Edits-clause-ends
returns-in-Edits-clause-ends g c = ends_as _ (Edits c.in-Edits.session) _ _ _ _ _ c.in-Edits.is c.converse-in-Edits.ensures.ends

pub returns-in-Follows-clause-ends : goal.returns-in-Follows-clause-ends
returns-in-Follows-clause-ends g c =
    ends_as _ (Follows c.in-Follows.opening c.in-Follows.session) _ _ _ _ _ c.in-Follows.is
    (opened_ended marked_turn marked_ending (the_marked c.in-Follows.session) _ _ _ _ _ _ _ c.deref-in-Follows.ensures.value c.converse-in-Follows.ensures.ends)

pub returns-in-Hosts-clause-ends : goal.returns-in-Hosts-clause-ends
returns-in-Hosts-clause-ends g c =
    ends_as _ (Hosts c.in-Hosts.opening c.in-Hosts.session) _ _ _ _ _ c.in-Hosts.is
    (opened_ends host_wants host_turn host_ending (the_host_session c.in-Hosts.session) _ _ _ _ _ _ _ c.deref-in-Hosts.ensures.value c.converse-in-Hosts.ensures.ends)

pub returns-in-Runs-clause-memory : goal.returns-in-Runs-clause-memory
returns-in-Runs-clause-memory g c is =
    stops_as _ _ (Runs c.in-Runs.opening c.in-Runs.session) _ c.in-Runs.is
    (opened_stops (λ (line : List ℕ). false) guided_turn guided_ending c.in-Runs.session _ _ _ _ c.deref-in-Runs.ensures.value (c.converse.ensures.memory is))

pub returns-in-Edits-clause-memory : goal.returns-in-Edits-clause-memory
returns-in-Edits-clause-memory g c is = stops_as _ _ (Edits c.in-Edits.session) _ c.in-Edits.is (c.converse-in-Edits.ensures.memory is)

pub returns-in-Follows-clause-memory : goal.returns-in-Follows-clause-memory
returns-in-Follows-clause-memory g c is =
    stops_as _ _ (Follows c.in-Follows.opening c.in-Follows.session) _ c.in-Follows.is
    (ended_stops marked_turn marked_ending (the_marked c.in-Follows.session) _ _ _ _ c.deref-in-Follows.ensures.value (c.converse-in-Follows.ensures.memory is))

pub returns-in-Hosts-clause-memory : goal.returns-in-Hosts-clause-memory
returns-in-Hosts-clause-memory g c is =
    stops_as _ _ (Hosts c.in-Hosts.opening c.in-Hosts.session) _ c.in-Hosts.is
    (opened_stops host_wants host_turn host_ending (the_host_session c.in-Hosts.session) _ _ _ _ c.deref-in-Hosts.ensures.value (c.converse-in-Hosts.ensures.memory is))
