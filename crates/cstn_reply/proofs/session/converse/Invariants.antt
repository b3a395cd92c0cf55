use Rattle.std.proofs.Common.{◌≡◌, ◌≤◌, ◌-◌, ◌++◌, List, ℕ, true}
use Rattle.cstn_io.specs.Contents.{with_bytes, IsAtEnd}
use Rattle.cstn_reply.specs.Written.{view}
use Rattle.cstn_reply.specs.Reached.{Progress}
use Rattle.cstn_reply.proofs.session.converse.Given as goal

abbrev pub invariant-session : goal.invariant-session
invariant-session g l = record {
  progress : (taken said : List ℕ) × Progress g.T.Talk.ends g.T.Talk.turn (g.T.Talk.state l.fn.talk) (view g.S.Source.left g.S.Source.faults g.S.Source.reads l.fn.live) (view g.S.Source.left g.S.Source.faults g.S.Source.reads l.live) l.lines (g.T.Talk.state l.talk) taken said × (g.K.Sink.written l.out ≡ with_bytes (g.K.Sink.written l.fn.out) (l.opening ++ said));
  at_end : l.lines.ended ≡ true → IsAtEnd (g.S.Source.left l.live);
  count : l.lines.count ≤ 16777216;
  live : g.S.Source.faults l.fn.live ≤ g.S.Source.faults l.live;
  out : g.K.Sink.faults l.fn.out ≤ g.K.Sink.faults l.out;
}

abbrev pub decreases-session : goal.decreases-session
decreases-session g l = 16777217 - l.lines.count
