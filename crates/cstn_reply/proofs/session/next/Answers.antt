use Rattle.std.proofs.Common.{ℕ, ◌++◌, List, refl}
use Rattle.cstn_lines.specs.Steps.{heard_line, HandsOut, IsOver, HasWrongLine, IsBroken}
use Rattle.cstn_reply.proofs.Talking.{turned, asked, steps_on, one_more, stops_here, last_line, wrong_line, past_line, no_line, fault_line, memory_line}
use Rattle.cstn_reply.proofs.session.next.Goals as goal

pub returns-in-Ok-More-clause-goes_on : goal.returns-in-Ok-More-clause-goes_on
returns-in-Ok-More-clause-goes_on g c start before taken said so_far =
    let step = steps_on g.T.Talk.ends g.T.Talk.turn start before g.S.Source.left g.S.Source.faults g.S.Source.reads c.args.live.now c.step.new.source c.args.lines.now c.step.new.self (g.T.Talk.state c.args.talk.now) taken said
    (λ (bytes : List ℕ). HandsOut (c.args.lines.now.kept ++ bytes) c.args.lines.now.count c.step.new.self c.in-Line.number) so_far c.in-Line.ensures.steps c.in-Line.ensures.idle c.in-Line.ensures.reads c.in-Line.ensures.stays (c.in-Line.ensures.ended c.requires.at_end) in
    let turn = turned g.T.Talk.turn (g.T.Talk.state c.args.talk.now) (g.T.Talk.state c.answer.new.self) _ (heard_line g.T.Talk.ends c.step.new.self) _ _ _ c.in-Ok-More.ensures.turn c.heard_line.ensures c.in-Ok-More.field-0-is in (
      step.0,
      one_more g.T.Talk.ends g.T.Talk.turn start before _ _ _ _ _ taken said step.0 step.1 c.in-Line.number step.2 _ _ turn,
    )

pub returns-in-Ok-Last-clause-ends : goal.returns-in-Ok-Last-clause-ends
returns-in-Ok-Last-clause-ends g c start before taken said opening so_far earlier =
    let step = steps_on g.T.Talk.ends g.T.Talk.turn start before g.S.Source.left g.S.Source.faults g.S.Source.reads c.args.live.now c.step.new.source c.args.lines.now c.step.new.self (g.T.Talk.state c.args.talk.now) taken said
    (λ (bytes : List ℕ). HandsOut (c.args.lines.now.kept ++ bytes) c.args.lines.now.count c.step.new.self c.in-Line.number) so_far c.in-Line.ensures.steps c.in-Line.ensures.idle c.in-Line.ensures.reads c.in-Line.ensures.stays (c.in-Line.ensures.ended c.requires.at_end) in
    let turn = turned g.T.Talk.turn (g.T.Talk.state c.args.talk.now) (g.T.Talk.state c.answer.new.self) _ (heard_line g.T.Talk.ends c.step.new.self) _ _ _ c.in-Ok-Last.ensures.turn c.heard_line.ensures c.in-Ok-Last.field-0-is in
    last_line g.T.Talk.ends g.T.Talk.turn g.T.Talk.ending g.T.Talk.may_stop opening start before _ _ _ _ _ taken said step.0 step.1 _ c.in-Line.number _ _ step.2 turn c.status.ensures.status

pub returns-in-Ok-Wrong-clause-ends : goal.returns-in-Ok-Wrong-clause-ends
returns-in-Ok-Wrong-clause-ends g c start before taken said opening so_far earlier =
    let step = steps_on g.T.Talk.ends g.T.Talk.turn start before g.S.Source.left g.S.Source.faults g.S.Source.reads c.args.live.now c.step.new.source c.args.lines.now c.step.new.self (g.T.Talk.state c.args.talk.now) taken said
    (λ (bytes : List ℕ). HandsOut (c.args.lines.now.kept ++ bytes) c.args.lines.now.count c.step.new.self c.in-Line.number) so_far c.in-Line.ensures.steps c.in-Line.ensures.idle c.in-Line.ensures.reads c.in-Line.ensures.stays (c.in-Line.ensures.ended c.requires.at_end) in
    let turn = turned g.T.Talk.turn (g.T.Talk.state c.args.talk.now) (g.T.Talk.state c.answer.new.self) _ (heard_line g.T.Talk.ends c.step.new.self) _ _ _ c.in-Ok-Wrong.ensures.turn c.heard_line.ensures c.in-Ok-Wrong.field-0-is in
    wrong_line g.T.Talk.ends g.T.Talk.turn g.T.Talk.ending g.T.Talk.may_stop opening start before _ _ _ _ _ taken said step.0 step.1 _ c.in-Line.number _ step.2 turn c.put_script.ensures refl

pub returns-in-Err-clause-ends : goal.returns-in-Err-clause-ends
returns-in-Err-clause-ends g c start before taken said opening so_far earlier =
    let step = steps_on g.T.Talk.ends g.T.Talk.turn start before g.S.Source.left g.S.Source.faults g.S.Source.reads c.args.live.now c.step.new.source c.args.lines.now c.step.new.self (g.T.Talk.state c.args.talk.now) taken said
    (λ (bytes : List ℕ). HandsOut (c.args.lines.now.kept ++ bytes) c.args.lines.now.count c.step.new.self c.in-Line.number) so_far c.in-Line.ensures.steps c.in-Line.ensures.idle c.in-Line.ensures.reads c.in-Line.ensures.stays (c.in-Line.ensures.ended c.requires.at_end) in
    memory_line g.T.Talk.ends g.T.Talk.turn g.T.Talk.ending g.T.Talk.may_stop opening start before _ _ _ _ _ taken said step.0 step.1 _ c.in-Line.number _ step.2
    (asked g.T.Talk.may_stop _ _ c.in-Err.ensures.memory c.heard_line.ensures) c.put.ensures refl

pub returns-in-End-clause-ends : goal.returns-in-End-clause-ends
returns-in-End-clause-ends g c start before taken said opening so_far earlier =
    let step = steps_on g.T.Talk.ends g.T.Talk.turn start before g.S.Source.left g.S.Source.faults g.S.Source.reads c.args.live.now c.step.new.source c.args.lines.now c.step.new.self (g.T.Talk.state c.args.talk.now) taken said
    (λ (bytes : List ℕ). IsOver (c.args.lines.now.kept ++ bytes) c.args.lines.now.count c.step.new.self) so_far c.in-End.ensures.steps c.in-End.ensures.idle c.in-End.ensures.reads c.in-End.ensures.stays (c.in-End.ensures.ended c.requires.at_end) in
    no_line g.T.Talk.ends g.T.Talk.turn g.T.Talk.ending g.T.Talk.may_stop opening start before _ _ _ _ _ taken said step.0 step.1 _ _ _ step.2 c.ending.ensures c.status-in-End.ensures.status

pub returns-in-Wrong-clause-ends : goal.returns-in-Wrong-clause-ends
returns-in-Wrong-clause-ends g c start before taken said opening so_far earlier =
    let step = steps_on g.T.Talk.ends g.T.Talk.turn start before g.S.Source.left g.S.Source.faults g.S.Source.reads c.args.live.now c.step.new.source c.args.lines.now c.step.new.self (g.T.Talk.state c.args.talk.now) taken said
    (λ (bytes : List ℕ). HasWrongLine (c.args.lines.now.kept ++ bytes) c.args.lines.now.count c.step.new.self c.in-Wrong.number) so_far c.in-Wrong.ensures.steps c.in-Wrong.ensures.idle c.in-Wrong.ensures.reads c.in-Wrong.ensures.stays (c.in-Wrong.ensures.ended c.requires.at_end) in
    past_line g.T.Talk.ends g.T.Talk.turn g.T.Talk.ending g.T.Talk.may_stop opening start before _ _ _ _ _ taken said step.0 step.1 _ c.in-Wrong.number _ step.2 c.put_script-in-Wrong.ensures refl

pub returns-in-Fault-clause-ends : goal.returns-in-Fault-clause-ends
returns-in-Fault-clause-ends g c start before taken said opening so_far earlier =
    let step = steps_on g.T.Talk.ends g.T.Talk.turn start before g.S.Source.left g.S.Source.faults g.S.Source.reads c.args.live.now c.step.new.source c.args.lines.now c.step.new.self (g.T.Talk.state c.args.talk.now) taken said
    (λ (bytes : List ℕ). IsBroken (c.args.lines.now.kept ++ bytes) c.args.lines.now.count c.step.new.self) so_far c.in-Fault.ensures.steps c.in-Fault.ensures.idle c.in-Fault.ensures.reads c.in-Fault.ensures.stays (c.in-Fault.ensures.ended c.requires.at_end) in
    fault_line g.T.Talk.ends g.T.Talk.turn g.T.Talk.ending g.T.Talk.may_stop opening start before _ _ _ _ _ taken said step.0 step.1 _ _ _ step.2 earlier (c.in-Fault.ensures.fault refl) c.put-in-Fault.ensures refl

pub returns-in-Err-clause-memory : goal.returns-in-Err-clause-memory
returns-in-Err-clause-memory g c is start before taken said opening so_far =
    let step = steps_on g.T.Talk.ends g.T.Talk.turn start before g.S.Source.left g.S.Source.faults g.S.Source.reads c.args.live.now c.step.new.source c.args.lines.now c.step.new.self (g.T.Talk.state c.args.talk.now) taken said
    (λ (bytes : List ℕ). HandsOut (c.args.lines.now.kept ++ bytes) c.args.lines.now.count c.step.new.self c.in-Line.number) so_far c.in-Line.ensures.steps c.in-Line.ensures.idle c.in-Line.ensures.reads c.in-Line.ensures.stays (c.in-Line.ensures.ended c.requires.at_end) in
    stops_here g.T.Talk.ends g.T.Talk.turn start before _ _ _ _ _ taken said step.0 step.1 c.in-Line.number step.2 g.T.Talk.may_stop opening
    (asked g.T.Talk.may_stop _ _ c.in-Err.ensures.memory c.heard_line.ensures)
