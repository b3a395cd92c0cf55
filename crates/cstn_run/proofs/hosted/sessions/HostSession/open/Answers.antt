use Rattle.std.proofs.Common.{◌∙◌}
use Rattle.std.specs.Prelude.{◌++◌, codes, decimal}
use Rattle.cstn_lines.specs.HostLines.{opened}
use Rattle.cstn_run.specs.hosted.SessionRead.{the_names}
use Rattle.cstn_run.proofs.hosts.PutLines.{only_line}
use Rattle.cstn_run.proofs.hosts.Answered.{on_same, on_result, on_any, agreed_said, after_is, open_said, open_after}
use Rattle.cstn_run.proofs.hosted.sessions.HostSession.open.Goals.{in-Ok, in-Err}
use Rattle.cstn_run.proofs.hosted.sessions.HostSession.open.Goals as goal

pub returns-clause-said : goal.returns-clause-said
returns-clause-said c =
    let host = c.self.inside.host in
    let names = the_names c.self.inside.names.items in
    elim c.match-open.branch [
      | in-Ok w ↦
          on_any c.match-open.result _
          (agreed_said c.args.self.now host names c.self.view_is c.self.invariant.as_many (opened c.args.id c.args.file) c.match-open.text w.in-Ok.ensures.answer
          (w.text-is ∙ only_line _ _ (codes "opened " ++ decimal c.args.id) c.requires.empty w.put_number.ensures))
      | in-Err w ↦
          on_same c.match-open.result w.put_error.result _ c.match-open.text w.put_error.new.text w.result-is w.text-is
          (open_said c.args.self.now host names c.self.view_is c.self.invariant.as_many w.put_error.result c.args.id c.args.file w.in-Err.error w.put_error.new.text w.in-Err.ensures.answer w.put_error.ensures.items w.put_error.ensures.wanted)
    ]

pub returns-clause-after : goal.returns-clause-after
returns-clause-after c =
    let host = c.self.inside.host in
    let names = the_names c.self.inside.names.items in
    elim c.match-open.branch [
      | in-Ok w ↦
          on_any c.match-open.result _
          (after_is c.args.self.now host names c.self.view_is c.self.invariant.as_many (opened c.args.id c.args.file) c.open.new.self w.in-Ok.ensures.after)
      | in-Err w ↦
          on_result c.match-open.result w.put_error.result _ w.result-is
          (open_after c.args.self.now host names c.self.view_is c.self.invariant.as_many w.put_error.result c.args.id c.args.file w.in-Err.error c.open.new.self w.in-Err.ensures.after w.put_error.ensures.wanted)
    ]
