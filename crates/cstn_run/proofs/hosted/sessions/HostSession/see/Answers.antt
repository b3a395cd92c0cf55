use Rattle.std.proofs.Common.{◌∙◌}
use Rattle.cstn_lines.specs.LiveLines.{seen}
use Rattle.cstn_lines.specs.HostLines.{put_on}
use Rattle.cstn_run.specs.hosted.SessionRead.{the_names}
use Rattle.cstn_run.proofs.hosts.PutLines.{first_line}
use Rattle.cstn_run.proofs.hosts.Answered.{on_same, on_any, seen_said, refused_said, refused_after}
use Rattle.cstn_run.proofs.hosted.sessions.HostSession.see.Goals.{in-Ok, in-Err}
use Rattle.cstn_run.proofs.hosted.sessions.HostSession.see.Goals as goal

pub returns-clause-said : goal.returns-clause-said
returns-clause-said c =
    let host = c.self.inside.host in
    let names = the_names c.self.inside.names.items in
    elim c.match-see.branch [
      | in-Ok w ↦
          on_any c.match-see.result _
          (seen_said c.args.self.now host names c.self.view_is c.self.invariant.as_many c.args.id c.args.prop.index c.args.value c.match-see.text w.in-Ok.ensures.answer
          (w.text-is ∙ first_line _ _ _ c.args.id _ c.requires.empty w.put_id.ensures.items w.put_outcome.ensures))
      | in-Err w ↦
          on_same c.match-see.result w.put_error.result _ c.match-see.text w.put_error.new.text w.result-is w.text-is
          (refused_said c.args.self.now host names c.self.view_is c.self.invariant.as_many w.put_error.result (put_on c.args.id (seen c.args.prop.index c.args.value)) w.in-Err.error w.put_error.new.text w.in-Err.ensures.answer w.put_error.ensures.items)
    ]

pub returns-clause-after : goal.returns-clause-after
returns-clause-after c =
    refused_after c.args.self.now c.self.inside.host (the_names c.self.inside.names.items) c.self.view_is c.self.invariant.as_many c.match-see.result (put_on c.args.id (seen c.args.prop.index c.args.value)) c.see.new.self c.see.ensures.after
