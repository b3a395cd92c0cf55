use Rattle.cstn_lines.specs.LiveLines.{the_live}
use Rattle.cstn_lines.specs.HostLines.{opened, put_on, closed}
use Rattle.cstn_run.specs.hosted.SessionRead.{the_host_session}
use Rattle.cstn_run.proofs.hosts.Whole.{text_ends}
use Rattle.cstn_run.proofs.hosted.sessions.HostSessionTalk.answer.Goals as goal

pub returns-in_ok-open-in-Some-Open-clause-lines : goal.returns-in_ok-open-in-Some-Open-clause-lines
returns-in_ok-open-in-Some-Open-clause-lines c = λ is. text_ends (the_host_session c.args.self.now) (opened c.in-Some-Open.id c.in-Some-Open.file) _ c.in_ok-open-in-Some-Open.ensures.said

pub returns-in_ok-pass-in-Some-On-clause-lines : goal.returns-in_ok-pass-in-Some-On-clause-lines
returns-in_ok-pass-in-Some-On-clause-lines c = λ is. text_ends (the_host_session c.args.self.now) (put_on c.in-Some-On.id (the_live c.in-Some-On.line)) _ c.in_ok-pass-in-Some-On.ensures.said

pub returns-in_ok-close-in-Some-Close-clause-lines : goal.returns-in_ok-close-in-Some-Close-clause-lines
returns-in_ok-close-in-Some-Close-clause-lines c = λ is. text_ends (the_host_session c.args.self.now) (closed c.in-Some-Close.id) _ c.in_ok-close-in-Some-Close.ensures.said
