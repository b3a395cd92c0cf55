use Rattle.cstn_run.proofs.hosts.Own.{answered, session_answered}
use Rattle.cstn_run.proofs.hosted.session_laws.answers_follow_own_lines.Goals as goal

pub returns : goal.returns
returns c = record { answer = answered; text = session_answered }
