use Rattle.std.proofs.Common.{sym, subst}
use Rattle.std.specs.Prelude.{IfOk}
use Rattle.cstn_net.specs.Read.{the_network}
use Rattle.cstn_reply.specs.Read.{the_said}
use Rattle.cstn_request.specs.declared.words.TextVerb.{TextVerb}
use Rattle.cstn_request.specs.declared.words.TextVerb.TheVariants.{Replay, Closedcheck, Treecheck}
use Rattle.cstn_top.specs.Answers.{IsByText}
use Rattle.cstn_top.specs.Dispatch.{IsVerbText}
use Rattle.cstn_top.proofs.Comes.{short_text}
use Rattle.cstn_top.proofs.commands.answers.check_against.Goals as goal

pub returns-in-Replay : goal.returns-in-Replay
returns-in-Replay c = record {
  said = subst (λ (v : TextVerb). IfOk c.replay_text.result (λ said. IsByText (IsVerbText v c.args.document.now.names c.args.text.now (the_network c.args.document.now.network)) c.args.text.now (the_said said))) (sym c.in-Replay.is)
      (short_text (IsVerbText Replay c.args.document.now.names c.args.text.now (the_network c.args.document.now.network)) c.args.text.now c.replay_text.result c.requires.short c.replay_text.ensures.said);
}

pub returns-in-Closedcheck : goal.returns-in-Closedcheck
returns-in-Closedcheck c = record {
  said = subst (λ (v : TextVerb). IfOk c.closedcheck_text.result (λ said. IsByText (IsVerbText v c.args.document.now.names c.args.text.now (the_network c.args.document.now.network)) c.args.text.now (the_said said))) (sym c.in-Closedcheck.is)
      (short_text (IsVerbText Closedcheck c.args.document.now.names c.args.text.now (the_network c.args.document.now.network)) c.args.text.now c.closedcheck_text.result c.requires.short c.closedcheck_text.ensures.said);
}

pub returns-in-Treecheck : goal.returns-in-Treecheck
returns-in-Treecheck c = record {
  said = subst (λ (v : TextVerb). IfOk c.treecheck_text.result (λ said. IsByText (IsVerbText v c.args.document.now.names c.args.text.now (the_network c.args.document.now.network)) c.args.text.now (the_said said))) (sym c.in-Treecheck.is)
      (short_text (IsVerbText Treecheck c.args.document.now.names c.args.text.now (the_network c.args.document.now.network)) c.args.text.now c.treecheck_text.result c.requires.short c.treecheck_text.ensures.said);
}
