use Rattle.std.proofs.Common.{IsTrue}
use Rattle.cstn_label.proofs.LabelLemmas.{made_true, made_holds, made_agrees}
use Rattle.cstn_label.proofs.laws.possible_until_ruled_out.Goals as goal

pub returns-clause-somewhere : goal.returns-clause-somewhere
returns-clause-somewhere c known s a plain possible =
    (made_true a s, made_agrees (λ p. IsTrue (known p)) s a possible, made_holds a s plain)
