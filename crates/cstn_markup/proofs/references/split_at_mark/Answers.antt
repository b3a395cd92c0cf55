use Rattle.cstn_markup.proofs.Splitting.{split_found, none_found}
use Rattle.cstn_markup.proofs.references.split_at_mark.Goals as goal

pub returns-in_err-behind-clause-none : goal.returns-in_err-behind-clause-none
returns-in_err-behind-clause-none c = rw c.from_residual.ensures (none_found c.len_before-n.result c.args.bytes.now c.len_before-n.ensures.value c.in_err-behind.ensures.cases)

pub returns-clause-found : goal.returns-clause-found
returns-clause-found c = split_found c.len_before-n.result c.args.bytes.now c.in_ok-behind.behind.now _ c.len_before-n.ensures.value c.in_ok-behind.ensures.cases.0
