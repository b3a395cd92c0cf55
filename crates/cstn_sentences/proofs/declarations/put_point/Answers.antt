use Rattle.std.proofs.Common.{ap, Err}
use Rattle.cstn_sentences.proofs.NamesLemmas.{unknown}
use Rattle.cstn_sentences.proofs.declarations.put_point.Goals as goal

pub unreachable-requires-in-Err-Twice : goal.unreachable-requires-in-Err-Twice
unreachable-requires-in-Err-Twice c = unknown c.args.d.now.names c.args.name.now c.requires.new (c.in-Err-Twice.ensures.twice.0 (ap (λ e. Err e) c.in-Err-Twice.field-0-is))
