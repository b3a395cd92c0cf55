use Rattle.std.proofs.Common.{length, All, sym, subst, ◌∙◌}
use Rattle.std.proofs.lemmas.List.Elements.{All-tail}
use Rattle.cstn_net.specs.Read.{IsInRange}
use Rattle.cstn_sentences.proofs.WrittenRules.{last_written, pair_written, alone_written}
use Rattle.cstn_sentences.proofs.writing.push_next.Goals as goal

pub returns-in_default-clause-written : goal.returns-in_default-clause-written
returns-in_default-clause-written c =
    last_written c.args.names.now c.args.c.now c.args.later.now c.args.text.now.items _ c.in_default.ensures.cases c.in_ok-push_alone.ensures

pub returns-then-is_pair-clause-written : goal.returns-then-is_pair-clause-written
returns-then-is_pair-clause-written c =
    pair_written c.args.names.now c.args.c.now c.in-Some.d.now c.args.later.now c.in-Some.last.now c.args.text.now.items _ c.in-Some.ensures.cases.0
    (sym c.is_pair.ensures ∙ c.if-is_pair.true) c.in_ok-push_pair.ensures

pub returns-then-is_pair-clause-ranges : goal.returns-then-is_pair-clause-ranges
returns-then-is_pair-clause-ranges c =
    All-tail (IsInRange (length c.args.names.now)) c.in-Some.d.now c.in-Some.last.now (subst (All (IsInRange (length c.args.names.now))) c.in-Some.ensures.cases.0 c.requires.others)

pub returns-clause-written : goal.returns-clause-written
returns-clause-written c =
    alone_written c.args.names.now c.args.c.now c.in-Some.d.now c.args.later.now c.in-Some.last.now c.args.text.now.items _ c.in-Some.ensures.cases.0
    (sym c.is_pair.ensures ∙ c.if-is_pair.false) c.in_ok-push_alone-2.ensures
