use Rattle.cstn_sentences.proofs.RuleMoments.{FormsAsk, rule_asks, known, unknown}
use Rattle.cstn_sentences.proofs.saying_laws.sentences_say_what_they_say.Goals as goal

pub returns : goal.returns
returns c =
    let forms : FormsAsk = record {
      at_ticks = c.forms_say_what_they_say.ensures.at_ticks;
      by_tick = c.forms_say_what_they_say.ensures.by_tick;
      in_range = c.forms_say_what_they_say.ensures.in_range;
      by_after = c.forms_say_what_they_say.ensures.by_after;
      within = c.forms_say_what_they_say.ensures.within;
      not_before = c.forms_say_what_they_say.ensures.not_before;
      together = c.forms_say_what_they_say.ensures.together;
    } in record {
      said = λ first at x says ms label zero. (rule_asks forms first at x says ms label zero).0;
      asked = λ first at x says ms label zero. (rule_asks forms first at x says ms label zero).1;
      known = known;
      unknown = unknown;
    }
