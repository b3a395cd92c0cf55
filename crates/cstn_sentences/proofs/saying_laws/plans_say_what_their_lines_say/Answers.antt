use Rattle.cstn_sentences.proofs.MeantLines.{lines_meant}
use Rattle.cstn_sentences.proofs.saying_laws.plans_say_what_their_lines_say.Goals as goal

pub returns : goal.returns
returns c = lines_meant (record {
  said = c.sentences_say_what_they_say.ensures.said;
  asked = c.sentences_say_what_they_say.ensures.asked;
  result = c.names_stand_for_their_moments.ensures.result_of;
  origin_once = c.steps_are_declared_once.ensures.origin;
  name_once = c.steps_are_declared_once.ensures.other;
})
