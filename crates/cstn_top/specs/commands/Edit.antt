-- `edit FILE [--deadline N] [--cap CAP]`: a network is edited and checked by the lines of the live source.
use Rattle.std.specs.Prelude.{ℕ, []}
use Rattle.cstn_edit.specs.Editing.{begun_editing, edit_turn, edit_wants, edit_ending}
use Rattle.cstn_top.specs.Plans.{wanting_session}
use Rattle.cstn_top.specs.Answers.{NetworkAnswer}

-- what `edit` says of a network: the answers to the edit lines
abbrev pub edit_answer : ℕ → NetworkAnswer
edit_answer cap names net = wanting_session edit_wants edit_turn edit_ending [] (begun_editing cap names net)
