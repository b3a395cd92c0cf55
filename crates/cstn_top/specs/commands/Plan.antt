-- `plan FILE [--deadline N]`: the canonical document of a plan in sentences.
use Rattle.std.specs.Prelude.{◌≡◌, ℕ, List, ◌++◌, Option, Result, Ok, Err, codes, decimal}
use Rattle.cstn_text.specs.PrintedNames.{printed_name}
use Rattle.cstn_graphml.specs.Document.{Parts}
use Rattle.cstn_graphml.specs.Networks.{labelled_of}
use Rattle.cstn_request.specs.Refusals.{network_fault, label_fault}
use Rattle.cstn_reply.specs.Texts.{Said, say}
use Rattle.cstn_reply.specs.declared.output.Outcome.TheVariants.{Document}
use Rattle.cstn_sentences.specs.declared.errors.PlanError.{PlanError}
use Rattle.cstn_sentences.specs.declared.errors.PlanError.TheVariants.{Long, Wrong, Range, Twice, NoName, NoLetter, NoDeadline, Net, Lift, Memory}
use Rattle.cstn_sentences.specs.Plans.{plan}
use Rattle.cstn_sentences.specs.Refusals.{PlanRefusal, too_long, wrong_word, out_of_range, stands_twice, no_name, no_letter, no_deadline}
use Rattle.cstn_top.specs.Plans.{Plan, says}
use Rattle.cstn_top.specs.Answers.{judges, a_plan}
use Rattle.cstn_top.specs.commands.Save.{saved}

-- why a plan is refused at a line
abbrev pub at_line : ℕ → List ℕ → List ℕ
at_line n what = codes "line " ++ decimal n ++ what

-- why a plan is refused by its lines; texts stand in the printed form of names
abbrev pub refusal_why : PlanRefusal → List ℕ
refusal_why too_long = codes "long"
refusal_why (wrong_word n word) = at_line n (codes " word " ++ decimal word)
refusal_why (out_of_range n) = at_line n (codes " range")
refusal_why (stands_twice n text) = at_line n (codes " twice " ++ printed_name text)
refusal_why (no_name n name) = at_line n (codes " name " ++ printed_name name)
refusal_why (no_letter n word) = at_line n (codes " letter " ++ printed_name word)
refusal_why no_deadline = codes "deadline"

-- why a plan is refused with an error; nothing is said for want of memory
abbrev pub IsWhy : PlanError → List ℕ → Type 0
IsWhy Long why = why ≡ refusal_why too_long
IsWhy (Wrong n word) why = why ≡ refusal_why (wrong_word n word)
IsWhy (Range n) why = why ≡ refusal_why (out_of_range n)
IsWhy (Twice n text) why = why ≡ refusal_why (stands_twice n text)
IsWhy (NoName n name) why = why ≡ refusal_why (no_name n name)
IsWhy (NoLetter n word) why = why ≡ refusal_why (no_letter n word)
IsWhy NoDeadline why = why ≡ refusal_why no_deadline
IsWhy (Net error names) why = why ≡ network_fault names error
IsWhy (Lift error names) why = why ≡ label_fault names error
IsWhy (Memory e) why = ⊥

-- this is said of a plan that is refused with an error
abbrev pub IsPlanTold : PlanError → Said → Type 0
IsPlanTold error said = (why : List ℕ) × IsWhy error why × (said ≡ say Document (codes "plan " ++ why))

-- what is said of the parts of a plan: the canonical document of their labelled network; or why the plan is refused
abbrev pub planned_of : Result Parts PlanRefusal → Plan
planned_of (Err refusal) = says (say Document (codes "plan " ++ refusal_why refusal))
planned_of (Ok parts) = judges a_plan parts (says (saved parts.names (labelled_of parts)))

-- what `plan` says of a file with these bytes
abbrev pub planned : List ℕ → Option ℕ → Plan
planned bytes deadline = planned_of (plan bytes deadline)
