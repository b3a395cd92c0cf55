-- What is written as evidence passes when it is handed in with the same document.
use Rattle.std.proofs.Common.{◌≡◌, ℕ, ◌≤◌, Bool, true, false, List, [], ◌∷◌, length, refl, sym, ap, subst, inl, inr, arith}
use Rattle.std.specs.Prelude.{nat_lt, Option, Result, Ok, Err, IsSomeAnd, codes, None}
use Rattle.cstn_net.specs.Limits.{most_load}
use Rattle.cstn_element.specs.Results.{Refusal as DocumentRefusal}
use Rattle.cstn_graphml.specs.Document.{Parts, document}
use Rattle.cstn_graphml.specs.Networks.{labelled_of, IsFit}
use Rattle.cstn_request.specs.Requests.{AskedFile, check, run, closed, replay, closedcheck}
use Rattle.cstn_reply.specs.Texts.{Said, say}
use Rattle.cstn_request.specs.Limits.{most_document}
use Rattle.cstn_request.specs.declared.words.NetworkVerb.TheVariants.{Check, Closed}
use Rattle.cstn_request.specs.declared.words.TextVerb.TheVariants.{Replay, Closedcheck}
use Rattle.cstn_top.specs.Plans.{Plan, says, either_plan}
use Rattle.cstn_top.specs.Answers.{LabelledAnswer, a_document, judges, of_lowered, judged, on_labelled}
use Rattle.cstn_headline.specs.Accepted.{IsAccepted, IsYesText, IsNoText}
use Rattle.cstn_top.specs.commands.Run.{run_answer}
use Rattle.cstn_top.specs.Dispatch.{network_answer, text_answer, plan_at}
use Rattle.cstn_reply.specs.declared.output.Outcome.{Outcome}
use Rattle.cstn_reply.specs.declared.output.Outcome.TheVariants.{Good, Bad, Document}
use Rattle.cstn_request.specs.Documents.{parts_read, HasLabelled}
use Rattle.cstn_lift.specs.Labelled.{Labelled}
use Rattle.cstn_lift.specs.Lowered.{lowered}
use Rattle.cstn_io.specs.Contents.{IsAllOf}
use Rattle.cstn_top.proofs.Labels.{labelled_then}
use Rattle.cstn_headline.specs.Telling.{Telling, OutcomeTells, OfLabelled}
use Rattle.cstn_headline.specs.commands.Check.{check_telling}
use Rattle.cstn_headline.specs.commands.Closed.{closed_telling}
use Rattle.cstn_headline.specs.commands.Run.{run_telling}
use Rattle.cstn_headline.proofs.Proved.{tells}
use Rattle.cstn_headline.proofs.Standing.{YesAccepted, NoAccepted}
use Rattle.cstn_headline.proofs.OneOutput.{OneJudgement}

-- a document that isn't refused isn't too long
not_long : (answer : LabelledAnswer) (bytes : List ℕ) (deadline : Option ℕ) (live : List ℕ) (said : Said) → (said.outcome ≡ Document → ⊥) → (on_labelled answer bytes deadline).output live said → nat_lt most_document (length bytes) ≡ false
not_long answer bytes deadline live said never output = by_length (nat_lt most_document (length bytes)) output
  where
    by_length : (long : Bool) → (either_plan long (says (say Document (codes "document long"))) (judged answer (document bytes deadline))).output live said → long ≡ false
    by_length true is = absurd (never (ap (λ (s : Said). s.outcome) is))
    by_length false is = refl

-- where the answer of the labelled network of a document is that it is accepted, so is that of the document
pub labelled_accepted : OneJudgement → (answer : LabelledAnswer) (bytes : List ℕ) (deadline : Option ℕ) → nat_lt most_document (length bytes) ≡ false → HasLabelled bytes deadline (λ names m. IsAccepted (answer names m)) → IsAccepted (on_labelled answer bytes deadline)
labelled_accepted one answer bytes deadline short has =
    subst (λ (long : Bool). IsAccepted (either_plan long (says (say Document (codes "document long"))) (judged answer (document bytes deadline)))) (sym short) (by_told (document bytes deadline) has)
  where
    fit_says : (parts : Parts) (plan : Plan) (live : List ℕ) (said : Said) → IsFit parts → (judges a_document parts plan).output live said → plan.output live said
    fit_says parts plan live said fit (inl has) = has.1
    fit_says parts plan live said fit (inr (inl unfit)) = absurd (one.fit parts unfit.0 fit unfit.1)
    fit_says parts plan live said fit (inr (inr wrong)) = absurd (one.labelled parts wrong.0 fit wrong.1)

    by_told : (parsed : Result Parts DocumentRefusal) → IsSomeAnd (parts_read parsed) (λ parts. IsFit parts × IsAccepted (answer parts.names (labelled_of parts))) → IsAccepted (judged answer parsed)
    by_told (Err refusal) h = absurd h
    by_told (Ok parts) h = λ live said.
        ((λ output. (h.1 live said).0 (fit_says parts (answer parts.names (labelled_of parts)) live said h.0 output)), (λ same. inl (h.0, (h.1 live said).1 same)))

bad_differs : (o : Outcome) → o ≡ Bad → o ≡ Document → ⊥
bad_differs o is also = grind arith

good_differs : (o : Outcome) → o ≡ Good → o ≡ Document → ⊥
good_differs o is also = grind arith

-- what an outcome tells of a document that isn't refused
told_of : (bytes : List ℕ) (deadline : Option ℕ) (o other : Outcome) (telling : List (List ℕ) → Labelled → Telling) → o ≡ other → (o ≡ Document → ⊥) → OfLabelled bytes deadline o telling → HasLabelled bytes deadline (λ names m. OutcomeTells (telling names m) other)
told_of bytes deadline o other telling is never (inl refused) = absurd (never refused.0)
told_of bytes deadline o other telling is never (inr has) = subst (λ (x : Outcome). HasLabelled bytes deadline (λ names m. OutcomeTells (telling names m) x)) is has

untold : (live : List ℕ) → IsAllOf None live
untold live = λ xs told. absurd (cc)

module _ (one : OneJudgement) (yes_text : YesAccepted) (no_text : NoAccepted) where
  pub check_passes : (asked : AskedFile) (cap : ℕ) (file bytes live : List ℕ) (said : Said) → cap ≤ most_load → (plan_at (check asked cap) (bytes ∷ [])).output live said → said.outcome ≡ Bad → IsAccepted (plan_at (replay asked file) (bytes ∷ said.text ∷ []))
  check_passes asked cap file bytes live said capped output no' =
      labelled_accepted one (of_lowered (text_answer Replay said.text)) bytes asked.deadline
      (not_long (of_lowered (network_answer Check cap)) bytes asked.deadline live said (bad_differs said.outcome no') output)
      (labelled_then bytes asked.deadline (λ names m. OutcomeTells (check_telling cap said.text names m) Bad) (λ names m. (answered : List ℕ) → IsNoText names (lowered m) said.text)
      (told_of bytes asked.deadline said.outcome Bad (check_telling cap said.text) no' (bad_differs said.outcome no') (tells yes_text no_text (check asked cap) capped None (bytes ∷ []) live said (untold live) output)) (λ names m of both answered. both.1))

  pub run_passes : (asked : AskedFile) (cap : ℕ) (file bytes live : List ℕ) (said : Said) → cap ≤ most_load → (plan_at (run asked cap) (bytes ∷ [])).output live said → said.outcome ≡ Bad → IsAccepted (plan_at (replay asked file) (bytes ∷ said.text ∷ []))
  run_passes asked cap file bytes live said capped output no' =
      labelled_accepted one (of_lowered (text_answer Replay said.text)) bytes asked.deadline
      (not_long (run_answer cap) bytes asked.deadline live said (bad_differs said.outcome no') output)
      (labelled_then bytes asked.deadline (λ names m. OutcomeTells (run_telling cap None said.text names m) Bad) (λ names m. (answered : List ℕ) → IsNoText names (lowered m) said.text)
      (told_of bytes asked.deadline said.outcome Bad (run_telling cap None said.text) no' (bad_differs said.outcome no') (tells yes_text no_text (run asked cap) capped None (bytes ∷ []) live said (untold live) output)) (λ names m of both answered. both.1))

  pub closed_passes : (asked : AskedFile) (cap : ℕ) (file bytes live : List ℕ) (said : Said) → cap ≤ most_load → (plan_at (closed asked cap) (bytes ∷ [])).output live said → said.outcome ≡ Bad → IsAccepted (plan_at (replay asked file) (bytes ∷ said.text ∷ []))
  closed_passes asked cap file bytes live said capped output no' =
      labelled_accepted one (of_lowered (text_answer Replay said.text)) bytes asked.deadline
      (not_long (of_lowered (network_answer Closed cap)) bytes asked.deadline live said (bad_differs said.outcome no') output)
      (labelled_then bytes asked.deadline (λ names m. OutcomeTells (closed_telling cap said.text names m) Bad) (λ names m. (answered : List ℕ) → IsNoText names (lowered m) said.text)
      (told_of bytes asked.deadline said.outcome Bad (closed_telling cap said.text) no' (bad_differs said.outcome no') (tells yes_text no_text (closed asked cap) capped None (bytes ∷ []) live said (untold live) output)) (λ names m of both answered. both.1))

  pub bounds_pass : (asked : AskedFile) (cap : ℕ) (file bytes live : List ℕ) (said : Said) → cap ≤ most_load → (plan_at (closed asked cap) (bytes ∷ [])).output live said → said.outcome ≡ Good → IsAccepted (plan_at (closedcheck asked file) (bytes ∷ said.text ∷ []))
  bounds_pass asked cap file bytes live said capped output yes' =
      labelled_accepted one (of_lowered (text_answer Closedcheck said.text)) bytes asked.deadline
      (not_long (of_lowered (network_answer Closed cap)) bytes asked.deadline live said (good_differs said.outcome yes') output)
      (labelled_then bytes asked.deadline (λ names m. OutcomeTells (closed_telling cap said.text names m) Good) (λ names m. (answered : List ℕ) → IsYesText names (lowered m) said.text)
      (told_of bytes asked.deadline said.outcome Good (closed_telling cap said.text) yes' (good_differs said.outcome yes') (tells yes_text no_text (closed asked cap) capped None (bytes ∷ []) live said (untold live) output)) (λ names m of both answered. both.2))
