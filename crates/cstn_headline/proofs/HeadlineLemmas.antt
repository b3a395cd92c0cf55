-- The headline.
use Rattle.std.proofs.Common.{◌≡◌, ℕ, ◌≤◌, ◌<◌, List, [], ◌∷◌, ◌++◌, map, refl, sym, ap, ◌∙◌, subst, inl, inr, arith}
use Rattle.std.specs.Prelude.{◌⊎◌, Option, None, Some, Result, IfSome, IsSomeAnd, codes}
use Rattle.std.specs.List.{All}
use Rattle.std.proofs.lemmas.List.Elements.{All-head, All-tail}
use Rattle.cstn_io.specs.Contents.{IsAllOf}
use Rattle.cstn_net.specs.Networks.{Network}
use Rattle.cstn_net.specs.Strategies.{IsConsistent}
use Rattle.cstn_text.specs.PrintedNames.{printed_name}
use Rattle.cstn_element.specs.Results.{Refusal as DocumentRefusal}
use Rattle.cstn_graphml.specs.Document.{Parts}
use Rattle.cstn_graphml.specs.Networks.{labelled_of, network_of, IsFit}
use Rattle.cstn_lift.specs.Labelled.{Labelled}
use Rattle.cstn_lift.specs.Lowered.{lowered}
use Rattle.cstn_lift.specs.Strategies.{IsLabelledConsistent}
use Rattle.cstn_check.specs.Growth.{load_of}
use Rattle.cstn_lines.specs.Pieces.{lines_of}
use Rattle.cstn_request.specs.Requests.{Request, check, run, edit, replay}
use Rattle.cstn_reply.specs.Texts.{Said, yes_line}
use Rattle.cstn_top.proofs.Labels.{of_parts, labelled_then}
use Rattle.cstn_top.proofs.Endings.{status_alone, EndsAs, end_status}
use Rattle.cstn_headline.specs.Headline.{CallTells, Document, network, printed_names, DocumentHasStrategy, load, network_edited, RequestCall, Checked, Ran, Replayed, Edited, StatusDecides, IsEditedVerdict, WasWritten, IsExecutedOver}
use Rattle.cstn_headline.specs.Telling.{Telling, OutcomeTells, OfLabelled}
use Rattle.cstn_headline.specs.commands.Check.{check_telling}
use Rattle.cstn_headline.specs.commands.Run.{AnswersLeast, WroteRun, run_telling}
use Rattle.cstn_headline.specs.commands.Edit.{AtLastCheck, WroteEdits, edit_telling}
use Rattle.cstn_headline.specs.commands.Replay.{replay_telling}
use Rattle.cstn_headline.proofs.Checks.{VerdictsLabelled, check_verdicts}
use Rattle.cstn_headline.proofs.records.Run.{yes_planned, answers_least}
use Rattle.cstn_top.specs.Answers.{LabelledAnswer, of_lowered, on_labelled}
use Rattle.cstn_check.specs.Decisions.{checked}
use Rattle.cstn_request.specs.declared.words.NetworkVerb.TheVariants.{Check}
use Rattle.cstn_request.specs.declared.words.TextVerb.TheVariants.{Replay}
use Rattle.cstn_top.specs.Verdicts.{IsLabelledYes}
use Rattle.cstn_top.specs.Dispatch.{network_answer, text_answer, plan_at}
use Rattle.cstn_top.specs.Meanings.{IsStopped}
use Rattle.cstn_top.specs.commands.Run.{run_bounds}
use Rattle.cstn_request.specs.Documents.{AreEmpty, AreUnlabelled, parts_read, HasLabelled, HasNetwork, IsNoDocument, IsRefused}
use Rattle.cstn_reply.specs.Statuses.{status_of}
use Rattle.cstn_reply.specs.Written.{LiveState}
use Rattle.cstn_reply.specs.declared.status.Status.{Status}
use Rattle.cstn_reply.specs.declared.status.Status.TheVariants.{Good as IsYesStatus, Bad as IsNoStatus, Full as IsFullStatus}
use Rattle.cstn_reply.specs.declared.output.Outcome.{Outcome}
use Rattle.cstn_reply.specs.declared.output.Outcome.TheVariants.{Good, Bad, Words, Document as IsRefusedOutcome, Full, Unfinished, Script, Wide}
use Rattle.cstn_edit.specs.Editing.{begun_editing, last_checked}
use Rattle.cstn_run.specs.Meanings.{said_to, WasNamed, IsCarriedThrough}
use Rattle.cstn_headline.specs.EditSessions.{IsNoCheck, IsAtLastCheck}
use Rattle.cstn_top.proofs.Documents.{labelled_says}
use Rattle.cstn_headline.proofs.EditSessions.{last_is}
use Rattle.cstn_headline.proofs.Standing.{YesAccepted, NoAccepted}
use Rattle.cstn_headline.proofs.Told.{call_tells}

-- ---- the network of a document

-- what holds of the labelled network that a document has holds of this one
of_document : (d : Document) (holds : List (List ℕ) → Labelled → Type 0) → HasLabelled d.bytes d.asked.deadline holds → holds d.parts.names (network d)
of_document d holds has = (subst (λ (r : Result Parts DocumentRefusal). IsSomeAnd (parts_read r) (λ parts. IsFit parts × holds parts.names (labelled_of parts))) d.reads has).1

-- and likewise where no time-point has a label
of_plain_document : (d : Document) (holds : List (List ℕ) → Network → Type 0) → HasNetwork d.bytes d.asked.deadline holds → holds d.parts.names (network d).base
of_plain_document d holds has = (subst (λ (r : Result Parts DocumentRefusal). IsSomeAnd (parts_read r) (λ parts. AreUnlabelled parts × holds parts.names (network_of parts))) d.reads has).1

-- a document isn't refused
is_document : (d : Document) → IsNoDocument d.bytes d.asked.deadline → ⊥
is_document d (inl long) = let short = d.short in omega (arith, short, long)
is_document d (inr none) = none (subst (λ (r : Result Parts DocumentRefusal). IsSomeAnd (parts_read r) (λ parts. IsFit parts × Unit {0})) (sym d.reads) (d.fit, tt))

-- nor is one whose time-points have no labels
is_plain_document : (d : Document) → AreEmpty d.parts.labels → IsRefused d.bytes d.asked.deadline → ⊥
is_plain_document d plain (inl long) = let short = d.short in omega (arith, short, long)
is_plain_document d plain (inr none) = none (subst (λ (r : Result Parts DocumentRefusal). IsSomeAnd (parts_read r) (λ parts. AreUnlabelled parts × Unit {0})) (sym d.reads) ((d.fit, plain), tt))

-- an answer over a document is an output for its labelled network
answers : (answer : LabelledAnswer) (d : Document) (live : List ℕ) (said : Said) → (on_labelled answer d.bytes d.asked.deadline).output live said → (answer d.parts.names (network d)).output live said
answers answer d live said output = by_said (labelled_says answer d.bytes d.asked.deadline live said output)
  where
    by_said : ((said.outcome ≡ IsRefusedOutcome) × IsNoDocument d.bytes d.asked.deadline) ⊎ HasLabelled d.bytes d.asked.deadline (λ names m. (answer names m).output live said) → (answer d.parts.names (network d)).output live said
    by_said (inl refused) = absurd (is_document d refused.1)
    by_said (inr has) = of_document d (λ names m. (answer names m).output live said) has

-- a call that isn't stopped ends with the status of an output
ends : (request : Request) (contents : List (List ℕ)) (c : RequestCall request contents) → (live : List ℕ) × IsAllOf c.before.left live × ((said : Said) × (plan_at request contents).output live said × (c.status ≡ status_of said.outcome))
ends request contents c = by_end (end_status (plan_at request contents) c.before c.after (Some c.old) (Some (c.old ++ c.text)) c.status c.output)
  where
    Ended : Type 0
    Ended = (live : List ℕ) × IsAllOf c.before.left live × ((said : Said) × (plan_at request contents).output live said × (c.status ≡ status_of said.outcome))

    by_end : Ended ⊎ IsStopped c.status → Ended
    by_end (inl ended) = ended
    by_end (inr stopped) = absurd (c.unstopped stopped)

-- ---- `check`

-- a status that decides whether this holds
yes_decides : (status : Status) (holds : Type 0) → status ≡ IsYesStatus → holds → StatusDecides status holds
yes_decides status holds is has = ((λ at. has, λ h. is), (λ at. absurd (differ (sym is ∙ at)), λ never. absurd (never has)))
  where
    differ : IsYesStatus ≡ IsNoStatus → ⊥
    differ same = let f : ⊥ = cc in f

no_decides : (status : Status) (holds : Type 0) → status ≡ IsNoStatus → (holds → ⊥) → StatusDecides status holds
no_decides status holds is never = ((λ at. absurd (differ (sym at ∙ is)), λ h. absurd (never h)), (λ at. never, λ n. is))
  where
    differ : IsYesStatus ≡ IsNoStatus → ⊥
    differ same = let f : ⊥ = cc in f

check_decides : (cap : ℕ) (m : Labelled) (status : Status) (o : Outcome) → status ≡ status_of o → VerdictsLabelled cap m o →
    ((status ≡ IsFullStatus) × (cap < load_of (lowered m))) ⊎ (StatusDecides status (IsLabelledConsistent m) × (load_of (lowered m) ≤ cap))
check_decides cap m status Good at yes' = inr (yes_decides status (IsLabelledConsistent m) at yes'.0, yes'.1)
check_decides cap m status Bad at no' = inr (no_decides status (IsLabelledConsistent m) at no'.0, no'.1)
check_decides cap m status Full at above = inl (at, above)
check_decides cap m status Words at never = absurd never
check_decides cap m status IsRefusedOutcome at never = absurd never
check_decides cap m status Unfinished at never = absurd never
check_decides cap m status Script at never = absurd never
check_decides cap m status Wide at never = absurd never

-- the outcome of a check of a document that ended
pub check_said : (d : Document) (cap : ℕ) (before : LiveState) (status : Status) → EndsAs (plan_at (check d.asked cap) (d.bytes ∷ [])) before status →
    (o : Outcome) × (status ≡ status_of o) × VerdictsLabelled cap (network d) o
check_said d cap before status ended = (ended.2.0.outcome, ended.2.2, tells ended.0 ended.2.0 ended.2.1)
  where
    tells : (live : List ℕ) (said : Said) → (plan_at (check d.asked cap) (d.bytes ∷ [])).output live said → VerdictsLabelled cap (network d) said.outcome
    tells live said output = by_said (labelled_says (of_lowered (network_answer Check cap)) d.bytes d.asked.deadline live said output)
      where
        by_said : ((said.outcome ≡ IsRefusedOutcome) × IsNoDocument d.bytes d.asked.deadline) ⊎ HasLabelled d.bytes d.asked.deadline (λ names m. said ≡ checked cap names (lowered m)) → VerdictsLabelled cap (network d) said.outcome
        by_said (inl refused) = absurd (is_document d refused.1)
        by_said (inr has) =
            of_document d (λ names m. VerdictsLabelled cap m said.outcome)
            (labelled_then d.bytes d.asked.deadline (λ names m. said ≡ checked cap names (lowered m)) (λ names m. VerdictsLabelled cap m said.outcome) has (check_verdicts cap said))

pub check_is_decided : (d : Document) (cap : ℕ) (c : Checked d cap) → ((c.status ≡ IsFullStatus) × (cap < load d)) ⊎ (StatusDecides c.status (DocumentHasStrategy d) × (load d ≤ cap))
check_is_decided d cap c =
    let said = check_said d cap c.before c.status (ends (check d.asked cap) (d.bytes ∷ []) c) in
    check_decides cap (network d) c.status said.0 said.1 said.2

-- ---- `run`

pub run_is_least : (d : Document) → DocumentHasStrategy d → AnswersLeast (printed_names d) (network d) (run_bounds (network d))
run_is_least d has =
    let within : load d ≤ load d = omega arith in
    answers_least (printed_names d) (network d) (run_bounds (network d)) (yes_planned (load d) d.parts.names (network d) (of_parts d.bytes d.asked.deadline d.parts d.reads d.fit) (has, within))

-- where answers are least, what was named is written
is_written : (names : List (List ℕ)) (m : Labelled) (lines : List (List ℕ)) (x t : ℕ) → AnswersLeast names m (run_bounds m) → WasNamed names m (run_bounds m) lines x t → WasWritten names m lines x t
is_written names m lines x t least was =
    let told = least.moments was.before was.next was.state t was.leads was.moment was.accepted in
    record { was = was; named = told.named; says = told.says; there = (told.exactly x).1 was.named }

executed_over : (names : List (List ℕ)) (m : Labelled) (lines : List (List ℕ)) (text : List ℕ) → AnswersLeast names m (run_bounds m) → text ≡ yes_line (load_of (lowered m)) ++ (said_to names m (run_bounds m) lines).text → IsCarriedThrough names m (run_bounds m) lines → IsExecutedOver names m lines text
executed_over names m lines text least text_is through = record {
  text_is = text_is;
  each = λ s x agrees inside executed.
      let at = through.led.named s x agrees inside executed in
      let t = through.led.table s x in
      (t, is_written names m lines x t least ((through.timely.named x t).0 at), through.timely.on_time.named s x t agrees at);
  no_other = λ s x t agrees was. (through.timely.on_time.named s x t agrees ((through.timely.named x t).1 was)).executed;
  meets = λ s c from to agrees has force one two. through.led.meets s c from to agrees has force ((through.timely.named c.from from).1 one) ((through.timely.named c.to to).1 two);
}

-- what an outcome tells of a document tells it of its network
tells_of : (d : Document) (o other : Outcome) (telling : List (List ℕ) → Labelled → Telling) → OfLabelled d.bytes d.asked.deadline o telling → o ≡ other → OutcomeTells (telling d.parts.names (network d)) other
tells_of d o other telling (inl refused) is = absurd (is_document d refused.1)
tells_of d o other telling (inr has) is = subst (OutcomeTells (telling d.parts.names (network d))) is (of_document d (λ names m. OutcomeTells (telling names m) o) has)

pub run_is_executed : YesAccepted → NoAccepted → (d : Document) (cap : ℕ) (c : Ran d cap) → c.status ≡ IsYesStatus → IsExecutedOver (printed_names d) (network d) (lines_of c.live) c.text
run_is_executed yes_text no_text d cap c good =
    let tells = call_tells yes_text no_text (run d.asked cap) (d.bytes ∷ []) c in
    let is = tells_of d tells.0 Good (run_telling cap (Some c.live) c.text) tells.2 (status_alone tells.0 Good (sym tells.1 ∙ good)) in
    by_wrote is.0 is.1
  where
    printed : List (List ℕ)
    printed = map printed_name d.parts.names

    by_wrote : IsLabelledYes cap (network d) → WroteRun (Some c.live) c.text printed (network d) (IsCarriedThrough printed (network d) (run_bounds (network d))) → IsExecutedOver printed (network d) (lines_of c.live) c.text
    by_wrote yes' w =
        let same : w.live ≡ c.live = w.all c.live refl in
        executed_over printed (network d) (lines_of c.live) c.text (run_is_least d yes'.0)
        (w.text_is ∙ ap (λ (xs : List ℕ). yes_line (load d) ++ (said_to printed (network d) (run_bounds (network d)) (lines_of xs)).text) same)
        (subst (λ (xs : List ℕ). IsCarriedThrough printed (network d) (run_bounds (network d)) (lines_of xs)) same w.of_lines)

-- ---- the derivation

pub derivation_passes : YesAccepted → NoAccepted → (d : Document) (cap : ℕ) (c : Checked d cap) → c.status ≡ IsNoStatus → (file : List ℕ) (r : Replayed d file c.text) → r.status ≡ IsYesStatus
derivation_passes yes_text no_text d cap c no' file r =
    let tells = call_tells yes_text no_text (check d.asked cap) (d.bytes ∷ []) c in
    let is = tells_of d tells.0 Bad (check_telling cap c.text) tells.2 (status_alone tells.0 Bad (sym tells.1 ∙ no')) in
    let ended = ends (replay d.asked file) (d.bytes ∷ c.text ∷ []) r in
    ended.2.2 ∙ ap (λ (s : Said). status_of s.outcome) ((is.1 ended.2.0).0 (answers (of_lowered (text_answer Replay c.text)) d ended.0 ended.2.0 ended.2.1))

pub replay_is_sound : YesAccepted → NoAccepted → (d : Document) (file text : List ℕ) (r : Replayed d file text) → r.status ≡ IsYesStatus → DocumentHasStrategy d → ⊥
replay_is_sound yes_text no_text d file text r good =
    let tells = call_tells yes_text no_text (replay d.asked file) (d.bytes ∷ text ∷ []) r in
    (tells_of d tells.0 Good (replay_telling text) tells.2 (status_alone tells.0 Good (sym tells.1 ∙ good))).2

-- ---- edits

-- what stands before the last line of its kind is one list
none_in : {X : Type 0} (P : X → Type 0) (xs : List X) (x : X) (ys : List X) → All P (xs ++ x ∷ ys) → P x
none_in P [] x ys all = All-head P x ys all
none_in P (y ∷ xs) x ys all = none_in P xs x ys (All-tail P y (xs ++ x ∷ ys) all)

same_front : {X : Type 0} (P : X → Type 0) (x : X) → (P x → ⊥) → (xs ys us vs : List X) → All P us → All P vs → xs ++ x ∷ us ≡ ys ++ x ∷ vs → xs ≡ ys
same_front P x never [] [] us vs one two same = refl
same_front P x never [] (y ∷ ys) us vs one two same =
    let rest : us ≡ ys ++ x ∷ vs = cc in
    absurd (never (none_in P ys x vs (subst (All P) rest one)))
same_front P x never (z ∷ xs) [] us vs one two same =
    let rest : xs ++ x ∷ us ≡ vs = cc in
    absurd (never (none_in P xs x us (subst (All P) (sym rest) two)))
same_front P x never (z ∷ xs) (y ∷ ys) us vs one two same =
    let first : z ≡ y = cc in
    let rest : xs ++ x ∷ us ≡ ys ++ x ∷ vs = cc in
    let later = same_front P x never xs ys us vs one two rest in
    cc

pub edits_are_decided : YesAccepted → NoAccepted → (d : Document) (cap : ℕ) (edits : List (List ℕ)) (e : Edited d cap edits) → IsEditedVerdict cap (network_edited d edits) e.call.status
edits_are_decided yes_text no_text d cap edits e = by_tells (call_tells yes_text no_text (edit d.asked cap) (d.bytes ∷ []) e.call)
  where
    names : List (List ℕ)
    names = d.parts.names

    base : Network
    base = (network d).base

    by_last : (holds : Option Network → Type 0) (last : Option Network) → IsAtLastCheck names base (lines_of e.call.live) last → holds last → holds (Some (network_edited d edits))
    by_last holds None all has = absurd (none_in IsNoCheck edits (codes "check") e.later (subst (All IsNoCheck) e.lines_are all) refl)
    by_last holds (Some net) (front, back, is, no_check, same) has =
        let fronts : front ≡ edits = same_front IsNoCheck (codes "check") (λ never. never refl) front edits back e.later no_check e.last (sym is ∙ e.lines_are) in
        subst (λ (n : Network). holds (Some n)) (same ∙ ap (network_edited d) fronts) has

    -- what holds of the network at the last check holds of the one that is edited by the lines before it
    last_holds : (holds : Option Network → Type 0) → WroteEdits cap (Some e.call.live) e.call.text names base (AtLastCheck cap names base holds) → holds (Some (network_edited d edits))
    last_holds holds w =
        let at = subst (λ (xs : List ℕ). AtLastCheck cap names base holds (lines_of xs)) (w.all e.call.live refl) w.of_lines in
        by_last holds (last_checked (begun_editing cap names base) None (lines_of e.call.live)) (last_is cap names base (lines_of e.call.live) at.0) at.1

    by_outcome : (o : Outcome) → e.call.status ≡ status_of o → OutcomeTells (edit_telling cap (Some e.call.live) e.call.text names base) o → IsEditedVerdict cap (network_edited d edits) e.call.status
    by_outcome Good at w = inr (yes_decides e.call.status (IsConsistent (network_edited d edits)) at (last_holds (λ last. IfSome last IsConsistent) w))
    by_outcome Bad at w = inr (no_decides e.call.status (IsConsistent (network_edited d edits)) at (last_holds (λ last. IsSomeAnd last (λ net. IsConsistent net → ⊥)) w))
    by_outcome Full at w = inl (at, last_holds (λ last. IsSomeAnd last (λ net. cap < load_of net)) w)
    by_outcome Script at w = absurd (e.read at)
    by_outcome Words at never = absurd never
    by_outcome IsRefusedOutcome at never = absurd never
    by_outcome Unfinished at never = absurd never
    by_outcome Wide at never = absurd never

    by_tells : CallTells (edit d.asked cap) (d.bytes ∷ []) e.call → IsEditedVerdict cap (network_edited d edits) e.call.status
    by_tells (o, at, inl refused) = absurd (is_plain_document d e.plain refused.1)
    by_tells (o, at, inr has) = by_outcome o at (of_plain_document d (λ ns net. OutcomeTells (edit_telling cap (Some e.call.live) e.call.text ns net) o) has)
