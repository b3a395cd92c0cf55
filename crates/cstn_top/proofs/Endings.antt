-- How a call ends: what was written is a text of the plan.
use Rattle.std.proofs.Common.{◌≡◌, ◌≤◌, ◌-◌, ℕ, List, [], length, refl, sym, ◌∙◌, ap, subst, inl, inr, arith}
use Rattle.std.specs.Prelude.{◌⊎◌, Bool, IsNone, IsSome, Option, None, Some, codes}
use Rattle.cstn_io.specs.Contents.{IsAllOf}
use Rattle.cstn_reply.specs.Texts.{line, Said, say}
use Rattle.cstn_request.specs.Requests.{Request, files_of, names_of}
use Rattle.cstn_request.specs.Files.{AreContents, AreThere}
use Rattle.cstn_top.specs.Plans.{Plan, says, IsPlanText, PlanEnds, ComesTo, Untouched, wanting_session, ended_session}
use Rattle.cstn_top.specs.Dispatch.{plan_of, plan_at}
use Rattle.cstn_top.specs.Prepared.{the_plan, Planned, TellsRefused, AsksEnough}
use Rattle.cstn_top.specs.Meanings.{HoldsOf, IsStopped, files_read, AreAsked, RefusedIsThere, ReadsLive, MayStop}
use Rattle.cstn_request.specs.Asked.{AskedFirst}
use Rattle.cstn_reply.specs.Written.{LiveState, ReadsLeadOn, IsTaken, is_output, is_file_fault, is_live_fault, is_memory, is_stopped, IsWritten}
use Rattle.cstn_reply.specs.Sessions.{Turn}
use Rattle.cstn_reply.specs.Read.{the_said}
use Rattle.cstn_top.specs.Told.{Answers}
use Rattle.cstn_reply.specs.Statuses.{status_of}
use Rattle.cstn_top.specs.declared.commands.Prepared.{Prepared}
use Rattle.cstn_top.specs.declared.commands.Prepared.TheVariants.{Says, Runs, Edits, Follows, Hosts}
use Rattle.cstn_reply.specs.declared.status.Status.{Status}
use Rattle.cstn_reply.specs.declared.status.Status.TheVariants.{Words as IsWords, Document as IsRefusedStatus, ReadFault, WriteFault, Memory}
use Rattle.cstn_reply.specs.declared.output.Outcome.{Outcome}
use Rattle.cstn_reply.specs.declared.output.Outcome.TheVariants.{Words, Document}
use Rattle.cstn_reply.proofs.Contents.{given, all_given}
use Rattle.cstn_request.proofs.Contents.{some_contents, none_there}
use Rattle.cstn_top.proofs.Outcomes.{IsAnswer}
use Rattle.cstn_top.proofs.Answered.{answered}
use Rattle.cstn_top.proofs.Asking.{read_most, no_files}
use Rattle.cstn_request.proofs.Asking.{and_none, first_there}
use Rattle.cstn_top.proofs.Talks.{reads}
use Rattle.cstn_lines.proofs.StepLemmas.{no_bytes}

-- how a call ends, for contents of the files that its words name
abbrev pub Answered : {S : Type 0} → Option Request → Option (List ℕ → Option (List ℕ)) → S → S → LiveState → LiveState → Option (List ℕ) → Option (List ℕ) → Status → Type 0
Answered words shelf source now before after old new result = (contents : List (List ℕ)) × AreContents shelf (names_of words) contents × PlanEnds (plan_of words contents) before after old new result × Untouched (plan_of words contents) source now

says_text : (plan : Plan) (said : Said) (seen : LiveState) → ((live : List ℕ) → plan.output live said) → IsPlanText plan seen seen (status_of said.outcome) said.text
says_text plan said seen output = is_output (given seen.left) said (all_given seen.left seen.left [] (no_bytes seen.left)) (output (given seen.left)) (inl refl)

memory_text : (plan : Plan) (seen : LiveState) → IsPlanText plan seen seen Memory (line (codes "memory"))
memory_text plan seen = is_memory refl

-- the words are no request
pub words_end : {S : Type 0} (words : Option Request) (shelf : Option (List ℕ → Option (List ℕ))) (source : S) (seen : LiveState) (old new : Option (List ℕ)) (result : Status) → None ≡ words → IsWritten old new (line (codes "words")) IsWords result → Answered words shelf source source seen seen old new result
words_end words shelf source seen old new result none written =
    let fs = some_contents shelf [] in
    subst (λ (w : Option Request). Answered w shelf source source seen seen old new result) none
    (fs.0, fs.1, (IsWords, line (codes "words"), says_text (says (say Words (codes "words"))) (say Words (codes "words")) seen (λ live. refl), written), inr refl)

-- a file couldn't be read
pub fault_end : {S : Type 0} (words : Option Request) (shelf : Option (List ℕ → Option (List ℕ))) (source : S) (seen : LiveState) (old new : Option (List ℕ)) (result : Status) → IsWritten old new (line (codes "read fault")) ReadFault result → Answered words shelf source source seen seen old new result
fault_end words shelf source seen old new result written =
    let fs = some_contents shelf (names_of words) in
    (fs.0, fs.1, (ReadFault, line (codes "read fault"), is_file_fault refl, written), inr refl)

-- memory was refused
pub memory_end : {S : Type 0} (words : Option Request) (shelf : Option (List ℕ → Option (List ℕ))) (source : S) (seen : LiveState) (old new : Option (List ℕ)) (result : Status) → IsWritten old new (line (codes "memory")) Memory result → Answered words shelf source source seen seen old new result
memory_end words shelf source seen old new result written =
    let fs = some_contents shelf (names_of words) in
    (fs.0, fs.1, (Memory, line (codes "memory"), memory_text (plan_of words fs.0) seen, written), inr refl)

-- a text was written
pub text_end : (said : Said) (text : List ℕ) (seen : LiveState) (old new : Option (List ℕ)) (status result : Status) → text ≡ said.text → status ≡ status_of said.outcome → IsWritten old new text status result → PlanEnds (says said) seen seen old new result
text_end said text seen old new status result same at written =
    (status_of said.outcome, said.text, says_text (says said) said seen (λ live. refl), subst (λ (s : Status). IsWritten old new said.text s result) at (subst (λ (xs : List ℕ). IsWritten old new xs status result) same written))

-- a session with an equal opening ends likewise, and so does what equals what was prepared
pub opened_ends : {S : Type 0} (wants : List ℕ → Bool) (turn : S → List ℕ → Turn S) (ending : S → Said) (state : S) (opening other : List ℕ) (before after : LiveState) (old new : Option (List ℕ)) (result : Status) → other ≡ opening → PlanEnds (wanting_session wants turn ending other state) before after old new result → PlanEnds (wanting_session wants turn ending opening state) before after old new result
opened_ends wants turn ending state opening other before after old new result same ends = subst (λ (o : List ℕ). PlanEnds (wanting_session wants turn ending o state) before after old new result) same ends

pub opened_ended : {S : Type 0} (turn : S → List ℕ → Turn S) (ending : S → Said) (state : S) (opening other : List ℕ) (before after : LiveState) (old new : Option (List ℕ)) (result : Status) → other ≡ opening → PlanEnds (ended_session turn ending other state) before after old new result → PlanEnds (ended_session turn ending opening state) before after old new result
opened_ended turn ending state opening other before after old new result same ends = subst (λ (o : List ℕ). PlanEnds (ended_session turn ending o state) before after old new result) same ends

pub ends_as : (p q : Prepared) (before after : LiveState) (old new : Option (List ℕ)) (result : Status) → p ≡ q → PlanEnds (the_plan q) before after old new result → PlanEnds (the_plan p) before after old new result
ends_as p q before after old new result same ends = subst (λ (x : Prepared). PlanEnds (the_plan x) before after old new result) (sym same) ends

-- reads that go on by one plan go on by a plan that comes to it
reads_as : (plan other : Plan) (taken : List ℕ) (before after : ℕ) → ComesTo plan other → other.talks → ReadsLeadOn other.heard taken before after → ReadsLeadOn plan.heard taken before after
reads_as plan other taken before after comes may reads = record {
  first = reads.first;
  last = reads.last;
  parts = reads.parts;
  leads = subst (λ (o : Option (List ℕ)). IsSome o) (comes.fault may reads.first) reads.leads;
  few = reads.few;
}

taken_as : (plan other : Plan) (before after : LiveState) → ComesTo plan other → other.talks → IsTaken other.heard before after → IsTaken plan.heard before after
taken_as plan other before after comes may (inl same) = inl same
taken_as plan other before after comes may (inr (taken, left, reads)) = inr (taken, left, reads_as plan other taken before.reads after.reads comes may reads)

-- where a plan comes to another one, each text of the other is one of it
carried : (plan other : Plan) (before after : LiveState) (status : Status) (text : List ℕ) → ComesTo plan other → other.talks → IsPlanText other before after status text → IsPlanText plan before after status text
carried plan other before after status text comes may (is_output live said all output took) = is_output live said all (comes.output live said output) (taken_as plan other before after comes may took)
carried plan other before after status text comes may (is_file_fault same) = is_file_fault same
carried plan other before after status text comes may (is_live_fault taken said left rose heard reads) =
    is_live_fault taken said left rose (sym (comes.fault may taken) ∙ heard) (reads_as plan other taken before.reads after.reads comes may reads)
carried plan other before after status text comes may (is_memory same) = is_memory same
carried plan other before after status text comes may (is_stopped said stops took) = is_stopped said (comes.stops before.left said stops) (taken_as plan other before after comes may took)

-- a session was held
talks_end : {S : Type 0} (words : Option Request) (r : Request) (shelf : Option (List ℕ → Option (List ℕ))) (source now : S) (plan : Plan) (before after : LiveState) (old new : Option (List ℕ)) (result : Status) → Some r ≡ words → Planned r shelf plan → plan.talks → PlanEnds plan before after old new result → Answered words shelf source now before after old new result
talks_end words r shelf source now plan before after old new result there planned may ends =
    subst (λ (w : Option Request). Answered w shelf source now before after old new result) there
    (planned.contents, planned.are, (ends.0, ends.1, carried (plan_at r planned.contents) plan before after ends.0 ends.1 planned.comes may ends.2, ends.3), inl (planned.comes.talks may))

-- where the live source is as it was, each text of a plan that says a text is one of a plan that comes to it
said_alone : (plan : Plan) (said : Said) (before after : LiveState) (status : Status) (text : List ℕ) → after ≡ before → ComesTo plan (says said) → IsPlanText (says said) before after status text → IsPlanText plan before after status text
said_alone plan said before after status text same comes (is_output live other all output took) = is_output live other all (comes.output live other output) (inl same)
said_alone plan said before after status text same comes (is_file_fault is) = is_file_fault is
said_alone plan said before after status text same comes (is_live_fault taken text' left rose heard reads) =
    absurd (let none : None ≡ Some text' = heard in let f : ⊥ = cc in f)
said_alone plan said before after status text same comes (is_memory is) = is_memory is
said_alone plan said before after status text same comes (is_stopped first stops took) = absurd stops

-- what was prepared was said
pub spoken : {S : Type 0} (words : Option Request) (r : Request) (shelf : Option (List ℕ → Option (List ℕ))) (seen : S → LiveState) (source now : S) (p : Prepared) (old new : Option (List ℕ)) (result : Status) → Some r ≡ words → Planned r shelf (the_plan p) → PlanEnds (the_plan p) (seen source) (seen now) old new result →
    Untouched (the_plan p) source now → Answers words shelf seen source now old new result
spoken words r shelf seen source now (Says said) old new result there planned ends (inl may) = absurd may
spoken words r shelf seen source now (Says said) old new result there planned ends (inr same) =
    subst (λ (w : Option Request). Answers w shelf seen source now old new result) there (
      planned.contents,
      planned.are,
      (ends.0, ends.1, said_alone (plan_at r planned.contents) (the_said said) (seen source) (seen now) ends.0 ends.1 (ap seen same) planned.comes ends.2, ends.3),
      inr same,
    )
spoken words r shelf seen source now (Runs opening guiding) old new result there planned ends touched = talks_end words r shelf source now _ (seen source) (seen now) old new result there planned tt ends
spoken words r shelf seen source now (Edits editing) old new result there planned ends touched = talks_end words r shelf source now _ (seen source) (seen now) old new result there planned tt ends
spoken words r shelf seen source now (Follows opening session') old new result there planned ends touched = talks_end words r shelf source now _ (seen source) (seen now) old new result there planned tt ends
spoken words r shelf seen source now (Hosts opening hosting) old new result there planned ends touched = talks_end words r shelf source now _ (seen source) (seen now) old new result there planned tt ends

-- a call ends with the status of an output
abbrev pub EndsAs : Plan → LiveState → Status → Type 0
EndsAs plan before status = (live : List ℕ) × IsAllOf before.left live × ((said : Said) × plan.output live said × (status ≡ status_of said.outcome))

-- an output ends with the status of its outcome, and other ends are faults or want of memory
text_status : (plan : Plan) (before after : LiveState) (status : Status) (text : List ℕ) → IsPlanText plan before after status text → EndsAs plan before status ⊎ IsStopped status
text_status plan before after status text (is_output live said all output took) = inl (live, all, (said, output, refl))
text_status plan before after status text (is_file_fault same) = inr (inl refl)
text_status plan before after status text (is_live_fault taken said left rose heard reads) = inr (inl refl)
text_status plan before after status text (is_memory same) = inr (inr (inr refl))
text_status plan before after status text (is_stopped said stops took) = inr (inr (inr refl))

pub end_status : (plan : Plan) (before after : LiveState) (old new : Option (List ℕ)) (result : Status) → PlanEnds plan before after old new result → EndsAs plan before result ⊎ IsStopped result
end_status plan before after old new result ends = by_written ends.3
  where
    by_text : (status : Status) → result ≡ status → EndsAs plan before status ⊎ IsStopped status → EndsAs plan before result ⊎ IsStopped result
    by_text status same (inl (live, all, (said, output, is))) = inl (live, all, (said, output, same ∙ is))
    by_text status same (inr stopped) = inr (subst IsStopped (sym same) stopped)

    by_written : IsWritten old new ends.1 ends.0 result → EndsAs plan before result ⊎ IsStopped result
    by_written (inl (same, wrote)) = by_text ends.0 same (text_status plan before after ends.0 ends.1 ends.2)
    by_written (inr (fault, cut)) = inr (inr (inl fault))

pub status_alone : (outcome other : Outcome) → status_of outcome ≡ status_of other → outcome ≡ other
status_alone outcome other is = grind arith

not_stopped : (outcome : Outcome) → IsStopped (status_of outcome) → ⊥
not_stopped outcome (inl is) = grind arith
not_stopped outcome (inr (inl is)) = grind arith
not_stopped outcome (inr (inr is)) = grind arith

-- the status Words comes only where the words are no request
pub words_is : {S : Type 0} (words : Option Request) (shelf : Option (List ℕ → Option (List ℕ))) (source now : S) (before after : LiveState) (old new : Option (List ℕ)) (result : Status) → Answered words shelf source now before after old new result → result ≡ IsWords → IsNone words
words_is None shelf source now before after old new result ends is = refl
words_is (Some r) shelf source now before after old new result ends is = absurd (by_status (end_status (plan_at r ends.0) before after old new result ends.2))
  where
    by_status : EndsAs (plan_at r ends.0) before result ⊎ IsStopped result → ⊥
    by_status (inl (live, all, (said, output, at))) = subst IsAnswer (status_alone said.outcome Words (sym at ∙ is)) (answered r ends.0 live said output)
    by_status (inr stopped) = not_stopped Words (subst IsStopped is stopped)

-- a session was held only by a request that reads the live source
pub reads_live : (words : Option Request) (r : Request) (shelf : Option (List ℕ → Option (List ℕ))) (plan : Plan) → Some r ≡ words → Planned r shelf plan → plan.talks → HoldsOf words shelf ReadsLive
reads_live words r shelf plan there planned may =
    subst (λ (w : Option Request). HoldsOf w shelf ReadsLive) there (planned.contents, planned.are, reads r planned.contents (planned.comes.talks may))

-- and else the live source is as it was
pub live_is : {S : Type 0} (words : Option Request) (r : Request) (shelf : Option (List ℕ → Option (List ℕ))) (plan : Plan) (source now : S) → Some r ≡ words → Planned r shelf plan → Untouched plan source now → HoldsOf words shelf ReadsLive ⊎ (now ≡ source)
live_is words r shelf plan source now there planned (inl may) = inl (reads_live words r shelf plan there planned may)
live_is words r shelf plan source now there planned (inr same) = inr same

-- what was prepared stops at a line only of a session
stops_talks : (p : Prepared) (source : Option (List ℕ)) (said : List ℕ) → (the_plan p).stops source said → (the_plan p).talks
stops_talks (Says text) source said is = is
stops_talks (Runs opening session) source said is = tt
stops_talks (Edits session) source said is = tt
stops_talks (Follows opening session) source said is = tt
stops_talks (Hosts opening session) source said is = tt

-- the plan says this and then stops at a line, or else this holds
abbrev pub StopsOr : Plan → Option (List ℕ) → Type 0 → Type 0
StopsOr plan live Alone = ((said : List ℕ) × plan.stops live said) ⊎ Alone

-- a session with an equal opening stops likewise, and so does what equals what was prepared
pub opened_stops : {S : Type 0} (wants : List ℕ → Bool) (turn : S → List ℕ → Turn S) (ending : S → Said) (state : S) (opening other : List ℕ) (live : Option (List ℕ)) (Alone : Type 0) → other ≡ opening → StopsOr (wanting_session wants turn ending other state) live Alone → StopsOr (wanting_session wants turn ending opening state) live Alone
opened_stops wants turn ending state opening other live Alone same stops = subst (λ (o : List ℕ). StopsOr (wanting_session wants turn ending o state) live Alone) same stops

pub ended_stops : {S : Type 0} (turn : S → List ℕ → Turn S) (ending : S → Said) (state : S) (opening other : List ℕ) (live : Option (List ℕ)) (Alone : Type 0) → other ≡ opening → StopsOr (ended_session turn ending other state) live Alone → StopsOr (ended_session turn ending opening state) live Alone
ended_stops turn ending state opening other live Alone same stops = subst (λ (o : List ℕ). StopsOr (ended_session turn ending o state) live Alone) same stops

pub stops_as : (live : Option (List ℕ)) (p other : Prepared) (Alone : Type 0) → p ≡ other → StopsOr (the_plan other) live Alone → StopsOr (the_plan p) live Alone
stops_as live p other Alone same stops = subst (λ (q : Prepared). StopsOr (the_plan q) live Alone) (sym same) stops

-- an answer may want memory only where the request reads the live source
pub memory_is : (words : Option Request) (r : Request) (shelf : Option (List ℕ → Option (List ℕ))) (live : Option (List ℕ)) (p : Prepared) (Alone : Type 0) → Some r ≡ words → Planned r shelf (the_plan p) → StopsOr (the_plan p) live Alone → HoldsOf words shelf (MayStop live) ⊎ Alone
memory_is words r shelf live p Alone there planned (inl (said, stops)) =
    inl (subst (λ (w : Option Request). HoldsOf w shelf (MayStop live)) there
    (planned.contents, planned.are, (reads r planned.contents (planned.comes.talks (stops_talks p live said stops)), (said, planned.comes.stops live said stops))))
memory_is words r shelf live p Alone there planned (inr alone) = inr alone

-- a call that was stopped reads no file
stopped_reads : (shelf : Option (List ℕ → Option (List ℕ))) (before after : Option (List (List ℕ))) (names : List (List ℕ)) (result : Status) → AskedFirst shelf before after names → files_read result names ≡ [] → AreAsked shelf before after result names
stopped_reads shelf before after names result first none = record {
  first = first;
  read = subst (λ (xs : List (List ℕ)). length xs ≤ first.count) (sym none) (omega arith);
  there = subst (AreThere shelf) (sym none) (none_there shelf);
}

stopped_asks : (shelf : Option (List ℕ → Option (List ℕ))) (before after : Option (List (List ℕ))) (names : List (List ℕ)) (result : Status) → AskedFirst shelf before after names → IsStopped result → AreAsked shelf before after result names
stopped_asks shelf before after names result first (inl is) = stopped_reads shelf before after names result first (ap (λ (s : Status). files_read s names) is)
stopped_asks shelf before after names result first (inr (inl is)) = stopped_reads shelf before after names result first (ap (λ (s : Status). files_read s names) is)
stopped_asks shelf before after names result first (inr (inr is)) = stopped_reads shelf before after names result first (ap (λ (s : Status). files_read s names) is)

-- where a call was stopped before an answer, or ends with a status that reads no file, the first files were asked for
pub asked_before : (words : Option Request) (r : Request) (shelf : Option (List ℕ → Option (List ℕ))) (before after : Option (List (List ℕ))) (status result : Status) → Some r ≡ words → AskedFirst shelf before after (files_of r) → IsStopped status → (result ≡ status) ⊎ (result ≡ WriteFault) → AreAsked shelf before after result (names_of words)
asked_before words r shelf before after status result there first stopped ends =
    subst (λ (w : Option Request). AreAsked shelf before after result (names_of w)) there (stopped_asks shelf before after (files_of r) result first (by_end ends))
  where
    by_end : (result ≡ status) ⊎ (result ≡ WriteFault) → IsStopped result
    by_end (inl same) = subst IsStopped (sym same) stopped
    by_end (inr fault) = inr (inl fault)

-- where the words are no request, no file was asked for
pub none_asked : (words : Option Request) (shelf : Option (List ℕ → Option (List ℕ))) (before : Option (List (List ℕ))) (result : Status) → None ≡ words → AreAsked shelf before before result (names_of words)
none_asked words shelf before result none =
    subst (λ (w : Option Request). AreAsked shelf before before result (names_of w)) none (record {
      first = record { count = 0; asked = and_none before; earlier = first_there shelf [] (0 - 1) (none_there shelf) };
      read = read_most result [];
      there = subst (AreThere shelf) (sym (no_files result)) (none_there shelf);
    })

-- the files that were read are there
pub there_is : (words : Option Request) (r : Request) (shelf : Option (List ℕ → Option (List ℕ))) (asked now : Option (List (List ℕ))) (plan : Plan) (before after : LiveState) (old new : Option (List ℕ)) (result : Status) → Some r ≡ words → Planned r shelf plan → AsksEnough r shelf asked now plan → PlanEnds plan before after old new result →
    AreAsked shelf asked now result (names_of words)
there_is words r shelf asked now plan before after old new result there planned asks ends =
    subst (λ (w : Option Request). AreAsked shelf asked now result (names_of w)) there (by_status (end_status plan before after old new result ends))
  where
    by_status : EndsAs plan before result ⊎ IsStopped result → AreAsked shelf asked now result (files_of r)
    by_status (inl (live, all, (said, output, at))) =
        subst (λ (s : Status). AreAsked shelf asked now s (files_of r)) (sym at) (record { first = asks.first; read = asks.enough live said output; there = planned.there live said output })
    by_status (inr stopped) = stopped_asks shelf asked now (files_of r) result asks.first stopped

-- a call that ends with Document tells of a document that is there
pub refused_is : (words : Option Request) (r : Request) (shelf : Option (List ℕ → Option (List ℕ))) (asked now : Option (List (List ℕ))) (plan : Plan) (before after : LiveState) (old new : Option (List ℕ)) (result : Status) → Some r ≡ words → TellsRefused shelf asked now r plan → PlanEnds plan before after old new result →
    result ≡ IsRefusedStatus → HoldsOf words shelf (RefusedIsThere shelf asked now)
refused_is words r shelf asked now plan before after old new result there tells ends is =
    subst (λ (w : Option Request). HoldsOf w shelf (RefusedIsThere shelf asked now)) there (by_status (end_status plan before after old new result ends))
  where
    by_status : EndsAs plan before result ⊎ IsStopped result → HoldsOf (Some r) shelf (RefusedIsThere shelf asked now)
    by_status (inl (live, all, (said, output, at))) = tells live said output (status_alone said.outcome Document (sym at ∙ is))
    by_status (inr stopped) = absurd (not_stopped Document (subst IsStopped is stopped))
