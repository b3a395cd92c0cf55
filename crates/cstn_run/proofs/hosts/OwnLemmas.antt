-- The answer of a host to a call on an id depends only on the plans and on the id's own calls.
use Rattle.std.proofs.Common.{◌≡◌, ◌≢◌, ℕ, ◌<◌, List, [], ◌∷◌, ◌++◌, length, refl, ap, sym, subst, ◌∙◌, arith, Bool, true, false, not}
use Rattle.std.specs.Prelude.{Option, Some, None, nat_lt, ◌==◌, ◌&&◌, if◌then◌else◌, slice_index_or, slice_set}
use Rattle.std.specs.Option.{option_map}
use Rattle.std.proofs.lemmas.List.{get_or-set_same, get_or-set_other, get_or-replicate, length-set, length-replicate}
use Rattle.cstn_label.specs.Bounds.{Bound}
use Rattle.cstn_net.specs.Networks.{Network, count}
use Rattle.cstn_plan.specs.Plans.{PlanParts}
use Rattle.cstn_exec.specs.Runs.{Run, start_of_run, called}
use Rattle.cstn_exec.specs.Moves.{EventRefusal, moment_refusal, outcome_refusal}
use Rattle.cstn_exec.specs.Answers.{Event, Moment, See, AskDue, Answer, Names, Kept, Refused, DueAt, answer_to, moment_answer, see_answer, run_after, answers_from}
use Rattle.cstn_run.specs.hosted.Hosts.{HostParts, Opened, nothing_open, plan_of_file, net_at, bounds_at, case_at, opened_anew}
use Rattle.cstn_run.specs.hosted.Calls.{HostCall, CallOn, Open, AskFile, AskNamed, Pass, Close, Told, Denied, OutOfRange, answer_at, unless_event_refused, named_after, event_passed, case_after, answer_on, host_after, host_after_all, put_if, answers_to}
use Rattle.cstn_run.specs.hosted.Own.{Own, own_with, is_on, own_calls_from, own_calls, calls_on, answers_alone, last_from, named_from, answer_by_own, answer_by}
use Rattle.cstn_run.specs.hosted.Examples.{on}
use Rattle.cstn_run.proofs.hosts.Ids.{is_below, below_is, same_is, is_same, other_is, is_other}

-- ---- an executive that is alone

-- the run after some events
abbrev run_from : Network → List Bound → List Event → Run → Run
run_from net bounds [] run = run
run_from net bounds (e ∷ es) run = run_from net bounds es (run_after net bounds run e)

run_more : (net : Network) (bounds : List Bound) (es : List Event) (e : Event) (run : Run) → run_from net bounds (es ++ e ∷ []) run ≡ run_after net bounds (run_from net bounds es run) e
run_more net bounds [] e run = refl
run_more net bounds (f ∷ es) e run = run_more net bounds es e (run_after net bounds run f)

-- the last answer is the one to the last event
last_told : (net : Network) (bounds : List Bound) (es : List Event) (e : Event) (run : Run) (a : Answer) → last_from a (answers_from net bounds (es ++ e ∷ []) run) ≡ answer_to net bounds (run_from net bounds es run) e
last_told net bounds [] e run a = refl
last_told net bounds (f ∷ es) e run a = last_told net bounds es e (run_after net bounds run f) (answer_to net bounds run f)

-- the time-points that were named last after one more event
named_told : (net : Network) (bounds : List Bound) (e : Event) (run : Run) (before : List ℕ) → named_from before (answer_to net bounds run e ∷ []) ≡ named_after net bounds run before e
named_told net bounds (Moment t) run before = at (moment_refusal net bounds run t)
  where
    at : (r : Option EventRefusal) → named_from before (moment_answer net bounds run t r ∷ []) ≡ unless_event_refused before (called net bounds run t) r
    at None = refl
    at (Some why) = refl
named_told net bounds (See p v) run before = at (outcome_refusal net run p)
  where
    at : (r : Option EventRefusal) → named_from before (see_answer r ∷ []) ≡ before
    at None = refl
    at (Some why) = refl
named_told net bounds AskDue run before = refl

named_split : (a : Answer) (more : List Answer) (before : List ℕ) → named_from before (a ∷ more) ≡ named_from (named_from before (a ∷ [])) more
named_split (Names xs) more before = refl
named_split Kept more before = refl
named_split (Refused why) more before = refl
named_split (DueAt t) more before = refl

named_more : (net : Network) (bounds : List Bound) (es : List Event) (e : Event) (run : Run) (before : List ℕ) → named_from before (answers_from net bounds (es ++ e ∷ []) run) ≡ named_after net bounds (run_from net bounds es run) (named_from before (answers_from net bounds es run)) e
named_more net bounds [] e run before = named_told net bounds e run before
named_more net bounds (f ∷ es) e run before =
    let after = run_after net bounds run f in
    let told = answer_to net bounds run f in
    named_split told (answers_from net bounds (es ++ e ∷ []) after) before
    ∙ named_more net bounds es e after (named_from before (told ∷ []))
    ∙ ap (λ xs. named_after net bounds (run_from net bounds es after) xs e) (sym (named_split told (answers_from net bounds es after) before))

-- ---- one id

-- what an id is open over, by its own calls
abbrev case_by : List PlanParts → Own → Opened
case_by plans own = record {
  file = own.file;
  run = run_from (net_at plans own.file) (bounds_at plans own.file) own.events (start_of_run (count (net_at plans own.file)));
  named = named_from [] (answers_alone (plan_of_file plans own.file) own.events);
}

opens : (plans : List PlanParts) (file : ℕ) (inside want : Bool) → (if inside then (if want then None else Some (opened_anew plans file)) else None) ≡ option_map (case_by plans) (if inside && not want then Some (record { file = file; events = [] }) else None)
opens plans file true true = refl
opens plans file true false = refl
opens plans file false true = refl
opens plans file false false = refl

passes : (plans : List PlanParts) (own : Own) (e : Event) → event_passed plans (case_by plans own) e ≡ case_by plans (record { file = own.file; events = own.events ++ e ∷ [] })
passes plans own e =
    let net = net_at plans own.file in
    let bounds = bounds_at plans own.file in
    let first = start_of_run (count net) in
    ap (λ r. record { file = own.file; run = r; named = named_after net bounds (run_from net bounds own.events first) (named_from [] (answers_from net bounds own.events first)) e }) (sym (run_more net bounds own.events e first))
    ∙ ap (λ xs. record { file = own.file; run = run_from net bounds (own.events ++ e ∷ []) first; named = xs }) (sym (named_more net bounds own.events e first []))

-- a call changes what the id is open over as it changes the id's own calls
steps : (plans : List PlanParts) (own : Option Own) (call : HostCall) → case_after plans (option_map (case_by plans) own) call ≡ option_map (case_by plans) (own_with (length plans) own call)
steps plans None (Open file want) = opens plans file (nat_lt file (length plans)) want
steps plans None AskFile = refl
steps plans None AskNamed = refl
steps plans None (Pass e) = refl
steps plans None Close = refl
steps plans (Some own) (Open file want) = refl
steps plans (Some own) AskFile = refl
steps plans (Some own) AskNamed = refl
steps plans (Some own) (Pass e) = ap Some (passes plans own e)
steps plans (Some own) Close = refl

-- the answer is the one by the id's own calls
answers_own : (plans : List PlanParts) (id : ℕ) (own : Option Own) (call : HostCall) → answer_at plans id (option_map (case_by plans) own) call ≡ answer_by_own plans id own call
answers_own plans id None (Open file want) = refl
answers_own plans id None AskFile = refl
answers_own plans id None AskNamed = refl
answers_own plans id None (Pass e) = refl
answers_own plans id None Close = refl
answers_own plans id (Some own) (Open file want) = refl
answers_own plans id (Some own) AskFile = refl
answers_own plans id (Some own) AskNamed = refl
answers_own plans id (Some own) (Pass e) = ap Told (sym (last_told (net_at plans own.file) (bounds_at plans own.file) own.events e (start_of_run (count (net_at plans own.file))) Kept))
answers_own plans id (Some own) Close = refl

-- ---- all ids

-- a call on an id leaves unchanged what another id is open over
pub leaves_case : (host : HostParts) (id other : ℕ) (call : HostCall) → other ≢ id → case_at (host_after host id call) other ≡ case_at host other
leaves_case host id other call apart = at (nat_lt id 64)
  where
    at : (b : Bool) → slice_index_or (if b then slice_set host.cases id (case_after host.plans (case_at host id) call) else host.cases) other None ≡ slice_index_or host.cases other None
    at true = get_or-set_other host.cases id other (case_after host.plans (case_at host id) call) None apart
    at false = refl

-- a call on an id changes what that id is open over as `case_after` says
changes_case : (host : HostParts) (id : ℕ) (call : HostCall) → length host.cases ≡ 64 → id < 64 → case_at (host_after host id call) id ≡ case_after host.plans (case_at host id) call
changes_case host id call size small = rw (is_below id 64 small) (get_or-set_same host.cases id (case_after host.plans (case_at host id) call) None (omega arith))

-- a call leaves the number of ids as it is
as_many : (host : HostParts) (id : ℕ) (call : HostCall) → length (host_after host id call).cases ≡ length host.cases
as_many host id call = at (nat_lt id 64)
  where
    at : (b : Bool) → length (if b then slice_set host.cases id (case_after host.plans (case_at host id) call) else host.cases) ≡ length host.cases
    at true = length-set host.cases id (case_after host.plans (case_at host id) call)
    at false = refl

plans_stay : (host : HostParts) (calls : List CallOn) → (host_after_all host calls).plans ≡ host.plans
plans_stay host [] = refl
plans_stay host (c ∷ cs) = plans_stay (host_after host c.id c.call) cs

-- after any list of calls, what an id is open over is what its own calls determine
follows : (host : HostParts) (own : Option Own) (calls : List CallOn) (id : ℕ) → length host.cases ≡ 64 → id < 64 → case_at host id ≡ option_map (case_by host.plans) own → case_at (host_after_all host calls) id ≡ option_map (case_by host.plans) (own_calls_from (length host.plans) own calls id)
follows host own [] id size small is = is
follows host own (c ∷ cs) id size small is =
    follows (host_after host c.id c.call) (if is_on id c then own_with (length host.plans) own c.call else own) cs id (as_many host c.id c.call ∙ size) small (stepped (c.id == id) refl)
  where
    stepped : (b : Bool) → (c.id == id) ≡ b → case_at (host_after host c.id c.call) id ≡ option_map (case_by host.plans) (if b then own_with (length host.plans) own c.call else own)
    stepped true same =
        let at = same_is c.id id same in
        subst (λ (k : ℕ). case_at (host_after host k c.call) id ≡ option_map (case_by host.plans) (own_with (length host.plans) own c.call)) (sym at)
        (changes_case host id c.call size small ∙ ap (λ o. case_after host.plans o c.call) is ∙ steps host.plans own c.call)
    stepped false apart = leaves_case host c.id id c.call (other_is c.id id apart) ∙ is

-- the answer to a call on an id is the one by its own calls
pub answered : (plans : List PlanParts) (calls : List CallOn) (id : ℕ) (call : HostCall) → answer_on (host_after_all (nothing_open plans) calls) id call ≡ answer_by plans id (own_calls (length plans) calls id) call
answered plans calls id call = at (nat_lt id 64) refl
  where
    at : (b : Bool) → nat_lt id 64 ≡ b → (if b then answer_at (host_after_all (nothing_open plans) calls).plans id (case_at (host_after_all (nothing_open plans) calls) id) call else Denied (OutOfRange id)) ≡ (if b then answer_by_own plans id (if b then own_calls_from (length plans) None calls id else None) call else Denied (OutOfRange id))
    at true is =
        let small = below_is id 64 is in
        let own = own_calls_from (length plans) None calls id in
        ap (λ (ps : List PlanParts). answer_at ps id (case_at (host_after_all (nothing_open plans) calls) id) call) (plans_stay (nothing_open plans) calls)
        ∙ ap (λ o. answer_at plans id o call) (follows (nothing_open plans) None calls id (length-replicate {A = Option Opened} 64 None) small (get_or-replicate {A = Option Opened} 64 id None None small))
        ∙ answers_own plans id own call
    at false is = refl

-- ---- own calls

own_append : (files : ℕ) (own : Option Own) (xs ys : List CallOn) (id : ℕ) → own_calls_from files own (xs ++ ys) id ≡ own_calls_from files (own_calls_from files own xs id) ys id
own_append files own [] ys id = refl
own_append files own (c ∷ cs) ys id = own_append files (if is_on id c then own_with files own c.call else own) cs ys id

-- a call on an id adds nothing to the own calls of another id
pub leaves_own : (files : ℕ) (calls : List CallOn) (id other : ℕ) (call : HostCall) → other ≢ id → own_calls files (calls ++ on id call ∷ []) other ≡ own_calls files calls other
leaves_own files calls id other call apart = at (nat_lt other 64)
  where
    at : (b : Bool) → (if b then own_calls_from files None (calls ++ on id call ∷ []) other else None) ≡ (if b then own_calls_from files None calls other else None)
    at true =
        let own = own_calls_from files None calls other in
        own_append files None calls (on id call ∷ []) other
        ∙ ap (λ b. if b then own_with files own call else own) (is_other id other apart)
    at false = refl

closes : (files : ℕ) (own : Option Own) → own_with files own Close ≡ None
closes files None = refl
closes files (Some own) = refl

pub anew : (files : ℕ) (calls : List CallOn) (id file : ℕ) → id < 64 → file < files → own_calls files (calls ++ on id Close ∷ (on id (Open file false) ∷ [])) id ≡ Some (record { file = file; events = [] })
anew files calls id file small inside =
    let own = own_calls_from files None calls id in
    rw (is_below id 64 small)
    (own_append files None calls (on id Close ∷ (on id (Open file false) ∷ [])) id
    ∙ ap (λ b. if b then own_with files (if b then own_with files own Close else own) (Open file false) else (if b then own_with files own Close else own)) (is_same id)
    ∙ ap (λ o. own_with files o (Open file false)) (closes files own)
    ∙ ap (λ b. if b && not false then Some (record { file = file; events = [] }) else None) (is_below file files inside))

-- the calls on other ids make no difference to an id's own calls
own_filtered : (files : ℕ) (own : Option Own) (calls : List CallOn) (id : ℕ) → own_calls_from files own (calls_on id calls) id ≡ own_calls_from files own calls id
own_filtered files own [] id = refl
own_filtered files own (c ∷ cs) id = at (c.id == id) refl (own_filtered files (own_with files own c.call) cs id) (own_filtered files own cs id)
  where
    at : (b : Bool) → (c.id == id) ≡ b → own_calls_from files (own_with files own c.call) (calls_on id cs) id ≡ own_calls_from files (own_with files own c.call) cs id
        → own_calls_from files own (calls_on id cs) id ≡ own_calls_from files own cs id → own_calls_from files own (calls_on id (c ∷ cs)) id ≡ own_calls_from files own (c ∷ cs) id
    at true is on_it off_it =
        ap (λ b. own_calls_from files own (if b then c ∷ calls_on id cs else calls_on id cs) id) is
        ∙ ap (λ b. own_calls_from files (if b then own_with files own c.call else own) (calls_on id cs) id) is
        ∙ on_it
        ∙ ap (λ b. own_calls_from files (if b then own_with files own c.call else own) cs id) (sym is)
    at false is on_it off_it =
        ap (λ b. own_calls_from files own (if b then c ∷ calls_on id cs else calls_on id cs) id) is
        ∙ off_it
        ∙ ap (λ b. own_calls_from files (if b then own_with files own c.call else own) cs id) (sym is)

-- the same calls on an id give it the same answers
pub apart : (plans : List PlanParts) (calls others : List CallOn) (id : ℕ) (call : HostCall) → calls_on id calls ≡ calls_on id others → answer_on (host_after_all (nothing_open plans) calls) id call ≡ answer_on (host_after_all (nothing_open plans) others) id call
apart plans calls others id call same = answered plans calls id call ∙ ap (λ o. answer_by plans id o call) own ∙ sym (answered plans others id call)
  where
    own : own_calls (length plans) calls id ≡ own_calls (length plans) others id
    own = ap (λ o. if nat_lt id 64 then o else None)
        (sym (own_filtered (length plans) None calls id) ∙ ap (λ cs. own_calls_from (length plans) None cs id) same ∙ own_filtered (length plans) None others id)

-- ---- all answers to an id

-- two hosts that have the same plans, and the id open over the same
record Agree (h g : HostParts) (id : ℕ) : Type 0 where
  same_plans : h.plans ≡ g.plans
  same_case : case_at h id ≡ case_at g id
  size : length h.cases ≡ 64
  also : length g.cases ≡ 64

same_answer : (h g : HostParts) (id : ℕ) (call : HostCall) → Agree h g id → answer_on h id call ≡ answer_on g id call
same_answer h g id call agree =
    ap (λ (ps : List PlanParts). if nat_lt id 64 then answer_at ps id (case_at h id) call else Denied (OutOfRange id)) agree.same_plans
    ∙ ap (λ o. if nat_lt id 64 then answer_at g.plans id o call else Denied (OutOfRange id)) agree.same_case

same_after : (h g : HostParts) (id : ℕ) (call : HostCall) → Agree h g id → Agree (host_after h id call) (host_after g id call) id
same_after h g id call agree = record {
  same_plans = agree.same_plans;
  same_case = at (nat_lt id 64) refl;
  size = as_many h id call ∙ agree.size;
  also = as_many g id call ∙ agree.also;
}
  where
    at : (b : Bool) → nat_lt id 64 ≡ b → slice_index_or (if b then slice_set h.cases id (case_after h.plans (case_at h id) call) else h.cases) id None ≡ slice_index_or (if b then slice_set g.cases id (case_after g.plans (case_at g id) call) else g.cases) id None
    at true is =
        let small = below_is id 64 is in
        let size = agree.size in
        let also = agree.also in
        get_or-set_same h.cases id (case_after h.plans (case_at h id) call) None (omega arith)
        ∙ ap (λ (ps : List PlanParts). case_after ps (case_at h id) call) agree.same_plans
        ∙ ap (λ o. case_after g.plans o call) agree.same_case
        ∙ sym (get_or-set_same g.cases id (case_after g.plans (case_at g id) call) None (omega arith))
    at false is = agree.same_case

-- a call on another id leaves two such hosts the same for the id
same_still : (h g : HostParts) (id other : ℕ) (call : HostCall) → id ≢ other → Agree h g id → Agree (host_after h other call) g id
same_still h g id other call apart agree = record {
  same_plans = agree.same_plans;
  same_case = leaves_case h other id call apart ∙ agree.same_case;
  size = as_many h other call ∙ agree.size;
  also = agree.also;
}

-- the answers to the calls on an id are the same where these are the only calls
to_its_calls : (h g : HostParts) (calls : List CallOn) (id : ℕ) → Agree h g id → answers_to id h calls ≡ answers_to id g (calls_on id calls)
to_its_calls h g [] id agree = refl
to_its_calls h g (c ∷ cs) id agree = at (c.id == id) refl (λ k l same. to_its_calls k l cs id same)
  where
    at : (b : Bool) → (c.id == id) ≡ b → ((k l : HostParts) → Agree k l id → answers_to id k cs ≡ answers_to id l (calls_on id cs)) → answers_to id h (c ∷ cs) ≡ answers_to id g (calls_on id (c ∷ cs))
    at true is rest =
        let same = same_is c.id id is in
        let agreed = subst (λ (k : ℕ). Agree h g k) (sym same) agree in
        let after = subst (λ (k : ℕ). Agree (host_after h c.id c.call) (host_after g c.id c.call) k) same (same_after h g c.id c.call agreed) in
        ap (λ b. put_if b (answer_on h c.id c.call) (answers_to id (host_after h c.id c.call) cs)) is
        ∙ ap (λ a. a ∷ answers_to id (host_after h c.id c.call) cs) (same_answer h g c.id c.call agreed)
        ∙ ap (λ more. answer_on g c.id c.call ∷ more) (rest (host_after h c.id c.call) (host_after g c.id c.call) after)
        ∙ ap (λ b. put_if b (answer_on g c.id c.call) (answers_to id (host_after g c.id c.call) (calls_on id cs))) (sym is)
        ∙ ap (λ b. answers_to id g (if b then c ∷ calls_on id cs else calls_on id cs)) (sym is)
    at false is rest =
        ap (λ b. put_if b (answer_on h c.id c.call) (answers_to id (host_after h c.id c.call) cs)) is
        ∙ rest (host_after h c.id c.call) g (same_still h g id c.id c.call (other_is c.id id is) agree)
        ∙ ap (λ b. answers_to id g (if b then c ∷ calls_on id cs else calls_on id cs)) (sym is)

pub each_apart : (plans : List PlanParts) (calls others : List CallOn) (id : ℕ) → calls_on id calls ≡ calls_on id others → answers_to id (nothing_open plans) calls ≡ answers_to id (nothing_open plans) others
each_apart plans calls others id same =
    let first = nothing_open plans in
    to_its_calls first first calls id agree ∙ ap (answers_to id first) same ∙ sym (to_its_calls first first others id agree)
  where
    agree : Agree (nothing_open plans) (nothing_open plans) id
    agree = record { same_plans = refl; same_case = refl; size = length-replicate {A = Option Opened} 64 None; also = length-replicate {A = Option Opened} 64 None }
