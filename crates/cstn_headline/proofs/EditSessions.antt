-- An edit session's network is the network as edited, and what it answers to `check` is true of that.
use Rattle.std.proofs.Common.{◌≡◌, ℕ, ◌+◌, ◌<◌, ◌≤◌, ◌^◌, inl, inr, Bool, true, false, List, [], ◌∷◌, ◌++◌, length, Option, Some, None, refl, sym, ap, subst, ◌∙◌, arith, append_assoc}
use Rattle.std.specs.Prelude.{ℤ, ◌⊎◌, nat_lt, if◌then◌else◌, Result, Ok, Err, codes, bytes_eq}
use Rattle.std.specs.List.{All}
use Rattle.std.proofs.lemmas.Bool.{cases_Bool, ltb-true, ltb-false, cond-true, cond-false, false≢true}
use Rattle.std.proofs.lemmas.List.{append-nil}
use Rattle.std.proofs.lemmas.List.Elements.{All-nil, All-push, All-weaker}
use Rattle.std.proofs.lemmas.Slice.Eq.{bytes_eq-Decides}
use Rattle.std.proofs.lemmas.List.Quantifiers.{position-Some}
use Rattle.std.proofs.lemmas.Option.{same_Some}
use Rattle.cstn_label.specs.Labels.{Label}
use Rattle.cstn_net.specs.Limits.{most_constraints}
use Rattle.cstn_net.specs.Networks.{Network, Constraint, IsWellFormed, count}
use Rattle.cstn_text.specs.Names.{number_of}
use Rattle.cstn_rules.specs.Derivations.{Entry, IsRefutation}
use Rattle.cstn_log.specs.Cuts.{last_with_ancestors}
use Rattle.cstn_log.specs.Entries.{bases}
use Rattle.cstn_log.proofs.MarkLemmas.{part_refutation}
use Rattle.cstn_check.specs.declared.verdicts.Verdict.{Verdict}
use Rattle.cstn_check.specs.declared.verdicts.Verdict.TheVariants.{Yes, No, Full}
use Rattle.cstn_check.specs.Growth.{grow, load_of, is_refuted}
use Rattle.cstn_check.specs.Turns.{LastRefutes}
use Rattle.cstn_check.proofs.Decides.{grown_last_refutes}
use Rattle.cstn_check.proofs.Starts.{GoesOn, bases_go_on}
use Rattle.cstn_refute.specs.Texts.{refutation_shown}
use Rattle.cstn_lines.specs.Pieces.{is_past}
use Rattle.cstn_lines.specs.EditLines.{Edit, added, removed, changed, asked, edit_read, IsEdit}
use Rattle.cstn_lines.proofs.EditLemmas.{edit_is}
use Rattle.cstn_edit.specs.declared.outcomes.Outcome.{Outcome}
use Rattle.cstn_change.specs.Changes.{EditedNetwork, Change, adds, removes, revalues, ChangeRefusal, unedited, refusal, if_accepted}
use Rattle.cstn_change.specs.ChangeLines.{accepted_text, addition, addition_between, after_change, after_edit, after_lines, network_after}
use Rattle.cstn_edit.specs.Sessions.{kept_after, new_outcome, verdict_by}
use Rattle.cstn_edit.specs.Edits.{Session, edited_of, with_change, outcome_at, kept_at, with_verdict}
use Rattle.cstn_edit.specs.Sound.{IsSoundSession, IsTrueOf}
use Rattle.cstn_edit.proofs.VerdictLemmas.{outcome_when, after_grown, after_log}
use Rattle.cstn_edit.proofs.SessionLaws.{begun_is_sound, added_is_sound, removed_is_sound, changed_is_sound, verdict_is_sound, sound_goes_on, outcome_is_true}
use Rattle.cstn_reply.specs.Sessions.{Turn, more, last, wrong, on_turn}
use Rattle.cstn_edit.specs.Editing.{Editing, begun_editing, answered_edit, answered_change, answered, edit_turn, edit_ending, verdict_text, outcome_text, last_checked}
use Rattle.cstn_reply.specs.Reached.{state_after}
use Rattle.cstn_reply.proofs.Sessions.{first_leads, says_next}
use Rattle.cstn_headline.specs.Accepted.{IsNoText, HasIds}
use Rattle.cstn_top.specs.Lines.{AreAnswered}
use Rattle.cstn_headline.proofs.ReadBack.{StepsBack}
use Rattle.cstn_headline.proofs.EditTexts.{next_small, kept_text}
use Rattle.cstn_headline.specs.EditSessions.{SaysYes, SaysNo, SaysFull, AnswersCheck, IsNoCheck, IsAtLastCheck}

-- ---- the network as edited

-- a session goes on under the same cap and names, and this is its network as edited
record Follows (e next : Editing) (now : EditedNetwork) : Type 0 where
  same_cap : next.cap ≡ e.cap
  same_names : next.names ≡ e.names
  network : edited_of next.session ≡ now

-- the session goes on so after an answer, unless the line is of no grammar
abbrev FollowsAfter : Editing → EditedNetwork → Turn Editing → Type 0
FollowsAfter e now (more text next) = Follows e next now
FollowsAfter e now (last said) = ⊥
FollowsAfter e now wrong = Unit {0}

-- a change is accepted, or refused and leads to nothing
edit_follows : (e : Editing) (why : Option ChangeRefusal) (text : List ℕ) (next : Session) → FollowsAfter e (if_accepted why (edited_of next) (edited_of e.session)) (answered_edit e why text next)
edit_follows e None text next = record { same_cap = refl; same_names = refl; network = refl }
edit_follows e (Some why) text next = record { same_cap = refl; same_names = refl; network = refl }

change_follows : (e : Editing) (r : Result Change ChangeRefusal) → FollowsAfter e (after_change (edited_of e.session) r) (answered_change e r)
change_follows e (Err why) = record { same_cap = refl; same_names = refl; network = refl }
change_follows e (Ok change) =
    edit_follows e (refusal most_constraints (edited_of e.session) change) (accepted_text e.session.next change) (with_change e.session change)

answer_follows : (e : Editing) (o : Option Edit) → FollowsAfter e (after_edit e.names (edited_of e.session) o) (answered e o)
answer_follows e None = tt
answer_follows e (Some (added from to most a)) = change_follows e (addition e.names from to most a)
answer_follows e (Some (removed id)) = change_follows e (Ok (removes id))
answer_follows e (Some (changed id most)) = change_follows e (Ok (revalues id most))
answer_follows e (Some asked) = record { same_cap = refl; same_names = refl; network = refl }

lines_follow : (e g : Editing) (k : ℕ) (lines : List (List ℕ)) → state_after edit_turn e k lines ≡ Some g → Follows e g (after_lines e.names (edited_of e.session) lines)
lines_follow e g k [] is = subst (λ x. Follows e x (edited_of e.session)) (same_Some e g is) (record { same_cap = refl; same_names = refl; network = refl })
lines_follow e g k (first ∷ lines) is =
    let l = first_leads edit_turn e g k first lines is in
    let one : Follows e l.next (after_edit e.names (edited_of e.session) (edit_read first)) = subst (FollowsAfter e (after_edit e.names (edited_of e.session) (edit_read first))) l.answer (answer_follows e (edit_read first)) in
    let rest = lines_follow l.next g (k + 1) lines l.rest in
    record {
      same_cap = rest.same_cap ∙ one.same_cap;
      same_names = rest.same_names ∙ one.same_names;
      network = rest.network ∙ ap (λ names. after_lines names (edited_of l.next.session) lines) one.same_names ∙ ap (λ now. after_lines e.names now lines) one.network;
    }

-- after any lines that are answered the network of a session is the network as edited by them
pub network_is : (cap : ℕ) (names : List (List ℕ)) (net : Network) (lines : List (List ℕ)) (e : Editing) → state_after edit_turn (begun_editing cap names net) 0 lines ≡ Some e → e.session.net ≡ network_after names net lines
network_is cap names net lines e is = ap (λ (now : EditedNetwork). now.net) (lines_follow (begun_editing cap names net) e 0 lines is).network

-- ---- the kept list and the verdict

-- the verdict by a list that was grown: its length is the load, and after no its last entry refutes
abbrev IsVerdictOf : ℕ → Network → List Entry → Verdict → Type 0
IsVerdictOf cap net list (Yes load) = (load ≡ length list) × (length list ≤ cap)
IsVerdictOf cap net list (No load) = (load ≡ length list) × (length list ≤ cap) × LastRefutes net list
IsVerdictOf cap net list Full = cap < load_of net

by_list : (cap : ℕ) (net : Network) (list : List Entry) → IsWellFormed net → GoesOn net list → length (grow net list) ≤ cap → IsVerdictOf cap net (grow net list) (verdict_by net (grow net list))
by_list cap net list good on room = elim (cases_Bool (is_refuted net (grow net list))) [
  | inl over ↦ subst (IsVerdictOf cap net (grow net list)) (sym (cond-true _ _ _ over)) (refl, room, grown_last_refutes net list good.network good.letters on over)
  | inr stands ↦ subst (IsVerdictOf cap net (grow net list)) (sym (cond-false _ _ _ stands)) (refl, room)
]

-- a new verdict is by the list that is kept after it
by_kept : (cap : ℕ) (net : Network) (list : List Entry) → IsWellFormed net → GoesOn net list → IsVerdictOf cap net (kept_after net cap list) (new_outcome net cap list).verdict
by_kept cap net list good on = elim (cases_Bool (nat_lt cap (length (grow net list)))) [
  | inr short ↦
      let room = ltb-false cap (length (grow net list)) short in
      subst (λ (o : Outcome). IsVerdictOf cap net (kept_after net cap list) o.verdict) (sym (outcome_when net cap list false (nat_lt cap (load_of net)) short refl))
      (subst (λ l. IsVerdictOf cap net l (verdict_by net l)) (sym (after_grown net cap list room)) (by_list cap net list good on room))
  | inl long ↦ elim (cases_Bool (nat_lt cap (load_of net))) [
    | inl full ↦ subst (λ (o : Outcome). IsVerdictOf cap net (kept_after net cap list) o.verdict) (sym (outcome_when net cap list true true long full)) (ltb-true cap (load_of net) full)
    | inr short ↦
        let above = ltb-true cap (length (grow net list)) long in
        let room = ltb-false cap (load_of net) short in
        subst (λ (o : Outcome). IsVerdictOf cap net (kept_after net cap list) o.verdict) (sym (outcome_when net cap list true false long short))
        (subst (λ l. IsVerdictOf cap net l (verdict_by net l)) (sym (after_log net cap list above room))
        (by_list cap net (bases (count net)) good (bases_go_on net good.network good.letters) room))
  ]
]

-- the last outcome, if there is one, is by the kept list
abbrev IsLastBy : ℕ → Session → Option Outcome → Type 0
IsLastBy cap s None = Unit {0}
IsLastBy cap s (Some o) = IsVerdictOf cap s.net s.kept o.verdict

-- and so is the outcome of a check
outcome_by : (cap : ℕ) (s : Session) → IsSoundSession s → IsLastBy cap s s.last → IsVerdictOf cap s.net (with_verdict cap s).kept (outcome_at cap s).verdict
outcome_by cap s sound is = by_last s.last is
  where
    by_last : (last : Option Outcome) → IsLastBy cap s last → IsVerdictOf cap s.net (kept_at cap s last) (outcome_at cap (record s { last = last })).verdict
    by_last None none = by_kept cap s.net s.kept sound.well_formed (sound_goes_on s sound)
    by_last (Some o) by = by

-- ---- sound sessions

-- a session is sound, each time-point has a name, and the last outcome is by the kept list
record Keeps (e : Editing) : Type 0 where
  named : length e.names ≡ count e.session.net
  sound : IsSoundSession e.session
  last_by : IsLastBy e.cap e.session e.session.last

-- the session stays so after an answer, unless the line is of no grammar
abbrev KeepsAfter : Turn Editing → Type 0
KeepsAfter (more text next) = Keeps next
KeepsAfter (last said) = ⊥
KeepsAfter wrong = Unit {0}

edit_keeps : (e : Editing) (refusal : Option ChangeRefusal) (text : List ℕ) (next : Session) → Keeps e → count next.net ≡ count e.session.net → next.last ≡ None → (refusal ≡ None → IsSoundSession next) → KeepsAfter (answered_edit e refusal text next)
edit_keeps e (Some why) text next keeps same none sound = keeps
edit_keeps e None text next keeps same none sound = record {
  named = keeps.named ∙ sym same;
  sound = sound refl;
  last_by = subst (IsLastBy e.cap next) (sym none) tt;
}

add_keeps : (e : Editing) (from to : List ℕ) (most : ℤ) (a : Label) → Keeps e → IsEdit (added from to most a) → KeepsAfter (answered_change e (addition e.names from to most a))
add_keeps e from to most a keeps fits = by_numbers (number_of e.names from) (number_of e.names to) refl refl
  where
    inside : (name : List ℕ) (x : ℕ) → number_of e.names name ≡ Some x → x < count e.session.net
    inside name x is = omega (arith, (position-Some (bytes_eq name) e.names x [] is).0, keeps.named)

    by_numbers : (one other : Option ℕ) → number_of e.names from ≡ one → number_of e.names to ≡ other → KeepsAfter (answered_change e (addition_between from to most a one other))
    by_numbers None other is also = keeps
    by_numbers (Some x) None is also = keeps
    by_numbers (Some x) (Some y) is also =
        edit_keeps e (refusal most_constraints (edited_of e.session) (adds x y most a)) (accepted_text e.session.next (adds x y most a)) (with_change e.session (adds x y most a)) keeps refl refl
        (λ free. added_is_sound most_constraints e.session x y most a (omega arith) fits.3 (inside from x is) (inside to y also) free keeps.sound)

answer_keeps : (e : Editing) (o : Option Edit) → Keeps e → ((line : Edit) → o ≡ Some line → IsEdit line) → KeepsAfter (answered e o)
answer_keeps e None keeps fits = tt
answer_keeps e (Some (added from to most a)) keeps fits = add_keeps e from to most a keeps (fits (added from to most a) refl)
answer_keeps e (Some (removed id)) keeps fits =
    edit_keeps e (refusal most_constraints (edited_of e.session) (removes id)) (accepted_text e.session.next (removes id)) (with_change e.session (removes id)) keeps refl refl
    (λ free. removed_is_sound e.session id keeps.sound)
answer_keeps e (Some (changed id most)) keeps fits =
    edit_keeps e (refusal most_constraints (edited_of e.session) (revalues id most)) (accepted_text e.session.next (revalues id most)) (with_change e.session (revalues id most)) keeps refl refl
    (λ free. changed_is_sound most_constraints e.session id most free keeps.sound)
answer_keeps e (Some asked) keeps fits = record {
  named = keeps.named;
  sound = verdict_is_sound e.cap e.session keeps.sound;
  last_by = outcome_by e.cap e.session keeps.sound keeps.last_by;
}

lines_keep : (e g : Editing) (k : ℕ) (lines : List (List ℕ)) → Keeps e → state_after edit_turn e k lines ≡ Some g → Keeps g
lines_keep e g k [] keeps is = subst Keeps (same_Some e g is) keeps
lines_keep e g k (first ∷ lines) keeps is =
    let l = first_leads edit_turn e g k first lines is in
    let one : Keeps l.next = subst KeepsAfter l.answer (answer_keeps e (edit_read first) keeps (edit_is first)) in
    lines_keep l.next g (k + 1) lines one l.rest

begun_keeps : (cap : ℕ) (names : List (List ℕ)) (net : Network) → IsWellFormed net → length names ≡ count net → Keeps (begun_editing cap names net)
begun_keeps cap names net good named = record { named = named; sound = begun_is_sound net good; last_by = tt }

-- after lines that are answered, ids below 2 ^ 31 stay below 2 ^ 32
pub stays_small : (cap : ℕ) (names : List (List ℕ)) (net : Network) (lines : List (List ℕ)) → IsWellFormed net → length names ≡ count net → All (λ (c : Constraint). c.id < 2 ^ 31) net.constraints → AreAnswered edit_turn (begun_editing cap names net) lines → HasIds (network_after names net lines)
stays_small cap names net lines good named small (e, is) =
    let follows = lines_follow (begun_editing cap names net) e 0 lines is in
    let sound = (lines_keep (begun_editing cap names net) e 0 lines (begun_keeps cap names net good named) is).sound in
    let next : e.session.next ≤ 2 ^ 32 = subst (λ h. h ≤ 2 ^ 32) (sym (ap (λ (x : EditedNetwork). x.fresh) follows.network)) (next_small names net lines small) in
    subst HasIds (network_is cap names net lines e is)
    (All-weaker (λ (c : Constraint). c.id < e.session.next) (λ (c : Constraint). c.id < 2 ^ 32) (λ c below. omega (arith, below, next)) e.session.net.constraints sound.below)

-- the network as edited is well-formed
pub stays_well_formed : (cap : ℕ) (names : List (List ℕ)) (net : Network) (lines : List (List ℕ)) → IsWellFormed net → length names ≡ count net → AreAnswered edit_turn (begun_editing cap names net) lines → IsWellFormed (network_after names net lines)
stays_well_formed cap names net lines good named (e, is) =
    subst IsWellFormed (network_is cap names net lines e is)
    (lines_keep (begun_editing cap names net) e 0 lines (begun_keeps cap names net good named) is).sound.well_formed

-- ---- what is answered to `check`

-- the text of a verdict that is true of a network
abbrev IsVerdictText : ℕ → List (List ℕ) → Network → List ℕ → Type 0
IsVerdictText cap names net text = SaysYes cap net text ⊎ (SaysNo cap names net text ⊎ SaysFull cap net text)

text_true : StepsBack → (cap : ℕ) (names : List (List ℕ)) (net : Network) (kept : List Entry) (v : Verdict) → IsWellFormed net → length names ≡ count net → GoesOn net kept → IsTrueOf net v → IsVerdictOf cap net kept v → IsVerdictText cap names net (verdict_text cap names kept v)
text_true back cap names net kept (Yes load) good named on is by = inl (record { load = load; within = omega (arith, by.0, by.1); text_is = refl; consistent = is })
text_true back cap names net kept (No load) good named on is by =
    let refutation : IsRefutation net kept = record { derivation = on.derivation; last = by.2.last; is_last = by.2.is_last; refutes = by.2.refutes } in
    inr (inl (record {
      list = kept;
      within = by.1;
      whole = refutation;
      steps = part_refutation net kept refutation;
      text_is = ap (λ n. refutation_shown names n (last_with_ancestors kept)) by.0;
      inconsistent = is;
      accepted = λ are ids capped. subst (λ n. IsNoText names net (refutation_shown names n (last_with_ancestors kept))) (sym by.0) (kept_text names net good named ids kept on.kept (omega (arith, by.1, capped)) refutation back are);
    }))
text_true back cap names net kept Full good named on is by = inr (inr (record { text_is = refl; long = by }))

-- the answer of a session to `check`, in two parts
abbrev first_of : Bool → List ℕ
first_of afresh = if afresh then codes "afresh" ++ 10 ∷ [] else []

first_is : (afresh : Bool) → (first_of afresh ≡ []) ⊎ (first_of afresh ≡ codes "afresh" ++ 10 ∷ [])
first_is true = inr refl
first_is false = inl refl

pub check_is_true : StepsBack → (cap : ℕ) (names : List (List ℕ)) (net : Network) (before : List (List ℕ)) → IsWellFormed net → length names ≡ count net → AreAnswered edit_turn (begun_editing cap names net) before → is_past (length before + 1) (codes "check") ≡ false → AnswersCheck cap names net before
check_is_true back cap names net before good named (e, is) short = record {
  first = first_of (outcome_at e.cap e.session).afresh;
  text = text e.cap e.names;
  says = says_next edit_turn edit_ending start e before (codes "check") (outcome_text e.cap e.names kept (outcome_at e.cap e.session)) (record { state = is; within = short }) refl;
  afresh = first_is (outcome_at e.cap e.session).afresh;
  verdict = subst (λ now. IsVerdictText cap names now (text e.cap e.names)) (network_is cap names net before e is)
      (subst (λ n. IsVerdictText cap n e.session.net (text e.cap e.names)) follows.same_names
      (subst (λ c. IsVerdictText c e.names e.session.net (text e.cap e.names)) follows.same_cap
      (text_true back e.cap e.names e.session.net kept (outcome_at e.cap e.session).verdict keeps.sound.well_formed keeps.named (sound_goes_on (with_verdict e.cap e.session) (verdict_is_sound e.cap e.session keeps.sound))
      (outcome_is_true e.cap e.session keeps.sound) (outcome_by e.cap e.session keeps.sound keeps.last_by))));
}
  where
    start : Editing
    start = begun_editing cap names net

    keeps : Keeps e
    keeps = lines_keep start e 0 before (begun_keeps cap names net good named) is

    follows : Follows start e (after_lines names (unedited net) before)
    follows = lines_follow start e 0 before is

    kept : List Entry
    kept = (with_verdict e.cap e.session).kept

    text : ℕ → List (List ℕ) → List ℕ
    text c ns = verdict_text c ns kept (outcome_at e.cap e.session).verdict

-- ---- the last check

after_more : (names : List (List ℕ)) (e : EditedNetwork) (done : List (List ℕ)) (first : List ℕ) → after_lines names e (done ++ first ∷ []) ≡ after_edit names (after_lines names e done) (edit_read first)
after_more names e [] first = refl
after_more names e (line ∷ done) first = after_more names (after_edit names e (edit_read line)) done first

-- what was checked last, after one line more
checked_more : (names : List (List ℕ)) (net : Network) (done : List (List ℕ)) (first : List ℕ) (now : Network) (checked : Option Network) → now ≡ network_after names net done → IsAtLastCheck names net done checked → IsAtLastCheck names net (done ++ first ∷ []) (if bytes_eq first (codes "check") then Some now else checked)
checked_more names net done first now checked same at = by_test (bytes_eq first (codes "check")) refl
  where
    other : (c : Option Network) → IsNoCheck first → IsAtLastCheck names net done c → IsAtLastCheck names net (done ++ first ∷ []) c
    other None no_check none = All-push IsNoCheck done first none no_check
    other (Some x) no_check (before, later, is, none, was) = (
      before,
      later ++ first ∷ [],
      ap (λ xs. xs ++ first ∷ []) is ∙ append_assoc before (codes "check" ∷ later) (first ∷ []),
      All-push IsNoCheck later first none no_check,
      was,
    )

    by_test : (test : Bool) → bytes_eq first (codes "check") ≡ test → IsAtLastCheck names net (done ++ first ∷ []) (if test then Some now else checked)
    by_test true is = (done, [], ap (λ text. done ++ text ∷ []) ((bytes_eq-Decides first (codes "check")).0 is), All-nil IsNoCheck, same)
    by_test false is = other checked (λ e. false≢true (sym is ∙ (bytes_eq-Decides first (codes "check")).1 e)) at

lines_checked : (names : List (List ℕ)) (net : Network) (e g : Editing) (k : ℕ) (done lines : List (List ℕ)) (checked : Option Network) → e.names ≡ names → edited_of e.session ≡ after_lines names (unedited net) done → IsAtLastCheck names net done checked → state_after edit_turn e k lines ≡ Some g → IsAtLastCheck names net (done ++ lines) (last_checked e checked lines)
lines_checked names net e g k done [] checked same now at is = subst (λ xs. IsAtLastCheck names net xs checked) (sym (append-nil done)) at
lines_checked names net e g k done (first ∷ lines) checked same now at is =
    let l = first_leads edit_turn e g k first lines is in
    let one : Follows e l.next (after_edit e.names (edited_of e.session) (edit_read first)) = subst (FollowsAfter e (after_edit e.names (edited_of e.session) (edit_read first))) l.answer (answer_follows e (edit_read first)) in
    let then_checked : Option Network = if bytes_eq first (codes "check") then Some e.session.net else checked in
    let goes : last_checked e checked (first ∷ lines) ≡ last_checked l.next then_checked lines = ap (λ (t : Turn Editing). on_turn t (λ text next. last_checked next then_checked lines) (λ said. checked) checked) l.answer in
    let now_more : edited_of l.next.session ≡ after_lines names (unedited net) (done ++ first ∷ []) =
    one.network
    ∙ ap (λ ns. after_edit ns (edited_of e.session) (edit_read first)) same
    ∙ ap (λ x. after_edit names x (edit_read first)) now
    ∙ sym (after_more names (unedited net) done first) in
    let at_more = checked_more names net done first e.session.net checked (ap (λ (x : EditedNetwork). x.net) now) at in
    let rest = lines_checked names net l.next g (k + 1) (done ++ first ∷ []) lines then_checked (one.same_names ∙ same) now_more at_more l.rest in
    subst (IsAtLastCheck names net (done ++ first ∷ lines)) (sym goes)
    (subst (λ xs. IsAtLastCheck names net xs (last_checked l.next then_checked lines)) (append_assoc done (first ∷ []) lines) rest)

-- what a session checked last is the network as edited by the lines before
pub last_is : (cap : ℕ) (names : List (List ℕ)) (net : Network) (lines : List (List ℕ)) → AreAnswered edit_turn (begun_editing cap names net) lines → IsAtLastCheck names net lines (last_checked (begun_editing cap names net) None lines)
last_is cap names net lines (e, is) = lines_checked names net (begun_editing cap names net) e 0 [] lines None refl refl (All-nil IsNoCheck) is
