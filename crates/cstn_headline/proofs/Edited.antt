-- What the outcome of an edit session tells.
use Rattle.std.proofs.Common.{◌≡◌, ℕ, ◌+◌, ◌<◌, ◌≤◌, Bool, true, false, List, [], ◌∷◌, length, refl, ap, sym, ◌∙◌, subst, arith}
use Rattle.std.specs.Prelude.{ℤ, if◌then◌else◌, bytes_eq, Option, None, Some, IfSome, IsSomeAnd, codes}
use Rattle.std.specs.Option.{option_map, option_and_then, unwrap_or}
use Rattle.std.proofs.lemmas.Option.{none-some, same_Some}
use Rattle.std.proofs.lemmas.List.Quantifiers.{position-Some}
use Rattle.cstn_label.specs.declared.marks.Mark.TheVariants.{Absent}
use Rattle.cstn_label.specs.Labels.{Label}
use Rattle.cstn_net.specs.Limits.{most_constraints}
use Rattle.cstn_net.specs.Networks.{Network, IsWellFormed, count}
use Rattle.cstn_net.specs.Strategies.{IsConsistent}
use Rattle.cstn_text.specs.Names.{number_of}
use Rattle.cstn_text.specs.Numbers.{value_read}
use Rattle.cstn_text.specs.PrintedNames.{name_read}
use Rattle.cstn_text.specs.PrintedLabels.{label_read}
use Rattle.cstn_text.proofs.LabelReadLemmas.{label_small}
use Rattle.cstn_check.specs.Growth.{load_of}
use Rattle.cstn_check.specs.declared.verdicts.Verdict.{Verdict}
use Rattle.cstn_check.specs.declared.verdicts.Verdict.TheVariants.{Yes, No, Full as IsFullVerdict}
use Rattle.cstn_lines.specs.Pieces.{is_past}
use Rattle.cstn_lines.specs.LiveLines.{cut_at_space}
use Rattle.cstn_lines.specs.EditLines.{Edit, added, removed, changed, asked, id_read, change_read, ends_read, limit_read, add_read, edited_read}
use Rattle.cstn_edit.specs.declared.outcomes.Outcome.{Outcome as Answered}
use Rattle.cstn_change.specs.Changes.{adds, removes, revalues, ChangeRefusal, refusal}
use Rattle.cstn_change.specs.ChangeLines.{accepted_text, addition, addition_between}
use Rattle.cstn_edit.specs.Sessions.{new_outcome}
use Rattle.cstn_edit.specs.Edits.{Session, edited_of, with_change, outcome_at, with_verdict}
use Rattle.cstn_edit.specs.Sound.{IsSoundSession}
use Rattle.cstn_edit.proofs.SessionLaws.{begun_is_sound, added_is_sound, removed_is_sound, changed_is_sound, verdict_is_sound, yes_is_true, no_is_true, full_is_exact}
use Rattle.cstn_reply.specs.Texts.{after_text}
use Rattle.cstn_reply.specs.Sessions.{Turn, more, last, wrong, on_turn, script, play}
use Rattle.cstn_edit.specs.Editing.{Editing, begun_editing, answered_edit, answered_change, answered_check, answered, edit_turn, edit_ending, ending_by, last_checked}
use Rattle.cstn_reply.specs.declared.output.Outcome.{Outcome}
use Rattle.cstn_reply.specs.declared.output.Outcome.TheVariants.{Good, Bad, Words, Document, Full, Unfinished, Script, Wide}

-- an edit other than a check, whose label marks letters alone
abbrev IsOther : Edit → Type 0
IsOther (added from to most label) = (p : ℕ) → 52 ≤ p → label p ≡ Absent
IsOther (removed id) = Unit {0}
IsOther (changed id most) = Unit {0}
IsOther asked = ⊥

if_then : {A B : Type 0} (P : B → Type 0) (f : A → Option B) (o : Option A) → ((x : A) → o ≡ Some x → IfSome (f x) P) → IfSome (option_and_then f o) P
if_then P f None each = tt
if_then P f (Some x) each = each x refl

if_mapped : {A B : Type 0} (P : B → Type 0) (f : A → B) (o : Option A) → ((x : A) → P (f x)) → IfSome (option_map f o) P
if_mapped P f None each = tt
if_mapped P f (Some x) each = each x

ends_other : (from to : List ℕ) (most : ℤ) (a : Label) → ((p : ℕ) → 52 ≤ p → a p ≡ Absent) → IfSome (ends_read from to most a) IsOther
ends_other from to most a small = if_then IsOther (λ f. option_map (λ t. added f t most a) (name_read to)) (name_read from) (λ f is. if_mapped IsOther (λ t. added f t most a) (name_read to) (λ t. small))

limit_other : (from to : List ℕ) (parts : List ℕ × List ℕ) → IfSome (limit_read from to parts) IsOther
limit_other from to parts =
    if_then IsOther (λ most. option_and_then (ends_read from to most) (label_read parts.1)) (value_read parts.0)
    (λ most is. if_then IsOther (ends_read from to most) (label_read parts.1) (λ a read. ends_other from to most a (label_small parts.1 a read)))

add_other : (text : List ℕ) → IfSome (add_read text) IsOther
add_other text =
    if_then IsOther (λ (one : List ℕ × List ℕ). option_and_then (λ (two : List ℕ × List ℕ). option_and_then (limit_read one.0 two.0) (cut_at_space two.1)) (cut_at_space one.1)) (cut_at_space text)
    (λ one is. if_then IsOther (λ (two : List ℕ × List ℕ). option_and_then (limit_read one.0 two.0) (cut_at_space two.1)) (cut_at_space one.1)
    (λ two also. if_then IsOther (limit_read one.0 two.0) (cut_at_space two.1) (λ parts cut. limit_other one.0 two.0 parts)))

change_other : (text : List ℕ) → IfSome (change_read text) IsOther
change_other text =
    if_then IsOther (λ (parts : List ℕ × List ℕ). option_and_then (λ id. option_map (changed id) (value_read parts.1)) (id_read parts.0)) (cut_at_space text)
    (λ parts cut. if_then IsOther (λ id. option_map (changed id) (value_read parts.1)) (id_read parts.0) (λ id is. if_mapped IsOther (changed id) (value_read parts.1) (λ most. tt)))

-- a line of a word and what follows it is never read as a check
read_other : (parts : List ℕ × List ℕ) → IfSome (edited_read parts) IsOther
read_other parts = by_word (bytes_eq parts.0 (codes "add")) (bytes_eq parts.0 (codes "remove")) (bytes_eq parts.0 (codes "change"))
  where
    by_word : (add remove change : Bool) → IfSome (if add then add_read parts.1 else if remove then option_map removed (id_read parts.1) else if change then change_read parts.1 else None) IsOther
    by_word true remove change = add_other parts.1
    by_word false true change = if_mapped IsOther removed (id_read parts.1) (λ id. tt)
    by_word false false true = change_other parts.1
    by_word false false false = tt

-- the verdict of the last check is true of the network that was checked
abbrev IsTrueVerdict : ℕ → Option Network → Option Verdict → Type 0
IsTrueVerdict cap checked None = checked ≡ None
IsTrueVerdict cap checked (Some (Yes load)) = IsSomeAnd checked IsConsistent
IsTrueVerdict cap checked (Some (No load)) = IsSomeAnd checked (λ net. IsConsistent net → ⊥)
IsTrueVerdict cap checked (Some IsFullVerdict) = IsSomeAnd checked (λ net. cap < load_of net)

-- where the last outcome is full, the log of the network has more than `cap` entries
abbrev IsFullTrue : ℕ → Session → Type 0
IsFullTrue cap s = (o : Answered) → s.last ≡ Some o → o.verdict ≡ IsFullVerdict → cap < load_of s.net

full_is_true : (cap : ℕ) (s : Session) → IsFullTrue cap s → (outcome_at cap s).verdict ≡ IsFullVerdict → cap < load_of s.net
full_is_true cap s full is = by_last s.last refl
  where
    by_last : (last : Option Answered) → s.last ≡ last → cap < load_of s.net
    by_last None none = ((full_is_exact cap s none).0 is).1
    by_last (Some o) some = full o some (sym (ap (λ (l : Option Answered). (unwrap_or l (new_outcome s.net cap s.kept)).verdict) some) ∙ is)

-- a session that is sound, under the names of its time-points, and the verdict of the last check is true
record Holds (cap : ℕ) (e : Editing) (checked : Option Network) : Type 0 where
  same_cap : e.cap ≡ cap
  named : length e.names ≡ count e.session.net
  sound : IsSoundSession e.session
  full : IsFullTrue cap e.session
  true_verdict : IsTrueVerdict cap checked e.verdict

-- the session stays so after an answer, unless the line is of no grammar
abbrev HoldsAfter : ℕ → Option Network → Turn Editing → Type 0
HoldsAfter cap checked (more text next) = Holds cap next checked
HoldsAfter cap checked (last said) = ⊥
HoldsAfter cap checked wrong = Unit {0}

edit_holds : (cap : ℕ) (e : Editing) (checked : Option Network) (refusal : Option ChangeRefusal) (text : List ℕ) (next : Session) → Holds cap e checked → count next.net ≡ count e.session.net → next.last ≡ None → (refusal ≡ None → IsSoundSession next) → HoldsAfter cap checked (answered_edit e refusal text next)
edit_holds cap e checked (Some refusal) text next holds same fresh sound = holds
edit_holds cap e checked None text next holds same fresh sound = record {
  same_cap = holds.same_cap;
  named = holds.named ∙ sym same;
  sound = sound refl;
  full = λ o some is. absurd (none-some o (sym fresh ∙ some));
  true_verdict = holds.true_verdict;
}

add_holds : (cap : ℕ) (e : Editing) (checked : Option Network) (from to : List ℕ) (most : ℤ) (a : Label) → Holds cap e checked → ((p : ℕ) → 52 ≤ p → a p ≡ Absent) → HoldsAfter cap checked (answered_change e (addition e.names from to most a))
add_holds cap e checked from to most a holds small = by_numbers (number_of e.names from) (number_of e.names to) refl refl
  where
    inside : (name : List ℕ) (x : ℕ) → number_of e.names name ≡ Some x → x < count e.session.net
    inside name x is = omega (arith, (position-Some (bytes_eq name) e.names x [] is).0, holds.named)

    by_numbers : (one other : Option ℕ) → number_of e.names from ≡ one → number_of e.names to ≡ other → HoldsAfter cap checked (answered_change e (addition_between from to most a one other))
    by_numbers None other is also = holds
    by_numbers (Some x) None is also = holds
    by_numbers (Some x) (Some y) is also =
        edit_holds cap e checked (refusal most_constraints (edited_of e.session) (adds x y most a)) (accepted_text e.session.next (adds x y most a)) (with_change e.session (adds x y most a)) holds refl refl
        (λ free. added_is_sound most_constraints e.session x y most a (omega arith) small (inside from x is) (inside to y also) free holds.sound)

other_holds : (cap : ℕ) (e : Editing) (checked : Option Network) (o : Option Edit) → Holds cap e checked → IfSome o IsOther → HoldsAfter cap checked (answered e o)
other_holds cap e checked None holds other = tt
other_holds cap e checked (Some (added from to most a)) holds other = add_holds cap e checked from to most a holds other
other_holds cap e checked (Some (removed id)) holds other =
    edit_holds cap e checked (refusal most_constraints (edited_of e.session) (removes id)) (accepted_text e.session.next (removes id)) (with_change e.session (removes id)) holds refl refl
    (λ free. removed_is_sound e.session id holds.sound)
other_holds cap e checked (Some (changed id most)) holds other =
    edit_holds cap e checked (refusal most_constraints (edited_of e.session) (revalues id most)) (accepted_text e.session.next (revalues id most)) (with_change e.session (revalues id most)) holds refl refl
    (λ free. changed_is_sound most_constraints e.session id most free holds.sound)
other_holds cap e checked (Some asked) holds other = absurd other

check_holds : (cap : ℕ) (e : Editing) (checked : Option Network) → Holds cap e checked → HoldsAfter cap (Some e.session.net) (answered_check e (outcome_at e.cap e.session) (with_verdict e.cap e.session))
check_holds cap e checked holds =
    subst (λ c. HoldsAfter cap (Some e.session.net) (answered_check e (outcome_at c e.session) (with_verdict c e.session))) (sym holds.same_cap) (record {
      same_cap = holds.same_cap;
      named = holds.named;
      sound = verdict_is_sound cap e.session holds.sound;
      full = λ o some is. full_is_true cap e.session holds.full (ap (λ (x : Answered). x.verdict) (same_Some (outcome_at cap e.session) o some) ∙ is);
      true_verdict = by_verdict (outcome_at cap e.session).verdict refl;
    })
  where
    by_verdict : (v : Verdict) → (outcome_at cap e.session).verdict ≡ v → IsTrueVerdict cap (Some e.session.net) (Some v)
    by_verdict (Yes load) is = yes_is_true cap load e.session holds.sound is
    by_verdict (No load) is = no_is_true cap load e.session holds.sound is
    by_verdict IsFullVerdict is = full_is_true cap e.session holds.full is

-- the network that was checked last after a line
abbrev checked_after : Editing → List ℕ → Option Network → Option Network
checked_after e text checked = if bytes_eq text (codes "check") then Some e.session.net else checked

turn_holds : (cap : ℕ) (e : Editing) (checked : Option Network) (text : List ℕ) → Holds cap e checked → HoldsAfter cap (checked_after e text checked) (edit_turn e text)
turn_holds cap e checked text holds = by_word (bytes_eq text (codes "check"))
  where
    by_word : (check : Bool) → HoldsAfter cap (if check then Some e.session.net else checked) (answered e (if check then Some asked else option_and_then edited_read (cut_at_space text)))
    by_word true = check_holds cap e checked holds
    by_word false = other_holds cap e checked (option_and_then edited_read (cut_at_space text)) holds (if_then IsOther edited_read (cut_at_space text) (λ parts cut. read_other parts))

-- what the outcome of edit lines tells of the network at their last check
abbrev pub LinesTell : ℕ → Option Network → Outcome → Type 0
LinesTell cap checked Good = IfSome checked IsConsistent
LinesTell cap checked Bad = IsSomeAnd checked (λ net. IsConsistent net → ⊥)
LinesTell cap checked Full = IsSomeAnd checked (λ net. cap < load_of net)
LinesTell cap checked Words = ⊥
LinesTell cap checked Document = ⊥
LinesTell cap checked Unfinished = ⊥
LinesTell cap checked Script = Unit {0}
LinesTell cap checked Wide = ⊥

ending_tells : (cap : ℕ) (checked : Option Network) (v : Option Verdict) → IsTrueVerdict cap checked v → LinesTell cap checked (ending_by v)
ending_tells cap checked None is = subst (λ (o : Option Network). IfSome o IsConsistent) (sym is) tt
ending_tells cap checked (Some (Yes load)) is = some_if checked is
  where
    some_if : (o : Option Network) → IsSomeAnd o IsConsistent → IfSome o IsConsistent
    some_if None h = tt
    some_if (Some net) h = h
ending_tells cap checked (Some (No load)) is = is
ending_tells cap checked (Some IsFullVerdict) is = is

lines_tell : (cap : ℕ) (e : Editing) (checked : Option Network) (k : ℕ) (lines : List (List ℕ)) → Holds cap e checked → LinesTell cap (last_checked e checked lines) (play edit_turn edit_ending e k lines).outcome
lines_tell cap e checked k [] holds = ending_tells cap checked e.verdict holds.true_verdict
lines_tell cap e checked k (first ∷ lines) holds = by_past (λ next held. lines_tell cap next (checked_after e first checked) (k + 1) lines held) (is_past (k + 1) first)
  where
    by_turn : (now : Option Network) → ((next : Editing) → Holds cap next now → LinesTell cap (last_checked next now lines) (play edit_turn edit_ending next (k + 1) lines).outcome) → (t : Turn Editing) → HoldsAfter cap now t → LinesTell cap (on_turn t (λ text next. last_checked next now lines) (λ said. checked) checked) (on_turn t (λ text next. after_text text (play edit_turn edit_ending next (k + 1) lines)) (λ said. said) (script (k + 1))).outcome
    by_turn now rest (more text next) held = rest next held
    by_turn now rest (last said) held = absurd held
    by_turn now rest wrong held = tt

    by_past : ((next : Editing) → Holds cap next (checked_after e first checked) → LinesTell cap (last_checked next (checked_after e first checked) lines) (play edit_turn edit_ending next (k + 1) lines).outcome) → (past : Bool) → LinesTell cap (last_checked e checked (first ∷ lines)) (if past then script (k + 1) else on_turn (edit_turn e first) (λ text next. after_text text (play edit_turn edit_ending next (k + 1) lines)) (λ said. said) (script (k + 1))).outcome
    by_past rest true = tt
    by_past rest false = by_turn (checked_after e first checked) rest (edit_turn e first) (turn_holds cap e checked first holds)

-- of an edit session from its beginning
pub edits_tell : (cap : ℕ) (names : List (List ℕ)) (net : Network) (lines : List (List ℕ)) → IsWellFormed net → length names ≡ count net →
    LinesTell cap (last_checked (begun_editing cap names net) None lines) (play edit_turn edit_ending (begun_editing cap names net) 0 lines).outcome
edits_tell cap names net lines good named =
    lines_tell cap (begun_editing cap names net) None 0 lines
    (record { same_cap = refl; named = named; sound = begun_is_sound net good; full = λ o some is. absurd (none-some o some); true_verdict = refl })
