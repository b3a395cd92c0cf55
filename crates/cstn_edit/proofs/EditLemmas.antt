-- What contracts see of a session after a change, by the definition of a session.
use Rattle.std.proofs.Common.{ℕ, ◌≡◌, ◌+◌, Bool, List, [], ◌∷◌, ◌++◌, map, Option, Some, None, subst, sym, ap, ◌∙◌}
use Rattle.std.specs.Prelude.{◌↔◌, Result, Ok, Err, IsErrOf}
use Rattle.std.proofs.lemmas.List.{map-append}
use Rattle.std.proofs.lemmas.Option.{none-some, same_Some}
use Rattle.cstn_label.specs.Read.{marks}
use Rattle.cstn_net.specs.declared.constraints.Constraint.{Constraint}
use Rattle.cstn_net.specs.Networks.{Network, Constraint as TheConstraint, count}
use Rattle.cstn_net.specs.Read.{NetworkParts, the_network, the_constraint}
use Rattle.cstn_rules.specs.Derivations.{Entry}
use Rattle.cstn_log.specs.Entries.{State, the_entries}
use Rattle.cstn_log.specs.Cuts.{dropped}
use Rattle.cstn_change.specs.declared.errors.EditError.{EditError}
use Rattle.cstn_change.specs.Changes.{Change, adds, ChangeRefusal, refusal}
use Rattle.cstn_edit.specs.declared.outcomes.Outcome.{Outcome}
use Rattle.cstn_edit.specs.Sessions.{EditSessionParts, kept_of, kept_list}
use Rattle.cstn_edit.specs.Edits.{Session, edited_of, with_edited, with_change, the_session}
use Rattle.cstn_edit.proofs.CutLemmas.{kept_dropped}

-- why a change is refused, by the parts of a session
pub refusal_seen : (s v : EditSessionParts) (change : Change) (o : Option ChangeRefusal) → s ≡ v → o ≡ refusal s.room (edited_of (the_session s)) change
    → o ≡ refusal v.room (edited_of (the_session v)) change
refusal_seen s v change o same is = subst (λ (w : EditSessionParts). o ≡ refusal w.room (edited_of (the_session w)) change) same is

same_error : {T : Type 0} (x y : EditError) → ◌≡◌ {A = Result T EditError} (Err x) (Err y) → x ≡ y
same_error x y e = cc

-- a call is refused for a reason exactly where this is said of the session's parts, as it is of the test that refuses
pub refused_where : {T : Type 0} (s v : EditSessionParts) (error other : EditError) (Said : EditSessionParts → Type 0) → s ≡ v →
    (Some error ≡ Some other) ↔ Said s → IsErrOf {T = T} {E = EditError} (Err error) other ↔ Said v
refused_where s v error other Said same both = (
  λ e. subst Said same (both.0 (ap Some (same_error error other e))),
  λ said. ap Err (same_Some error other (both.1 (subst Said (sym same) said))),
)

not_refused : {T : Type 0} (x : T) (error : EditError) → ◌≡◌ {A = Result T EditError} (Ok x) (Err error) → ⊥
not_refused x error e = cc

-- nor is a call that succeeds refused for it
pub taken_where : {T : Type 0} (s v : EditSessionParts) (x : T) (other : EditError) (Said : EditSessionParts → Type 0) → s ≡ v →
    ◌≡◌ {A = Option EditError} None (Some other) ↔ Said s → IsErrOf {T = T} {E = EditError} (Ok x) other ↔ Said v
taken_where s v x other Said same both = (
  λ e. absurd (not_refused x other e),
  λ said. absurd (none-some other (both.1 (subst Said (sym same) said))),
)

-- what contracts see of a session with a further constraint
one_more_seen : (old : EditSessionParts) (c : Constraint) (spare : ℕ) → c.id ≡ old.next →
    the_session (record old { net = record old.net { constraints = old.net.constraints ++ c ∷ []; spare = spare }; edits = old.edits + 1; next = old.next + 1; last = None })
    ≡ with_change (the_session old) (adds c.from.0 c.to.0 c.most (marks c.label))
one_more_seen old c spare is =
    let of : List TheConstraint → Session = λ cs. record {
      net = record (the_network old.net) { constraints = cs };
      kept = kept_of old;
      edits = old.edits + 1;
      next = old.next + 1;
      last = None;
    } in
    let more : ℕ → List TheConstraint = λ id. map the_constraint old.net.constraints
    ++ record { id = id; from = c.from.0; to = c.to.0; most = c.most; label = marks c.label } ∷ [] in
    ap of (map-append the_constraint old.net.constraints (c ∷ [])) ∙ ap (λ id. of (more id)) is

pub added_seen : (s v : EditSessionParts) (new : NetworkParts) (c : Constraint) (spare : ℕ) → s ≡ v →
    new ≡ record s.net { constraints = s.net.constraints ++ c ∷ []; spare = spare } → c.id ≡ s.next →
    the_session (record s { net = new; edits = s.edits + 1; next = s.next + 1; last = None })
    ≡ with_change (the_session v) (adds c.from.0 c.to.0 c.most (marks c.label))
added_seen s v new c spare same is id =
    let of : NetworkParts → Session = λ n. the_session (record s { net = n; edits = s.edits + 1; next = s.next + 1; last = None }) in
    subst (λ w. of new ≡ with_change (the_session w) (adds c.from.0 c.to.0 c.most (marks c.label))) same
    (ap of is ∙ one_more_seen s c spare id)

-- a session with other constraints, without the entries that one of them gave
abbrev others_of : EditSessionParts → ℕ → (List TheConstraint → List TheConstraint) → Session
others_of v id f = with_edited (record { net = record (the_network v.net) { constraints = f (the_network v.net).constraints }; fresh = v.next; edits = v.edits + 1 }) (dropped (kept_of v) id)

-- what contracts see of it
pub others_seen : (v : EditSessionParts) (old new : NetworkParts) (log left : State) (cs : List Constraint)
    (f : List TheConstraint → List TheConstraint) (room edits id spare tries next : ℕ) (last : Option Outcome)
    (fresh : List ℕ) (settled : Bool) →
    record { net = old; entries = log.entries; ids = log.ids; cap = log.cap; room = room; edits = edits; next = next; last = last; tries = tries; fresh = fresh; settled = settled } ≡ v →
    new ≡ record old { constraints = cs; spare = spare } → map the_constraint cs ≡ f (map the_constraint old.constraints) →
    left.cap ≡ log.cap → the_entries left.entries ≡ dropped (the_entries log.entries) id →
    the_session (record { net = new; entries = left.entries; ids = left.ids; cap = left.cap; room = room; edits = edits + 1; next = next; last = None; tries = tries; fresh = fresh; settled = settled })
    ≡ others_of v id f
others_seen v old new log left cs f room edits id spare tries next last fresh settled same is changed cap list =
    let left_as : Network → List Entry → Session = λ n k. record { net = n; kept = k; edits = edits + 1; next = next; last = None } in
    let kept = kept_list (the_network new) left.cap (the_entries left.entries) in
    let points : count (the_network new) ≡ count (the_network old) = ap (λ (n : NetworkParts). count (the_network n)) is in
    subst (λ (w : EditSessionParts). left_as (the_network new) kept ≡ others_of w id f) same
    (ap (λ (n : NetworkParts). left_as (the_network n) kept) is
    ∙ ap (λ l. left_as (record (the_network old) { constraints = l }) kept) changed
    ∙ ap (left_as (record (the_network old) { constraints = f (map the_constraint old.constraints) }))
    (kept_dropped (the_network old) (the_network new) log left id points cap list))
