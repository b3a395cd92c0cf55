-- What has happened once a fact is recorded.
use Rattle.std.specs.Prelude.{ℕ, ◌≡◌, ◌≤◌, Bool, max, List, None, Some}
use Rattle.std.specs.List.{Contains}
use Rattle.cstn_text.specs.Names.{number_of}
use Rattle.cstn_history.specs.Histories.{History}
use Rattle.cstn_lines.specs.FollowLines.{Follow, done_at, came_at, now_at, awaited_at, ready_at, edits, ends_by, asks_next, asks_by, asks_blame, asks_rest}

-- the line tells what has happened, or what is expected
abbrev pub IsFact : Follow → Type 0
IsFact (done_at t names) = Unit {0}
IsFact (came_at t p value) = Unit {0}
IsFact (now_at t) = Unit {0}
IsFact (awaited_at t p) = Unit {0}
IsFact (ready_at t name) = Unit {0}
IsFact (edits edit) = ⊥
IsFact (ends_by deadline) = ⊥
IsFact asks_next = ⊥
IsFact (asks_by name) = ⊥
IsFact asks_blame = ⊥
IsFact asks_rest = ⊥

-- the time-points of these names, none of which was done, were done at t, which may be past; nothing else has happened
pub record AreDone (names : List (List ℕ)) (h : History) (t : ℕ) (given : List (List ℕ)) (later : History) : Type 0 where
  pub now : later.now ≡ max h.now t
  pub done : (name : List ℕ) → Contains given name → (x : ℕ) × (number_of names name ≡ Some x) × (h.done x ≡ None) × (later.done x ≡ Some t)
  pub others : (x : ℕ) → ((name : List ℕ) → Contains given name → number_of names name ≡ Some x → ⊥) → later.done x ≡ h.done x
  pub told : later.told ≡ h.told
  pub expected : later.expected ≡ h.expected
  pub ready : later.ready ≡ h.ready

-- the outcome of p, of which none was told, came at t, which may be past; nothing else has happened
pub record HasCome (h : History) (t p : ℕ) (value : Bool) (later : History) : Type 0 where
  pub now : later.now ≡ max h.now t
  pub none : h.told p ≡ None
  pub told : later.told p ≡ Some value
  pub others : (q : ℕ) → (q ≡ p → ⊥) → later.told q ≡ h.told q
  pub done : later.done ≡ h.done
  pub expected : later.expected ≡ h.expected
  pub ready : later.ready ≡ h.ready

-- it is t now, and was no later before; nothing else has happened
pub record HasPassed (h : History) (t : ℕ) (later : History) : Type 0 where
  pub from : h.now ≤ t
  pub now : later.now ≡ t
  pub done : later.done ≡ h.done
  pub told : later.told ≡ h.told
  pub expected : later.expected ≡ h.expected
  pub ready : later.ready ≡ h.ready

-- the outcome of p, of which none was told, is expected at t, whatever was expected before; nothing else has happened
pub record IsExpectedAt (h : History) (t p : ℕ) (later : History) : Type 0 where
  pub now : later.now ≡ h.now
  pub none : h.told p ≡ None
  pub expected : later.expected p ≡ Some t
  pub others : (q : ℕ) → (q ≡ p → ⊥) → later.expected q ≡ h.expected q
  pub done : later.done ≡ h.done
  pub told : later.told ≡ h.told
  pub ready : later.ready ≡ h.ready

-- the time-point of this name, which isn't done, can't be done before t, whatever was known of this before; nothing else has happened
pub record IsReadyFrom (names : List (List ℕ)) (h : History) (t : ℕ) (name : List ℕ) (later : History) : Type 0 where
  pub point : ℕ
  pub named : number_of names name ≡ Some point
  pub coming : h.done point ≡ None
  pub from : later.ready point ≡ t
  pub others : (x : ℕ) → (x ≡ point → ⊥) → later.ready x ≡ h.ready x
  pub now : later.now ≡ h.now
  pub done : later.done ≡ h.done
  pub told : later.told ≡ h.told
  pub expected : later.expected ≡ h.expected

-- what has happened then is what had happened before and the fact
abbrev pub IsRecorded : List (List ℕ) → History → Follow → History → Type 0
IsRecorded names h (done_at t given) later = AreDone names h t given later
IsRecorded names h (came_at t p value) later = HasCome h t p value later
IsRecorded names h (now_at t) later = HasPassed h t later
IsRecorded names h (awaited_at t p) later = IsExpectedAt h t p later
IsRecorded names h (ready_at t name) later = IsReadyFrom names h t name later
IsRecorded names h (edits edit) later = ⊥
IsRecorded names h (ends_by deadline) later = ⊥
IsRecorded names h asks_next later = ⊥
IsRecorded names h (asks_by name) later = ⊥
IsRecorded names h asks_blame later = ⊥
IsRecorded names h asks_rest later = ⊥
