-- What lines tell that has happened, in whichever order.
use Rattle.std.specs.Prelude.{ℕ, ◌≡◌, ◌↔◌, ◌⊎◌, Bool, max, List, [], ◌∷◌, Option, None, Some}
use Rattle.std.specs.List.{All, Contains}
use Rattle.cstn_text.specs.Names.{number_of}
use Rattle.cstn_history.specs.Histories.{History}
use Rattle.cstn_lines.specs.FollowLines.{Follow, follow_read, done_at, came_at, now_at, awaited_at, ready_at, edits, ends_by, asks_next, asks_by, asks_blame, asks_rest}

-- the line tells that x was done at t
abbrev pub TellsDone : List (List ℕ) → ℕ → ℕ → Option Follow → Type 0
TellsDone names x t (Some (done_at u given)) = (u ≡ t) × ((name : List ℕ) × Contains given name × (number_of names name ≡ Some x))
TellsDone names x t (Some (came_at u p value)) = ⊥
TellsDone names x t (Some (now_at u)) = ⊥
TellsDone names x t (Some (awaited_at u p)) = ⊥
TellsDone names x t (Some (ready_at u name)) = ⊥
TellsDone names x t (Some (edits edit)) = ⊥
TellsDone names x t (Some (ends_by deadline)) = ⊥
TellsDone names x t (Some asks_next) = ⊥
TellsDone names x t (Some (asks_by name)) = ⊥
TellsDone names x t (Some asks_blame) = ⊥
TellsDone names x t (Some asks_rest) = ⊥
TellsDone names x t None = ⊥

-- the line tells that the outcome of p is v
abbrev pub TellsOutcome : ℕ → Bool → Option Follow → Type 0
TellsOutcome p v (Some (came_at u q value)) = (q ≡ p) × (value ≡ v)
TellsOutcome p v (Some (done_at u given)) = ⊥
TellsOutcome p v (Some (now_at u)) = ⊥
TellsOutcome p v (Some (awaited_at u q)) = ⊥
TellsOutcome p v (Some (ready_at u name)) = ⊥
TellsOutcome p v (Some (edits edit)) = ⊥
TellsOutcome p v (Some (ends_by deadline)) = ⊥
TellsOutcome p v (Some asks_next) = ⊥
TellsOutcome p v (Some (asks_by name)) = ⊥
TellsOutcome p v (Some asks_blame) = ⊥
TellsOutcome p v (Some asks_rest) = ⊥
TellsOutcome p v None = ⊥

-- the line tells what has happened: what was done, what came out, or what time it is
abbrev pub TellsPast : Option Follow → Type 0
TellsPast (Some (done_at t given)) = Unit {0}
TellsPast (Some (came_at t p value)) = Unit {0}
TellsPast (Some (now_at t)) = Unit {0}
TellsPast (Some (awaited_at t p)) = ⊥
TellsPast (Some (ready_at t name)) = ⊥
TellsPast (Some (edits edit)) = ⊥
TellsPast (Some (ends_by deadline)) = ⊥
TellsPast (Some asks_next) = ⊥
TellsPast (Some (asks_by name)) = ⊥
TellsPast (Some asks_blame) = ⊥
TellsPast (Some asks_rest) = ⊥
TellsPast None = ⊥

-- the moment that the line tells, or 0
abbrev pub moment_told : Option Follow → ℕ
moment_told (Some (done_at t given)) = t
moment_told (Some (came_at t p value)) = t
moment_told (Some (now_at t)) = t
moment_told (Some (awaited_at t p)) = 0
moment_told (Some (ready_at t name)) = 0
moment_told (Some (edits edit)) = 0
moment_told (Some (ends_by deadline)) = 0
moment_told (Some asks_next) = 0
moment_told (Some (asks_by name)) = 0
moment_told (Some asks_blame) = 0
moment_told (Some asks_rest) = 0
moment_told None = 0

-- the latest moment that the lines tell
abbrev pub latest_told : List (List ℕ) → ℕ
latest_told [] = 0
latest_told (first ∷ lines) = max (moment_told (follow_read first)) (latest_told lines)

-- some of the lines tells it
abbrev pub SomeTells : (Option Follow → Type 0) → List (List ℕ) → Type 0
SomeTells tells [] = ⊥
SomeTells tells (first ∷ lines) = tells (follow_read first) ⊎ SomeTells tells lines

-- each of the lines tells what has happened
abbrev pub AllTellPast : List (List ℕ) → Type 0
AllTellPast lines = All (λ line. TellsPast (follow_read line)) lines

-- what has happened later is what had happened before and what the lines tell
pub record IsHistoryOf (names : List (List ℕ)) (h : History) (lines : List (List ℕ)) (later : History) : Type 0 where
  pub now : later.now ≡ max h.now (latest_told lines)
  pub done : (x t : ℕ) → (later.done x ≡ Some t) ↔ ((h.done x ≡ Some t) ⊎ SomeTells (TellsDone names x t) lines)
  pub told : (p : ℕ) (v : Bool) → (later.told p ≡ Some v) ↔ ((h.told p ≡ Some v) ⊎ SomeTells (TellsOutcome p v) lines)
  pub expected : later.expected ≡ h.expected
  pub ready : later.ready ≡ h.ready

-- the lines tell the same: that the same was done, each at the same moment, that the same came out, and the same latest moment
pub record TellTheSame (names : List (List ℕ)) (lines others : List (List ℕ)) : Type 0 where
  pub done : (x t : ℕ) → SomeTells (TellsDone names x t) lines ↔ SomeTells (TellsDone names x t) others
  pub outcomes : (p : ℕ) (v : Bool) → SomeTells (TellsOutcome p v) lines ↔ SomeTells (TellsOutcome p v) others
  pub latest : latest_told lines ≡ latest_told others
