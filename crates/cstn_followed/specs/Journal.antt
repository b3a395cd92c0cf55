-- The journal of a session that follows: the lines that were accepted.
use Rattle.std.specs.Prelude.{ℕ, ◌≡◌, ◌⊎◌, Bool, true, false, List, [], ◌∷◌}
use Rattle.std.specs.List.{All}
use Rattle.cstn_reply.specs.Sessions.{on_turn}
use Rattle.cstn_reply.specs.Texts.{full_line}
use Rattle.cstn_follow.specs.Following.{Following}
use Rattle.cstn_follow.specs.Trials.{is_refusal}
use Rattle.cstn_followed.specs.Sessions.{follow_turn}

-- what is answered to each of the lines
abbrev pub texts_of : Following → List (List ℕ) → List (List ℕ)
texts_of s [] = []
texts_of s (first ∷ lines) = on_turn (follow_turn s first) (λ text next. text ∷ texts_of next lines) (λ said. []) []

-- a line is left out where it is refused
abbrev pub kept_unless_refused : Bool → List ℕ → List (List ℕ) → List (List ℕ)
kept_unless_refused true line lines = lines
kept_unless_refused false line lines = line ∷ lines

-- those of the lines that are accepted, each in the state after the lines before it
abbrev pub accepted_of : Following → List (List ℕ) → List (List ℕ)
accepted_of s [] = []
accepted_of s (first ∷ lines) =
    on_turn (follow_turn s first) (λ text next. kept_unless_refused (is_refusal text) first (accepted_of next lines)) (λ said. []) []

-- each of the lines is accepted
abbrev pub AreAccepted : Following → List (List ℕ) → Type 0
AreAccepted s lines = All (λ text. is_refusal text ≡ false) (texts_of s lines)

-- the state with another count of lines, and with another cap
abbrev pub with_count : Following → ℕ → Following
with_count s n = record s { lines = n }

abbrev pub with_cap : Following → ℕ → Following
with_cap s cap = record s { cap = cap }

-- the states differ in the count of lines alone
abbrev pub AreSameButCount : Following → Following → Type 0
AreSameButCount s other = (n : ℕ) × (other ≡ with_count s n)

-- text by text the others are the same, but where the first says that a log has more entries than `cap`
abbrev pub AreSameUnlessFull : ℕ → List (List ℕ) → List (List ℕ) → Type 0
AreSameUnlessFull cap [] [] = Unit {0}
AreSameUnlessFull cap [] (other ∷ others) = ⊥
AreSameUnlessFull cap (text ∷ texts) [] = ⊥
AreSameUnlessFull cap (text ∷ texts) (other ∷ others) = ((other ≡ text) ⊎ (text ≡ full_line cap)) × AreSameUnlessFull cap texts others
