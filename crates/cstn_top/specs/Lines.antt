-- What is told of the lines of a session.
use Rattle.std.specs.Prelude.{◌≡◌, ◌⊎◌, ◌+◌, ℕ, true, List, ◌∷◌, ◌++◌, length, Some, codes, decimal}
use Rattle.cstn_lines.specs.Pieces.{is_past}
use Rattle.cstn_reply.specs.Texts.{line}
use Rattle.cstn_reply.specs.Sessions.{Turn, answers}
use Rattle.cstn_reply.specs.Reached.{state_after}

-- each of the lines is answered, and none of the answers is the last
abbrev pub AreAnswered : {S : Type 0} → (S → List ℕ → Turn S) → S → List (List ℕ) → Type 0
AreAnswered {S} turn start lines = (reached : S) × (state_after turn start 0 lines ≡ Some reached)

-- one of the lines is the first without an answer: it is too long, comes too late, or is of no grammar. Its number is told.
pub record StopsUnread {S : Type 0} (turn : S → List ℕ → Turn S) (start : S) (IsUnread : List ℕ → Type 0) (lines : List (List ℕ)) (text : List ℕ) : Type 0 where
  pub before : List (List ℕ)
  pub next : List ℕ
  pub later : List (List ℕ)
  pub lines_are : lines ≡ before ++ next ∷ later
  pub answered : AreAnswered turn start before
  pub cause : (is_past (length before + 1) next ≡ true) ⊎ IsUnread next
  pub text_is : text ≡ answers turn start 0 before ++ line (codes "script " ++ decimal (length before + 1))
