-- What was written for a session over lines.
use Rattle.std.specs.Prelude.{◌≡◌, ◌++◌, Bool, List, ℕ, Option, Some}
use Rattle.cstn_io.specs.Contents.{IsAllOf}
use Rattle.cstn_lines.specs.Pieces.{heard_lines}
use Rattle.cstn_reply.specs.Texts.{Said}
use Rattle.cstn_reply.specs.Sessions.{Turn, play}
use Rattle.cstn_reply.specs.Reached.{state_after}

-- The text is an opening, and then what a session says to the lines of the live source, which has these bytes where it tells. This
-- holds of these lines.
pub record Wrote {S : Type 0} (ends : Bool) (turn : S → List ℕ → Turn S) (ending : S → Said) (opening : List ℕ) (start : S) (source : Option (List ℕ)) (text : List ℕ) (OfLines : List (List ℕ) → Type 0) : Type 0 where
  pub live : List ℕ
  pub all : IsAllOf source live
  pub text_is : text ≡ opening ++ (play turn ending start 0 (heard_lines ends live)).text
  pub of_lines : OfLines (heard_lines ends live)

-- the lines are answered, none of the answers is the last, and they lead to a state of which this holds
abbrev pub EndsIn : {S : Type 0} → (S → List ℕ → Turn S) → S → (S → Type 0) → List (List ℕ) → Type 0
EndsIn {S} turn start holds lines = (reached : S) × (state_after turn start 0 lines ≡ Some reached) × holds reached
