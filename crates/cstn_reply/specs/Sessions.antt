-- Sessions over lines.
use Rattle.std.specs.Prelude.{◌≡◌, ℕ, ◌+◌, Bool, if◌then◌else◌, List, [], ◌∷◌, ◌++◌, codes, decimal}
use Rattle.cstn_lines.specs.Pieces.{heard_lines, is_past}
use Rattle.cstn_reply.specs.Texts.{Said, say, after_text}
use Rattle.cstn_reply.specs.declared.output.Outcome.TheVariants.{Script}
use Rattle.cstn_reply.specs.declared.session.Answer.{Answer}
use Rattle.cstn_reply.specs.declared.session.Answer.TheVariants.{More, Last, Wrong}

-- What a session answers to a line: a text and the state after it, a last text, or that the line is of no grammar.
pub data Turn (State : Type 0) : Type 0 where
  more : List ℕ → State → Turn State
  last : Said → Turn State
  wrong : Turn State

-- one of three values, by whether the answer goes on, is the last one, or refuses the line
abbrev pub on_turn : {S R : Type 0} → Turn S → (List ℕ → S → R) → (Said → R) → R → R
on_turn (more text state) going ended refused = going text state
on_turn (last said) going ended refused = ended said
on_turn wrong going ended refused = refused

-- what is said where the line of this number is of no grammar
abbrev pub script : ℕ → Said
script number = say Script (codes "script " ++ decimal number)

-- what a session says from a state on, after `count` lines: its answers to these lines, and then how it ends
abbrev pub play : {S : Type 0} → (S → List ℕ → Turn S) → (S → Said) → S → ℕ → List (List ℕ) → Said
play turn ending state count [] = ending state
play turn ending state count (first ∷ lines) =
    if is_past (count + 1) first then script (count + 1) else
    on_turn (turn state first) (λ text next. after_text text (play turn ending next (count + 1) lines)) (λ said. said) (script (count + 1))

-- the answers of a session to these lines alone, from a state on, after `count` lines
abbrev pub answers : {S : Type 0} → (S → List ℕ → Turn S) → S → ℕ → List (List ℕ) → List ℕ
answers turn state count [] = []
answers turn state count (first ∷ lines) =
    if is_past (count + 1) first then [] else
    on_turn (turn state first) (λ text next. text ++ answers turn next (count + 1) lines) (λ said. said.text) []

-- what is said by an opening and then a session from a state on, where the live source has these bytes, and by whether each line
-- has to have its LF
abbrev pub session_says : {S : Type 0} → (ends : Bool) → (S → List ℕ → Turn S) → (S → Said) → List ℕ → S → List ℕ → Said → Type 0
session_says ends turn ending opening state live said = said ≡ after_text opening (play turn ending state 0 (heard_lines ends live))

-- an answer with the state and the text that it leaves
abbrev pub the_turn : {S : Type 0} → Answer → S → List ℕ → Turn S
the_turn More state text = more text state
the_turn (Last outcome) state text = last (record { outcome = outcome; text = text })
the_turn Wrong state text = wrong
