-- The states that lines lead a session to, and what it says to the next line.
use Rattle.std.specs.Prelude.{◌≡◌, ◌≤◌, ℕ, ◌+◌, Bool, true, false, if◌then◌else◌, List, [], ◌∷◌, ◌++◌, length, Option, None, Some}
use Rattle.std.specs.Option.{option_map}
use Rattle.cstn_io.specs.Contents.{after_bytes, IsAllOf}
use Rattle.cstn_lines.specs.Pieces.{whole_lines, heard_lines, is_past}
use Rattle.cstn_lines.specs.Steps.{LinesState}
use Rattle.cstn_reply.specs.Texts.{Said, after_text}
use Rattle.cstn_reply.specs.Written.{LiveState, ReadsLeadOn}
use Rattle.cstn_reply.specs.Sessions.{Turn, on_turn, play, answers}

-- The state to which these lines lead from the given state, before which there were `count` lines. There is none where one of
-- the lines has the last answer, is of no grammar, is too long or comes too late.
abbrev pub state_after : {S : Type 0} → (S → List ℕ → Turn S) → S → ℕ → List (List ℕ) → Option S
state_after turn state count [] = Some state
state_after turn state count (first ∷ lines) =
    if is_past (count + 1) first then None else
    on_turn (turn state first) (λ text next. state_after turn next (count + 1) lines) (λ said. None) None

-- the answers of a session to these lines, where each of them leads on
abbrev pub heard : {S : Type 0} → (S → List ℕ → Turn S) → S → List (List ℕ) → Option (List ℕ)
heard turn start lines = option_map (λ reached. answers turn start 0 lines) (state_after turn start 0 lines)

-- what is said by an opening and then a session before a fault of the live source that has given these bytes, where each whole
-- line of them leads on
abbrev pub session_heard : {S : Type 0} → (S → List ℕ → Turn S) → List ℕ → S → List ℕ → Option (List ℕ)
session_heard turn opening start taken = option_map (λ said. opening ++ said) (heard turn start (whole_lines taken))

-- a session whose answers to lines are given by `heard` comes to a line of this kind: each line before it leads on
pub record ComesToLine (heard : List (List ℕ) → Option (List ℕ)) (kind : List ℕ → Bool) (lines : List (List ℕ)) : Type 0 where
  pub before : List (List ℕ)
  pub next : List ℕ
  pub later : List (List ℕ)
  pub said : List ℕ
  pub lines_are : lines ≡ before ++ next ∷ later
  pub answered : heard before ≡ Some said
  pub within : is_past (length before + 1) next ≡ false
  pub is_kind : kind next ≡ true

-- What is said by an opening and then a session over the lines of the live source, which has these bytes, before it comes to a
-- line of this kind: `heard` gives the answers to the lines before that one.
abbrev pub StopsAtLine : (ends : Bool) → (List (List ℕ) → Option (List ℕ)) → (List ℕ → Bool) → List ℕ → Option (List ℕ) → List ℕ → Type 0
StopsAtLine ends heard kind opening source said =
    (live : List ℕ) × IsAllOf source live × (comes : ComesToLine heard kind (heard_lines ends live)) × (said ≡ opening ++ comes.said)

-- what is said before an answer for which memory is refused, where only those to lines of this kind may want memory
abbrev pub session_stops : {S : Type 0} → (ends : Bool) → (S → List ℕ → Turn S) → (List ℕ → Bool) → List ℕ → S → Option (List ℕ) → List ℕ → Type 0
session_stops ends turn kind opening start source said = StopsAtLine ends (heard turn start) kind opening source said

-- How far a session has come: the bytes that it took are the lines `before`, each of which was answered and leads on, and then
-- the bytes kept. Unless the source has ended, each read took a byte or more.
pub record Progress {S : Type 0} (ends : Bool) (turn : S → List ℕ → Turn S) (start : S) (source now : LiveState) (lines : LinesState) (state : S) (taken said : List ℕ) : Type 0 where
  pub before : List (List ℕ)
  pub read : source.left ≡ after_bytes taken now.left
  pub lines_are : (rest : List ℕ) → (lines.ended ≡ true → rest ≡ []) → heard_lines ends (taken ++ rest) ≡ before ++ heard_lines ends (lines.kept ++ rest)
  pub whole_are : (rest : List ℕ) → lines.ended ≡ false → whole_lines (taken ++ rest) ≡ before ++ whole_lines (lines.kept ++ rest)
  pub counts : lines.count ≡ length before
  pub leads : state_after turn start 0 before ≡ Some state
  pub answered : said ≡ answers turn start 0 before
  pub reads : ReadsLeadOn (session_heard turn [] start) taken source.reads now.reads
  pub few : lines.ended ≡ false → now.reads ≤ source.reads + length taken

-- the state in which a session over these lines ends, where `led` gives the state after a line that has the last answer
abbrev pub ended : {S : Type 0} → (S → List ℕ → Turn S) → (S → List ℕ → S) → S → ℕ → List (List ℕ) → S
ended turn led state count [] = state
ended turn led state count (first ∷ lines) =
    if is_past (count + 1) first then state else
    on_turn (turn state first) (λ text next. ended turn led next (count + 1) lines) (λ said. led state first) state

-- the lines lead to this state, and the next line is neither too long nor too late
pub record LeadsTo {S : Type 0} (turn : S → List ℕ → Turn S) (start : S) (lines : List (List ℕ)) (next : List ℕ) (reached : S) : Type 0 where
  pub state : state_after turn start 0 lines ≡ Some reached
  pub within : is_past (length lines + 1) next ≡ false

-- after the answers to the lines before, a session says this text to a line, whatever lines come later
pub record Says {S : Type 0} (turn : S → List ℕ → Turn S) (ending : S → Said) (start : S) (before : List (List ℕ)) (next : List ℕ) (text : List ℕ) : Type 0 where
  pub whole : (later : List (List ℕ)) → (rest : Said) × (play turn ending start 0 (before ++ next ∷ later) ≡ after_text (answers turn start 0 before ++ text) rest)
  pub before_fault : (later : List (List ℕ)) (said : List ℕ) → heard turn start (before ++ next ∷ later) ≡ Some said → (rest : List ℕ) × (said ≡ (answers turn start 0 before ++ text) ++ rest)
