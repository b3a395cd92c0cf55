-- A session over the images of another one's states says what that one says.
use Rattle.std.proofs.Common.{◌≡◌, ℕ, ◌+◌, List, [], ◌∷◌, ◌++◌, refl, ap, ◌∙◌, Bool, true, false}
use Rattle.std.specs.Prelude.{if◌then◌else◌, Option, None, Some}
use Rattle.std.specs.Option.{option_map}
use Rattle.cstn_lines.specs.Pieces.{is_past}
use Rattle.cstn_reply.specs.Texts.{Said, after_text}
use Rattle.cstn_reply.specs.Sessions.{Turn, more, last, wrong, on_turn, script, play, answers}
use Rattle.cstn_reply.specs.Reached.{state_after, heard}
use Rattle.cstn_exec.specs.Running.{turn_with}

-- `Holds` is kept by the turns from states of which it holds, and their images are the turns from the images
module _ {S R : Type 0} (turn : S → List ℕ → Turn S) (other : R → List ℕ → Turn R) (image : S → R) (Holds : S → Type 0)
    (stays : (s : S) (first text : List ℕ) (next : S) → Holds s → turn s first ≡ more text next → Holds next)
    (each : (s : S) (first : List ℕ) → Holds s → other (image s) first ≡ turn_with image (turn s first)) where
  -- what follows a line is the same, where it is so of the states after it
  step : {A : Type 0} (put : List ℕ → A → A) (end : Said → A) (stop : A) (after : S → A) (others : R → A) (s : S) (first : List ℕ) (past : Bool) → Holds s
      → ((next : S) → Holds next → others (image next) ≡ after next)
      → (if past then stop else on_turn (other (image s) first) (λ text next. put text (others next)) end stop)
      ≡ (if past then stop else on_turn (turn s first) (λ text next. put text (after next)) end stop)
  step put end stop after others s first true holds same = refl
  step {A} put end stop after others s first false holds same =
      ap (λ (t : Turn R). on_turn t (λ text next. put text (others next)) end stop) (each s first holds) ∙ by_turn (turn s first) refl
    where
      by_turn : (t : Turn S) → turn s first ≡ t → on_turn (turn_with image t) (λ text next. put text (others next)) end stop ≡ on_turn t (λ text next. put text (after next)) end stop
      by_turn (more text next) is = ap (put text) (same next (stays s first text next holds is))
      by_turn (last said) is = refl
      by_turn wrong is = refl

  pub same_play : (ending : S → Said) (ends : R → Said) → ((s : S) → ends (image s) ≡ ending s) → (s : S) (count : ℕ) (lines : List (List ℕ)) → Holds s
      → play other ends (image s) count lines ≡ play turn ending s count lines
  same_play ending ends end s count [] holds = end s
  same_play ending ends end s count (first ∷ lines) holds =
      step after_text (λ said. said) (script (count + 1)) (λ next. play turn ending next (count + 1) lines) (λ next. play other ends next (count + 1) lines)
      s first (is_past (count + 1) first) holds (λ next after. same_play ending ends end next (count + 1) lines after)

  same_answers : (s : S) (count : ℕ) (lines : List (List ℕ)) → Holds s → answers other (image s) count lines ≡ answers turn s count lines
  same_answers s count [] holds = refl
  same_answers s count (first ∷ lines) holds =
      step (λ text later. text ++ later) (λ said. said.text) [] (λ next. answers turn next (count + 1) lines) (λ next. answers other next (count + 1) lines)
      s first (is_past (count + 1) first) holds (λ next after. same_answers next (count + 1) lines after)

  -- the lines lead on to the image
  same_state : (s : S) (count : ℕ) (lines : List (List ℕ)) → Holds s → state_after other (image s) count lines ≡ option_map image (state_after turn s count lines)
  same_state s count [] holds = refl
  same_state s count (first ∷ lines) holds =
      step (λ text later. later) (λ said. None) None (λ next. option_map image (state_after turn next (count + 1) lines)) (λ next. state_after other next (count + 1) lines)
      s first (is_past (count + 1) first) holds (λ next after. same_state next (count + 1) lines after)
      ∙ mapped (is_past (count + 1) first) (turn s first)
    where
      mapped : (past : Bool) (t : Turn S) → (if past then None else on_turn t (λ text next. option_map image (state_after turn next (count + 1) lines)) (λ said. None) None)
          ≡ option_map image (if past then None else on_turn t (λ text next. state_after turn next (count + 1) lines) (λ said. None) None)
      mapped true t = refl
      mapped false (more text next) = refl
      mapped false (last said) = refl
      mapped false wrong = refl

  pub same_heard : (s : S) (lines : List (List ℕ)) → Holds s → heard other (image s) lines ≡ heard turn s lines
  same_heard s lines holds =
      ap (option_map (λ r. answers other (image s) 0 lines)) (same_state s 0 lines holds)
      ∙ by_state (state_after turn s 0 lines)
      ∙ ap (λ (xs : List ℕ). option_map (λ r. xs) (state_after turn s 0 lines)) (same_answers s 0 lines holds)
    where
      by_state : (o : Option S) → option_map (λ r. answers other (image s) 0 lines) (option_map image o) ≡ option_map (λ r. answers other (image s) 0 lines) o
      by_state None = refl
      by_state (Some next) = refl
