-- How a session over lines ends.
use Rattle.std.proofs.Common.{◌≡◌, ℕ, ◌+◌, Bool, true, false, List, [], ◌∷◌, ◌++◌, length, refl, ap, sym, ◌∙◌, subst, inl, inr, append_assoc}
use Rattle.std.specs.Prelude.{◌⊎◌, Some}
use Rattle.cstn_lines.specs.Pieces.{is_past}
use Rattle.cstn_reply.specs.Texts.{Said, after_text}
use Rattle.cstn_reply.specs.Sessions.{Turn, more, last, wrong, script, play, answers}
use Rattle.cstn_reply.specs.declared.output.Outcome.{Outcome}
use Rattle.cstn_reply.specs.declared.output.Outcome.TheVariants.{Script}
use Rattle.cstn_reply.proofs.Sessions.{after_both}
use Rattle.cstn_reply.specs.Reached.{state_after}
use Rattle.cstn_reply.proofs.Sessions.{play_more, answers_more, state_more, play_last, play_wrong, play_past, plus_none, zero_plus, one_more}
use Rattle.cstn_top.specs.Lines.{StopsUnread}

-- what is known of an answer: where it is the last, of its outcome, and where there is none, of its cause
abbrev pub TurnIs : {S : Type 0} → Type 0 → (Outcome → Type 0) → Turn S → Type 0
TurnIs Unread Ends (more text state) = Unit {0}
TurnIs Unread Ends (last said) = Ends said.outcome
TurnIs Unread Ends wrong = Unread

-- one of these lines, which follow the state s and n lines, stops the session
pub record StopsFrom {S : Type 0} (turn : S → List ℕ → Turn S) (s : S) (n : ℕ) (IsUnread : List ℕ → Type 0) (lines : List (List ℕ)) (text : List ℕ) : Type 0 where
  pub before : List (List ℕ)
  pub next : List ℕ
  pub later : List (List ℕ)
  pub lines_are : lines ≡ before ++ next ∷ later
  pub reached : S
  pub answered : state_after turn s n before ≡ Some reached
  pub cause : (is_past ((n + length before) + 1) next ≡ true) ⊎ IsUnread next
  pub text_is : text ≡ answers turn s n before ++ (script ((n + length before) + 1)).text

pub stops_at : {S : Type 0} (turn : S → List ℕ → Turn S) (s : S) (IsUnread : List ℕ → Type 0) (lines : List (List ℕ)) (text : List ℕ) → StopsFrom turn s 0 IsUnread lines text → StopsUnread turn s IsUnread lines text
stops_at turn s IsUnread lines text r = record {
  before = r.before;
  next = r.next;
  later = r.later;
  lines_are = r.lines_are;
  answered = (r.reached, r.answered);
  cause = subst (λ (k : ℕ). (is_past (k + 1) r.next ≡ true) ⊎ IsUnread r.next) (zero_plus (length r.before)) r.cause;
  text_is = r.text_is ∙ ap (λ (k : ℕ). answers turn s 0 r.before ++ (script (k + 1)).text) (zero_plus (length r.before));
}

-- All lines are answered and the session says how it ends, or an answer is the last, or a line stops it.
pub data Played {S : Type 0} (turn : S → List ℕ → Turn S) (ending : S → Said) (IsUnread : List ℕ → Type 0) (Ends : Outcome → Type 0) (s : S) (n : ℕ) (lines : List (List ℕ)) (said : Said) : Type 0 where
  all_answered : (reached : S) → state_after turn s n lines ≡ Some reached → said ≡ after_text (answers turn s n lines) (ending reached) → Played turn ending IsUnread Ends s n lines said
  one_last : Ends said.outcome → Played turn ending IsUnread Ends s n lines said
  one_stops : said.outcome ≡ Script → StopsFrom turn s n IsUnread lines said.text → Played turn ending IsUnread Ends s n lines said

module _ {S : Type 0} (turn : S → List ℕ → Turn S) (ending : S → Said) (IsUnread : List ℕ → Type 0) (Ends : Outcome → Type 0) where
  -- a line that comes too late or is too long
  past_stops : (s : S) (n : ℕ) (first : List ℕ) (lines : List (List ℕ)) → is_past (n + 1) first ≡ true → Played turn ending IsUnread Ends s n (first ∷ lines) (play turn ending s n (first ∷ lines))
  past_stops s n first lines past =
      let played = play_past turn s n first lines past ending in
      one_stops (ap (λ (x : Said). x.outcome) played) (record {
        before = [];
        next = first;
        later = lines;
        lines_are = refl;
        reached = s;
        answered = refl;
        cause = inl (subst (λ (k : ℕ). is_past (k + 1) first ≡ true) (plus_none n) past);
        text_is = ap (λ (x : Said). x.text) played ∙ ap (λ (k : ℕ). (script (k + 1)).text) (plus_none n);
      })

  -- a line of no grammar
  wrong_stops : (s : S) (n : ℕ) (first : List ℕ) (lines : List (List ℕ)) → is_past (n + 1) first ≡ false → turn s first ≡ wrong → IsUnread first → Played turn ending IsUnread Ends s n (first ∷ lines) (play turn ending s n (first ∷ lines))
  wrong_stops s n first lines short is unread =
      let played = play_wrong turn s n first lines short ending is in
      one_stops (ap (λ (x : Said). x.outcome) played) (record {
        before = [];
        next = first;
        later = lines;
        lines_are = refl;
        reached = s;
        answered = refl;
        cause = inr unread;
        text_is = ap (λ (x : Said). x.text) played ∙ ap (λ (k : ℕ). (script (k + 1)).text) (plus_none n);
      })

  -- a line that is answered, and the lines after it
  goes_on : (s : S) (n : ℕ) (first : List ℕ) (lines : List (List ℕ)) (text : List ℕ) (next : S) → is_past (n + 1) first ≡ false → turn s first ≡ more text next →
      Played turn ending IsUnread Ends next (n + 1) lines (play turn ending next (n + 1) lines) → Played turn ending IsUnread Ends s n (first ∷ lines) (play turn ending s n (first ∷ lines))
  goes_on s n first lines text next short is (all_answered reached state same) =
      all_answered reached (state_more turn s n first lines short text next is ∙ state)
      (play_more turn s n first lines short ending text next is
      ∙ ap (after_text text) same
      ∙ after_both text (answers turn next (n + 1) lines) (ending reached)
      ∙ ap (λ (xs : List ℕ). after_text xs (ending reached)) (sym (answers_more turn s n first lines short text next is)))
  goes_on s n first lines text next short is (one_last ends) = one_last (subst Ends (sym (ap (λ (x : Said). x.outcome) (play_more turn s n first lines short ending text next is))) ends)
  goes_on s n first lines text next short is (one_stops at r) =
      let played = play_more turn s n first lines short ending text next is in
      one_stops (ap (λ (x : Said). x.outcome) played ∙ at) (record {
        before = first ∷ r.before;
        next = r.next;
        later = r.later;
        lines_are = ap (λ (ls : List (List ℕ)). first ∷ ls) r.lines_are;
        reached = r.reached;
        answered = state_more turn s n first r.before short text next is ∙ r.answered;
        cause = subst (λ (k : ℕ). (is_past (k + 1) r.next ≡ true) ⊎ IsUnread r.next) (one_more n (length r.before)) r.cause;
        text_is = ap (λ (x : Said). x.text) played ∙ ap (λ (xs : List ℕ). text ++ xs) r.text_is
            ∙ sym (append_assoc text (answers turn next (n + 1) r.before) (script (((n + 1) + length r.before) + 1)).text)
            ∙ ap (λ (k : ℕ). (text ++ answers turn next (n + 1) r.before) ++ (script (k + 1)).text) (one_more n (length r.before))
            ∙ ap (λ (xs : List ℕ). xs ++ (script ((n + length (first ∷ r.before)) + 1)).text) (sym (answers_more turn s n first r.before short text next is));
      })

  pub played : ((s : S) (text : List ℕ) → TurnIs (IsUnread text) Ends (turn s text)) → (s : S) (n : ℕ) (lines : List (List ℕ)) → Played turn ending IsUnread Ends s n lines (play turn ending s n lines)
  played each s n [] = all_answered s refl refl
  played each s n (first ∷ lines) = by_past (λ next. played each next (n + 1) lines) (is_past (n + 1) first) refl
    where
      by_turn : ((next : S) → Played turn ending IsUnread Ends next (n + 1) lines (play turn ending next (n + 1) lines)) → is_past (n + 1) first ≡ false → (t : Turn S) → turn s first ≡ t → TurnIs (IsUnread first) Ends t → Played turn ending IsUnread Ends s n (first ∷ lines) (play turn ending s n (first ∷ lines))
      by_turn rest short (more text next) is known = goes_on s n first lines text next short is (rest next)
      by_turn rest short (last said) is known = one_last (subst Ends (sym (ap (λ (x : Said). x.outcome) (play_last turn s n first lines short ending said is))) known)
      by_turn rest short wrong is known = wrong_stops s n first lines short is known

      by_past : ((next : S) → Played turn ending IsUnread Ends next (n + 1) lines (play turn ending next (n + 1) lines)) → (past : Bool) → is_past (n + 1) first ≡ past → Played turn ending IsUnread Ends s n (first ∷ lines) (play turn ending s n (first ∷ lines))
      by_past rest true at = past_stops s n first lines at
      by_past rest false at = by_turn rest at (turn s first) refl (each s first)
