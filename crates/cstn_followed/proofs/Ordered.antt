-- What lines tell makes one history, in whichever order they tell it.
use Rattle.std.proofs.Common.{ℕ, zero, suc, ◌≡◌, ◌+◌, Bool, false, max, List, [], ◌∷◌, Option, Some, None, arith, refl, sym, subst, ap, ◌∙◌, inl, inr}
use Rattle.std.specs.Prelude.{◌⊎◌, ◌↔◌}
use Rattle.std.specs.List.{All, Contains}
use Rattle.std.proofs.Math.Path.{fun_ext}
use Rattle.std.proofs.lemmas.Bool.{cases_eq, false≢true}
use Rattle.std.proofs.lemmas.List.Elements.{All-head, All-tail}
use Rattle.std.proofs.lemmas.Option.{same_Some}
use Rattle.cstn_text.specs.Names.{number_of}
use Rattle.cstn_history.specs.Histories.{History}
use Rattle.cstn_lines.specs.FollowLines.{Follow, follow_read, done_at, came_at, now_at, awaited_at, ready_at, edits, ends_by, asks_next, asks_by, asks_blame, asks_rest}
use Rattle.cstn_reply.specs.Sessions.{more}
use Rattle.cstn_reply.specs.Reached.{state_after}
use Rattle.cstn_reply.proofs.Sessions.{first_leads}
use Rattle.cstn_save.specs.Canonical.{canonical}
use Rattle.cstn_follow.specs.Following.{Following}
use Rattle.cstn_follow.specs.Recorded.{IsFact, AreDone, HasCome, HasPassed, IsRecorded}
use Rattle.cstn_follow.proofs.States.{IsSound, next_sound}
use Rattle.cstn_follow.proofs.Points.{turn_keeps}
use Rattle.cstn_followed.specs.Sessions.{follow_turn}
use Rattle.cstn_followed.specs.Answers.{Accepts}
use Rattle.cstn_followed.specs.Plans.{IsRefusedBy}
use Rattle.cstn_followed.specs.Journal.{texts_of, AreAccepted}
use Rattle.cstn_follow.specs.Trials.{is_refusal}
use Rattle.cstn_followed.specs.Order.{TellsDone, TellsOutcome, TellsPast, moment_told, AllTellPast, IsHistoryOf, TellTheSame}
use Rattle.cstn_followed.proofs.Journals.{texts_more}
use Rattle.cstn_followed.proofs.Verdicts.{fact_accepted}

-- ---- one line

-- what has happened then is what had happened before and what this line tells
abbrev IsLineOf : List (List ℕ) → History → Option Follow → History → Type 0
IsLineOf names h o later =
    (later.now ≡ max h.now (moment_told o))
    × ((x t : ℕ) → (later.done x ≡ Some t) ↔ ((h.done x ≡ Some t) ⊎ TellsDone names x t o))
    × ((p : ℕ) (v : Bool) → (later.told p ≡ Some v) ↔ ((h.told p ≡ Some v) ⊎ TellsOutcome p v o))
    × (later.expected ≡ h.expected)
    × (later.ready ≡ h.ready)

-- x is the number of one of these names, or of none
abbrev IsGiven : List (List ℕ) → List (List ℕ) → ℕ → Type 0
IsGiven names given x = (name : List ℕ) × Contains given name × (number_of names name ≡ Some x)

given_or_not : (names given : List (List ℕ)) (x : ℕ) → IsGiven names given x ⊎ (IsGiven names given x → ⊥)
given_or_not names [] x = inr (λ is. let inside = is.1.1 in absurd (omega arith))
given_or_not names (first ∷ given) x = by_first (number_of names first) refl (given_or_not names given x)
  where
    later : IsGiven names given x → IsGiven names (first ∷ given) x
    later is = let inside = is.1.1 in (is.0, (suc is.1.0, omega arith, is.1.2), is.2)

    neither : (number_of names first ≡ Some x → ⊥) → (IsGiven names given x → ⊥) → IsGiven names (first ∷ given) x → ⊥
    neither other none (name, (zero, inside, at), is) = other (subst (λ n. number_of names n ≡ Some x) (sym at) is)
    neither other none (name, (suc k, inside, at), is) = none (name, (k, omega arith, at), is)

    by_first : (o : Option ℕ) → number_of names first ≡ o → IsGiven names given x ⊎ (IsGiven names given x → ⊥)
        → IsGiven names (first ∷ given) x ⊎ (IsGiven names (first ∷ given) x → ⊥)
    by_first o at (inl is) = inl (later is)
    by_first None at (inr none) = inr (neither (λ is. (let f : ◌≡◌ {A = Option ℕ} None (Some x) = sym at ∙ is in absurd (cc))) none)
    by_first (Some y) at (inr none) = elim (cases_eq y x) [
      | inl same ↦ inl (first, (0, omega arith, refl), at ∙ ap (λ (n : ℕ). Some n) same)
      | inr other ↦ inr (neither (λ is. other (let f : ◌≡◌ {A = Option ℕ} (Some y) (Some x) = sym at ∙ is in cc)) none)
    ]

module _ (names : List (List ℕ)) (h later : History) where
  unchanged : {X : Type 0} (f g : ℕ → Option X) → g ≡ f → (x : ℕ) (v : X) → (g x ≡ Some v) ↔ ((f x ≡ Some v) ⊎ ⊥)
  unchanged f g same x v = (
    λ is. inl (ap (λ k. k x) (sym same) ∙ is),
    λ either. elim either [ inl is ↦ ap (λ k. k x) same ∙ is | inr never ↦ absurd never ],
  )

  done_line : (t : ℕ) (given : List (List ℕ)) → AreDone names h t given later → IsLineOf names h (Some (done_at t given)) later
  done_line t given is = (is.now, (λ x u. (done_then x u, done_back x u)), (λ p v. unchanged h.told later.told is.told p v), is.expected, is.ready)
    where
      done_then : (x u : ℕ) → later.done x ≡ Some u → (h.done x ≡ Some u) ⊎ TellsDone names x u (Some (done_at t given))
      done_then x u at = elim (given_or_not names given x) [
        | inl g ↦
            let d = is.done g.0 g.1 in
            let same : d.0 ≡ x = (let f : ◌≡◌ {A = Option ℕ} (Some d.0) (Some x) = sym d.1 ∙ g.2 in cc) in
            let there : later.done x ≡ Some t = subst (λ y. later.done y ≡ Some t) same d.3 in
            inr ((let f : ◌≡◌ {A = Option ℕ} (Some t) (Some u) = sym there ∙ at in cc), g)
        | inr none ↦ inl (sym (is.others x (λ name has number. none (name, has, number))) ∙ at)
      ]

      done_back : (x u : ℕ) → (h.done x ≡ Some u) ⊎ TellsDone names x u (Some (done_at t given)) → later.done x ≡ Some u
      done_back x u (inl before) = is.others x (λ name has number.
          let d = is.done name has in
          let same : d.0 ≡ x = (let f : ◌≡◌ {A = Option ℕ} (Some d.0) (Some x) = sym d.1 ∙ number in cc) in
          let none : h.done x ≡ None = subst (λ y. h.done y ≡ None) same d.2 in
          let f : ◌≡◌ {A = Option ℕ} None (Some u) = sym none ∙ before in
          absurd (cc)) ∙ before
      done_back x u (inr g) =
          let d = is.done g.1.0 g.1.1 in
          let same : d.0 ≡ x = (let f : ◌≡◌ {A = Option ℕ} (Some d.0) (Some x) = sym d.1 ∙ g.1.2 in cc) in
          subst (λ y. later.done y ≡ Some t) same d.3 ∙ ap (λ (n : ℕ). Some n) g.0

  came_line : (t p : ℕ) (value : Bool) → HasCome h t p value later → IsLineOf names h (Some (came_at t p value)) later
  came_line t p value is = (is.now, (λ x u. unchanged h.done later.done is.done x u), (λ q v. (told_then q v, told_back q v)), is.expected, is.ready)
    where
      told_then : (q : ℕ) (v : Bool) → later.told q ≡ Some v → (h.told q ≡ Some v) ⊎ TellsOutcome q v (Some (came_at t p value))
      told_then q v at = elim (cases_eq q p) [
        | inl same ↦
            let there : later.told q ≡ Some value = subst (λ r. later.told r ≡ Some value) (sym same) is.told in
            inr (sym same, (let f : ◌≡◌ {A = Option Bool} (Some value) (Some v) = sym there ∙ at in cc))
        | inr other ↦ inl (sym (is.others q other) ∙ at)
      ]

      told_back : (q : ℕ) (v : Bool) → (h.told q ≡ Some v) ⊎ TellsOutcome q v (Some (came_at t p value)) → later.told q ≡ Some v
      told_back q v (inl before) = is.others q (λ same.
          let none : h.told q ≡ None = subst (λ r. h.told r ≡ None) (sym same) is.none in
          let f : ◌≡◌ {A = Option Bool} None (Some v) = sym none ∙ before in
          absurd (cc)) ∙ before
      told_back q v (inr tells) = subst (λ r. later.told r ≡ Some value) tells.0 is.told ∙ ap (λ (w : Bool). Some w) tells.1

  passed_line : (t : ℕ) → HasPassed h t later → IsLineOf names h (Some (now_at t)) later
  passed_line t is = (
    (let from = is.from in let now = is.now in omega arith),
    (λ x u. unchanged h.done later.done is.done x u),
    (λ p v. unchanged h.told later.told is.told p v),
    is.expected,
    is.ready,
  )

  fact_line : (fact : Follow) → TellsPast (Some fact) → IsRecorded names h fact later → IsLineOf names h (Some fact) later
  fact_line (done_at t given) tells is = done_line t given is
  fact_line (came_at t p value) tells is = came_line t p value is
  fact_line (now_at t) tells is = passed_line t is
  fact_line (awaited_at t p) tells is = absurd tells
  fact_line (ready_at t name) tells is = absurd tells
  fact_line (edits edit) tells is = absurd tells
  fact_line (ends_by deadline) tells is = absurd tells
  fact_line asks_next tells is = absurd tells
  fact_line (asks_by name) tells is = absurd tells
  fact_line asks_blame tells is = absurd tells
  fact_line asks_rest tells is = absurd tells

past_is_fact : (fact : Follow) → TellsPast (Some fact) → IsFact fact
past_is_fact (done_at t given) tells = tt
past_is_fact (came_at t p value) tells = tt
past_is_fact (now_at t) tells = tt
past_is_fact (awaited_at t p) tells = absurd tells
past_is_fact (ready_at t name) tells = absurd tells
past_is_fact (edits edit) tells = absurd tells
past_is_fact (ends_by deadline) tells = absurd tells
past_is_fact asks_next tells = absurd tells
past_is_fact (asks_by name) tells = absurd tells
past_is_fact asks_blame tells = absurd tells
past_is_fact asks_rest tells = absurd tells

-- what was done and told stays so
pub record Advances (h later : History) : Type 0 where
  pub done : (x t : ℕ) → h.done x ≡ Some t → later.done x ≡ Some t
  pub told : (p : ℕ) (v : Bool) → h.told p ≡ Some v → later.told p ≡ Some v

-- a line that is accepted
accepted_line : (s next : Following) (bytes text : List ℕ) → IsSound s → (o : Option Follow) → follow_read bytes ≡ o → TellsPast o
    → follow_turn s bytes ≡ more text next → is_refusal text ≡ false → (next.network ≡ s.network) × IsLineOf s.names s.history o next.history
accepted_line s next bytes text sound None reads tells answered fine = absurd tells
accepted_line s next bytes text sound (Some fact) reads tells answered fine =
    by_answer (fact_accepted s next bytes text fact sound reads (past_is_fact fact tells) answered)
  where
    by_answer : IsRefusedBy s text next ⊎ Accepts s fact text next → (next.network ≡ s.network) × IsLineOf s.names s.history (Some fact) next.history
    by_answer (inl refused) = absurd (false≢true (sym fine ∙ ap is_refusal refused.1.1))
    by_answer (inr accepts) =
        subst (λ (g : Following). (g.network ≡ s.network) × IsLineOf s.names s.history (Some fact) g.history) (sym accepts.next_is)
        (refl, fact_line s.names s.history accepts.later fact tells accepts.recorded)

pub advanced : (s next : Following) (bytes text : List ℕ) → IsSound s → (o : Option Follow) → follow_read bytes ≡ o → TellsPast o
    → follow_turn s bytes ≡ more text next → is_refusal text ≡ false → (next.network ≡ s.network) × Advances s.history next.history
advanced s next bytes text sound o reads tells answered fine =
    let one = accepted_line s next bytes text sound o reads tells answered fine in
    (one.0, record { done = λ x t is. (one.1.1 x t).1 (inl is); told = λ p v is. (one.1.2 p v).1 (inl is) })

-- ---- line after line

module _ (names : List (List ℕ)) where
  nothing_told : (h : History) → IsHistoryOf names h [] h
  nothing_told h = record {
    now = omega arith;
    done = λ x t. ((λ is. inl is), (λ either. elim either [ inl is ↦ is | inr never ↦ absurd never ]));
    told = λ p v. ((λ is. inl is), (λ either. elim either [ inl is ↦ is | inr never ↦ absurd never ]));
    expected = refl;
    ready = refl;
  }

  -- what a first line and then others tell
  through : {A B C D E : Type 0} → (A ↔ (B ⊎ C)) → (D ↔ (A ⊎ E)) → (D ↔ (B ⊎ (C ⊎ E)))
  through {A} {B} {C} {D} {E} first rest = (λ d. onward (rest.0 d), back)
    where
      onward : A ⊎ E → B ⊎ (C ⊎ E)
      onward (inl a) = elim (first.0 a) [ inl b ↦ inl b | inr c ↦ inr (inl c) ]
      onward (inr e) = inr (inr e)

      back : B ⊎ (C ⊎ E) → D
      back (inl b) = rest.1 (inl (first.1 (inl b)))
      back (inr (inl c)) = rest.1 (inl (first.1 (inr c)))
      back (inr (inr e)) = rest.1 (inr e)

  and_more : (h next later : History) (first : List ℕ) (lines : List (List ℕ)) → IsLineOf names h (follow_read first) next → IsHistoryOf names next lines later
      → IsHistoryOf names h (first ∷ lines) later
  and_more h next later first lines one rest = record {
    now = (let a = one.0 in let b = rest.now in omega arith);
    done = λ x t. through (one.1 x t) (rest.done x t);
    told = λ p v. through (one.2 p v) (rest.told p v);
    expected = rest.expected ∙ one.3;
    ready = rest.ready ∙ one.4;
  }

-- a line that tells what has happened keeps the names
past_names : (s next : Following) (bytes text : List ℕ) → IsSound s → (o : Option Follow) → follow_read bytes ≡ o → TellsPast o
    → follow_turn s bytes ≡ more text next → next.names ≡ s.names
past_names s next bytes text sound None reads tells answered = absurd tells
past_names s next bytes text sound (Some line) reads tells answered = (turn_keeps canonical s next bytes text line sound reads answered).names

pub lines_tell : (s g : Following) (k : ℕ) (lines : List (List ℕ)) → IsSound s → AllTellPast lines → AreAccepted s lines
    → state_after follow_turn s k lines ≡ Some g → IsHistoryOf s.names s.history lines g.history
lines_tell s g k [] sound tell accepted is =
    subst (λ (x : Following). IsHistoryOf s.names s.history [] x.history) (same_Some s g is) (nothing_told s.names s.history)
lines_tell s g k (first ∷ lines) sound tell accepted is =
    let l = first_leads follow_turn s g k first lines is in
    let fine = subst (All (λ text. is_refusal text ≡ false)) (texts_more s l.next first l.text lines l.answer) accepted in
    let one = accepted_line s l.next first l.text sound (follow_read first) refl (All-head (λ line. TellsPast (follow_read line)) first lines tell) l.answer
    (All-head (λ text. is_refusal text ≡ false) l.text (texts_of l.next lines) fine) in
    let rest = lines_tell l.next g (k + 1) lines (next_sound canonical s l.next first l.text sound l.answer)
    (All-tail (λ line. TellsPast (follow_read line)) first lines tell) (All-tail (λ text. is_refusal text ≡ false) l.text (texts_of l.next lines) fine) l.rest in
    and_more s.names s.history l.next.history g.history first lines one.1
    (subst (λ ns. IsHistoryOf ns l.next.history lines g.history) (past_names s l.next first l.text sound (follow_read first) refl (All-head (λ line. TellsPast (follow_read line)) first lines tell) l.answer) rest)

-- ---- in whichever order

-- options with the same value are the same
same_option : {X : Type 0} (a b : Option X) → ((v : X) → a ≡ Some v → b ≡ Some v) → ((v : X) → b ≡ Some v → a ≡ Some v) → a ≡ b
same_option None None to from = refl
same_option None (Some v) to from = from v refl
same_option (Some v) b to from = sym (to v refl)

either_same : {A B C : Type 0} → (B ↔ C) → A ⊎ B → A ⊎ C
either_same same (inl a) = inl a
either_same same (inr b) = inr (same.0 b)

turned : {A B : Type 0} → (A ↔ B) → (B ↔ A)
turned both = (both.1, both.0)

module _ (names : List (List ℕ)) (h one two : History) (lines others : List (List ℕ)) (a : IsHistoryOf names h lines one)
    (b : IsHistoryOf names h others two) (same : TellTheSame names lines others) where
  same_done : one.done ≡ two.done
  same_done = fun_ext (λ x. same_option (one.done x) (two.done x)
      (λ t is. (b.done x t).1 (either_same (same.done x t) ((a.done x t).0 is)))
      (λ t is. (a.done x t).1 (either_same (turned (same.done x t)) ((b.done x t).0 is))))

  same_told : one.told ≡ two.told
  same_told = fun_ext (λ p. same_option (one.told p) (two.told p)
      (λ v is. (b.told p v).1 (either_same (same.outcomes p v) ((a.told p v).0 is)))
      (λ v is. (a.told p v).1 (either_same (turned (same.outcomes p v)) ((b.told p v).0 is))))

  same_now : one.now ≡ two.now
  same_now = a.now ∙ ap (max h.now) same.latest ∙ sym b.now

  abbrev made : ℕ → (ℕ → Option ℕ) → (ℕ → Option Bool) → (ℕ → Option ℕ) → (ℕ → ℕ) → History
  made now done told expected ready = record { now = now; done = done; told = told; expected = expected; ready = ready }

  pub same_histories : one ≡ two
  same_histories =
      ap (λ n. made n one.done one.told one.expected one.ready) same_now ∙ ap (λ f. made two.now f one.told one.expected one.ready) same_done
      ∙ ap (λ f. made two.now two.done f one.expected one.ready) same_told
      ∙ ap (λ f. made two.now two.done two.told f one.ready) (a.expected ∙ sym b.expected)
      ∙ ap (made two.now two.done two.told two.expected) (a.ready ∙ sym b.ready)

pub one_history : (s one two : Following) (lines others : List (List ℕ)) → IsSound s → AllTellPast lines → AllTellPast others
    → AreAccepted s lines → AreAccepted s others → TellTheSame s.names lines others → state_after follow_turn s 0 lines ≡ Some one
    → state_after follow_turn s 0 others ≡ Some two → one.history ≡ two.history
one_history s one two lines others sound tell also accepted fine same leads to =
    same_histories s.names s.history one.history two.history lines others (lines_tell s one 0 lines sound tell accepted leads)
    (lines_tell s two 0 others sound also fine to) same
