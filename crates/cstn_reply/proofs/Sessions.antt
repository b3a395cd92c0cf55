-- What a session says to lines, and then to further lines.
use Rattle.std.proofs.Common.{◌≡◌, ℕ, ◌+◌, List, [], ◌∷◌, ◌++◌, suc, length, refl, ap, sym, ◌∙◌, subst, arith, append_assoc, Bool, true, false}
use Rattle.std.specs.Prelude.{Option, Some, None}
use Rattle.std.specs.Option.{option_map}
use Rattle.std.proofs.lemmas.Option.{same_Some}
use Rattle.cstn_lines.specs.Pieces.{is_past}
use Rattle.cstn_reply.specs.Texts.{Said, after_text}
use Rattle.cstn_reply.specs.Sessions.{Turn, more, last, wrong, script, play, answers}
use Rattle.cstn_reply.specs.Reached.{state_after, heard, ended, LeadsTo, Says}

-- two texts before what is said
pub after_both : (xs ys : List ℕ) (said : Said) → after_text xs (after_text ys said) ≡ after_text (xs ++ ys) said
after_both xs ys said = rw append_assoc refl

-- an option isn't both none and some state
pub no_state : {S : Type 0} (o : Option S) (s : S) → o ≡ None → o ≡ Some s → ⊥
no_state o s none some = let f : ⊥ = cc in f

module _ {S : Type 0} (turn : S → List ℕ → Turn S) (s : S) (count : ℕ) (first : List ℕ) (lines : List (List ℕ)) (short : is_past (count + 1) first ≡ false) where
  -- a line that is answered
  pub play_more : (ending : S → Said) (text : List ℕ) (next : S) → turn s first ≡ more text next → play turn ending s count (first ∷ lines) ≡ after_text text (play turn ending next (count + 1) lines)
  play_more ending text next is = rw (short, is) refl

  pub answers_more : (text : List ℕ) (next : S) → turn s first ≡ more text next → answers turn s count (first ∷ lines) ≡ text ++ answers turn next (count + 1) lines
  answers_more text next is = rw (short, is) refl

  pub state_more : (text : List ℕ) (next : S) → turn s first ≡ more text next → state_after turn s count (first ∷ lines) ≡ state_after turn next (count + 1) lines
  state_more text next is = rw (short, is) refl

  -- the last line
  pub play_last : (ending : S → Said) (said : Said) → turn s first ≡ last said → play turn ending s count (first ∷ lines) ≡ said
  play_last ending said is = rw (short, is) refl

  pub answers_last : (said : Said) → turn s first ≡ last said → answers turn s count (first ∷ lines) ≡ said.text
  answers_last said is = rw (short, is) refl

  pub state_last : (said : Said) → turn s first ≡ last said → state_after turn s count (first ∷ lines) ≡ None
  state_last said is = rw (short, is) refl

  pub ended_more : (led : S → List ℕ → S) (text : List ℕ) (next : S) → turn s first ≡ more text next → ended turn led s count (first ∷ lines) ≡ ended turn led next (count + 1) lines
  ended_more led text next is = rw (short, is) refl

  pub ended_last : (led : S → List ℕ → S) (said : Said) → turn s first ≡ last said → ended turn led s count (first ∷ lines) ≡ led s first
  ended_last led said is = rw (short, is) refl

  pub ended_wrong : (led : S → List ℕ → S) → turn s first ≡ wrong → ended turn led s count (first ∷ lines) ≡ s
  ended_wrong led is = rw (short, is) refl

  -- a line of no grammar
  pub play_wrong : (ending : S → Said) → turn s first ≡ wrong → play turn ending s count (first ∷ lines) ≡ script (count + 1)
  play_wrong ending is = rw (short, is) refl

  pub state_wrong : turn s first ≡ wrong → state_after turn s count (first ∷ lines) ≡ None
  state_wrong is = rw (short, is) refl

module _ {S : Type 0} (turn : S → List ℕ → Turn S) (s : S) (count : ℕ) (first : List ℕ) (lines : List (List ℕ)) (past : is_past (count + 1) first ≡ true) where
  -- a line that is too long or comes too late
  pub play_past : (ending : S → Said) → play turn ending s count (first ∷ lines) ≡ script (count + 1)
  play_past ending = rw past refl

  pub state_past : state_after turn s count (first ∷ lines) ≡ None
  state_past = rw past refl

  pub ended_past : (led : S → List ℕ → S) → ended turn led s count (first ∷ lines) ≡ s
  ended_past led = rw past refl

-- how the first of some lines is answered, where they lead to a state
pub record FirstLeads {S : Type 0} (turn : S → List ℕ → Turn S) (s g : S) (count : ℕ) (first : List ℕ) (lines : List (List ℕ)) : Type 0 where
  pub text : List ℕ
  pub next : S
  pub short : is_past (count + 1) first ≡ false
  pub answer : turn s first ≡ more text next
  pub rest : state_after turn next (count + 1) lines ≡ Some g

pub first_leads : {S : Type 0} (turn : S → List ℕ → Turn S) (s g : S) (count : ℕ) (first : List ℕ) (lines : List (List ℕ)) → state_after turn s count (first ∷ lines) ≡ Some g → FirstLeads turn s g count first lines
first_leads {S} turn s g count first lines is = by_past (is_past (count + 1) first) refl
  where
    by_turn : (t : Turn S) → turn s first ≡ t → is_past (count + 1) first ≡ false → FirstLeads turn s g count first lines
    by_turn (more text next) at short = record {
      text = text;
      next = next;
      short = short;
      answer = at;
      rest = sym (state_more turn s count first lines short text next at) ∙ is;
    }
    by_turn (last said) at short = absurd (no_state (state_after turn s count (first ∷ lines)) g (state_last turn s count first lines short said at) is)
    by_turn wrong at short = absurd (no_state (state_after turn s count (first ∷ lines)) g (state_wrong turn s count first lines short at) is)

    by_past : (past : Bool) → is_past (count + 1) first ≡ past → FirstLeads turn s g count first lines
    by_past true at = absurd (no_state (state_after turn s count (first ∷ lines)) g (state_past turn s count first lines at) is)
    by_past false at = by_turn (turn s first) refl at

pub plus_none : (n : ℕ) → n ≡ n + 0
plus_none n = omega arith

pub zero_plus : (n : ℕ) → 0 + n ≡ n
zero_plus n = omega arith

pub one_more : (n k : ℕ) → (n + 1) + k ≡ n + suc k
one_more n k = omega arith

-- the state after further lines
pub state_split : {S : Type 0} (turn : S → List ℕ → Turn S) (s g : S) (count : ℕ) (lines later : List (List ℕ)) → state_after turn s count lines ≡ Some g → state_after turn s count (lines ++ later) ≡ state_after turn g (count + length lines) later
state_split turn s g count [] later is =
    ap (λ n. state_after turn s n later) (plus_none count) ∙ ap (λ x. state_after turn x (count + 0) later) (same_Some s g is)
state_split turn s g count (first ∷ lines) later is =
    let l = first_leads turn s g count first lines is in
    state_more turn s count first (lines ++ later) l.short l.text l.next l.answer
    ∙ state_split turn l.next g (count + 1) lines later l.rest
    ∙ ap (λ n. state_after turn g n later) (one_more count (length lines))

pub play_split : {S : Type 0} (turn : S → List ℕ → Turn S) (ending : S → Said) (s g : S) (count : ℕ) (lines later : List (List ℕ)) → state_after turn s count lines ≡ Some g → play turn ending s count (lines ++ later) ≡ after_text (answers turn s count lines) (play turn ending g (count + length lines) later)
play_split turn ending s g count [] later is =
    ap (λ n. play turn ending s n later) (plus_none count) ∙ ap (λ x. play turn ending x (count + 0) later) (same_Some s g is)
play_split turn ending s g count (first ∷ lines) later is =
    let l = first_leads turn s g count first lines is in
    play_more turn s count first (lines ++ later) l.short ending l.text l.next l.answer
    ∙ ap (after_text l.text) (play_split turn ending l.next g (count + 1) lines later l.rest)
    ∙ after_both l.text (answers turn l.next (count + 1) lines) (play turn ending g ((count + 1) + length lines) later)
    ∙ ap (λ n. after_text (l.text ++ answers turn l.next (count + 1) lines) (play turn ending g n later)) (one_more count (length lines))
    ∙ ap (λ xs. after_text xs (play turn ending g (count + length (first ∷ lines)) later)) (sym (answers_more turn s count first lines l.short l.text l.next l.answer))

pub answers_split : {S : Type 0} (turn : S → List ℕ → Turn S) (s g : S) (count : ℕ) (lines later : List (List ℕ)) → state_after turn s count lines ≡ Some g → answers turn s count (lines ++ later) ≡ answers turn s count lines ++ answers turn g (count + length lines) later
answers_split turn s g count [] later is =
    ap (λ n. answers turn s n later) (plus_none count) ∙ ap (λ x. answers turn x (count + 0) later) (same_Some s g is)
answers_split turn s g count (first ∷ lines) later is =
    let l = first_leads turn s g count first lines is in
    answers_more turn s count first (lines ++ later) l.short l.text l.next l.answer
    ∙ ap (λ xs. l.text ++ xs) (answers_split turn l.next g (count + 1) lines later l.rest)
    ∙ sym (append_assoc l.text (answers turn l.next (count + 1) lines) (answers turn g ((count + 1) + length lines) later))
    ∙ ap (λ n. (l.text ++ answers turn l.next (count + 1) lines) ++ answers turn g n later) (one_more count (length lines))
    ∙ ap (λ xs. xs ++ answers turn g (count + length (first ∷ lines)) later) (sym (answers_more turn s count first lines l.short l.text l.next l.answer))

pub ended_split : {S : Type 0} (turn : S → List ℕ → Turn S) (led : S → List ℕ → S) (s g : S) (count : ℕ) (lines later : List (List ℕ)) → state_after turn s count lines ≡ Some g → ended turn led s count (lines ++ later) ≡ ended turn led g (count + length lines) later
ended_split turn led s g count [] later is =
    ap (λ n. ended turn led s n later) (plus_none count) ∙ ap (λ x. ended turn led x (count + 0) later) (same_Some s g is)
ended_split turn led s g count (first ∷ lines) later is =
    let l = first_leads turn s g count first lines is in
    ended_more turn s count first (lines ++ later) l.short led l.text l.next l.answer
    ∙ ended_split turn led l.next g (count + 1) lines later l.rest
    ∙ ap (λ n. ended turn led g n later) (one_more count (length lines))

-- the answers to lines that lead to a state
pub heard_where : {S : Type 0} (turn : S → List ℕ → Turn S) (start g : S) (lines : List (List ℕ)) → state_after turn start 0 lines ≡ Some g → heard turn start lines ≡ Some (answers turn start 0 lines)
heard_where turn start g lines is = ap (option_map (λ reached. answers turn start 0 lines)) is

-- where a text is told by an option, it is that text
told : {S : Type 0} (o : Option S) (text said : List ℕ) → option_map (λ g. text) o ≡ Some said → said ≡ text
told None text said is = absurd (let f : ⊥ = cc in f)
told (Some g) text said is = sym (same_Some text said is)

-- an answer begins with a text
abbrev pub Begins : {S : Type 0} → Turn S → List ℕ → Type 0
Begins (more answer next) text = answer ≡ text
Begins (last said) text = (rest : List ℕ) × (said.text ≡ text ++ rest)
Begins wrong text = ⊥

-- what a session says to the line after lines that lead to a state
pub says_next : {S : Type 0} (turn : S → List ℕ → Turn S) (ending : S → Said) (start g : S) (before : List (List ℕ)) (next text : List ℕ) → LeadsTo turn start before next g → Begins (turn g next) text → Says turn ending start before next text
says_next {S} turn ending start g before next text leads begins = by_turn (turn g next) refl begins
  where
    n : ℕ
    n = 0 + length before

    short : is_past (n + 1) next ≡ false
    short = subst (λ (k : ℕ). is_past (k + 1) next ≡ false) (sym (zero_plus (length before))) leads.within

    from : (later : List (List ℕ)) → play turn ending start 0 (before ++ next ∷ later) ≡ after_text (answers turn start 0 before) (play turn ending g n (next ∷ later))
    from later = play_split turn ending start g 0 before (next ∷ later) leads.state

    heard_from : (later : List (List ℕ)) → answers turn start 0 (before ++ next ∷ later) ≡ answers turn start 0 before ++ answers turn g n (next ∷ later)
    heard_from later = answers_split turn start g 0 before (next ∷ later) leads.state

    by_turn : (t : Turn S) → turn g next ≡ t → Begins t text → Says turn ending start before next text
    by_turn (more answer state) at is = record {
      whole = λ later. (
        play turn ending state (n + 1) later,
        from later
            ∙ ap (after_text (answers turn start 0 before)) (play_more turn g n next later short ending answer state at)
            ∙ after_both (answers turn start 0 before) answer (play turn ending state (n + 1) later)
            ∙ ap (λ xs. after_text (answers turn start 0 before ++ xs) (play turn ending state (n + 1) later)) is,
      );
      before_fault = λ later all heard_is. (
        answers turn state (n + 1) later,
        told (state_after turn start 0 (before ++ next ∷ later)) (answers turn start 0 (before ++ next ∷ later)) all heard_is
            ∙ heard_from later
            ∙ ap (λ xs. answers turn start 0 before ++ xs) (answers_more turn g n next later short answer state at)
            ∙ sym (append_assoc (answers turn start 0 before) answer (answers turn state (n + 1) later))
            ∙ ap (λ xs. (answers turn start 0 before ++ xs) ++ answers turn state (n + 1) later) is,
      );
    }
    by_turn (last said) at is = record {
      whole = λ later. (
        record { outcome = said.outcome; text = is.0 },
        from later
            ∙ ap (after_text (answers turn start 0 before)) (play_last turn g n next later short ending said at)
            ∙ ap (λ xs. after_text (answers turn start 0 before) (record { outcome = said.outcome; text = xs })) is.1
            ∙ after_both (answers turn start 0 before) text (record { outcome = said.outcome; text = is.0 }),
      );
      before_fault = λ later all heard_is. (
        is.0,
        told (state_after turn start 0 (before ++ next ∷ later)) (answers turn start 0 (before ++ next ∷ later)) all heard_is
            ∙ heard_from later
            ∙ ap (λ xs. answers turn start 0 before ++ xs) (answers_last turn g n next later short said at ∙ is.1)
            ∙ sym (append_assoc (answers turn start 0 before) text is.0),
      );
    }
    by_turn wrong at is = absurd is
