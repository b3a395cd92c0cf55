-- How a guided session ends.
use Rattle.std.proofs.Common.{ℕ, ◌≡◌, ◌⊎◌, inl, inr, ◌+◌, Bool, true, false, List, [], ◌∷◌, ◌++◌, length, refl, sym, subst, ap, ◌∙◌, append_assoc}
use Rattle.std.specs.Prelude.{Option, Some, None, codes, decimal}
use Rattle.std.specs.List.{Contains}
use Rattle.cstn_label.specs.Bounds.{Bound}
use Rattle.cstn_net.specs.Networks.{count}
use Rattle.cstn_lift.specs.Labelled.{Labelled}
use Rattle.cstn_lift.specs.Lowered.{lowered}
use Rattle.cstn_lines.specs.LiveLines.{moment_at, live_read}
use Rattle.cstn_lines.specs.Pieces.{is_past}
use Rattle.cstn_exec.specs.Runs.{due}
use Rattle.cstn_exec.specs.Moves.{moment_refusal}
use Rattle.cstn_exec.specs.Guides.{Guided, guide_begun, named_at, named, advanced}
use Rattle.cstn_exec.specs.Sound.{IsPlanned, IsGuided}
use Rattle.cstn_exec.proofs.GuideNaming.{named_exactly}
use Rattle.cstn_exec.proofs.Timely.{on_time, led}
use Rattle.cstn_reply.specs.Texts.{line, Said}
use Rattle.cstn_reply.specs.Sessions.{Turn, more, last, wrong, play, answers}
use Rattle.cstn_reply.specs.declared.output.Outcome.{Outcome}
use Rattle.cstn_reply.specs.declared.output.Outcome.TheVariants.{Good, Unfinished, Script}
use Rattle.cstn_exec.specs.Running.{moment_line, executing, unfinished}
use Rattle.cstn_run.specs.Sessions.{named_turn, answer_turn, guide_turn, guide_ending}
use Rattle.cstn_reply.specs.Reached.{state_after, ended}
use Rattle.cstn_run.specs.Least.{IsDueMoment}
use Rattle.cstn_run.specs.Meanings.{led_by, led_to, guided_end, said_to, WasNamed, IsTimely, IsCarriedThrough, EndsUnfinished}
use Rattle.cstn_reply.proofs.Sessions.{play_more, answers_more, state_more, ended_more, play_last, ended_last, play_wrong, ended_wrong, play_past, ended_past, plus_none, zero_plus, one_more, ended_split}
use Rattle.cstn_run.proofs.Moments.{nobody_named, after_guided, named_now, named_still, named_back}
use Rattle.cstn_run.proofs.Carrying.{Follows, follows_moment, follows_outcome, follows_same, follows, last_at, last_leads, follows_right, stays_right, begins_right, due_right, done_where}

no_such : (o : Outcome) → o ≡ Script → o ≡ Good → ⊥
no_such o script' good = let f : ⊥ = cc in f

not_script : (o : Outcome) → o ≡ Script → o ≡ Unfinished → ⊥
not_script o script' other = let f : ⊥ = cc in f

not_good : (o : Outcome) → o ≡ Good → o ≡ Unfinished → ⊥
not_good o good other = let f : ⊥ = cc in f

-- one of these lines, which follow the state s and n lines, hands in the moment t, it is accepted, and x is named there
record IsNamedIn (names : List (List ℕ)) (m : Labelled) (bounds : List Bound) (s : Guided) (n : ℕ) (lines : List (List ℕ)) (x t : ℕ) : Type 0 where
  before : List (List ℕ)
  next : List ℕ
  later : List (List ℕ)
  lines_are : lines ≡ before ++ next ∷ later
  state : Guided
  leads : state_after (guide_turn names m bounds) s n before ≡ Some state
  within : is_past ((n + length before) + 1) next ≡ false
  moment : live_read next ≡ Some (moment_at t)
  accepted : moment_refusal (lowered m) bounds state.run t ≡ None
  there : Contains (named m bounds state.run t) x

-- how a session goes on after its first line
data Goes (names : List (List ℕ)) (m : Labelled) (bounds : List Bound) (s : Guided) (n : ℕ) (first : List ℕ) : Type 0 where
  goes_on : (text : List ℕ) (next : Guided) → is_past (n + 1) first ≡ false → guide_turn names m bounds s first ≡ more text next → Goes names m bounds s n first
  goes_last : (said : Said) → is_past (n + 1) first ≡ false → guide_turn names m bounds s first ≡ last said → Goes names m bounds s n first
  goes_wrong : is_past (n + 1) first ≡ false → guide_turn names m bounds s first ≡ wrong → Goes names m bounds s n first
  goes_past : is_past (n + 1) first ≡ true → Goes names m bounds s n first

goes : (names : List (List ℕ)) (m : Labelled) (bounds : List Bound) (s : Guided) (n : ℕ) (first : List ℕ) → Goes names m bounds s n first
goes names m bounds s n first = by_past (is_past (n + 1) first) refl
  where
    by_turn : is_past (n + 1) first ≡ false → (t : Turn Guided) → guide_turn names m bounds s first ≡ t → Goes names m bounds s n first
    by_turn short (more text next) is = goes_on text next short is
    by_turn short (last said) is = goes_last said short is
    by_turn short wrong is = goes_wrong short is

    by_past : (past : Bool) → is_past (n + 1) first ≡ past → Goes names m bounds s n first
    by_past true is = goes_past is
    by_past false is = by_turn is (guide_turn names m bounds s first) refl

module _ (names : List (List ℕ)) (m : Labelled) (bounds : List Bound) (plan : IsPlanned m bounds) where
  abbrev turn : Guided → List ℕ → Turn Guided
  turn = guide_turn names m bounds

  abbrev ending : Guided → Said
  ending = guide_ending m bounds

  abbrev leading : Guided → List ℕ → Guided
  leading = led_to m bounds

  goes_right : (s : Guided) (first text : List ℕ) (next : Guided) → IsGuided m s → guide_turn names m bounds s first ≡ more text next → IsGuided m next
  goes_right s first text next right is = follows_right names m bounds plan s first next right (follows names m bounds s first text next is)

  -- ---- the state in which a session ends is right

  ends_right : (s : Guided) (n : ℕ) (lines : List (List ℕ)) → IsGuided m s → IsGuided m (ended turn leading s n lines)
  ends_right s n [] right = right
  ends_right s n (first ∷ lines) right = by_first (goes names m bounds s n first) (λ next after. ends_right next (n + 1) lines after)
    where
      by_first : Goes names m bounds s n first → ((next : Guided) → IsGuided m next → IsGuided m (ended turn leading next (n + 1) lines)) → IsGuided m (ended turn leading s n (first ∷ lines))
      by_first (goes_on text next short is) rest =
          subst (IsGuided m) (sym (ended_more turn s n first lines short leading text next is)) (rest next (goes_right s first text next right is))
      by_first (goes_last said short is) rest =
          let l = last_at names m bounds s first said is in
          subst (IsGuided m) (sym (ended_last turn s n first lines short leading said is ∙ last_leads names m bounds s first said l))
          (after_guided m bounds plan s right l.at l.accepted)
      by_first (goes_wrong short is) rest = subst (IsGuided m) (sym (ended_wrong turn s n first lines short leading is)) right
      by_first (goes_past past) rest = subst (IsGuided m) (sym (ended_past turn s n first lines past leading)) right

  -- ---- where it ends well, nothing is due

  good_done : (s : Guided) (n : ℕ) (lines : List (List ℕ)) → (play turn ending s n lines).outcome ≡ Good → due (lowered m) bounds (ended turn leading s n lines).run ≡ None
  good_done s n [] good = by_due (due (lowered m) bounds s.run) good
    where
      by_due : (o : Option ℕ) → (unfinished o).outcome ≡ Good → o ≡ None
      by_due None is = refl
      by_due (Some t) is = absurd (not_good Good refl (sym is))
  good_done s n (first ∷ lines) good = by_first (goes names m bounds s n first) (λ next. good_done next (n + 1) lines)
    where
      by_first : Goes names m bounds s n first → ((next : Guided) → (play turn ending next (n + 1) lines).outcome ≡ Good → due (lowered m) bounds (ended turn leading next (n + 1) lines).run ≡ None) → due (lowered m) bounds (ended turn leading s n (first ∷ lines)).run ≡ None
      by_first (goes_on text next short is) rest =
          ap (λ (g : Guided). due (lowered m) bounds g.run) (ended_more turn s n first lines short leading text next is)
          ∙ rest next (sym (ap (λ (x : Said). x.outcome) (play_more turn s n first lines short ending text next is)) ∙ good)
      by_first (goes_last said short is) rest =
          let l = last_at names m bounds s first said is in
          ap (λ (g : Guided). due (lowered m) bounds g.run) (ended_last turn s n first lines short leading said is ∙ last_leads names m bounds s first said l) ∙ l.done
      by_first (goes_wrong short is) rest =
          absurd (no_such (play turn ending s n (first ∷ lines)).outcome (ap (λ (x : Said). x.outcome) (play_wrong turn s n first lines short ending is)) good)
      by_first (goes_past past) rest =
          absurd (no_such (play turn ending s n (first ∷ lines)).outcome (ap (λ (x : Said). x.outcome) (play_past turn s n first lines past ending)) good)

  -- ---- a time-point that is named in the end was named by an answer

  still_named : (s : Guided) (first : List ℕ) (next : Guided) (x t : ℕ) → IsGuided m s → Follows m bounds s (live_read first) next → named_at s x ≡ Some t → named_at next x ≡ Some t
  still_named s first next x t right (follows_moment u at ok is) e = subst (λ (g : Guided). named_at g x ≡ Some t) (sym is) (named_still m bounds plan s right u ok x t e)
  still_named s first next x t right (follows_outcome p v at ok is) e = subst (λ (g : Guided). named_at g x ≡ Some t) (sym is) e
  still_named s first next x t right (follows_same is) e = subst (λ (g : Guided). named_at g x ≡ Some t) (sym is) e

  keeps_named : (s : Guided) (n : ℕ) (lines : List (List ℕ)) (x t : ℕ) → IsGuided m s → named_at s x ≡ Some t → named_at (ended turn leading s n lines) x ≡ Some t
  keeps_named s n [] x t right e = e
  keeps_named s n (first ∷ lines) x t right e = by_first (goes names m bounds s n first) (λ next after. keeps_named next (n + 1) lines x t after)
    where
      by_first : Goes names m bounds s n first → ((next : Guided) → IsGuided m next → named_at next x ≡ Some t → named_at (ended turn leading next (n + 1) lines) x ≡ Some t) → named_at (ended turn leading s n (first ∷ lines)) x ≡ Some t
      by_first (goes_on text next short is) rest =
          subst (λ (g : Guided). named_at g x ≡ Some t) (sym (ended_more turn s n first lines short leading text next is))
          (rest next (goes_right s first text next right is) (still_named s first next x t right (follows names m bounds s first text next is) e))
      by_first (goes_last said short is) rest =
          let l = last_at names m bounds s first said is in
          subst (λ (g : Guided). named_at g x ≡ Some t) (sym (ended_last turn s n first lines short leading said is ∙ last_leads names m bounds s first said l))
          (named_still m bounds plan s right l.at l.accepted x t e)
      by_first (goes_wrong short is) rest = subst (λ (g : Guided). named_at g x ≡ Some t) (sym (ended_wrong turn s n first lines short leading is)) e
      by_first (goes_past past) rest = subst (λ (g : Guided). named_at g x ≡ Some t) (sym (ended_past turn s n first lines past leading)) e

  -- a time-point that a line names is named after it, and in the end
  accepted_turn : (g : Guided) (next : List ℕ) (t : ℕ) → live_read next ≡ Some (moment_at t) → moment_refusal (lowered m) bounds g.run t ≡ None → guide_turn names m bounds g next ≡ executing (moment_line names t (named m bounds g.run t)) (advanced m bounds g t) (due (lowered m) bounds (advanced m bounds g t).run)
  accepted_turn g next t at ok = ap (answer_turn names m bounds g) at ∙ ap (named_turn names m bounds g t) ok

  named_after : (g : Guided) (n : ℕ) (next : List ℕ) (later : List (List ℕ)) (x t : ℕ) → IsGuided m g → is_past (n + 1) next ≡ false → live_read next ≡ Some (moment_at t) → moment_refusal (lowered m) bounds g.run t ≡ None → Contains (named m bounds g.run t) x → named_at (ended turn leading g n (next ∷ later)) x ≡ Some t
  named_after g n next later x t right short at ok there = by_due (due (lowered m) bounds (advanced m bounds g t).run) (accepted_turn g next t at ok)
    where
      now : named_at (advanced m bounds g t) x ≡ Some t
      now = named_now m bounds plan g right t ok x there

      by_due : (o : Option ℕ) → guide_turn names m bounds g next ≡ executing (moment_line names t (named m bounds g.run t)) (advanced m bounds g t) o → named_at (ended turn leading g n (next ∷ later)) x ≡ Some t
      by_due None is =
          subst (λ (h : Guided). named_at h x ≡ Some t) (sym (ended_last turn g n next later short leading _ is ∙ ap (led_by m bounds g) at)) now
      by_due (Some u) is =
          subst (λ (h : Guided). named_at h x ≡ Some t) (sym (ended_more turn g n next later short leading _ (advanced m bounds g t) is))
          (keeps_named (advanced m bounds g t) (n + 1) later x t (after_guided m bounds plan g right t ok) now)

  -- a time-point that is named in the end was named at the start, or by a line
  from_moment : (s : Guided) (n : ℕ) (first : List ℕ) (lines : List (List ℕ)) (x t u : ℕ) → IsGuided m s → is_past (n + 1) first ≡ false → live_read first ≡ Some (moment_at u) → moment_refusal (lowered m) bounds s.run u ≡ None → named_at (advanced m bounds s u) x ≡ Some t → (named_at s x ≡ Some t) ⊎ IsNamedIn names m bounds s n (first ∷ lines) x t
  from_moment s n first lines x t u right short at ok e = elim (named_back m bounds plan s right u ok x t e) [
    | inl before ↦ inl before
    | inr now ↦ inr (subst (λ (k : ℕ). IsNamedIn names m bounds s n (first ∷ lines) x k) (sym now.1) (record {
      before = [];
      next = first;
      later = lines;
      lines_are = refl;
      state = s;
      leads = refl;
      within = subst (λ (k : ℕ). is_past (k + 1) first ≡ false) (plus_none n) short;
      moment = at;
      accepted = ok;
      there = now.0;
    }))
  ]

  from_next : (s : Guided) (n : ℕ) (first : List ℕ) (lines : List (List ℕ)) (next : Guided) (x t : ℕ) → IsGuided m s → is_past (n + 1) first ≡ false → Follows m bounds s (live_read first) next → named_at next x ≡ Some t → (named_at s x ≡ Some t) ⊎ IsNamedIn names m bounds s n (first ∷ lines) x t
  from_next s n first lines next x t right short (follows_moment u at ok is) e = from_moment s n first lines x t u right short at ok (subst (λ (g : Guided). named_at g x ≡ Some t) is e)
  from_next s n first lines next x t right short (follows_outcome p v at ok is) e = inl (subst (λ (g : Guided). named_at g x ≡ Some t) is e)
  from_next s n first lines next x t right short (follows_same is) e = inl (subst (λ (g : Guided). named_at g x ≡ Some t) is e)

  -- a time-point that is named by one of the later lines is named by one of all lines
  named_later : (s : Guided) (n : ℕ) (first : List ℕ) (lines : List (List ℕ)) (text : List ℕ) (next : Guided) (x t : ℕ) → is_past (n + 1) first ≡ false → guide_turn names m bounds s first ≡ more text next → IsNamedIn names m bounds next (n + 1) lines x t → IsNamedIn names m bounds s n (first ∷ lines) x t
  named_later s n first lines text next x t short is r = record {
    before = first ∷ r.before;
    next = r.next;
    later = r.later;
    lines_are = ap (λ (ls : List (List ℕ)). first ∷ ls) r.lines_are;
    state = r.state;
    leads = state_more turn s n first r.before short text next is ∙ r.leads;
    within = subst (λ (k : ℕ). is_past (k + 1) r.next ≡ false) (one_more n (length r.before)) r.within;
    moment = r.moment;
    accepted = r.accepted;
    there = r.there;
  }

  who_named : (s : Guided) (n : ℕ) (lines : List (List ℕ)) (x t : ℕ) → IsGuided m s → named_at (ended turn leading s n lines) x ≡ Some t → (named_at s x ≡ Some t) ⊎ IsNamedIn names m bounds s n lines x t
  who_named s n [] x t right e = inl e
  who_named s n (first ∷ lines) x t right e = by_first (goes names m bounds s n first) (λ next after. who_named next (n + 1) lines x t after)
    where
      by_first : Goes names m bounds s n first → ((next : Guided) → IsGuided m next → named_at (ended turn leading next (n + 1) lines) x ≡ Some t → (named_at next x ≡ Some t) ⊎ IsNamedIn names m bounds next (n + 1) lines x t) → (named_at s x ≡ Some t) ⊎ IsNamedIn names m bounds s n (first ∷ lines) x t
      by_first (goes_on text next short is) rest =
          elim (rest next (goes_right s first text next right is) (subst (λ (g : Guided). named_at g x ≡ Some t) (ended_more turn s n first lines short leading text next is) e)) [
            | inl before ↦ from_next s n first lines next x t right short (follows names m bounds s first text next is) before
            | inr later ↦ inr (named_later s n first lines text next x t short is later)
          ]
      by_first (goes_last said short is) rest =
          let l = last_at names m bounds s first said is in
          from_moment s n first lines x t l.at right short l.moment l.accepted
          (subst (λ (g : Guided). named_at g x ≡ Some t) (ended_last turn s n first lines short leading said is ∙ last_leads names m bounds s first said l) e)
      by_first (goes_wrong short is) rest = inl (subst (λ (g : Guided). named_at g x ≡ Some t) (ended_wrong turn s n first lines short leading is) e)
      by_first (goes_past past) rest = inl (subst (λ (g : Guided). named_at g x ≡ Some t) (ended_past turn s n first lines past leading) e)

  -- ---- the laws

  first_state : IsGuided m (guide_begun (count m.base))
  first_state = begins_right names m bounds plan

  end_right : (lines : List (List ℕ)) → IsGuided m (guided_end names m bounds lines)
  end_right lines = ends_right (guide_begun (count m.base)) 0 lines first_state

  was_named : (lines : List (List ℕ)) (x t : ℕ) → IsNamedIn names m bounds (guide_begun (count m.base)) 0 lines x t → WasNamed names m bounds lines x t
  was_named lines x t r =
      let right = stays_right names m bounds plan (guide_begun (count m.base)) r.state 0 r.before first_state r.leads in
      record {
        before = r.before;
        next = r.next;
        later = r.later;
        lines_are = r.lines_are;
        state = r.state;
        leads = record { state = r.leads; within = subst (λ (k : ℕ). is_past (k + 1) r.next ≡ false) (zero_plus (length r.before)) r.within };
        moment = r.moment;
        accepted = r.accepted;
        named = (named_exactly m bounds plan.table r.state.run t plan.labelled plan.well_formed plan.earliest right.right r.accepted x).0 r.there;
      }

  named_where : (lines : List (List ℕ)) (x t : ℕ) → WasNamed names m bounds lines x t → named_at (guided_end names m bounds lines) x ≡ Some t
  named_where lines x t w =
      let right = stays_right names m bounds plan (guide_begun (count m.base)) w.state 0 w.before first_state w.leads.state in
      let there = (named_exactly m bounds plan.table w.state.run t plan.labelled plan.well_formed plan.earliest right.right w.accepted x).1 w.named in
      subst (λ (ls : List (List ℕ)). named_at (guided_end names m bounds ls) x ≡ Some t) (sym w.lines_are)
      (subst (λ (g : Guided). named_at g x ≡ Some t) (sym (ended_split turn leading (guide_begun (count m.base)) w.state 0 w.before (w.next ∷ w.later) w.leads.state))
      (named_after w.state (0 + length w.before) w.next w.later x t right (subst (λ (k : ℕ). is_past (k + 1) w.next ≡ false) (sym (zero_plus (length w.before))) w.leads.within) w.moment w.accepted there))

  pub timely : (lines : List (List ℕ)) → IsTimely names m bounds lines
  timely lines = record {
    named = λ x t. (
      λ e. elim (who_named (guide_begun (count m.base)) 0 lines x t first_state e) [
        | inl before ↦ absurd (nobody_named (count m.base) x t before)
        | inr now ↦ was_named lines x t now
      ],
      named_where lines x t,
    );
    on_time = on_time m plan.labelled plan.well_formed (guided_end names m bounds lines) (end_right lines);
  }

  pub carried_through : (lines : List (List ℕ)) → (said_to names m bounds lines).outcome ≡ Good → IsCarriedThrough names m bounds lines
  carried_through lines good =
      let right = end_right lines in
      let done = done_where names m bounds plan (guided_end names m bounds lines) right (good_done (guide_begun (count m.base)) 0 lines good) in
      record {
        done = done;
        timely = timely lines;
        led = led m plan.labelled plan.well_formed (guided_end names m bounds lines) right bounds plan.table plan.earliest done;
      }

  -- what is told where the lines end while something is due
  record IsUnfinished (s : Guided) (n : ℕ) (lines : List (List ℕ)) : Type 0 where
    at : ℕ
    due_at : due (lowered m) bounds (ended turn leading s n lines).run ≡ Some at
    text : (play turn ending s n lines).text ≡ answers turn s n lines ++ line (codes "unfinished " ++ decimal at)

  unfinished_at : (s : Guided) (n : ℕ) (lines : List (List ℕ)) → (play turn ending s n lines).outcome ≡ Unfinished → IsUnfinished s n lines
  unfinished_at s n [] other = by_due (due (lowered m) bounds s.run) refl
    where
      by_due : (o : Option ℕ) → due (lowered m) bounds s.run ≡ o → IsUnfinished s n []
      by_due None is = absurd (not_good Good refl (sym (ap (λ (o : Option ℕ). (unfinished o).outcome) is) ∙ other))
      by_due (Some t) is = record { at = t; due_at = is; text = ap (λ (o : Option ℕ). (unfinished o).text) is }
  unfinished_at s n (first ∷ lines) other = by_first (goes names m bounds s n first) (λ next. unfinished_at next (n + 1) lines)
    where
      by_first : Goes names m bounds s n first → ((next : Guided) → (play turn ending next (n + 1) lines).outcome ≡ Unfinished → IsUnfinished next (n + 1) lines) → IsUnfinished s n (first ∷ lines)
      by_first (goes_on text next short is) rest =
          let played = play_more turn s n first lines short ending text next is in
          let r = rest next (sym (ap (λ (x : Said). x.outcome) played) ∙ other) in
          record {
            at = r.at;
            due_at = ap (λ (g : Guided). due (lowered m) bounds g.run) (ended_more turn s n first lines short leading text next is) ∙ r.due_at;
            text = ap (λ (x : Said). x.text) played ∙ ap (λ (xs : List ℕ). text ++ xs) r.text
                ∙ sym (append_assoc text (answers turn next (n + 1) lines) (line (codes "unfinished " ++ decimal r.at)))
                ∙ ap (λ (xs : List ℕ). xs ++ line (codes "unfinished " ++ decimal r.at)) (sym (answers_more turn s n first lines short text next is));
          }
      by_first (goes_last said short is) rest =
          absurd (not_good said.outcome (last_at names m bounds s first said is).good (sym (ap (λ (x : Said). x.outcome) (play_last turn s n first lines short ending said is)) ∙ other))
      by_first (goes_wrong short is) rest =
          absurd (not_script (play turn ending s n (first ∷ lines)).outcome (ap (λ (x : Said). x.outcome) (play_wrong turn s n first lines short ending is)) other)
      by_first (goes_past past) rest =
          absurd (not_script (play turn ending s n (first ∷ lines)).outcome (ap (λ (x : Said). x.outcome) (play_past turn s n first lines past ending)) other)

  pub ends_unfinished : (lines : List (List ℕ)) → (said_to names m bounds lines).outcome ≡ Unfinished → EndsUnfinished names m bounds lines
  ends_unfinished lines other =
      let r = unfinished_at (guide_begun (count m.base)) 0 lines other in
      let right = subst (IsDueMoment (lowered m) (guided_end names m bounds lines).run) r.due_at (due_right names m bounds plan (guided_end names m bounds lines) (end_right lines)) in
      record { due = r.at; right = right.0; in_time = right.1; text = r.text }
