-- What the answers of a guided session tell, line by line.
use Rattle.std.proofs.Common.{ℕ, ◌≡◌, ◌+◌, Bool, List, [], ◌∷◌, refl, sym, subst, ap}
use Rattle.std.specs.Prelude.{Option, Some, None, codes}
use Rattle.std.proofs.lemmas.Option.{same_Some}
use Rattle.cstn_label.specs.Bounds.{Bound}
use Rattle.cstn_net.specs.Networks.{count}
use Rattle.cstn_lift.specs.Labelled.{Labelled}
use Rattle.cstn_lift.specs.Lowered.{lowered}
use Rattle.cstn_lines.specs.LiveLines.{Live, moment_at, seen, due_now, live_read}
use Rattle.cstn_lines.proofs.LiveLemmas.{live_is}
use Rattle.cstn_exec.specs.Runs.{due}
use Rattle.cstn_exec.specs.Moves.{EventRefusal, moment_refusal}
use Rattle.cstn_exec.specs.Right.{IsDone}
use Rattle.cstn_exec.proofs.Dues.{done_from, due_none, due_is_due}
use Rattle.cstn_exec.specs.Guides.{Guided, guide_begun, named, advanced, see_refusal, outcome_noted}
use Rattle.cstn_exec.specs.Sound.{IsPlanned, IsGuided}
use Rattle.cstn_exec.proofs.GuideNaming.{named_ascend, named_exactly}
use Rattle.cstn_exec.proofs.Advancing.{begun_guided, open_from, noted_guided}
use Rattle.cstn_exec.proofs.Timely.{on_time}
use Rattle.cstn_reply.specs.Texts.{line, Said}
use Rattle.cstn_reply.specs.Sessions.{Turn, more, last, wrong}
use Rattle.cstn_reply.specs.declared.output.Outcome.TheVariants.{Good}
use Rattle.cstn_exec.specs.Running.{moment_line, refused_text, seen_text, due_text, executing}
use Rattle.cstn_run.specs.Sessions.{named_turn, noted_turn, answer_turn, guide_turn, guide_ending}
use Rattle.cstn_reply.specs.Reached.{state_after}
use Rattle.cstn_run.specs.Least.{IsDueMoment}
use Rattle.cstn_run.specs.Meanings.{GuidesTo, GuideNamesLeast, GuideTellsDue, AcceptsExactly, SeesExactly, led_by, led_to}
use Rattle.cstn_reply.proofs.Sessions.{first_leads, Begins, says_next}
use Rattle.cstn_run.proofs.Moments.{after_guided, named_now}
use Rattle.cstn_run.proofs.Accepting.{accepted_where, refused_where}
use Rattle.cstn_run.proofs.Outcomes.{seen_accepted, seen_kept, seen_unnamed}

-- what the last answer tells of its line: it hands in a moment that is accepted, and after which all is executed or left out
pub record LastAt (m : Labelled) (bounds : List Bound) (g : Guided) (o : Option Live) (said : Said) : Type 0 where
  pub at : ℕ
  pub moment : o ≡ Some (moment_at at)
  pub accepted : moment_refusal (lowered m) bounds g.run at ≡ None
  pub good : said.outcome ≡ Good
  pub done : due (lowered m) bounds (advanced m bounds g at).run ≡ None

-- what an answer that isn't the last tells of the state after it
pub data Follows (m : Labelled) (bounds : List Bound) (g : Guided) (o : Option Live) (next : Guided) : Type 0 where
  follows_moment : (t : ℕ) → o ≡ Some (moment_at t) → moment_refusal (lowered m) bounds g.run t ≡ None → next ≡ advanced m bounds g t → Follows m bounds g o next
  follows_outcome : (p : ℕ) (v : Bool) → o ≡ Some (seen p v) → see_refusal m g p ≡ None → next ≡ outcome_noted g p v → Follows m bounds g o next
  follows_same : next ≡ g → Follows m bounds g o next

-- what an answer tells of its line
abbrev Tells : Labelled → List Bound → Guided → Option Live → Turn Guided → Type 0
Tells m bounds g o (more text next) = Follows m bounds g o next
Tells m bounds g o (last said) = LastAt m bounds g o said
Tells m bounds g o wrong = Unit {0}

tells_moment : (names : List (List ℕ)) (m : Labelled) (bounds : List Bound) (g : Guided) (t : ℕ) → Tells m bounds g (Some (moment_at t)) (named_turn names m bounds g t (moment_refusal (lowered m) bounds g.run t))
tells_moment names m bounds g t = by_refusal (moment_refusal (lowered m) bounds g.run t) refl
  where
    by_due : moment_refusal (lowered m) bounds g.run t ≡ None → (o : Option ℕ) → due (lowered m) bounds (advanced m bounds g t).run ≡ o → Tells m bounds g (Some (moment_at t)) (executing (moment_line names t (named m bounds g.run t)) (advanced m bounds g t) o)
    by_due ok None is = record { at = t; moment = refl; accepted = ok; good = refl; done = is }
    by_due ok (Some u) is = follows_moment t refl ok refl

    by_refusal : (r : Option EventRefusal) → moment_refusal (lowered m) bounds g.run t ≡ r → Tells m bounds g (Some (moment_at t)) (named_turn names m bounds g t r)
    by_refusal None ok = by_due ok (due (lowered m) bounds (advanced m bounds g t).run) refl
    by_refusal (Some why) is = follows_same refl

tells_outcome : (m : Labelled) (bounds : List Bound) (g : Guided) (p : ℕ) (v : Bool) → Tells m bounds g (Some (seen p v)) (noted_turn g p v (see_refusal m g p))
tells_outcome m bounds g p v = by_refusal (see_refusal m g p) refl
  where
    by_refusal : (r : Option EventRefusal) → see_refusal m g p ≡ r → Tells m bounds g (Some (seen p v)) (noted_turn g p v r)
    by_refusal None ok = follows_outcome p v refl ok refl
    by_refusal (Some why) is = follows_same refl

tells_live : (names : List (List ℕ)) (m : Labelled) (bounds : List Bound) (g : Guided) (o : Option Live) → Tells m bounds g o (answer_turn names m bounds g o)
tells_live names m bounds g None = tt
tells_live names m bounds g (Some (moment_at t)) = tells_moment names m bounds g t
tells_live names m bounds g (Some (seen p v)) = tells_outcome m bounds g p v
tells_live names m bounds g (Some due_now) = follows_same refl

module _ (names : List (List ℕ)) (m : Labelled) (bounds : List Bound) where
  abbrev turn : Guided → List ℕ → Turn Guided
  turn = guide_turn names m bounds

  abbrev ending : Guided → Said
  ending = guide_ending m bounds

  pub follows : (g : Guided) (first text : List ℕ) (next : Guided) → guide_turn names m bounds g first ≡ more text next → Follows m bounds g (live_read first) next
  follows g first text next is = subst (λ (t : Turn Guided). Tells m bounds g (live_read first) t) is (tells_live names m bounds g (live_read first))

  pub last_at : (g : Guided) (first : List ℕ) (said : Said) → guide_turn names m bounds g first ≡ last said → LastAt m bounds g (live_read first) said
  last_at g first said is = subst (λ (t : Turn Guided). Tells m bounds g (live_read first) t) is (tells_live names m bounds g (live_read first))

  -- a last line leads to the state after its moment
  pub last_leads : (s : Guided) (first : List ℕ) (said : Said) (l : LastAt m bounds s (live_read first) said) → led_to m bounds s first ≡ advanced m bounds s l.at
  last_leads s first said l = ap (led_by m bounds s) l.moment

  module _ (plan : IsPlanned m bounds) where
    -- ---- the state stays right

    pub follows_right : (g : Guided) (first : List ℕ) (next : Guided) → IsGuided m g → Follows m bounds g (live_read first) next → IsGuided m next
    follows_right g first next right (follows_moment t at ok is) = subst (IsGuided m) (sym is) (after_guided m bounds plan g right t ok)
    follows_right g first next right (follows_outcome p v at ok is) =
        subst (IsGuided m) (sym is) (noted_guided m plan.well_formed g right p v (open_from m g p ok) (live_is first (seen p v) at))
    follows_right g first next right (follows_same is) = subst (IsGuided m) (sym is) right

    pub stays_right : (s g : Guided) (count : ℕ) (lines : List (List ℕ)) → IsGuided m s → state_after (guide_turn names m bounds) s count lines ≡ Some g → IsGuided m g
    stays_right s g count [] right is = subst (IsGuided m) (same_Some s g is) right
    stays_right s g count (first ∷ lines) right is =
        let l = first_leads turn s g count first lines is in
        stays_right l.next g (count + 1) lines (follows_right s first l.next right (follows s first l.text l.next l.answer)) l.rest

    pub begins_right : IsGuided m (guide_begun (count m.base))
    begins_right = begun_guided m bounds plan.table plan.well_formed plan.earliest

    pub reached_right : (before : List (List ℕ)) (next : List ℕ) (g : Guided) → GuidesTo names m bounds before next g → IsGuided m g
    reached_right before next g leads = stays_right (guide_begun (count m.base)) g 0 before begins_right leads.state

    -- ---- what is due

    pub due_right : (g : Guided) → IsGuided m g → IsDueMoment (lowered m) g.run (due (lowered m) bounds g.run)
    due_right g right = by_due (due (lowered m) bounds g.run) refl
      where
        by_due : (o : Option ℕ) → due (lowered m) bounds g.run ≡ o → IsDueMoment (lowered m) g.run o
        by_due None is = done_from (lowered m) g.run right.right.moments (due_none (lowered m) bounds plan.table plan.well_formed plan.earliest g.run right.right is)
        by_due (Some t) is = due_is_due (lowered m) bounds plan.table plan.well_formed plan.earliest g.run right.right t is

    pub done_where : (g : Guided) → IsGuided m g → due (lowered m) bounds g.run ≡ None → IsDone (lowered m) g.run
    done_where g right is = subst (IsDueMoment (lowered m) g.run) is (due_right g right)

    -- ---- the answers

    named_begins : (g : Guided) (next : List ℕ) (t : ℕ) → live_read next ≡ Some (moment_at t) → moment_refusal (lowered m) bounds g.run t ≡ None → Begins (guide_turn names m bounds g next) (moment_line names t (named m bounds g.run t))
    named_begins g next t at ok =
        subst (λ (o : Option Live). Begins (answer_turn names m bounds g o) (moment_line names t (named m bounds g.run t))) (sym at)
        (subst (λ (r : Option EventRefusal). Begins (named_turn names m bounds g t r) (moment_line names t (named m bounds g.run t))) (sym ok)
        (by_due (due (lowered m) bounds (advanced m bounds g t).run)))
      where
        by_due : (o : Option ℕ) → Begins (executing (moment_line names t (named m bounds g.run t)) (advanced m bounds g t) o) (moment_line names t (named m bounds g.run t))
        by_due None = (line (codes "done"), refl)
        by_due (Some u) = refl

    pub names_least : (before : List (List ℕ)) (next : List ℕ) (g : Guided) (t : ℕ) → GuidesTo names m bounds before next g → live_read next ≡ Some (moment_at t) → moment_refusal (lowered m) bounds g.run t ≡ None → GuideNamesLeast names m bounds before next g t
    names_least before next g t leads at ok =
        let right = reached_right before next g leads in
        let called = named_exactly m bounds plan.table g.run t plan.labelled plan.well_formed plan.earliest right.right ok in
        record {
          named = named m bounds g.run t;
          says = says_next turn ending (guide_begun (count m.base)) g before next (moment_line names t (named m bounds g.run t)) leads (named_begins g next t at ok);
          ascending = named_ascend m bounds g.run t;
          exactly = called;
          least = λ s x agrees there.
              (on_time m plan.labelled plan.well_formed (advanced m bounds g t) (after_guided m bounds plan g right t ok)).named s x t agrees (named_now m bounds plan g right t ok x there);
        }

    refused_begins : (g : Guided) (next : List ℕ) (t : ℕ) (why : EventRefusal) → live_read next ≡ Some (moment_at t) → moment_refusal (lowered m) bounds g.run t ≡ Some why → Begins (guide_turn names m bounds g next) (line (refused_text why))
    refused_begins g next t why at is =
        subst (λ (o : Option Live). Begins (answer_turn names m bounds g o) (line (refused_text why))) (sym at)
        (subst (λ (r : Option EventRefusal). Begins (named_turn names m bounds g t r) (line (refused_text why))) (sym is) refl)

    pub accepts_exactly : (before : List (List ℕ)) (next : List ℕ) (g : Guided) (t : ℕ) → GuidesTo names m bounds before next g → live_read next ≡ Some (moment_at t) → AcceptsExactly names m bounds before next g t
    accepts_exactly before next g t leads at =
        let right = reached_right before next g leads in
        record {
          accepted = accepted_where m bounds plan g right t;
          refused = refused_where m bounds plan g right t;
          says = λ why stands. says_next turn ending (guide_begun (count m.base)) g before next (line (refused_text why)) leads
              (refused_begins g next t why at ((refused_where m bounds plan g right t why).1 stands));
        }

    sees : (g : Guided) (next : List ℕ) (p : ℕ) (value : Bool) (why : Option EventRefusal) (text : List ℕ) → live_read next ≡ Some (seen p value) → see_refusal m g p ≡ why → Begins (noted_turn g p value why) text → Begins (guide_turn names m bounds g next) text
    sees g next p value why text at is begins =
        subst (λ (o : Option Live). Begins (answer_turn names m bounds g o) text) (sym at)
        (subst (λ (r : Option EventRefusal). Begins (noted_turn g p value r) text) (sym is) begins)

    pub sees_exactly : (before : List (List ℕ)) (next : List ℕ) (g : Guided) (p : ℕ) (value : Bool) → GuidesTo names m bounds before next g → live_read next ≡ Some (seen p value) → SeesExactly names m bounds before next g p value
    sees_exactly before next g p value leads at =
        let net = plan.well_formed.network in
        record {
          accepted = seen_accepted m net g p;
          kept = seen_kept m net g p;
          unnamed = seen_unnamed m net g p;
          says = λ ok. says_next turn ending (guide_begun (count m.base)) g before next (line (seen_text p value)) leads (sees g next p value None (line (seen_text p value)) at ok refl);
          refuses = λ why is. says_next turn ending (guide_begun (count m.base)) g before next (line (refused_text why)) leads (sees g next p value (Some why) (line (refused_text why)) at is refl);
        }

    pub tells_due : (before : List (List ℕ)) (next : List ℕ) (g : Guided) → GuidesTo names m bounds before next g → live_read next ≡ Some due_now → GuideTellsDue names m bounds before next g
    tells_due before next g leads at = record {
      due = due (lowered m) bounds g.run;
      due_is = refl;
      says = says_next turn ending (guide_begun (count m.base)) g before next (line (due_text (due (lowered m) bounds g.run))) leads
          (subst (λ (o : Option Live). Begins (answer_turn names m bounds g o) (line (due_text (due (lowered m) bounds g.run)))) (sym at) refl);
      right = due_right g (reached_right before next g leads);
    }
