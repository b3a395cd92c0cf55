use Rattle.std.proofs.Common.{◌≡◌, ℕ, map, refl, ap, sym, ◌∙◌, subst, arith, Some, None}
use Rattle.std.specs.Prelude.{slice_index_or, ℤ, pos, ◌≤ℤ◌}
use Rattle.cstn_net.specs.Networks.{Network, Observes}
use Rattle.cstn_graphml.specs.Networks.{network_of, observed_prop}
use Rattle.cstn_sentences.specs.declared.lines.Says.TheVariants.{At, By, Between, ByAfter, Within, NotBefore, Together}
use Rattle.cstn_sentences.specs.Meaning.{Moment_after, declared_observations}
use Rattle.cstn_sentences.specs.Moments.{tick_of}
use Rattle.cstn_sentences.specs.Plans.{plan_parts}
use Rattle.cstn_sentences.proofs.RuleMoments.{known}
use Rattle.cstn_sentences.proofs.FirstObservers.{HasOutcome, outcome_parts}
use Rattle.cstn_sentences.proofs.saying_laws.names_stand_for_their_moments.Goals as goal

pub returns-clause-end_before_by : goal.returns-clause-end_before_by
returns-clause-end_before_by c n d name k t starts = rw (starts.number, starts.begins) refl

pub returns-clause-end_before_by_after : goal.returns-clause-end_before_by_after
returns-clause-end_before_by_after c n d name k t starts = rw (starts.number, starts.begins) refl

pub returns-clause-end_behind_after : goal.returns-clause-end_behind_after
returns-clause-end_behind_after c n d name k starts = rw (starts.number, starts.begins) refl

pub returns-clause-start_elsewhere : goal.returns-clause-start_elsewhere
returns-clause-start_elsewhere c n d name k (At r) starts by after = rw (starts.number, starts.begins) refl
returns-clause-start_elsewhere c n d name k (By t) starts by after = absurd (by t refl)
returns-clause-start_elsewhere c n d name k (Between r) starts by after = rw (starts.number, starts.begins) refl
returns-clause-start_elsewhere c n d name k (ByAfter t) starts by after = absurd (after t refl)
returns-clause-start_elsewhere c n d name k (Within t) starts by after = rw (starts.number, starts.begins) refl
returns-clause-start_elsewhere c n d name k NotBefore starts by after = rw (starts.number, starts.begins) refl
returns-clause-start_elsewhere c n d name k Together starts by after = rw (starts.number, starts.begins) refl

pub returns-clause-start_of : goal.returns-clause-start_of
returns-clause-start_of c n d name k is_end starts = rw (starts.number, starts.begins) refl

pub returns-clause-end_of : goal.returns-clause-end_of
returns-clause-end_of c n d name k is_end starts = rw (starts.number, starts.begins) refl

pub returns-clause-result_of : goal.returns-clause-result_of
returns-clause-result_of c n t d k prop m e =
    let h : HasOutcome n d prop m = outcome_parts n d prop m e in
    let p : ℕ = h.letter in
    let net : Network = network_of (plan_parts t d k) in
    let from : h.seen.0 ≡ m.0 = ap (λ (z : Moment_after). z.0) h.moment_is in
    let place : m.0 ≡ h.first.place = omega (arith, from, h.first.number) in
    let observes : Observes net m.0 p = record { what = subst (λ i. slice_index_or (map observed_prop (declared_observations d)) i None ≡ Some p) (sym place) h.first.observes } in
    let reaction : m.1 ≡ pos (net.reaction p) = sym (ap (λ (z : Moment_after). z.1) h.moment_is) ∙ ap pos h.first.reaction in
    record {
      letter = p;
      letter_is = h.letter_is;
      observes = observes;
      reaction = reaction;
      known = λ at y later. known net at m.0 y p observes (subst (λ (z : ℤ). tick_of at (m.0, z) ≤ℤ pos (at y)) reaction later);
    }
