-- What the bounds of a plan of what is left tell is what is next.
use Rattle.std.proofs.Common.{ℕ, ◌≡◌, List, Option, Some, None, length, map, refl, sym, subst, ap, ◌∙◌}
use Rattle.std.specs.Prelude.{◌↔◌, IsNone, IfSome, slice_index_or}
use Rattle.std.specs.List.{Contains, filter, range_with_len}
use Rattle.std.specs.List.Sorted.{IsStrictlyIncreasing}
use Rattle.cstn_facts.proofs.Ranges.{passing_ascends}
use Rattle.cstn_label.specs.Bounds.{Bound}
use Rattle.cstn_net.specs.Networks.{count}
use Rattle.cstn_lift.specs.Labelled.{Labelled}
use Rattle.cstn_history.specs.Histories.{History}
use Rattle.cstn_history.specs.Continuations.{IsNext, IsNamed, IsAwaited}
use Rattle.cstn_next.specs.declared.moments.NextMoment.{NextMoment}
use Rattle.cstn_next.specs.Next.{IsPlannedBy, IsAllDone, TellsNext, coming_at, coming_moments, awaited_from, awaited_moments, is_upto, named_at_next, awaited_props, next_moment}
use Rattle.cstn_next.proofs.Exact.{is_next, named_exactly, awaited_exactly, done_exactly}
use Rattle.cstn_next.proofs.Filled.{filled, filled_by}

module _ (m : Labelled) (h : History) (fresh : ℕ) (bounds : List Bound) (plan : IsPlannedBy m h fresh bounds) where
  pub told_next : (o : Option NextMoment) → TellsNext m h bounds o → IfSome o (λ n. IsNext m h n.moment)
  told_next None tells = tt
  told_next (Some n) tells = is_next m h fresh bounds plan n.moment tells.0

  pub told_named : (o : Option NextMoment) → TellsNext m h bounds o → IfSome o (λ n. (x : ℕ) → Contains (map (λ x. x.0) n.named.items) x ↔ IsNamed m h n.moment x)
  told_named None tells = tt
  told_named (Some n) tells = λ x.
      subst (λ l. Contains l x ↔ IsNamed m h n.moment x) (sym tells.1) (named_exactly m h fresh bounds plan n.moment tells.0 x)

  pub told_awaited : (o : Option NextMoment) → TellsNext m h bounds o → IfSome o (λ n. (p : ℕ) → Contains (map (λ p. p.index) n.awaited.items) p ↔ IsAwaited m h n.moment p)
  told_awaited None tells = tt
  told_awaited (Some n) tells = λ p.
      subst (λ l. Contains l p ↔ IsAwaited m h n.moment p) (sym tells.2) (awaited_exactly m h fresh bounds plan n.moment tells.0 p)

  pub told_done : (o : Option NextMoment) → TellsNext m h bounds o → IsNone o ↔ IsAllDone m h
  told_done None tells = let both = done_exactly m h fresh bounds plan in ((λ e. both.0 tells), (λ done. refl))
  told_done (Some n) tells =
      let both = done_exactly m h fresh bounds plan in ((λ e. absurd (cc)), (λ done. absurd (let none = both.1 done in let some = tells.0 in cc)))

pub told_ascending : (m : Labelled) (h : History) (bounds : List Bound) (o : Option NextMoment) → TellsNext m h bounds o →
    IfSome o (λ n. IsStrictlyIncreasing (map (λ x. x.0) n.named.items) × IsStrictlyIncreasing (map (λ p. p.index) n.awaited.items))
told_ascending m h bounds None tells = tt
told_ascending m h bounds (Some n) tells = (
  subst IsStrictlyIncreasing (sym tells.1) (passing_ascends (λ x. is_upto n.moment (coming_at m h bounds x)) (count m.base)),
  subst IsStrictlyIncreasing (sym tells.2) (passing_ascends (λ p. is_upto n.moment (awaited_from m h p)) 52),
)

-- what is told, from the moments of all time-points and of all propositions
pub told_by : (m : Labelled) (h : History) (bounds : List Bound) (n : NextMoment) (t : ℕ) (coming awaited_all : List (Option ℕ)) →
    coming ≡ coming_moments m h bounds → awaited_all ≡ awaited_moments m h → Some t ≡ next_moment m h bounds → n.moment ≡ t →
    map (λ x. x.0) n.named.items ≡ filter (λ x. is_upto t (slice_index_or coming x None)) (range_with_len 0 (length coming)) →
    map (λ p. p.index) n.awaited.items ≡ filter (λ p. is_upto t (slice_index_or awaited_all p None)) (range_with_len 0 52) → TellsNext m h bounds (Some n)
told_by m h bounds n t coming awaited_all coming_are awaited_are first at steps outcomes = (
  sym first ∙ ap (λ (u : ℕ). Some u) (sym at),
  steps ∙ filled (is_upto t) (coming_at m h bounds) (count m.base) coming coming_are ∙ ap (named_at_next m h bounds) (sym at),
  outcomes ∙ ap (λ l. filter (λ p. is_upto t (slice_index_or l p None)) (range_with_len 0 52)) awaited_are
      ∙ filled_by (is_upto t) (awaited_from m h) 52 ∙ ap (awaited_props m h) (sym at),
)
