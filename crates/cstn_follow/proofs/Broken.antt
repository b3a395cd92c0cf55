-- Constraints that what was done has broken.
use Rattle.std.proofs.Common.{ℕ, ◌≡◌, ◌+◌, ◌<◌, Bool, true, false, not, List, [], Option, Some, None, map, refl, sym, subst, ap, ◌∙◌, arith}
use Rattle.std.specs.Prelude.{◌↔◌, ◌&&◌, pos, ℤ, ◌+ℤ◌, ◌-ℤ◌, ◌<ℤ◌, ◌≤ℤ◌, IsTrue}
use Rattle.std.specs.List.{Contains, filter}
use Rattle.std.proofs.lemmas.Bool.{and_parts, and_from, both_ways, false_from_ne_true}
use Rattle.std.proofs.lemmas.Int.{ints}
use Rattle.std.proofs.lemmas.List.Elements.{All-weaker, All-contains_itself}
use Rattle.cstn_facts.proofs.Filters.{filter_contains, filter_contained, contained_passes, filter_nothing, filter_agree_on}
use Rattle.cstn_facts.proofs.Members.{contains_map}
use Rattle.cstn_facts.proofs.Integers.{int_lt-true, lt-int_lt}
use Rattle.cstn_label.specs.Labels.{Label, MarkFits, joined}
use Rattle.cstn_label.proofs.LabelLemmas.{made_true, made_holds, made_agrees, plain_from_holds}
use Rattle.cstn_net.specs.Networks.{Constraint}
use Rattle.cstn_check.specs.Givers.{is_of}
use Rattle.cstn_check.proofs.Parts.{of_contains}
use Rattle.cstn_lift.specs.Labelled.{Labelled, label_of}
use Rattle.cstn_lift.specs.Completion.{full_label}
use Rattle.cstn_lift.specs.Lowered.{is_plain}
use Rattle.cstn_lift.specs.WellFormed.{IsLabelled}
use Rattle.cstn_lift.proofs.Kept.{plain_both}
use Rattle.cstn_history.specs.Histories.{History, IsHistory, allows}
use Rattle.cstn_history.specs.Continuations.{Can, IsTold}
use Rattle.cstn_history.proofs.Settled.{as_told, told_agrees, allows_back, allows_true, holds_allows}
use Rattle.cstn_follow.specs.Blame.{network_alone}
use Rattle.cstn_follow.proofs.Constraints.{with_these, completed_same}
use Rattle.cstn_follow.specs.Forgiving.{IsBrokenBy, is_unmet, is_in_some_case, is_broken_by, broken_ids}

-- the moments of ends that don't meet a value
unmet_ends : (o e : Option ℕ) (most : ℤ) → is_unmet o e most ≡ true
    → (begun : ℕ) × (ended : ℕ) × (o ≡ Some begun) × (e ≡ Some ended) × ((most +ℤ pos begun) <ℤ pos ended)
unmet_ends None e most is = absurd (cc)
unmet_ends (Some begun) None most is = absurd (cc)
unmet_ends (Some begun) (Some ended) most is = (begun, ended, refl, refl, int_lt-true (most +ℤ pos begun) (pos ended) is)

-- nothing continues a history that has broken a constraint
pub broken_stuck : (m : Labelled) (h : History) (c : Constraint) → Contains m.base.constraints c → IsBrokenBy m h c → Can m h → ⊥
broken_stuck m h c has b (table, goes) =
    let met = goes.meets b.case c b.agrees has b.in_force in
    let at_from = goes.done b.case c.from b.begun b.agrees b.from in
    let at_to = goes.done b.case c.to b.ended b.agrees b.to in
    let unmet = b.unmet in
    let kept : (pos b.ended -ℤ pos b.begun) ≤ℤ c.most =
    subst (λ (t : ℕ). (pos t -ℤ pos b.begun) ≤ℤ c.most) at_to (subst (λ (t : ℕ). (pos (table b.case c.to) -ℤ pos t) ≤ℤ c.most) at_from met) in
    omega (arith, ints)

module _ (m : Labelled) (h : History) (good : IsLabelled m) (known : IsHistory m h) (c : Constraint) (has : Contains m.base.constraints c) where
  told_broken : is_broken_by m h c ≡ true → IsBrokenBy m h c
  told_broken is =
      let ends = and_parts (is_unmet (h.done c.from) (h.done c.to) c.most) (is_in_some_case m h c) is in
      let label = and_parts (is_plain (full_label m c)) (allows h (full_label m c)) ends.1 in
      let plain = (plain_both m good c has).0 label.0 in
      let allowed = allows_back m h good known (full_label m c) label.1 in
      let unmet = unmet_ends (h.done c.from) (h.done c.to) c.most ends.0 in
      let told = as_told h (λ p. false) in
      let case = made_true (full_label m c) told in
      record {
        begun = unmet.0;
        ended = unmet.1;
        from = unmet.2;
        to = unmet.3;
        unmet = unmet.4;
        case = case;
        agrees = λ p v is.
            made_agrees (IsTold h) told (full_label m c)
            (λ q t. subst (λ w. MarkFits w (full_label m c q)) (sym (told_agrees h (λ p. false) q t.0 t.1)) (allowed q t.0 t.1)) p (v, is)
            ∙ told_agrees h (λ p. false) p v is;
        in_force = made_holds (full_label m c) told plain;
      }

  broken_told : IsBrokenBy m h c → is_broken_by m h c ≡ true
  broken_told b =
      and_from (is_unmet (h.done c.from) (h.done c.to) c.most) (is_in_some_case m h c)
      (ap (λ o. is_unmet o (h.done c.to) c.most) b.from ∙ ap (λ o. is_unmet (Some b.begun) o c.most) b.to
      ∙ lt-int_lt (c.most +ℤ pos b.begun) (pos b.ended) b.unmet)
      (and_from (is_plain (full_label m c)) (allows h (full_label m c))
      ((plain_both m good c has).1 (plain_from_holds b.case (full_label m c) b.in_force))
      (allows_true h (full_label m c) (holds_allows h (full_label m c) b.case b.agrees b.in_force)))

  pub broken_both : IsTrue (is_broken_by m h c) ↔ IsBrokenBy m h c
  broken_both = (told_broken, broken_told)

-- ---- none is broken

none_passes : {X : Type 0} (p : X → Bool) (xs : List X) → ((x : X) → Contains xs x → p x ≡ false) → filter p xs ≡ []
none_passes p xs fails =
    filter_agree_on p (λ x. false) xs (All-weaker (Contains xs) (λ x. p x ≡ false) fails xs (All-contains_itself xs))
    ∙ filter_nothing (λ x. false) xs (λ x. refl)

-- where the history can go on
pub none_broken : (m : Labelled) (h : History) → IsLabelled m → IsHistory m h → Can m h → broken_ids m h ≡ []
none_broken m h good known can =
    ap (map (λ (c : Constraint). c.id)) (none_passes (is_broken_by m h) m.base.constraints
    (λ c has. false_from_ne_true (is_broken_by m h c) (λ broken. broken_stuck m h c has (told_broken m h good known c has broken) can)))

-- where what was broken is removed
module _ (m : Labelled) (h : History) where
  abbrev ids : List ℕ
  ids = broken_ids m h

  abbrev kept : List Constraint
  kept = filter (λ c. not (is_of ids c.id)) m.base.constraints

  still : (c : Constraint) → is_broken_by (with_these m kept) h c ≡ is_broken_by m h c
  still c =
      let same = completed_same m kept (joined c.label (joined (label_of m c.from) (label_of m c.to))) in
      ap (λ (a : Label). is_unmet (h.done c.from) (h.done c.to) c.most && (is_plain a && allows h a)) same

  one_left : (c : Constraint) → Contains kept c → is_broken_by (with_these m kept) h c ≡ false
  one_left c has =
      let inside = filter_contained (λ (d : Constraint). not (is_of ids d.id)) m.base.constraints c has in
      let other = contained_passes (λ (d : Constraint). not (is_of ids d.id)) m.base.constraints c has in
      still c ∙ false_from_ne_true (is_broken_by m h c) (λ broken.
      let listed = contains_map (λ (d : Constraint). d.id) (filter (is_broken_by m h) m.base.constraints) c
      (filter_contains (is_broken_by m h) m.base.constraints c inside broken) in
      let one : is_of ids c.id ≡ true = of_contains ids c.id listed in
      let not_one : not (is_of ids c.id) ≡ false = ap not one in
      both_ways (not (is_of ids c.id)) not_one other)

  pub none_left : broken_ids (network_alone m (λ i. not (is_of ids i))) h ≡ []
  none_left = ap (map (λ (c : Constraint). c.id)) (none_passes (is_broken_by (with_these m kept) h) kept one_left)
