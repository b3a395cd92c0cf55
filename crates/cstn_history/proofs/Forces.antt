-- The constraints of the rest, and where they are in force.
use Rattle.std.proofs.Common.{ℕ, ◌≡◌, ◌⊎◌, inl, inr, ◌+◌, ◌<◌, ◌++◌, ◌∷◌, [], length, Bool, true, false, List, Some, None, refl, sym, subst, ap, ◌∙◌}
use Rattle.std.specs.Prelude.{ℤ, if◌then◌else◌, not, ◌&&◌}
use Rattle.std.specs.List.{Contains, filter_map}
use Rattle.std.specs.Option.{is_some}
use Rattle.std.proofs.Math.Path.{fun_ext}
use Rattle.std.proofs.lemmas.List.Elements.{All-contains, All-contains_itself, All-weaker, Contains-append_left, Contains-append_right, Contains-append_cases}
use Rattle.cstn_facts.proofs.Members.{filter_map_contains, filter_map_from}
use Rattle.cstn_label.specs.Labels.{Scenario, Holds, empty, joined}
use Rattle.cstn_label.proofs.LabelLemmas.{within_itself, holds_within, joined_empty}
use Rattle.cstn_net.specs.Networks.{Constraint, IsConstraint, count}
use Rattle.cstn_lift.specs.Labelled.{Labelled, label_of}
use Rattle.cstn_lift.specs.Completion.{completed, completed_label, full_label}
use Rattle.cstn_lift.specs.WellFormed.{IsLabelled}
use Rattle.cstn_lift.specs.Strategies.{IsInForce}
use Rattle.cstn_lift.specs.Lowered.{numbered}
use Rattle.cstn_lift.proofs.CompletionLemmas.{completed_least}
use Rattle.cstn_lift.proofs.ListLemmas.{numbered_all, numbered_append, numbered_contains, numbered_length}
use Rattle.cstn_lift.proofs.Equivalent.{full_from, full_to}
use Rattle.cstn_history.specs.Histories.{History, IsHistory, allows, label_left, IsAllowed}
use Rattle.cstn_history.specs.Rest.{number_left, end_left, moved, is_over, constraint_left, bare, late, watched, coming, added, rest}
use Rattle.cstn_history.proofs.Settled.{some_or_none, allows_true, allows_back, allows_within, left_told, left_untold, left_joined, as_told, holds_left, holds_back, settles_absent}
use Rattle.cstn_history.proofs.Places.{left_coming, label_new}
use Rattle.cstn_history.proofs.Labels.{label_absent, completed_left}

-- a constraint under an id comes from one of the list
pub numbered_from : (k : ℕ) (cs : List Constraint) (d : Constraint) → Contains (numbered k cs) d →
    (e : Constraint) × Contains cs e × (d ≡ record e { id = d.id })
numbered_from k cs d has =
    let P : Constraint → Type 0 = λ f. (e : Constraint) × Contains cs e × (f ≡ record e { id = f.id }) in
    All-contains P (numbered k cs) d (numbered_all P k cs
    (All-weaker (Contains cs) (λ c. (id : ℕ) → P (record c { id = id })) (λ c among id. (c, among, refl)) cs (All-contains_itself cs))) has

-- one constraint more is numbered behind the others
pub numbered_more : (k : ℕ) (cs : List Constraint) (e : Constraint) → numbered k (cs ++ e ∷ []) ≡ numbered k cs ++ record e { id = k + length cs } ∷ []
numbered_more k cs e = numbered_append k cs (e ∷ [])

pub numbered_long : (k : ℕ) (cs : List Constraint) → length (numbered k cs) ≡ length cs
numbered_long k cs = numbered_length k cs

module _ (m : Labelled) (h : History) (fresh : ℕ) (good : IsLabelled m) (known : IsHistory m h) where
  abbrev R : Labelled
  R = rest m h fresh

  -- of a time-point that is done, the label names only what is told
  pub done_empty : (x t : ℕ) → h.done x ≡ Some t → label_left h (label_of m x) ≡ empty
  done_empty x t e = fun_ext (λ q. elim (some_or_none (h.told q)) [
    | inl told ↦ left_told h (label_of m x) q told.0 told.1
    | inr none ↦
        left_untold h (label_of m x) q none
        ∙ label_absent m h fresh good known x q (settles_absent h (completed_label m x) q (known.settled x t e) none)
  ])

  pub origin_empty : label_of R 0 ≡ empty
  origin_empty = label_new m h fresh good known 0 good.base.network.origin refl ∙ done_empty 0 0 known.origin

  pub end_done : (x t : ℕ) → h.done x ≡ Some t → end_left m h x ≡ 0
  end_done x t e = ap (λ o. if is_some o then 0 else number_left m h x) e

  pub end_coming : (x : ℕ) → h.done x ≡ None → end_left m h x ≡ number_left m h x
  end_coming x e = ap (λ o. if is_some o then 0 else number_left m h x) e

  pub end_label : (x : ℕ) → x < count m.base → IsAllowed h (completed_label m x) → label_of R (end_left m h x) ≡ label_left h (label_of m x)
  end_label x here all = elim (some_or_none (h.done x)) [
    | inl done ↦ ap (label_of R) (end_done x done.0 done.1) ∙ origin_empty ∙ sym (done_empty x done.0 done.1)
    | inr none ↦ ap (label_of R) (end_coming x none) ∙ label_new m h fresh good known x here (left_coming m h fresh good known x none all)
  ]

  ends_within : (c : Constraint) → Contains m.base.constraints c → IsConstraint m.base c
  ends_within c has = All-contains (IsConstraint m.base) m.base.constraints c good.base.network.constraints has

  -- the full label of what is left of a constraint is its full label without what is told
  pub full_left : (c : Constraint) → Contains m.base.constraints c → IsAllowed h (full_label m c) →
      full_label R (moved m h c) ≡ label_left h (full_label m c)
  full_left c has all =
      let ends = ends_within c has in
      let from = end_label c.from ends.from (allows_within h (completed_label m c.from) (full_label m c) (full_from m good c) all) in
      let to = end_label c.to ends.to (allows_within h (completed_label m c.to) (full_label m c) (full_to m good c) all) in
      ap (λ l. completed R (joined (label_left h c.label) (joined l (label_of R (end_left m h c.to))))) from
      ∙ ap (λ l. completed R (joined (label_left h c.label) (joined (label_left h (label_of m c.from)) l))) to
      ∙ ap (λ l. completed R (joined (label_left h c.label) l)) (sym (left_joined h (label_of m c.from) (label_of m c.to)))
      ∙ ap (completed R) (sym (left_joined h c.label (joined (label_of m c.from) (label_of m c.to))))
      ∙ completed_left m h fresh good known (joined c.label (joined (label_of m c.from) (label_of m c.to))) all

  -- so it is in force in the same scenarios
  pub force_left : (c : Constraint) (s : Scenario) → Contains m.base.constraints c → IsAllowed h (full_label m c) →
      IsInForce m (as_told h s) c → IsInForce R s (moved m h c)
  force_left c s has all force = subst (Holds s) (sym (full_left c has all)) (holds_left h (full_label m c) s force)

  pub force_back : (c : Constraint) (s : Scenario) → Contains m.base.constraints c → IsAllowed h (full_label m c) →
      IsInForce R s (moved m h c) → IsInForce m (as_told h s) c
  force_back c s has all force = holds_back h (full_label m c) s all (subst (Holds s) (full_left c has all) force)

  -- a constraint that isn't over and that what is told allows is left
  pub constraint_kept : (c : Constraint) → Contains m.base.constraints c → IsAllowed h (full_label m c) → is_over h c ≡ false →
      Contains R.base.constraints (moved m h c)
  constraint_kept c has all over =
      let given : constraint_left m h c ≡ Some (moved m h c) =
      ap (λ b. if b && not (is_over h c) then Some (moved m h c) else None) (allows_true h (full_label m c) all)
      ∙ ap (λ b. if not b then Some (moved m h c) else None) over in
      Contains-append_left (filter_map (constraint_left m h) m.base.constraints) (numbered fresh (added m h))
      (moved m h c) (filter_map_contains (constraint_left m h) m.base.constraints c (moved m h c) has given)

  added_kept : (d : Constraint) → Contains (added m h) d →
      (id : ℕ) × Contains R.base.constraints (record d { id = id })
  added_kept d has =
      let under = numbered_contains fresh (added m h) d has in (
        under.0,
        Contains-append_right (filter_map (constraint_left m h) m.base.constraints)
            (numbered fresh (added m h)) (record d { id = under.0 }) under.1,
      )

  pub late_kept : (d : Constraint) → Contains (late m h) d → (id : ℕ) × Contains R.base.constraints (record d { id = id })
  late_kept d has = added_kept d (Contains-append_left (late m h) (watched m h ++ coming m h) d has)

  pub watched_kept : (d : Constraint) → Contains (watched m h) d → (id : ℕ) × Contains R.base.constraints (record d { id = id })
  watched_kept d has =
      added_kept d (Contains-append_right (late m h) (watched m h ++ coming m h) d (Contains-append_left (watched m h) (coming m h) d has))

  pub coming_kept : (d : Constraint) → Contains (coming m h) d → (id : ℕ) × Contains R.base.constraints (record d { id = id })
  coming_kept d has =
      added_kept d (Contains-append_right (late m h) (watched m h ++ coming m h) d (Contains-append_right (watched m h) (coming m h) d has))

  -- d is what is left of a constraint that what is told allows
  abbrev pub IsMoved : Constraint → Type 0
  IsMoved d = (c : Constraint) × Contains m.base.constraints c × IsAllowed h (full_label m c) × (d ≡ moved m h c)

  left_given : (c : Constraint) → Contains m.base.constraints c → (d : Constraint) (a b : Bool) → allows h (full_label m c) ≡ a →
      is_over h c ≡ b → (if a && not b then Some (moved m h c) else None) ≡ Some d → IsMoved d
  left_given c has d true false e f is =
      let same : moved m h c ≡ d = cc in
      (c, has, allows_back m h good known (full_label m c) e, sym same)
  left_given c has d true true e f is = absurd (cc)
  left_given c has d false b e f is = absurd (cc)

  moved_from : (d : Constraint) → Contains (filter_map (constraint_left m h) m.base.constraints) d → IsMoved d
  moved_from d has =
      let from = filter_map_from (constraint_left m h) m.base.constraints d has in
      left_given from.0 from.1 d (allows h (full_label m from.0)) (is_over h from.0) refl refl from.2

  -- d is one of these constraints, under some id
  abbrev pub IsAmong : List Constraint → Constraint → Type 0
  IsAmong cs d = (e : Constraint) × Contains cs e × (d ≡ record e { id = d.id })

  -- where a constraint of the rest comes from
  pub constraint_from : (d : Constraint) → Contains R.base.constraints d →
      IsMoved d ⊎ (IsAmong (late m h) d ⊎ (IsAmong (watched m h) d ⊎ IsAmong (coming m h) d))
  constraint_from d has = elim (Contains-append_cases (filter_map (constraint_left m h) m.base.constraints)
      (numbered fresh (added m h)) d has) [
        | inl of ↦ inl (moved_from d of)
        | inr more ↦
            let from = numbered_from fresh (added m h) d more in
            inr (elim (Contains-append_cases (late m h) (watched m h ++ coming m h) from.0 from.1) [
              | inl a ↦ inl (from.0, a, from.2)
              | inr others ↦ inr (elim (Contains-append_cases (watched m h) (coming m h) from.0 others) [
                | inl b ↦ inl (from.0, b, from.2)
                | inr c ↦ inr (from.0, c, from.2)
              ])
            ])
      ]

  empty_holds : (s : Scenario) → Holds s (completed R empty)
  empty_holds s = holds_within s (completed R empty) empty
      (completed_least R empty empty (within_itself empty) (λ x p o marked. absurd (marked refl))) (λ p. tt)

  -- a bare constraint between time-points without labels is always in force
  pub bare_force : (k l : ℕ) (most : ℤ) (s : Scenario) → label_of R k ≡ empty → label_of R l ≡ empty → IsInForce R s (bare k l most)
  bare_force k l most s e f =
      subst (Holds s) (sym (ap (λ a. completed R (joined empty (joined a (label_of R l)))) e ∙ ap (λ b. completed R (joined empty (joined empty b))) f))
      (empty_holds s)

  -- a bare constraint from a time-point to the origin is in force where the time-point is executed
  pub bare_full : (k : ℕ) (most : ℤ) → full_label R (bare k 0 most) ≡ completed_label R k
  bare_full k most =
      ap (λ b. completed R (joined empty (joined (label_of R k) b))) origin_empty ∙ ap (completed R) (joined_empty (label_of R k))
