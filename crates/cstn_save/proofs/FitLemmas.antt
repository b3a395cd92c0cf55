-- The labelled network that is read back has no fault.
use Rattle.std.proofs.Common.{◌≡◌, ℕ, zero, suc, ◌+◌, ◌≤◌, Bool, true, false, List, [], ◌∷◌, ◌++◌, length, refl, ap, sym, ◌∙◌, arith, subst, map}
use Rattle.std.specs.Prelude.{Option, Some, None, is_some, option_map, if◌then◌else◌}
use Rattle.std.specs.List.{cons_option, filter_map, flat_map, range_with_len}
use Rattle.std.proofs.Math.Path.{fun_ext}
use Rattle.std.proofs.lemmas.List.{length-append}
use Rattle.cstn_label.specs.Marks.{is_marked}
use Rattle.cstn_label.specs.Labels.{Label, IsPlain, joined}
use Rattle.cstn_net.specs.Limits.{most_constraints}
use Rattle.cstn_net.specs.Networks.{Network, Constraint, IsWellFormed}
use Rattle.cstn_lift.specs.declared.errors.LiftError.{LiftError}
use Rattle.cstn_lift.specs.Labelled.{Labelled, label_in}
use Rattle.cstn_lift.specs.Completion.{brought_by, joined_upto, rounds, completed}
use Rattle.cstn_lift.specs.WellFormed.{IsLabelled}
use Rattle.cstn_lift.specs.Lowered.{is_plain, with_full_label, full_constraints, guard, guards_of, guards, lowered, observer_of}
use Rattle.cstn_lift.specs.Faults.{HasLiftFault}
use Rattle.cstn_net.specs.Read.{first_reaction}
use Rattle.cstn_graphml.specs.Networks.{numbered_drawn, labelled_of, IsFit, observed_prop, observed_reaction}
use Rattle.cstn_save.specs.Canonical.{timed_observations}
use Rattle.cstn_save.specs.ReadBack.{without_its_id, parts}
use Rattle.cstn_save.proofs.SameLemmas.{props_back, well_formed_back}
use Rattle.cstn_lift.proofs.ListLemmas.{numbered_length}

cons_length : {X : Type 0} → (a b : Option X) (xs ys : List X) → is_some a ≡ is_some b → length xs ≡ length ys → length (cons_option a xs) ≡ length (cons_option b ys)
cons_length None None xs ys e h = h
cons_length None (Some b) xs ys e h = absurd (cc)
cons_length (Some a) None xs ys e h = absurd (cc)
cons_length (Some a) (Some b) xs ys e h = ap suc h

-- as many are kept, where the same ones are
filter_map_length : {X Y : Type 0} → (f g : X → Option Y) → ((x : X) → is_some (f x) ≡ is_some (g x)) → (xs : List X) → length (filter_map f xs) ≡ length (filter_map g xs)
filter_map_length f g same [] = refl
filter_map_length f g same (x ∷ xs) = cons_length (f x) (g x) (filter_map f xs) (filter_map g xs) (same x) (filter_map_length f g same xs)

flat_map_length : {X Y : Type 0} → (f g : X → List Y) → ((x : X) → length (f x) ≡ length (g x)) → (xs : List X) → length (flat_map f xs) ≡ length (flat_map g xs)
flat_map_length f g same [] = refl
flat_map_length f g same (x ∷ xs) = omega (arith, length-append (f x) (flat_map f xs), length-append (g x) (flat_map g xs), same x, flat_map_length f g same xs)

kept_by : (a b : Bool) (c d : Constraint) → a ≡ b → is_some (if a then Some c else None) ≡ is_some (if b then Some d else None)
kept_by true true c d e = refl
kept_by true false c d e = absurd (cc)
kept_by false true c d e = absurd (cc)
kept_by false false c d e = refl

guarded_by : (b : Bool) (o : Option ℕ) (f g : ℕ → Constraint) → is_some (if b then option_map f o else None) ≡ is_some (if b then option_map g o else None)
guarded_by true (Some j) f g = refl
guarded_by true None f g = refl
guarded_by false o f g = refl

-- A labelled network, and the one that is read back: with other reactions, and with its constraints numbered anew.
module _ (deadline : ℕ) (os : List (Option ℕ)) (r s : ℕ → ℕ) (ds : List Constraint) (ls : List Label) where
  abbrev pub written : Labelled
  written = record { base = record { deadline = deadline; observes = os; reaction = s; constraints = ds }; labels = ls }

  abbrev pub read : Labelled
  read = record { base = record { deadline = deadline; observes = os; reaction = r; constraints = numbered_drawn 0 (map without_its_id ds) }; labels = ls }

  joined_same : (n : ℕ) (a : Label) → joined_upto read n a ≡ joined_upto written n a
  joined_same zero a = refl
  joined_same (suc x) a = ap (λ (b : Label). joined b (brought_by read x a)) (joined_same x a)

  rounds_same : (n : ℕ) (a : Label) → rounds read n a ≡ rounds written n a
  rounds_same zero a = refl
  rounds_same (suc n) a = ap (joined_upto read (length os)) (rounds_same n a) ∙ joined_same (length os) (rounds written n a)

  -- labels are completed alike
  completed_same : (a : Label) → completed read a ≡ completed written a
  completed_same a = rounds_same (length os) a

  full_same : (c : Constraint) (id : ℕ) → is_some (with_full_label read (record c { id = id })) ≡ is_some (with_full_label written c)
  full_same c id = kept_by _ _ _ _ (ap is_plain (completed_same (joined c.label (joined (label_in ls c.from) (label_in ls c.to)))))

  -- as many constraints are kept
  kept_count : (id : ℕ) (cs : List Constraint) → length (filter_map (with_full_label read) (numbered_drawn id (map without_its_id cs))) ≡ length (filter_map (with_full_label written) cs)
  kept_count id [] = refl
  kept_count id (c ∷ cs) = cons_length _ _ _ _ (full_same c id) (kept_count (id + 1) cs)

  waits_count : (x : ℕ) (a : Label) → length (guards_of read.base x a) ≡ length (guards_of written.base x a)
  unfolding guards_of
  waits_count x a = filter_map_length (guard read.base x a) (guard written.base x a) (λ p. guarded_by (is_marked (a p)) (observer_of read.base p) _ _) (range_with_len 0 52)

  -- each time-point waits for as many propositions
  guards_count : length (guards read) ≡ length (guards written)
  guards_count =
      ap (λ (f : Label → Label). length (flat_map (λ x. guards_of read.base x (label_in (map f ls) x)) (range_with_len 0 (length os)))) (fun_ext completed_same)
      ∙ flat_map_length (λ x. guards_of read.base x (label_in (map (completed written) ls) x)) (λ x. guards_of written.base x (label_in (map (completed written) ls) x))
      (λ x. waits_count x (label_in (map (completed written) ls) x)) (range_with_len 0 (length os))

  pub lowered_count : length (lowered read).constraints ≡ length (lowered written).constraints
  lowered_count = omega (
    arith,
    numbered_length 0 (full_constraints read ++ guards read),
    numbered_length 0 (full_constraints written ++ guards written),
    length-append (full_constraints read) (guards read),
    length-append (full_constraints written) (guards written),
    kept_count 0 ds,
    guards_count,
  )

  pub labelled_alike : IsWellFormed read.base → IsLabelled written → IsLabelled read
  labelled_alike base good = record {
    base = base;
    one_each = good.one_each;
    origin = good.origin;
    plain = good.plain;
    observed = λ x inside p marked. let o = good.observed x inside p marked in (o.0, record { what = o.1.what });
    no_circle = λ x p o. ap (λ (a : Label). a p) (completed_same (label_in ls x)) ∙ good.no_circle x p (record { what = o.what });
    completed_plain = λ x inside. subst IsPlain (sym (completed_same (label_in ls x))) (good.completed_plain x inside);
  }

-- a labelled network is without a fault where it has few enough constraints once it is lowered
abbrev pub HasNoFault : Labelled → Type 0
HasNoFault m = IsLabelled m → length (lowered m).constraints ≤ most_constraints → (e : LiftError) → HasLiftFault m e → ⊥

-- what is read back of a labelled network makes a labelled network
pub fit_back : (m : Labelled) (names : List (List ℕ)) → ((n : Labelled) → HasNoFault n) → IsLabelled m → IsWellFormed (lowered m) → IsFit (parts m names)
fit_back m names law good small =
    let net : Network = m.base in
    let back : ℕ → ℕ = first_reaction observed_prop observed_reaction (timed_observations net) in
    let n : List (Option ℕ) → Labelled = λ os. read net.deadline os back net.reaction net.constraints m.labels in
    let Fits : List (Option ℕ) → Type 0 = λ os. IsWellFormed (n os).base → IsLabelled (n os) × (length (lowered (n os)).constraints ≤ most_constraints) in
    let here : Fits net.observes = λ base. (
      labelled_alike net.deadline net.observes back net.reaction net.constraints m.labels base good,
      omega (arith, lowered_count net.deadline net.observes back net.reaction net.constraints m.labels, small.few_constraints),
    ) in
    let both = subst Fits (sym (props_back net.reaction net.observes)) here (well_formed_back m names good.base) in
    record { labelled = both.0; faultless = law (labelled_of (parts m names)) both.0 both.1 }
