-- Which constraints of a labelled network a no on its lowered network needs.
use Rattle.std.proofs.Common.{ℕ, ◌≡◌, ◌+◌, ◌<◌, ◌≤◌, Bool, true, false, ◌||◌, eqb, List, [], ◌∷◌, ◌++◌, Some, None, length, map, get_or, take, arith, refl, sym}
use Rattle.std.proofs.Common.{ap, ◌∙◌}
use Rattle.std.specs.Prelude.{if◌then◌else◌}
use Rattle.std.specs.List.{Contains, filter_map, cons_option}
use Rattle.std.proofs.lemmas.Bool.{both_ways, or_left, or_parts, eq-eqb, ne_eqb}
use Rattle.std.proofs.lemmas.List.{map-append, length-map, get_or-map}
use Rattle.std.proofs.lemmas.List.Elements.{filter_map-append}
use Rattle.std.proofs.lemmas.List.Folds.{list_any-append}
use Rattle.std.proofs.lemmas.Option.{slice_get_read}
use Rattle.cstn_net.specs.declared.constraints.Constraint.{Constraint as DeclaredConstraint}
use Rattle.cstn_net.specs.Networks.{Network, Constraint}
use Rattle.cstn_net.specs.Read.{the_constraint}
use Rattle.cstn_check.specs.Givers.{is_of}
use Rattle.cstn_check.specs.Needs.{said, Stands}
use Rattle.cstn_check.proofs.Fewer.{map_next}
use Rattle.cstn_lift.specs.Labelled.{Labelled}
use Rattle.cstn_lift.specs.Completion.{full_label}
use Rattle.cstn_lift.specs.Lowered.{is_plain, with_full_label}
use Rattle.cstn_follow.specs.Needs.{HasSources, NeedsNoOther}

-- without constraints whose sources aren't needed a check says no, too
pub settled : (cap : ℕ) (net : Network) (sources numbers needed : List ℕ) → Stands (said cap) net numbers →
    HasSources sources needed numbers → NeedsNoOther cap net sources needed
settled cap net sources numbers needed stands at test idle =
    stands test (λ id need. by id (test id) refl need)
  where
    by : (id : ℕ) (b : Bool) → test id ≡ b → is_of numbers id ≡ true → b ≡ true
    by id true is need = refl
    by id false is need = let none = idle id is in absurd (both_ways (is_of numbers id) (at id none.0 none.1) need)

-- the source at one more number, if it has one, is among those that are found then
module _ (sources found numbers : List ℕ) (number : ℕ) (has : HasSources sources found numbers) where
  more : (k : ℕ) → is_of numbers k ≡ false → (k ≡ number → ⊥) → is_of (numbers ++ number ∷ []) k ≡ false
  more k none other =
      list_any-append (λ j. eqb k j) numbers (number ∷ []) ∙ ap (λ b. b || (eqb k number || false)) none ∙ ap (λ b. false || (b || false)) (ne_eqb k number other)

  pub sources_pushed : (d : ℕ) → d ≡ get_or sources number 0 → HasSources sources (found ++ d ∷ []) (numbers ++ number ∷ [])
  sources_pushed d at k inside none =
      let source = get_or sources k 0 in
      let parts = or_parts (is_of found source) (eqb source d || false) (sym (list_any-append (λ j. eqb source j) found (d ∷ [])) ∙ none) in
      more k (has k inside parts.0)
      (λ same. both_ways (eqb source d || false) parts.1 (or_left (eqb source d) false (eq-eqb source d (ap (λ j. get_or sources j 0) same ∙ sym at))))

  pub sources_same : length sources ≤ number → HasSources sources found (numbers ++ number ∷ [])
  sources_same over k inside none = more k (has k inside none) (λ same. omega arith)

-- ---- the ids of constraints with plain full labels

sourced : (b : Bool) (c d : Constraint) → d.id ≡ c.id →
    map (λ (e : Constraint). e.id) (cons_option (if b then Some d else None) []) ≡ (if b then c.id ∷ [] else [])
sourced true c d is = ap (λ i. i ∷ []) is
sourced false c d is = refl

-- the ids of the first constraints and one more
pub sources_next : (m : Labelled) (cs : List DeclaredConstraint) (k : ℕ) (c : DeclaredConstraint) → k < length cs → c ≡ get_or cs k c →
    map (λ (e : Constraint). e.id) (filter_map (with_full_label m) (map the_constraint (take (k + 1) cs)))
    ≡ map (λ (e : Constraint). e.id) (filter_map (with_full_label m) (map the_constraint (take k cs)))
    ++ (if is_plain (full_label m (the_constraint c)) then c.id ∷ [] else [])
sources_next m cs k c inside here =
    let ids : List Constraint → List ℕ = λ l. map (λ (e : Constraint). e.id) l in
    let first = map the_constraint (take k cs) in
    ap (λ l. ids (filter_map (with_full_label m) l)) (map_next the_constraint cs k c (slice_get_read cs (length cs) k c refl inside here))
    ∙ ap ids (filter_map-append (with_full_label m) first (the_constraint c ∷ []))
    ∙ map-append (λ (e : Constraint). e.id) (filter_map (with_full_label m) first) (filter_map (with_full_label m) (the_constraint c ∷ []))
    ∙ ap (λ l. ids (filter_map (with_full_label m) first) ++ l)
    (sourced (is_plain (full_label m (the_constraint c))) (the_constraint c) (record (the_constraint c) { label = full_label m (the_constraint c) }) refl)

-- an item of the program's constraints is one of the network's
pub constraint_at : (cs : List DeclaredConstraint) (i : ℕ) (c : DeclaredConstraint) → i < length cs → c ≡ get_or cs i c →
    Contains (map the_constraint cs) (the_constraint c)
constraint_at cs i c inside is = (
  i,
  (let long = length-map cs the_constraint in omega arith),
  get_or-map the_constraint cs i c (the_constraint c) inside ∙ ap the_constraint (sym is),
)
