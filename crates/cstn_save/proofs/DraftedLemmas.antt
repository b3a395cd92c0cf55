-- The draft of all time-points has their names and timed_observations, and finds each name at its number.
use Rattle.std.proofs.Common.{◌≡◌, ◌≢◌, ℕ, zero, suc, ◌+◌, ◌<◌, ◌≤◌, List, [], ◌∷◌, ◌++◌, length, take, refl, ap, sym, ◌∙◌, arith, Bool, true, false, append_assoc, append-nil, subst, map, length-take}
use Rattle.std.specs.Prelude.{Option, Some, None, codes, nat_lt, nat_le, ◌&&◌, slice_index_or}
use Rattle.std.specs.List.{AllPairs, position, position_or_len}
use Rattle.std.specs.Str.{bytes_eq}
use Rattle.std.proofs.lemmas.Bool.{false_from_ne_true}
use Rattle.std.proofs.lemmas.List.{take_more, take_all, get_or-take}
use Rattle.std.proofs.lemmas.List.Sums.{position_or_len_is}
use Rattle.std.proofs.lemmas.Slice.Eq.{bytes_eq-Decides}
use Rattle.cstn_facts.proofs.Booleans.{bytes_same}
use Rattle.cstn_net.specs.Networks.{Constraint}
use Rattle.cstn_markup.specs.Bytes.{is_same}
use Rattle.cstn_graphml.specs.DrawnGraph.{Observation, DrawnGraph, node_of, with_node, with_drawn_constraint}
use Rattle.cstn_save.proofs.WholeLemmas.{drafted, IsInReach}
use Rattle.cstn_save.proofs.EdgeLemmas.{with_all}
use Rattle.cstn_label.specs.Labels.{Label, empty}
use Rattle.cstn_lift.specs.Labelled.{label_in}
use Rattle.cstn_save.specs.ReadBack.{without_its_id}
use Rattle.cstn_save.proofs.ReadBackLemmas.{begun}

differ : (xs ys : List ℕ) → xs ≢ ys → bytes_eq xs ys ≡ false
differ xs ys h = false_from_ne_true (bytes_eq xs ys) (λ e. h ((bytes_eq-Decides xs ys).0 e))

-- the names are different and of 1 to 64 bytes, the first is `Z`, and each has its observation and its label
pub record AreGiven (names : List (List ℕ)) (observes : List (Option Observation)) (labels : List Label) : Type 0 where
  pub sized : (i : ℕ) → i < length names → (nat_lt 0 (length (slice_index_or names i [])) && nat_le (length (slice_index_or names i [])) 64) ≡ true
  pub different : AllPairs (λ a b. a ≢ b) names
  pub origin : slice_index_or names 0 [] ≡ codes "Z"
  pub each : length names ≡ length observes
  pub labelled : length names ≡ length labels
  pub some : 0 < length names
  pub props : (i : ℕ) → i < length observes → IsInReach (slice_index_or observes i None)

other_name : (names : List (List ℕ)) (observes : List (Option Observation)) (labels : List Label) (i j : ℕ) → AreGiven names observes labels → i < j → j < length names → bytes_eq (slice_index_or names j []) (slice_index_or names i []) ≡ false
other_name names observes labels i j given h k = differ _ _ (λ e. given.different i j [] h k (sym e))

no_origin : (names : List (List ℕ)) (observes : List (Option Observation)) (labels : List Label) (j : ℕ) → AreGiven names observes labels → 0 < j → j < length names → is_same (slice_index_or names j []) (codes "Z") ≡ false
no_origin names observes labels j given h k = subst (λ (x : List ℕ). is_same (slice_index_or names j []) x ≡ false) given.origin (other_name names observes labels 0 j given h k)

more : {X : Type 0} → (xs : List X) (i : ℕ) (d : X) → i < length xs → take (suc i) xs ≡ take i xs ++ slice_index_or xs i d ∷ []
more xs i d h = let e : suc i ≡ i + 1 = omega arith in ap (λ k. take k xs) e ∙ take_more xs i d h

-- the draft of the first n + 1 time-points
pub record IsShaped (names : List (List ℕ)) (observes : List (Option Observation)) (labels : List Label) (deadline n : ℕ) (d : DrawnGraph) : Type 0 where
  pub deadline_is : d.deadline ≡ Some deadline
  pub origin_is : d.origin ≡ Some (slice_index_or observes 0 None)
  pub names_are : d.names ≡ take (suc n) names
  pub observes_are : slice_index_or observes 0 None ∷ d.observes ≡ take (suc n) observes
  pub labels_are : d.origin_label ∷ d.labels ≡ take (suc n) labels
  pub none : d.constraints ≡ []

later_node : (name : List ℕ) (o : Option Observation) (a : Label) (d : DrawnGraph) → is_same name (codes "Z") ≡ false → with_node name o a d ≡ record d { names = d.names ++ (name ∷ []); observes = d.observes ++ (o ∷ []); labels = d.labels ++ (a ∷ []) }
later_node name o a d h = rw h refl

pub shaped : (names : List (List ℕ)) (observes : List (Option Observation)) (labels : List Label) (deadline at n : ℕ) → AreGiven names observes labels → n < length names → IsShaped names observes labels deadline n (drafted names observes labels (begun deadline at) (suc n))
unfolding drafted
shaped names observes labels deadline at zero given h =
    let o : Option Observation = slice_index_or observes 0 None in
    let ends : 0 < length observes = omega (arith, given.each) in
    let last : 0 < length labels = omega (arith, given.labelled) in
    subst (λ (x : List ℕ). IsShaped names observes labels deadline 0 (with_node x o (label_in labels 0) (begun deadline at))) (sym given.origin)
    (record {
      deadline_is = refl;
      origin_is = refl;
      names_are = sym (more names 0 [] h ∙ ap (λ (x : List ℕ). x ∷ []) given.origin);
      observes_are = sym (more observes 0 None ends);
      labels_are = sym (more labels 0 empty last);
      none = refl;
    })
shaped names observes labels deadline at (suc n) given h =
    let name : List ℕ = slice_index_or names (suc n) [] in
    let o : Option Observation = slice_index_or observes (suc n) None in
    let d : DrawnGraph = drafted names observes labels (begun deadline at) (suc n) in
    let so = shaped names observes labels deadline at n given (omega arith) in
    let ends : suc n < length observes = omega (arith, given.each) in
    let last : suc n < length labels = omega (arith, given.labelled) in
    let a : Label = label_in labels (suc n) in
    subst (λ (x : DrawnGraph). IsShaped names observes labels deadline (suc n) x) (sym (later_node name o a d (no_origin names observes labels (suc n) given (omega arith) h)))
    (record {
      deadline_is = so.deadline_is;
      origin_is = so.origin_is;
      names_are = ap (λ (x : List (List ℕ)). x ++ (name ∷ [])) so.names_are ∙ sym (more names (suc n) [] h);
      observes_are = ap (λ (x : List (Option Observation)). x ++ (o ∷ [])) so.observes_are ∙ sym (more observes (suc n) None ends);
      labels_are = ap (λ (x : List Label). x ++ (a ∷ [])) so.labels_are ∙ sym (more labels (suc n) empty last);
      none = so.none;
    })

later_of : (name : List ℕ) (d : DrawnGraph) → is_same name (codes "Z") ≡ false → node_of name d ≡ position (bytes_eq name) d.names
later_of name d h = rw h refl

found_at : (p : List ℕ → Bool) (xs : List (List ℕ)) (i : ℕ) → i < length xs → position_or_len p xs ≡ i → position p xs ≡ Some i
found_at p xs i h e = let t : nat_lt i (length xs) ≡ true = grind arith in rw (e, t) refl

found_none : (p : List ℕ → Bool) (xs : List (List ℕ)) → position_or_len p xs ≡ length xs → position p xs ≡ None
found_none p xs e = let t : nat_lt (length xs) (length xs) ≡ false = grind arith in rw (e, t) refl

-- the name of a time-point is new to the draft of the time-points before it
pub fresh : (names : List (List ℕ)) (observes : List (Option Observation)) (labels : List Label) (deadline at i : ℕ) → AreGiven names observes labels → i < length names → node_of (slice_index_or names i []) (drafted names observes labels (begun deadline at) i) ≡ None
unfolding drafted
fresh names observes labels deadline at zero given h = subst (λ (x : List ℕ). node_of x (begun deadline at) ≡ None) (sym given.origin) refl
fresh names observes labels deadline at (suc n) given h =
    let name : List ℕ = slice_index_or names (suc n) [] in
    let d : DrawnGraph = drafted names observes labels (begun deadline at) (suc n) in
    let so = shaped names observes labels deadline at n given (omega arith) in
    let size : length (take (suc n) names) ≡ suc n = length-taken (suc n) names (omega arith) in
    later_of name d (no_origin names observes labels (suc n) given (omega arith) h)
    ∙ ap (position (bytes_eq name)) so.names_are
    ∙ found_none (bytes_eq name) (take (suc n) names)
    (position_or_len_is (bytes_eq name) (take (suc n) names) (length (take (suc n) names)) [] (omega arith)
    (λ k below. let low : k < suc n = omega (arith, size, below) in
    ap (bytes_eq name) (get_or-take (suc n) names k [] low) ∙ other_name names observes labels k (suc n) given low h)
    (λ below. absurd (omega (arith, below))))
  where
    length-taken : (m : ℕ) (xs : List (List ℕ)) → m ≤ length xs → length (take m xs) ≡ m
    length-taken m xs h = omega (arith, length-take m xs)

-- each name is found at its number in the draft of all time-points
pub found : (names : List (List ℕ)) (observes : List (Option Observation)) (labels : List Label) (deadline n i : ℕ) (d : DrawnGraph) → AreGiven names observes labels → suc n ≡ length names → IsShaped names observes labels deadline n d → i < length names → node_of (slice_index_or names i []) d ≡ Some i
found names observes labels deadline n zero d given all so h = subst (λ (x : List ℕ). node_of x d ≡ Some 0) (sym given.origin) (rw so.origin_is refl)
found names observes labels deadline n (suc i) d given all so h =
    let name : List ℕ = slice_index_or names (suc i) [] in
    later_of name d (no_origin names observes labels (suc i) given (omega arith) h)
    ∙ ap (position (bytes_eq name)) (so.names_are ∙ take_all (suc n) names (omega (arith, all)))
    ∙ found_at (bytes_eq name) names (suc i) h
    (position_or_len_is (bytes_eq name) names (suc i) [] (omega arith) (λ k below. other_name names observes labels k (suc i) given below h) (λ below. bytes_same name))

-- constraints are put behind those of the draft
pub with_all_is : (cs : List Constraint) (d : DrawnGraph) → with_all cs d ≡ record d { constraints = d.constraints ++ map without_its_id cs }
unfolding with_all
with_all_is [] d = rw (append-nil d.constraints) refl
with_all_is (c ∷ cs) d = with_all_is cs (with_drawn_constraint (without_its_id c) d) ∙ rw (append_assoc d.constraints (without_its_id c ∷ []) (map without_its_id cs)) refl
