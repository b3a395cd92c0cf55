-- The table of observers, while it is filled.
use Rattle.std.proofs.Common.{◌≡◌, ℕ, ◌+◌, ◌<◌, Bool, true, false, List, [], ◌∷◌, length, refl, ap, sym, ◌∙◌, arith, Option, Some, None}
use Rattle.std.specs.Prelude.{◌==◌, is_some, if◌then◌else◌, slice_index_or, slice_set, replicate, map}
use Rattle.std.specs.Option.{option_or}
use Rattle.std.proofs.lemmas.List.{length-set, get_or-set_same, get_or-set_other, get_or-replicate}
use Rattle.std.proofs.lemmas.Bool.{eqb-true, eqb-false}
use Rattle.cstn_graphml.specs.declared.drawn_graph.Observation.{Observation as Lent}
use Rattle.cstn_graphml.specs.DrawnGraph.{Observation}
use Rattle.cstn_graphml.specs.DrawnGraphLaws.{IsLettered}
use Rattle.cstn_graphml.specs.DrawnGraphSeen.{observed_seen}
use Rattle.cstn_sentences.specs.Meaning.{first_observer}
use Rattle.cstn_sentences.specs.Observers.{with_observer}

-- a time-point more was seen: the table has its observation, unless it has an earlier one
module _ (table : List (Option (ℕ × ℕ))) (q p x reaction : ℕ) (later : Option (ℕ × ℕ)) (low : q < length table) where
  seen_by : (found : Option (ℕ × ℕ)) → slice_index_or table q None ≡ found → (b : Bool) → (q == p) ≡ b
      → option_or (slice_index_or (if is_some found then table else slice_set table q (Some (x, reaction))) p None) later
      ≡ option_or (slice_index_or table p None) (if b then Some (x, reaction) else later)
  seen_by (Some y) e false f = refl
  seen_by (Some y) e true f =
      let here : slice_index_or table p None ≡ Some y = ap (λ (k : ℕ). slice_index_or table k None) (sym (eqb-true q p f)) ∙ e in
      ap (λ (o : Option (ℕ × ℕ)). option_or o later) here ∙ ap (λ (o : Option (ℕ × ℕ)). option_or o (Some (x, reaction))) (sym here)
  seen_by None e false f = ap (λ (o : Option (ℕ × ℕ)). option_or o later) (get_or-set_other table q p (Some (x, reaction)) None (λ same. eqb-false q p f (sym same)))
  seen_by None e true f =
      let same = eqb-true q p f in
      let put : slice_index_or (slice_set table q (Some (x, reaction))) p None ≡ Some (x, reaction) =
      ap (λ (k : ℕ). slice_index_or (slice_set table q (Some (x, reaction))) k None) (sym same) ∙ get_or-set_same table q (Some (x, reaction)) None low in
      let free : slice_index_or table p None ≡ None = ap (λ (k : ℕ). slice_index_or table k None) (sym same) ∙ e in
      ap (λ (o : Option (ℕ × ℕ)). option_or o later) put ∙ ap (λ (o : Option (ℕ × ℕ)). option_or o (Some (x, reaction))) (sym free)

pub seen_more : (table : List (Option (ℕ × ℕ))) (p x : ℕ) (o : Option Observation) (later : List (Option Observation)) → length table ≡ 52 → IsLettered o
    → option_or (slice_index_or (with_observer x o table) p None) (first_observer p (x + 1) later) ≡ option_or (slice_index_or table p None) (first_observer p x (o ∷ later))
seen_more table p x None later long low = refl
seen_more table p x (Some o) later long low =
    seen_by table o.prop p x o.reaction (first_observer p (x + 1) later) (omega (arith, long, low)) (slice_index_or table o.prop None) refl (o.prop == p) refl

length_by : (b : Bool) (table : List (Option (ℕ × ℕ))) (q : ℕ) (x : Option (ℕ × ℕ)) → length (if b then table else slice_set table q x) ≡ length table
length_by true table q x = refl
length_by false table q x = length-set table q x

-- the table stays as long
pub same_length : (table : List (Option (ℕ × ℕ))) (x : ℕ) (o : Option Observation) → length (with_observer x o table) ≡ length table
same_length table x None = refl
same_length table x (Some o) = length_by (is_some (slice_index_or table o.prop None)) table o.prop (Some (x, o.reaction))

-- what the program observes has a letter
pub seen_lettered : (o : Option Lent) → IsLettered (observed_seen o)
seen_lettered None = tt
seen_lettered (Some o) = o.prop.in_range

-- no observer at first
none_seen : (p : ℕ) (later : Option (ℕ × ℕ)) → p < 52 → option_or (slice_index_or (replicate 52 None) p None) later ≡ later
none_seen p later low = ap (λ (o : Option (ℕ × ℕ)). option_or o later) (get_or-replicate 52 p None None low)

-- the origin's observation is put in first
pub origin_seen : (table : List (Option (ℕ × ℕ))) (p : ℕ) (o : Option Lent) (later : List (Option Observation)) → table ≡ with_observer 0 (observed_seen o) (replicate 52 None) → p < 52
    → option_or (slice_index_or table p None) (first_observer p 1 later) ≡ first_observer p 0 (observed_seen o ∷ later)
origin_seen table p o later is low =
    ap (λ (t : List (Option (ℕ × ℕ))). option_or (slice_index_or t p None) (first_observer p 1 later)) is
    ∙ seen_more (replicate 52 None) p 0 (observed_seen o) later refl (seen_lettered o) ∙ none_seen p (first_observer p 0 (observed_seen o ∷ later)) low

no_more : (o : Option (ℕ × ℕ)) → option_or o None ≡ o
no_more None = refl
no_more (Some x) = refl

-- all were seen
pub all_seen : (table : List (Option (ℕ × ℕ))) (p x : ℕ) (left : List (Option Lent)) (first : Option (ℕ × ℕ)) → length left ≡ 0
    → option_or (slice_index_or table p None) (first_observer p x (map observed_seen left)) ≡ first → slice_index_or table p None ≡ first
all_seen table p x [] first none e = sym (no_more (slice_index_or table p None)) ∙ e
all_seen table p x (o ∷ left) first none e = absurd (omega (arith, none))
