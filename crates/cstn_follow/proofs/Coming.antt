-- The bounds of a plan at time-points that aren't done.
use Rattle.std.proofs.Common.{ℕ, suc, ◌≡◌, ◌+◌, Bool, true, false, List, [], ◌∷◌, ◌++◌, Option, Some, None, max, drop, get_or, arith, refl, sym, ap, ◌∙◌}
use Rattle.std.specs.Prelude.{map, slice_get, slice_index_or, if◌then◌else◌}
use Rattle.std.specs.Option.{option_map}
use Rattle.std.proofs.lemmas.List.{map-append}
use Rattle.std.proofs.Math.Seq.{drop-cons}
use Rattle.std.proofs.lemmas.Option.{slice_get_within, slice_get-get_or}
use Rattle.cstn_label.specs.declared.bounds.Bound.{Bound as ProgramBound}
use Rattle.cstn_label.specs.declared.labels.Label.{Label as Words}
use Rattle.cstn_label.specs.Bounds.{Bound}
use Rattle.cstn_label.specs.Labels.{Label}
use Rattle.cstn_label.specs.Read.{marks}
use Rattle.cstn_plan.specs.Asked.{greatest, moment_of}
use Rattle.cstn_plan.specs.Plans.{the_bounds}
use Rattle.cstn_lift.specs.Labelled.{Labelled}
use Rattle.cstn_history.specs.Histories.{History}
use Rattle.cstn_history.specs.Rest.{is_left, left_upto}
use Rattle.cstn_history.proofs.Lists.{passing_next}
use Rattle.cstn_next.proofs.Filled.{drop_next}
use Rattle.cstn_follow.specs.LeastDeadline.{label_coming, goes_with}

abbrev pub label_read : Option Words → Option Label
label_read o = option_map marks o

-- the bound can hold with the label of its time-point
abbrev pub may_come : List (Option Words) → Bound → Bool
may_come labels b = goes_with (slice_index_or (map label_read labels) b.node None) b.label

-- the latest moment that the bounds from the place k on ask for, from that of those behind it
pub later_more : (labels : List (Option Words)) (bounds : List ProgramBound) (k : ℕ) (b : ProgramBound) (before now : ℕ) → slice_get bounds k ≡ Some b
    → before ≡ greatest (may_come labels) (the_bounds (drop (k + 1) bounds))
    → now ≡ (if goes_with (slice_index_or (map label_read labels) b.node.0 None) (marks b.label) then max (moment_of b.least) before else before)
    → now ≡ greatest (may_come labels) (the_bounds (drop k bounds))
later_more labels bounds k b before now at old new =
    new ∙ ap (λ n. if goes_with (slice_index_or (map label_read labels) b.node.0 None) (marks b.label) then max (moment_of b.least) n else n) old
    ∙ sym (ap (λ l. greatest (may_come labels) (the_bounds l)) (drop_next bounds k b at))

-- the label of the next time-point, where it is left
pub labels_turn : (m : Labelled) (h : History) (old new : List (Option Words)) (x : ℕ) (b : Bool) (o : Option Words)
    → map label_read old ≡ map (label_coming m h) (left_upto m h x) → b ≡ is_left m h x → label_read o ≡ label_coming m h x
    → new ≡ old ++ (if b then o ∷ [] else []) → map label_read new ≡ map (label_coming m h) (left_upto m h (x + 1))
labels_turn m h old new x b o so_far test label is =
    let next : x + 1 ≡ suc x = omega arith in
    ap (map label_read) is ∙ map-append label_read old (if b then o ∷ [] else [])
    ∙ ap (λ l. l ++ map label_read (if b then o ∷ [] else [])) so_far ∙ ap (λ l. map (label_coming m h) (left_upto m h x) ++ l) (one b)
    ∙ sym (map-append (label_coming m h) (left_upto m h x) (if b then x ∷ [] else []))
    ∙ ap (λ t. map (label_coming m h) (left_upto m h x ++ (if t then x ∷ [] else []))) test
    ∙ ap (map (label_coming m h)) (sym (passing_next (is_left m h) x) ∙ ap (left_upto m h) (sym next))
  where
    one : (t : Bool) → map label_read (if t then o ∷ [] else []) ≡ map (label_coming m h) (if t then x ∷ [] else [])
    one true = ap (λ l. l ∷ []) label
    one false = refl
