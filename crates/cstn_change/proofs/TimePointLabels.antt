-- The labels of the time-points, one after the other.
use Rattle.std.proofs.Common.{ℕ, ◌≡◌, ◌+◌, ◌<◌, ◌≤◌, List, [], ◌∷◌, ◌++◌, length, take, ap, sym, ◌∙◌}
use Rattle.std.specs.Prelude.{map}
use Rattle.std.proofs.lemmas.List.{map-append, take_more, take_all}
use Rattle.cstn_label.specs.declared.labels.Label.{Label as Words}
use Rattle.cstn_label.specs.Labels.{Label, empty}
use Rattle.cstn_label.specs.Read.{marks}
use Rattle.cstn_lift.specs.Labelled.{Labelled, label_of}

-- the label of the next time-point
pub labels_turn : (m : Labelled) (old new : List Words) (a : Words) (x : ℕ) → x < length m.labels → map marks old ≡ take x m.labels
    → marks a ≡ label_of m x → new ≡ old ++ a ∷ [] → map marks new ≡ take (x + 1) m.labels
labels_turn m old new a x inside so_far at is =
    ap (map marks) is ∙ map-append marks old (a ∷ []) ∙ ap (λ l. l ++ marks a ∷ []) so_far ∙ ap (λ (b : Label). take x m.labels ++ b ∷ []) at
    ∙ sym (take_more m.labels x empty inside)

pub labels_end : (m : Labelled) (old : List Words) (x : ℕ) → length m.labels ≤ x → map marks old ≡ take x m.labels → map marks old ≡ m.labels
labels_end m old x far so_far = so_far ∙ take_all x m.labels far
