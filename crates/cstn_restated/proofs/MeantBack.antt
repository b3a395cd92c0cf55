-- The steps of a network mean the labels of its time-points.
use Rattle.std.proofs.Common.{◌≡◌, ℕ, zero, suc, ◌<◌, Bool, true, List, [], ◌∷◌, ◌++◌, length, take, refl, ap, sym, ◌∙◌, subst, arith, inl, inr, Option, Some, None}
use Rattle.std.specs.Prelude.{slice_index_or, Result, Ok, if◌then◌else◌}
use Rattle.cstn_label.specs.Labels.{Label, empty}
use Rattle.cstn_label.specs.OnLetters.{IsOnLetters}
use Rattle.cstn_label.proofs.MarkLemmas.{absent_or_not}
use Rattle.cstn_net.specs.Networks.{Network, IsWellFormed, IsOnObserved, count}
use Rattle.cstn_lift.specs.Labelled.{Labelled, label_in}
use Rattle.cstn_lift.specs.WellFormed.{IsLabelled}
use Rattle.cstn_text.specs.Names.{IsName}
use Rattle.cstn_save.specs.Names.{AreNamesOf}
use Rattle.cstn_sentences.specs.Results.{◌>>?◌}
use Rattle.cstn_sentences.specs.Refusals.{PlanRefusal}
use Rattle.cstn_sentences.specs.Lines.{step}
use Rattle.cstn_sentences.specs.Declarations.{Declared}
use Rattle.cstn_sentences.specs.Meaning.{Meaning, nothing_meant, with_label, mean}
use Rattle.cstn_sentences.specs.Printed.{step_words}
use Rattle.cstn_sentences.specs.Sentences.{step_of, has_step, steps_below}
use Rattle.cstn_restated.proofs.LabelsBack.{IsWritable, label_back}
use Rattle.cstn_restated.proofs.NamesBack.{take_next, origin_is, no_origin}
use Rattle.cstn_restated.proofs.LinesBack.{texts, texts_more, Means, means_none, means_line, means_both}
use Rattle.cstn_restated.proofs.DeclaredBack.{first_named, later_has}
use Rattle.cstn_sentences.proofs.WrittenSteps.{point_back}

-- ---- labels

-- a label of observed propositions alone is of the 52 letters
pub on_letters : (net : Network) (a : Label) → IsWellFormed net → IsOnObserved net a → IsOnLetters a
on_letters net a well observed p high = elim (absent_or_not (a p)) [
  | inl absent ↦ absent
  | inr marked ↦ let seen = observed p marked in absurd (omega (arith, high, well.letters seen.0 p seen.1))
]

-- the label of a time-point can be written
pub point_writable : (m : Labelled) (x : ℕ) → IsLabelled m → x < count m.base → IsWritable (label_in m.labels x)
point_writable m x good inside = record { plain = good.plain x inside; letters = on_letters m.base (label_in m.labels x) good.base (good.observed x inside) }

-- ---- steps

step_meant : (n : ℕ) (d : Declared) (m : Labelled) (names : List (List ℕ)) (x : ℕ) (before : Meaning) → IsWritable (label_in m.labels x)
    → mean n d before (step (step_of m names x)) ≡ Ok (with_label (slice_index_or names x []) (label_in m.labels x) before)
step_meant n d m names x before is =
    ap (λ (r : Result Label PlanRefusal). r >>? λ label. Ok (with_label (slice_index_or names x []) label before)) (label_back n d (label_in m.labels x) is)

-- the labels of the first n + 1 time-points are meant
pub record AreMeant (labels : List Label) (n : ℕ) (m : Meaning) : Type 0 where
  pub labels_are : m.origin_label ∷ m.labels ≡ take (suc n) labels
  pub none : m.constraints ≡ []

-- the steps of the first n + 1 time-points mean their labels
pub record MeansFirst (m : Labelled) (names : List (List ℕ)) (d : Declared) (n : ℕ) : Type 0 where
  pub all : Meaning
  pub are : AreMeant m.labels n all
  pub means : Means d nothing_meant (texts step_words (steps_below m names (suc n))) all

in_names : (m : Labelled) (names : List (List ℕ)) (n : ℕ) → AreNamesOf m.base names → n < count m.base → n < length names
in_names m names n is inside = omega (arith, is.each, inside)

in_labels : (m : Labelled) (n : ℕ) → IsLabelled m → n < count m.base → n < length m.labels
in_labels m n good inside = omega (arith, good.one_each, inside)

origin_meant : (m : Labelled) (names : List (List ℕ)) (d : Declared) (o : Option ℕ) → slice_index_or m.base.observes 0 None ≡ o → IsLabelled m
    → AreNamesOf m.base names → MeansFirst m names d 0
unfolding steps_below
origin_meant m names d None e good is =
    record {
      all = nothing_meant;
      are = record {
        labels_are = ap (λ (a : Label). a ∷ []) (sym good.origin) ∙ sym (take_next m.labels 0 empty (in_labels m 0 good good.base.network.origin));
        none = refl;
      };
      means = rw e (means_none d nothing_meant);
    }
origin_meant m names d (Some p) e good is =
    let name : List ℕ = slice_index_or names 0 [] in
    let label : Label = label_in m.labels 0 in
    let more : Meaning = record nothing_meant { origin_label = label } in
    let step_is : with_label name label nothing_meant ≡ more = rw (origin_is names (first_named m names is)) refl in
    let has : has_step m.base 0 ≡ true = rw e refl in
    let named : IsName name = is.named.each 0 [] (in_names m names 0 is good.base.network.origin) in
    let line : Means d nothing_meant (texts step_words (step_of m names 0 ∷ [])) more =
    means_line d nothing_meant more (step_words (step_of m names 0)) (step (step_of m names 0)) (point_back m names 0 good.base named)
    (λ n. step_meant n d m names 0 nothing_meant (point_writable m 0 good good.base.network.origin) ∙ ap (λ (x : Meaning). Ok x) step_is) in
    record {
      all = more;
      are = record { labels_are = sym (take_next m.labels 0 empty (in_labels m 0 good good.base.network.origin)); none = refl };
      means = subst (λ (b : Bool). Means d nothing_meant (texts step_words (if b then step_of m names 0 ∷ [] else [])) more) (sym has) line;
    }

later_meant : (m : Labelled) (names : List (List ℕ)) (d : Declared) (n : ℕ) → IsLabelled m → AreNamesOf m.base names → suc n < count m.base
    → MeansFirst m names d n → MeansFirst m names d (suc n)
unfolding steps_below
later_meant m names d n good is inside so =
    let name : List ℕ = slice_index_or names (suc n) [] in
    let label : Label = label_in m.labels (suc n) in
    let before : Meaning = so.all in
    let more : Meaning = record before { labels = before.labels ++ (label ∷ []) } in
    let step_is : with_label name label before ≡ more = rw (no_origin names n is.named (first_named m names is) (in_names m names (suc n) is inside)) refl in
    let one : List (List ℕ) = texts step_words (step_of m names (suc n) ∷ []) in
    let line : Means d before one more =
    means_line d before more (step_words (step_of m names (suc n))) (step (step_of m names (suc n)))
    (point_back m names (suc n) good.base (is.named.each (suc n) [] (in_names m names (suc n) is inside)))
    (λ k. step_meant k d m names (suc n) before (point_writable m (suc n) good inside) ∙ ap (λ (x : Meaning). Ok x) step_is) in
    let lines : texts step_words (steps_below m names (suc (suc n))) ≡ texts step_words (steps_below m names (suc n)) ++ one =
    texts_more step_words (steps_below m names (suc n)) (if has_step m.base (suc n) then step_of m names (suc n) ∷ [] else [])
    ∙ ap (λ (b : Bool). texts step_words (steps_below m names (suc n)) ++ texts step_words (if b then step_of m names (suc n) ∷ [] else []))
    (later_has m.base n) in
    record {
      all = more;
      are = record {
        labels_are = ap (λ (ls : List Label). ls ++ (label ∷ [])) so.are.labels_are ∙ sym (take_next m.labels (suc n) empty (in_labels m (suc n) good inside));
        none = so.are.none;
      };
      means = subst (λ (ls : List (List ℕ)). Means d nothing_meant ls more) (sym lines)
          (means_both d nothing_meant before more (texts step_words (steps_below m names (suc n))) one so.means line);
    }

-- the labels of the first n + 1 time-points are meant by their steps
pub first_meant : (m : Labelled) (names : List (List ℕ)) (d : Declared) (n : ℕ) → IsLabelled m → AreNamesOf m.base names → n < count m.base
    → MeansFirst m names d n
first_meant m names d zero good is inside = origin_meant m names d (slice_index_or m.base.observes 0 None) refl good is
first_meant m names d (suc n) good is inside = later_meant m names d n good is inside (first_meant m names d n good is (omega (arith, inside)))
