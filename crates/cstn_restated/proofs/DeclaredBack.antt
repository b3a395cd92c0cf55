-- The steps of a network declare its time-points.
use Rattle.std.proofs.Common.{◌≡◌, ℕ, zero, suc, ◌<◌, Bool, true, false, not, List, [], ◌∷◌, ◌++◌, length, take, refl, ap, sym, ◌∙◌, subst, arith, Option, Some, None}
use Rattle.std.specs.Prelude.{◌==◌, All, slice_index_or, codes, Result, Ok, pos, if◌then◌else◌}
use Rattle.std.specs.Option.{option_map}
use Rattle.std.proofs.lemmas.List.{length-map, get_or-map}
use Rattle.std.proofs.lemmas.Option.{get_or_from_slice_get}
use Rattle.std.proofs.lemmas.List.Elements.{All-nil, All-cons, All-append}
use Rattle.cstn_label.proofs.LetterLemmas.{letter_back}
use Rattle.cstn_net.specs.Networks.{Network, IsWellFormed, count}
use Rattle.cstn_lift.specs.Labelled.{Labelled, label_in}
use Rattle.cstn_text.specs.Names.{IsName, number_of}
use Rattle.cstn_graphml.specs.DrawnGraph.{Observation}
use Rattle.cstn_graphml.specs.Document.{or_nothing}
use Rattle.cstn_save.specs.Names.{AreNamesOf}
use Rattle.cstn_save.specs.Canonical.{observation_by, timed_observations}
use Rattle.cstn_sentences.specs.Results.{◌>>?◌, holds_or}
use Rattle.cstn_sentences.specs.Refusals.{PlanRefusal, stands_twice}
use Rattle.cstn_sentences.specs.declared.declarations.Meant.{Meant}
use Rattle.cstn_sentences.specs.Lines.{step}
use Rattle.cstn_sentences.specs.Declarations.{Declared, nothing_declared, is_origin, is_declared, step_observation, with_observed, are_new_literals, with_point, with_step, words_with, declare_step}
use Rattle.cstn_sentences.specs.Printed.{step_words}
use Rattle.cstn_sentences.specs.Sentences.{ticks, literals_of_label, observed_of, step_observed, step_of, has_step, steps_below}
use Rattle.cstn_restated.proofs.LabelsBack.{all_new}
use Rattle.cstn_restated.proofs.NamesBack.{take_next, origin_is, no_origin, new_name}
use Rattle.cstn_restated.proofs.LinesBack.{texts, texts_more, Declares, declares_none, declares_line, declares_both}
use Rattle.cstn_sentences.proofs.WrittenSteps.{point_back}

-- ---- one step

with_words : (n : ℕ) (reaction : ℕ → ℕ) (o : Option ℕ) (words : List Meant) → with_observed n (option_map (observed_of reaction) o) words ≡ Ok words
with_words n reaction None words = refl
with_words n reaction (Some p) words = refl

words_kept : (n : ℕ) (m : Labelled) (names : List (List ℕ)) (x : ℕ) (words : List Meant) → words_with n (step_of m names x) words ≡ Ok words
words_kept n m names x words =
    ap (λ (r : Result (List Meant) PlanRefusal). r >>? λ more. are_new_literals n [] (literals_of_label (label_in m.labels x)) >>? λ same. Ok more)
    (with_words n m.base.reaction (slice_index_or m.base.observes x None) words)
    ∙ ap (λ (r : Result (Unit {0}) PlanRefusal). r >>? λ same. Ok words) (all_new n (label_in m.labels x))

step_declared : (n : ℕ) (m : Labelled) (names : List (List ℕ)) (x : ℕ) (d : Declared) → is_declared (slice_index_or names x []) d ≡ false
    → declare_step n (step_of m names x) d ≡ Ok (with_step (slice_index_or names x []) (step_observation (step_observed m.base x)) d)
step_declared n m names x d new =
    let name : List ℕ = slice_index_or names x [] in
    let observed : Option Observation = step_observation (step_observed m.base x) in
    ap (λ (b : Bool). holds_or (not b) (stands_twice n name) >>? λ once. words_with n (step_of m names x) d.words
    >>? λ words. Ok (with_step name observed (record d { words = words }))) new
    ∙ ap (λ (r : Result (List Meant) PlanRefusal). r >>? λ words. Ok (with_step name observed (record d { words = words }))) (words_kept n m names x d.words)

-- ---- what is observed

back_by : (net : Network) (x : ℕ) (o : Option ℕ) → IsWellFormed net → slice_index_or net.observes x None ≡ o
    → step_observation (option_map (observed_of net.reaction) o) ≡ observation_by net.reaction o
back_by net x None well e = refl
back_by net x (Some p) well e =
    ap (option_map (λ (q : ℕ). let o : Observation = record { prop = q; reaction = net.reaction p } in o))
    (letter_back p (well.letters x p (record { what = e })))

-- what a step says of what its time-point observes
observed_back : (net : Network) (x : ℕ) → IsWellFormed net → x < count net
    → step_observation (step_observed net x) ≡ slice_index_or (timed_observations net) x None
observed_back net x well inside =
    back_by net x (slice_index_or net.observes x None) well refl ∙ sym (get_or-map (observation_by net.reaction) net.observes x None None inside)

-- ---- all steps

-- the first n + 1 time-points are declared, and the deadline
pub record IsDeclared (names : List (List ℕ)) (observes : List (Option Observation)) (deadline n : ℕ) (d : Declared) : Type 0 where
  pub deadline_is : d.deadline ≡ Some (ticks (pos deadline))
  pub start_is : d.start ≡ None
  pub names_are : d.names ≡ take (suc n) names
  pub no_tasks : All (λ b. b ≡ false) d.begins_task
  pub observes_are : or_nothing d.origin ∷ d.observes ≡ take (suc n) observes

-- the deadline is declared
abbrev pub begun : ℕ → Declared
begun deadline = record nothing_declared { deadline = Some (ticks (pos deadline)) }

-- the first time-points of a network are declared by their steps
pub record DeclaresFirst (m : Labelled) (names : List (List ℕ)) (n : ℕ) : Type 0 where
  pub all : Declared
  pub are : IsDeclared names (timed_observations m.base) m.base.deadline n all
  pub declares : Declares (begun m.base.deadline) (texts step_words (steps_below m names (suc n))) all

sized : (m : Labelled) (names : List (List ℕ)) (n : ℕ) → AreNamesOf m.base names → n < count m.base
    → (n < length names) × (n < length (timed_observations m.base))
sized m names n is inside = (omega (arith, is.each, inside), omega (arith, inside, length-map m.base.observes (observation_by m.base.reaction)))

-- the first name is the origin's
pub first_named : (m : Labelled) (names : List (List ℕ)) → AreNamesOf m.base names → slice_index_or names 0 [] ≡ codes "Z"
first_named m names is = get_or_from_slice_get names 0 (codes "Z") [] is.origin

first_shape : (m : Labelled) (names : List (List ℕ)) (seen : Option (Option Observation)) → IsWellFormed m.base → AreNamesOf m.base names
    → or_nothing seen ≡ step_observation (step_observed m.base 0)
    → IsDeclared names (timed_observations m.base) m.base.deadline 0 (record (begun m.base.deadline) { origin = seen })
first_shape m names seen well is same =
    let net : Network = m.base in
    let inside = sized m names 0 is well.network.origin in
    record {
      deadline_is = refl;
      start_is = refl;
      names_are = sym (take_next names 0 [] inside.0 ∙ ap (λ (x : List ℕ). x ∷ []) (first_named m names is));
      no_tasks = All-cons (λ b. b ≡ false) false [] refl (All-nil (λ b. b ≡ false));
      observes_are = ap (λ (o : Option Observation). o ∷ []) (same ∙ observed_back net 0 well well.network.origin)
          ∙ sym (take_next (timed_observations net) 0 None inside.1);
    }

origin_declared : (m : Labelled) (names : List (List ℕ)) (o : Option ℕ) → slice_index_or m.base.observes 0 None ≡ o → IsWellFormed m.base
    → AreNamesOf m.base names → DeclaresFirst m names 0
unfolding steps_below
origin_declared m names None e well is =
    let d : Declared = begun m.base.deadline in
    record {
      all = d;
      are = first_shape m names None well is (rw e refl);
      declares = rw e (declares_none d);
    }
origin_declared m names (Some p) e well is =
    let d : Declared = begun m.base.deadline in
    let observed : Option Observation = step_observation (step_observed m.base 0) in
    let name : List ℕ = slice_index_or names 0 [] in
    let origin : is_origin name ≡ true = origin_is names (first_named m names is) in
    let more : Declared = record d { origin = Some observed } in
    let step_is : with_step name observed d ≡ more = rw origin refl in
    let new : is_declared name d ≡ false = rw origin refl in
    let has : has_step m.base 0 ≡ true = rw e refl in
    let named : IsName name = is.named.each 0 [] (sized m names 0 is well.network.origin).0 in
    let line : Declares d (texts step_words (step_of m names 0 ∷ [])) more =
    declares_line d more (step_words (step_of m names 0)) (step (step_of m names 0)) (point_back m names 0 well named)
    (λ n. step_declared n m names 0 d new ∙ ap (λ (x : Declared). Ok x) step_is) in
    record {
      all = more;
      are = first_shape m names (Some observed) well is refl;
      declares = subst (λ (b : Bool). Declares d (texts step_words (if b then step_of m names 0 ∷ [] else [])) more) (sym has) line;
    }

-- each time-point after the origin has a step
pub later_has : (net : Network) (n : ℕ) → has_step net (suc n) ≡ true
later_has net n = let later : (suc n == 0) ≡ false = grind arith in rw later refl

later_declared : (m : Labelled) (names : List (List ℕ)) (n : ℕ) → IsWellFormed m.base → AreNamesOf m.base names → suc n < count m.base
    → DeclaresFirst m names n → DeclaresFirst m names (suc n)
unfolding steps_below
later_declared m names n well is inside so =
    let net : Network = m.base in
    let d : Declared = so.all in
    let name : List ℕ = slice_index_or names (suc n) [] in
    let observed : Option Observation = step_observation (step_observed net (suc n)) in
    let inside_both = sized m names (suc n) is inside in
    let other : is_origin name ≡ false = no_origin names n is.named (first_named m names is) inside_both.0 in
    let unknown : number_of d.names name ≡ None =
    ap (λ (ns : List (List ℕ)). number_of ns name) so.are.names_are ∙ new_name names (suc n) is.named inside_both.0 in
    let new : is_declared name d ≡ false = rw (other, unknown) refl in
    let more : Declared = with_point name false observed d in
    let step_is : with_step name observed d ≡ more = rw other refl in
    let first : List (List ℕ) = texts step_words (steps_below m names (suc n)) in
    let line : Declares d (texts step_words (step_of m names (suc n) ∷ [])) more =
    declares_line d more (step_words (step_of m names (suc n))) (step (step_of m names (suc n)))
    (point_back m names (suc n) well (is.named.each (suc n) [] inside_both.0))
    (λ k. step_declared k m names (suc n) d new ∙ ap (λ (x : Declared). Ok x) step_is) in
    let lines : texts step_words (steps_below m names (suc (suc n))) ≡ first ++ texts step_words (step_of m names (suc n) ∷ []) =
    texts_more step_words (steps_below m names (suc n)) (if has_step net (suc n) then step_of m names (suc n) ∷ [] else [])
    ∙ ap (λ (b : Bool). first ++ texts step_words (if b then step_of m names (suc n) ∷ [] else [])) (later_has net n) in
    record {
      all = more;
      are = record {
        deadline_is = so.are.deadline_is;
        start_is = so.are.start_is;
        names_are = ap (λ (ns : List (List ℕ)). ns ++ (name ∷ [])) so.are.names_are ∙ sym (take_next names (suc n) [] inside_both.0);
        no_tasks = All-append (λ b. b ≡ false) d.begins_task (false ∷ []) so.are.no_tasks (All-cons (λ b. b ≡ false) false [] refl (All-nil (λ b. b ≡ false)));
        observes_are =
            ap (λ (os : List (Option Observation)). os ++ (observed ∷ [])) so.are.observes_are
            ∙ ap (λ (o : Option Observation). take (suc n) (timed_observations net) ++ (o ∷ [])) (observed_back net (suc n) well inside)
            ∙ sym (take_next (timed_observations net) (suc n) None inside_both.1);
      };
      declares = subst (λ (ls : List (List ℕ)). Declares (begun net.deadline) ls more) (sym lines)
          (declares_both (begun net.deadline) d more first (texts step_words (step_of m names (suc n) ∷ [])) so.declares line);
    }

-- the first n + 1 time-points are declared by their steps
pub first_declared : (m : Labelled) (names : List (List ℕ)) (n : ℕ) → IsWellFormed m.base → AreNamesOf m.base names → n < count m.base → DeclaresFirst m names n
first_declared m names zero well is inside = origin_declared m names (slice_index_or m.base.observes 0 None) refl well is
first_declared m names (suc n) well is inside = later_declared m names n well is inside (first_declared m names n well is (omega (arith, inside)))
