-- What the form of a rule means.
use Rattle.std.proofs.Common.{◌≡◌, ℕ, zero, suc, ◌<◌, Bool, true, false, List, [], ◌∷◌, ◌++◌, length, refl, ap, ◌∙◌, arith, Option, Some, None}
use Rattle.std.specs.Prelude.{◌&&◌, All, slice_index_or, flat_map, Result, Ok, ℤ, pos, ◌+ℤ◌, int_le}
use Rattle.std.specs.List.{list_all}
use Rattle.std.proofs.lemmas.Int.{ints}
use Rattle.std.proofs.lemmas.List.Elements.{All-head, All-tail}
use Rattle.cstn_label.specs.Labels.{Label}
use Rattle.cstn_text.specs.Names.{AreNames, number_of}
use Rattle.cstn_text.proofs.NameLemmas.{found_back}
use Rattle.cstn_graphml.specs.DrawnGraph.{DrawnConstraint}
use Rattle.cstn_sentences.specs.Results.{◌>>?◌, some_or, holds_or}
use Rattle.cstn_sentences.specs.Refusals.{PlanRefusal, out_of_range, no_name}
use Rattle.cstn_sentences.specs.declared.bounds.Bounds.{Bounds}
use Rattle.cstn_sentences.specs.declared.lines.Side.TheVariants.{Alone}
use Rattle.cstn_sentences.specs.declared.lines.Says.{Says}
use Rattle.cstn_sentences.specs.Lines.{rule}
use Rattle.cstn_sentences.specs.Judged.{is_sized}
use Rattle.cstn_sentences.specs.Declarations.{Declared}
use Rattle.cstn_sentences.specs.Meaning.{Meaning, side_of, point_in, Moment_after, moments_in, label_meant, bounds_of, is_of_end, since_origin, are_in_order, are_sized_from, at_least, at_most, constraints_of, with_rule, mean}
use Rattle.cstn_sentences.specs.Sentences.{literals_of_label, since_of, rule_of}
use Rattle.cstn_restated.proofs.LabelsBack.{IsWritable, label_back}

-- ---- time-points

-- what is declared has these names, no task and no clock
pub record HasNames (names : List (List ℕ)) (d : Declared) : Type 0 where
  pub are : AreNames names
  pub names_are : d.names ≡ names
  pub start_is : d.start ≡ None
  pub no_tasks : All (λ b. b ≡ false) d.begins_task

no_task : (tasks : List Bool) (k : ℕ) → All (λ b. b ≡ false) tasks → slice_index_or tasks k false ≡ false
no_task [] k all = refl
no_task (b ∷ tasks) zero all = All-head (λ b. b ≡ false) b tasks all
no_task (b ∷ tasks) (suc k) all = no_task tasks k (All-tail (λ b. b ≡ false) b tasks all)

-- a name is that of its time-point
point_back : (n : ℕ) (d : Declared) (names : List (List ℕ)) (is_end : Bool) (x : ℕ) → HasNames names d → x < length names
    → point_in n d is_end (record { name = slice_index_or names x []; side = Alone }) ≡ Ok x
point_back n d names is_end x has inside =
    let name : List ℕ = slice_index_or names x [] in
    let number : number_of d.names name ≡ Some x = ap (λ (ns : List (List ℕ)). number_of ns name) has.names_are ∙ found_back names x has.are inside in
    ap (λ (o : Option ℕ). some_or o (no_name n name)
    >>? λ k. some_or (side_of Alone is_end k (slice_index_or d.begins_task k false)) (no_name n name)) number
    ∙ ap (λ (b : Bool). some_or (side_of Alone is_end x b) (no_name n name)) (no_task d.begins_task x has.no_tasks)

-- the moments of the time-points that a rule counts from
abbrev pub after_of : Option ℕ → List Moment_after
after_of None = []
after_of (Some y) = (y, pos 0) ∷ []

-- the time-point that a rule counts from has a name, if it counts from one
abbrev pub IsInside : List (List ℕ) → Option ℕ → Type 0
IsInside names None = Unit {0}
IsInside names (Some y) = y < length names

moments_back : (n : ℕ) (d : Declared) (names : List (List ℕ)) (y : Option ℕ) → HasNames names d → IsInside names y
    → moments_in n d (since_of names y) ≡ Ok (after_of y)
moments_back n d names None has inside = refl
moments_back n d names (Some y) has inside =
    ap (λ (r : Result ℕ PlanRefusal). (r >>? λ x. Ok (x, pos 0)) >>? λ m. moments_in n d [] >>? λ ms. Ok (m ∷ ms)) (point_back n d names true y has inside)

-- ---- rules

-- the form of a rule of x means these constraints
pub record IsForm (x : ℕ) (says : Says) (y : Option ℕ) (label : Label) (cs : List DrawnConstraint) : Type 0 where
  pub ordered : are_in_order (bounds_of None says).least (bounds_of None says).most ≡ true
  pub sized : list_all (are_sized_from (bounds_of None says)) (since_origin says (after_of y)) ≡ true
  pub drawn : flat_map (constraints_of x (bounds_of None says) label) (since_origin says (after_of y)) ≡ cs

-- the meaning with a rule of x, by its bounds, moments and label
abbrev meant_by : ℕ → ℕ → Says → Meaning → Bounds → Result (List Moment_after) PlanRefusal → Result Label PlanRefusal → Result Meaning PlanRefusal
meant_by n x says m b moments label =
    holds_or (are_in_order b.least b.most) (out_of_range n) >>? λ ordered.
    moments >>? λ ms.
    label >>? λ a.
    holds_or (list_all (are_sized_from b) (since_origin says ms)) (out_of_range n) >>? λ sized.
    Ok (with_rule x b a (since_origin says ms) m)

-- a rule of a form means its constraints
pub rule_meant : (n : ℕ) (d : Declared) (m : Meaning) (names : List (List ℕ)) (x : ℕ) (says : Says) (y : Option ℕ) (label : Label) (cs : List DrawnConstraint)
    → HasNames names d → x < length names → IsInside names y → IsWritable label → IsForm x says y label cs
    → mean n d m (rule (rule_of names x says y label)) ≡ Ok (record m { constraints = m.constraints ++ cs })
rule_meant n d m names x says y label cs has inside since writable form =
    let b : Bounds = bounds_of None says in
    let ms : List Moment_after = since_origin says (after_of y) in
    let moments : Result (List Moment_after) PlanRefusal = moments_in n d (since_of names y) in
    let labelled : Result Label PlanRefusal = label_meant n d (literals_of_label label) in
    ap (λ (r : Result ℕ PlanRefusal). r >>? λ z. meant_by n z says m (bounds_of d.start says) moments labelled)
    (point_back n d names (is_of_end says) x has inside)
    ∙ ap (λ (first : Option ℤ). meant_by n x says m (bounds_of first says) moments labelled) has.start_is
    ∙ ap (λ (r : Result (List Moment_after) PlanRefusal). meant_by n x says m b r labelled) (moments_back n d names y has since)
    ∙ ap (λ (r : Result Label PlanRefusal). meant_by n x says m b (Ok (after_of y)) r) (label_back n d label writable)
    ∙ ap (λ (t : Bool). holds_or t (out_of_range n) >>? λ ordered. holds_or (list_all (are_sized_from b) ms) (out_of_range n)
    >>? λ sized. Ok (with_rule x b label ms m)) form.ordered
    ∙ ap (λ (t : Bool). holds_or t (out_of_range n) >>? λ sized. Ok (with_rule x b label ms m)) form.sized
    ∙ ap (λ (more : List DrawnConstraint). Ok (record m { constraints = m.constraints ++ more })) form.drawn

-- ---- bounds

plus_none : (a : ℤ) → a +ℤ pos 0 ≡ a
plus_none a = grind (arith, ints)

one_sized : (a : ℤ) → is_sized a ≡ true → (is_sized (a +ℤ pos 0) && true) ≡ true
one_sized a h = rw (plus_none a, h) refl

both_sized : (a b : ℤ) → is_sized a ≡ true → is_sized b ≡ true → ((is_sized (a +ℤ pos 0) && is_sized (b +ℤ pos 0)) && true) ≡ true
both_sized a b h k = rw (plus_none a, plus_none b, h, k) refl

-- at least a and at most b after y
pub both_form : (x y : ℕ) (says : Says) (to : Option ℕ) (label : Label) (a b : ℤ) → bounds_of None says ≡ record { least = Some a; most = Some b }
    → since_origin says (after_of to) ≡ (y, pos 0) ∷ []
    → is_sized a ≡ true → is_sized b ≡ true → int_le a b ≡ true → IsForm x says to label (at_least x y a label ∷ at_most x y b label ∷ [])
both_form x y says to label a b bounds since first last order =
    let within : Bounds = record { least = Some a; most = Some b } in
    record {
      ordered = ap (λ (v : Bounds). are_in_order v.least v.most) bounds ∙ order;
      sized =
          ap (λ (v : Bounds). list_all (are_sized_from v) (since_origin says (after_of to))) bounds ∙ ap (list_all (are_sized_from within)) since
          ∙ both_sized a b first last;
      drawn =
          ap (λ (v : Bounds). flat_map (constraints_of x v label) (since_origin says (after_of to))) bounds
          ∙ ap (flat_map (constraints_of x within label)) since
          ∙ ap (λ (v : ℤ). at_least x y v label ∷ at_most x y (b +ℤ pos 0) label ∷ []) (plus_none a)
          ∙ ap (λ (v : ℤ). at_least x y a label ∷ at_most x y v label ∷ []) (plus_none b);
    }

-- at least a after y
pub least_form : (x y : ℕ) (says : Says) (to : Option ℕ) (label : Label) (a : ℤ) → bounds_of None says ≡ record { least = Some a; most = None }
    → since_origin says (after_of to) ≡ (y, pos 0) ∷ []
    → is_sized a ≡ true → IsForm x says to label (at_least x y a label ∷ [])
least_form x y says to label a bounds since first =
    let within : Bounds = record { least = Some a; most = None } in
    record {
      ordered = ap (λ (v : Bounds). are_in_order v.least v.most) bounds;
      sized =
          ap (λ (v : Bounds). list_all (are_sized_from v) (since_origin says (after_of to))) bounds ∙ ap (list_all (are_sized_from within)) since
          ∙ ap (λ (t : Bool). t && true) (one_sized a first);
      drawn =
          ap (λ (v : Bounds). flat_map (constraints_of x v label) (since_origin says (after_of to))) bounds
          ∙ ap (flat_map (constraints_of x within label)) since
          ∙ ap (λ (v : ℤ). at_least x y v label ∷ []) (plus_none a);
    }

-- at most b after y
pub most_form : (x y : ℕ) (says : Says) (to : Option ℕ) (label : Label) (b : ℤ) → bounds_of None says ≡ record { least = None; most = Some b }
    → since_origin says (after_of to) ≡ (y, pos 0) ∷ []
    → is_sized b ≡ true → IsForm x says to label (at_most x y b label ∷ [])
most_form x y says to label b bounds since last =
    let within : Bounds = record { least = None; most = Some b } in
    record {
      ordered = ap (λ (v : Bounds). are_in_order v.least v.most) bounds;
      sized =
          ap (λ (v : Bounds). list_all (are_sized_from v) (since_origin says (after_of to))) bounds ∙ ap (list_all (are_sized_from within)) since
          ∙ one_sized b last;
      drawn =
          ap (λ (v : Bounds). flat_map (constraints_of x v label) (since_origin says (after_of to))) bounds
          ∙ ap (flat_map (constraints_of x within label)) since
          ∙ ap (λ (v : ℤ). at_most x y v label ∷ []) (plus_none b);
    }
