-- What is printed of a refutation is read again.
use Rattle.std.proofs.Common.{ℕ, ◌≡◌, ◌+◌, ◌-◌, ◌<◌, ◌^◌, true, List, ◌∷◌, ◌++◌, min, arith, refl, sym, ap, subst, ◌∙◌, append_assoc}
use Rattle.std.specs.Prelude.{is_some, if◌then◌else◌, Option, Some, None, codes}
use Rattle.cstn_net.specs.Limits.{most_load}
use Rattle.cstn_rules.specs.declared.entries.Why.{Why}
use Rattle.cstn_rules.specs.declared.entries.Why.TheVariants.{Base, Chain, Wait}
use Rattle.cstn_rules.specs.Derivations.{Entry}
use Rattle.cstn_text.specs.Names.{AreNames}
use Rattle.cstn_text.specs.Numbers.{number_within, printed_number}
use Rattle.cstn_text.specs.Parts.{IsOnePart, part}
use Rattle.cstn_text.specs.PrintedLabels.{printed_label, label_read}
use Rattle.cstn_text.proofs.PartLemmas.{number_part}
use Rattle.cstn_text.proofs.PrintedLabelLemmas.{label_back}
use Rattle.cstn_text.proofs.ReadingLemmas.{word_part, part_back, within_back, IsFree, free, spaced, number_free, u32_back}
use Rattle.cstn_text.proofs.PlaceLemmas.{AreReadBack, listing_back, printed_back}
pub use Rattle.cstn_text.proofs.PlaceLemmas.{listing_grows}
use Rattle.cstn_refute.specs.Steps.{◌>>=◌, places_read, why_read, is_place, rule_read, named_bound_read, step_read, printed_why, printed_step}
use Rattle.cstn_refute.specs.Texts.{tells, refutation_told, refutation_shown}
use Rattle.cstn_refute.specs.Orders.{bound_with, step_with, IsStepLine, IsTextOfSteps}
use Rattle.cstn_refute.specs.Written.{ArePlaces, IsPrintableBound, IsPrintableStep, AreStepsWritten}
use Rattle.cstn_refute.proofs.BoundLemmas.{named_back, bound_free}

places_back : (i j : ℕ) (rest : List ℕ) → i < 2 ^ 32 → j < 2 ^ 32 →
    places_read (printed_number i ++ (32 ∷ printed_number j ++ 32 ∷ rest)) ≡ Some (i, j, rest)
places_back i j rest p q =
    rw (
      part_back (printed_number i) (printed_number j ++ 32 ∷ rest) (number_part i (omega arith)),
      part_back (printed_number j) rest (number_part j (omega arith)),
      u32_back i p,
      u32_back j q,
    ) refl

abbrev rule_of : Option (List ℕ × List ℕ) → Option (Why × List ℕ)
rule_of found = found >>= (λ word. why_read word.0 word.1)

-- a rule with places is read again
placed_back : (word : List ℕ) (i j : ℕ) (rest : List ℕ) (found : ℕ × ℕ × List ℕ → Option (Why × List ℕ)) → IsOnePart word → i < 2 ^ 32 → j < 2 ^ 32 →
    ((bytes : List ℕ) → why_read word bytes ≡ (places_read bytes >>= found)) →
    rule_of (part ((word ++ (32 ∷ printed_number i ++ 32 ∷ printed_number j)) ++ 32 ∷ rest)) ≡ found (i, j, rest)
placed_back word i j rest found is p q reads =
    let tail = printed_number i ++ (32 ∷ printed_number j ++ 32 ∷ rest) in
    ap (λ t. rule_of (part t)) (append_assoc word (32 ∷ printed_number i ++ 32 ∷ printed_number j) (32 ∷ rest)
    ∙ ap (λ t. word ++ 32 ∷ t) (append_assoc (printed_number i) (32 ∷ printed_number j) (32 ∷ rest)))
    ∙ ap rule_of (part_back word tail is)
    ∙ reads tail
    ∙ ap (λ o. o >>= found) (places_back i j rest p q)

word_back : (why : Why) (rest : List ℕ) → ArePlaces why → rule_of (part (printed_why why ++ 32 ∷ rest)) ≡ Some (why, rest)
word_back Base rest is = ap rule_of (part_back (codes "base") rest (word_part (codes "base") (omega arith) refl))
word_back (Chain id i) rest is =
    placed_back (codes "chain") id i rest (λ found. Some (Chain found.0 found.1, found.2)) (word_part (codes "chain") (omega arith) refl) is.0 is.1 (λ bytes. refl)
word_back (Wait i j) rest is =
    placed_back (codes "wait") i j rest (λ found. Some (Wait found.0 found.1, found.2)) (word_part (codes "wait") (omega arith) refl) is.0 is.1 (λ bytes. refl)

least_of : (k : ℕ) → k < most_load → min k (most_load - 1) ≡ k
least_of k small = grind arith

is_place_back : (k : ℕ) → k < most_load → is_place k (printed_number k) ≡ true
is_place_back k small =
    ap (λ high. is_some (number_within k high (printed_number k))) (least_of k small)
    ∙ ap is_some (within_back k k k (omega arith) (omega arith) (omega arith))

rule_back : (k : ℕ) (why : Why) (rest : List ℕ) → k < most_load → ArePlaces why →
    rule_read k (printed_number k ++ (32 ∷ printed_why why ++ 32 ∷ rest)) ≡ Some (why, rest)
rule_back k why rest small is =
    ap (λ (o : Option (List ℕ × List ℕ)). o >>= (λ place. if is_place k place.0 then rule_of (part place.1) else None))
    (part_back (printed_number k) (printed_why why ++ 32 ∷ rest) (number_part k (omega arith)))
    ∙ ap (λ t. if t then rule_of (part (printed_why why ++ 32 ∷ rest)) else None) (is_place_back k small)
    ∙ word_back why rest is

-- a step's line is read again
step_back : (names : List (List ℕ)) (k : ℕ) (e : Entry) (label : List ℕ) → AreNames names → k < most_load → IsPrintableStep names e → label_read label ≡ Some e.bound.label →
    step_read names k (step_with names k e label) ≡ Some e
step_back names k e label are small is read =
    let bound : IsPrintableBound names e.bound = record { node = is.node; low = is.low; high = is.high; marks = is.marks } in
    ap (step_read names k) (append_assoc (printed_number k) (32 ∷ printed_why e.why) (32 ∷ bound_with names e.bound label))
    ∙ ap (λ (o : Option (Why × List ℕ)). o >>= (λ why. named_bound_read names why.1 >>= (λ b. Some (record { bound = b; why = why.0 }))))
    (rule_back k e.why (bound_with names e.bound label) small is.places)
    ∙ ap (λ o. o >>= (λ b. Some (record { bound = b; why = e.why }))) (named_back names e.bound label are bound read)

why_free : (why : Why) → ArePlaces why → IsFree (printed_why why)
why_free Base is = free (codes "base") (word_part (codes "base") (omega arith) refl)
why_free (Chain id i) is =
    spaced (codes "chain") (printed_number id ++ 32 ∷ printed_number i) (free (codes "chain") (word_part (codes "chain") (omega arith) refl))
    (spaced (printed_number id) (printed_number i) (number_free id (omega (arith, is.0))) (number_free i (omega (arith, is.1))))
why_free (Wait i j) is =
    spaced (codes "wait") (printed_number i ++ 32 ∷ printed_number j) (free (codes "wait") (word_part (codes "wait") (omega arith) refl))
    (spaced (printed_number i) (printed_number j) (number_free i (omega (arith, is.0))) (number_free j (omega (arith, is.1))))

step_free : (names : List (List ℕ)) (k : ℕ) (e : Entry) (label : List ℕ) → AreNames names → k < most_load → IsPrintableStep names e → label_read label ≡ Some e.bound.label →
    IsFree (step_with names k e label)
step_free names k e label are small is read =
    spaced (printed_number k ++ 32 ∷ printed_why e.why) (bound_with names e.bound label)
    (spaced (printed_number k) (printed_why e.why) (number_free k (omega arith)) (why_free e.why is.places))
    (bound_free names e.bound label are (record { node = is.node; low = is.low; high = is.high; marks = is.marks }) read)

-- the lines of steps, in any order of marks, are read
steps_read : (names : List (List ℕ)) → AreNames names → AreReadBack most_load (step_read names) (IsPrintableStep names) (IsStepLine names)
steps_read names are = λ k e line small is its.
    let back = ap (step_read names k) its.2 ∙ step_back names k e its.0 are small is its.1 in
    (back, subst IsFree (sym its.2) (step_free names k e its.0 are small is its.1))

-- a text of a load and steps, in any order of marks, says them
pub text_back : (names : List (List ℕ)) (load : ℕ) (steps : List Entry) (text : List ℕ) → AreNames names → AreStepsWritten names load steps → IsTextOfSteps names load steps text →
    refutation_told names text ≡ tells load steps
text_back names load steps text are is lines =
    listing_back (codes "no") most_load (step_read names) (IsPrintableStep names) (IsStepLine names) (word_part (codes "no") (omega arith) refl) (omega arith)
    (steps_read names are) load steps text is lines

-- what is shown of a load and steps says them
pub shown_back : (names : List (List ℕ)) (load : ℕ) (steps : List Entry) → AreNames names → AreStepsWritten names load steps →
    refutation_told names (refutation_shown names load steps) ≡ tells load steps
shown_back names load steps are is =
    printed_back (codes "no") most_load (step_read names) (IsPrintableStep names) (IsStepLine names) (word_part (codes "no") (omega arith) refl) (omega arith)
    (steps_read names are) (printed_step names) (λ k e here. (printed_label e.bound.label, label_back e.bound.label here.marks, refl)) load steps is
