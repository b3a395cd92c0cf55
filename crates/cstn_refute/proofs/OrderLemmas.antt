-- A text that says a load and steps can be written, and is the printed one, but for the order of marks.
use Rattle.std.proofs.Common.{ℕ, ◌≡◌, ◌-◌, ◌≤◌, Bool, true, false, List, ◌∷◌, ◌++◌, min, arith, refl, sym, ap, ◌∙◌, subst, append_assoc}
use Rattle.std.specs.Prelude.{is_some, if◌then◌else◌, bytes_eq, Option, Some, None, codes}
use Rattle.std.proofs.lemmas.Option.{same_Some}
use Rattle.std.proofs.lemmas.Slice.Eq.{bytes_eq-Decides}
use Rattle.cstn_facts.proofs.Options.{then_read, if_read}
use Rattle.cstn_net.specs.Limits.{most_load}
use Rattle.cstn_rules.specs.declared.entries.Why.{Why}
use Rattle.cstn_rules.specs.declared.entries.Why.TheVariants.{Base, Chain, Wait}
use Rattle.cstn_rules.specs.Derivations.{Entry}
use Rattle.cstn_text.specs.SmallNumbers.{u32_read}
use Rattle.cstn_text.specs.Numbers.{number_within, printed_number}
use Rattle.cstn_text.specs.PrintedLabels.{label_read}
use Rattle.cstn_text.specs.Parts.{part}
use Rattle.cstn_text.proofs.ReadingLemmas.{within_said, part_said}
use Rattle.cstn_text.proofs.PlaceLemmas.{AreSaid, listing_said}
pub use Rattle.cstn_text.proofs.ListingLemmas.{told_first, first_wrong, told_viewed, wrong_viewed, told_last}
use Rattle.cstn_refute.specs.Steps.{◌>>=◌, places_read, chain_read, wait_read, why_read, is_place, rule_read, named_bound_read, step_read, printed_why}
use Rattle.cstn_refute.specs.Texts.{tells, refutation_told}
use Rattle.cstn_refute.specs.Orders.{bound_with, step_with, IsStepLine, IsTextOfSteps}
use Rattle.cstn_refute.specs.Written.{IsPrintableStep, AreStepsWritten}
use Rattle.cstn_refute.proofs.BoundLemmas.{named_said}
use Rattle.cstn_refute.proofs.SaidLemmas.{step_said}

places_text : (bytes : List ℕ) (found : ℕ × ℕ × List ℕ) → places_read bytes ≡ Some found →
    bytes ≡ printed_number found.0 ++ (32 ∷ printed_number found.1 ++ 32 ∷ found.2)
places_text bytes found e =
    let one = then_read (part bytes) _ found e in
    let other = then_read (part one.0.1) _ found one.2 in
    let i = then_read (u32_read one.0.0) _ found other.2 in
    let j = then_read (u32_read other.0.0) _ found i.2 in
    let same : (i.0, j.0, other.0.1) ≡ found = same_Some _ found j.2 in
    subst (λ (f : ℕ × ℕ × List ℕ). bytes ≡ printed_number f.0 ++ (32 ∷ printed_number f.1 ++ 32 ∷ f.2)) same
    (part_said bytes one.0 one.1
    ∙ ap (λ (t : List ℕ). t ++ 32 ∷ one.0.1) (within_said 0 4294967295 one.0.0 i.0 i.1).2
    ∙ ap (λ (t : List ℕ). printed_number i.0 ++ 32 ∷ t) (part_said one.0.1 other.0 other.1
    ∙ ap (λ (t : List ℕ). t ++ 32 ∷ other.0.1) (within_said 0 4294967295 other.0.0 j.0 j.1).2))

-- a word and two places, with what follows
placed : (word : List ℕ) (i j : ℕ) (more : List ℕ) →
    word ++ 32 ∷ (printed_number i ++ (32 ∷ printed_number j ++ 32 ∷ more)) ≡ (word ++ (32 ∷ printed_number i ++ 32 ∷ printed_number j)) ++ 32 ∷ more
placed word i j more =
    sym (append_assoc word (32 ∷ printed_number i ++ 32 ∷ printed_number j) (32 ∷ more)
    ∙ ap (λ (t : List ℕ). word ++ 32 ∷ t) (append_assoc (printed_number i) (32 ∷ printed_number j) (32 ∷ more)))

IsWhyText : List ℕ → List ℕ → Why × List ℕ → Type 0
IsWhyText word rest found = word ++ 32 ∷ rest ≡ printed_why found.0 ++ 32 ∷ found.1

chain_text : (word rest : List ℕ) (found : Why × List ℕ) → bytes_eq word (codes "chain") ≡ true → chain_read rest ≡ Some found → IsWhyText word rest found
unfolding IsWhyText
chain_text word rest found is e =
    let places = then_read (places_read rest) _ found e in
    let same : (Chain places.0.0 places.0.1, places.0.2) ≡ found = same_Some _ found places.2 in
    subst (IsWhyText word rest) same
    (ap (λ (t : List ℕ). t ++ 32 ∷ rest) ((bytes_eq-Decides word (codes "chain")).0 is)
    ∙ ap (λ (t : List ℕ). codes "chain" ++ 32 ∷ t) (places_text rest places.0 places.1)
    ∙ placed (codes "chain") places.0.0 places.0.1 places.0.2)

wait_text : (word rest : List ℕ) (found : Why × List ℕ) → bytes_eq word (codes "wait") ≡ true → wait_read rest ≡ Some found → IsWhyText word rest found
unfolding IsWhyText
wait_text word rest found is e =
    let places = then_read (places_read rest) _ found e in
    let same : (Wait places.0.0 places.0.1, places.0.2) ≡ found = same_Some _ found places.2 in
    subst (IsWhyText word rest) same
    (ap (λ (t : List ℕ). t ++ 32 ∷ rest) ((bytes_eq-Decides word (codes "wait")).0 is)
    ∙ ap (λ (t : List ℕ). codes "wait" ++ 32 ∷ t) (places_text rest places.0 places.1)
    ∙ placed (codes "wait") places.0.0 places.0.1 places.0.2)

why_text : (base chain wait : Bool) (word rest : List ℕ) (found : Why × List ℕ) →
    bytes_eq word (codes "base") ≡ base → bytes_eq word (codes "chain") ≡ chain → bytes_eq word (codes "wait") ≡ wait →
    (if base then Some (Base, rest) else if chain then chain_read rest else if wait then wait_read rest else None) ≡ Some found → IsWhyText word rest found
unfolding IsWhyText
why_text true chain wait word rest found is other third e =
    let same : (Base, rest) ≡ found = same_Some _ found e in
    subst (IsWhyText word rest) same (ap (λ (t : List ℕ). t ++ 32 ∷ rest) ((bytes_eq-Decides word (codes "base")).0 is))
why_text false true wait word rest found is other third e = chain_text word rest found other e
why_text false false true word rest found is other third e = wait_text word rest found third e
why_text false false false word rest found is other third e = absurd (cc)

is_place_text : (k : ℕ) (text : List ℕ) → is_place k text ≡ true → text ≡ printed_number k
is_place_text k text e = at (number_within k (min k (most_load - 1)) text) refl e
  where
    only : (k n : ℕ) → k ≤ n → n ≤ min k (most_load - 1) → n ≡ k
    only k n p q = grind arith

    at : (o : Option ℕ) → o ≡ number_within k (min k (most_load - 1)) text → is_some o ≡ true → text ≡ printed_number k
    at None from e = absurd (cc)
    at (Some n) from e =
        let range = within_said k (min k (most_load - 1)) text n (sym from) in
        range.2 ∙ ap printed_number (only k n range.0 range.1)

rule_text : (k : ℕ) (line : List ℕ) (found : Why × List ℕ) → rule_read k line ≡ Some found → line ≡ printed_number k ++ (32 ∷ printed_why found.0 ++ 32 ∷ found.1)
unfolding IsWhyText
rule_text k line found e =
    let place = then_read (part line) _ found e in
    let rest = if_read (is_place k place.0.0) (part place.0.1 >>= (λ word. why_read word.0 word.1)) found place.2 in
    let word = then_read (part place.0.1) (λ word. why_read word.0 word.1) found rest.1 in
    part_said line place.0 place.1
    ∙ ap (λ (t : List ℕ). t ++ 32 ∷ place.0.1) (is_place_text k place.0.0 rest.0)
    ∙ ap (λ (t : List ℕ). printed_number k ++ 32 ∷ t) (part_said place.0.1 word.0 word.1
    ∙ why_text (bytes_eq word.0.0 (codes "base")) (bytes_eq word.0.0 (codes "chain")) (bytes_eq word.0.0 (codes "wait")) word.0.0 word.0.1 found refl refl refl word.2)

step_text : (names : List (List ℕ)) (k : ℕ) (line : List ℕ) (e : Entry) → step_read names k line ≡ Some e →
    (label : List ℕ) × (label_read label ≡ Some e.bound.label) × (line ≡ step_with names k e label)
step_text names k line e is =
    let rule = then_read (rule_read k line) _ e is in
    let b = then_read (named_bound_read names rule.0.1) _ e rule.2 in
    let same : record { bound = b.0; why = rule.0.0 } ≡ e = same_Some _ e b.2 in
    let its = named_said names rule.0.1 b.0 b.1 in
    let P : Entry → Type 0 = λ (x : Entry). (label : List ℕ) × (label_read label ≡ Some x.bound.label) × (line ≡ step_with names k x label) in
    subst P same (
      its.label,
      its.read,
      rule_text k line rule.0 rule.1
          ∙ ap (λ (t : List ℕ). printed_number k ++ (32 ∷ printed_why rule.0.0 ++ 32 ∷ t)) its.text
          ∙ sym (append_assoc (printed_number k) (32 ∷ printed_why rule.0.0) (32 ∷ bound_with names b.0 its.label)),
    )

-- a step's line says a step that can be written, and is its line, but for the order of marks
steps_said : (names : List (List ℕ)) → AreSaid most_load (step_read names) (IsPrintableStep names) (IsStepLine names)
steps_said names = λ k line e is. let said = step_said names k line e is in (said.0, said.1, step_text names k line e is)

text_says : (names : List (List ℕ)) (bytes : List ℕ) (load : ℕ) (steps : List Entry) → refutation_told names bytes ≡ tells load steps →
    AreStepsWritten names load steps × IsTextOfSteps names load steps bytes
text_says names bytes load steps e =
    listing_said (codes "no") most_load (step_read names) (IsPrintableStep names) (IsStepLine names) (steps_said names) bytes load steps e

-- what a text says can be written
pub text_said : (names : List (List ℕ)) (bytes : List ℕ) (load : ℕ) (steps : List Entry) → refutation_told names bytes ≡ tells load steps → AreStepsWritten names load steps
text_said names bytes load steps e = (text_says names bytes load steps e).0

-- a text that says a load and steps is the one that is printed, but for the order of the marks in the labels
pub text_is : (names : List (List ℕ)) (bytes : List ℕ) (load : ℕ) (steps : List Entry) → refutation_told names bytes ≡ tells load steps → IsTextOfSteps names load steps bytes
text_is names bytes load steps e = (text_says names bytes load steps e).1
