-- What a line says can be written.
use Rattle.std.proofs.Common.{ℕ, ◌≡◌, ◌-◌, ◌<◌, ◌≤◌, ◌^◌, Bool, true, false, List, min, arith, refl, sym, subst}
use Rattle.std.specs.Prelude.{is_some, if◌then◌else◌, bytes_eq, Option, Some, None, codes}
use Rattle.std.proofs.lemmas.Option.{same_Some}
use Rattle.cstn_facts.proofs.Options.{then_read, if_read}
use Rattle.cstn_net.specs.Limits.{most_load}
use Rattle.cstn_rules.specs.declared.entries.Why.{Why}
use Rattle.cstn_rules.specs.declared.entries.Why.TheVariants.{Base, Chain, Wait}
use Rattle.cstn_rules.specs.Derivations.{Entry}
use Rattle.cstn_text.specs.SmallNumbers.{u32_read}
use Rattle.cstn_text.specs.Numbers.{number_within}
use Rattle.cstn_text.specs.Parts.{part}
use Rattle.cstn_text.proofs.ReadingLemmas.{within_said}
use Rattle.cstn_refute.specs.Steps.{◌>>=◌, places_read, chain_read, wait_read, why_read, is_place, rule_read, named_bound_read, step_read}
use Rattle.cstn_refute.specs.Written.{ArePlaces, IsPrintableStep}
use Rattle.cstn_refute.proofs.BoundLemmas.{named_said}

place_said : (text : List ℕ) (n : ℕ) → u32_read text ≡ Some n → n < 2 ^ 32
place_said text n e = omega (arith, (within_said 0 4294967295 text n e).1)

places_said : (bytes : List ℕ) (found : ℕ × ℕ × List ℕ) → places_read bytes ≡ Some found → (found.0 < 2 ^ 32) × (found.1 < 2 ^ 32)
places_said bytes found e =
    let one = then_read (part bytes) _ found e in
    let other = then_read (part one.0.1) _ found one.2 in
    let i = then_read (u32_read one.0.0) _ found other.2 in
    let j = then_read (u32_read other.0.0) _ found i.2 in
    let same : (i.0, j.0, other.0.1) ≡ found = same_Some _ found j.2 in
    subst (λ (f : ℕ × ℕ × List ℕ). (f.0 < 2 ^ 32) × (f.1 < 2 ^ 32)) same (place_said one.0.0 i.0 i.1, place_said other.0.0 j.0 j.1)

chain_said : (bytes : List ℕ) (found : Why × List ℕ) → chain_read bytes ≡ Some found → ArePlaces found.0
chain_said bytes found e =
    let places = then_read (places_read bytes) _ found e in
    let same : (Chain places.0.0 places.0.1, places.0.2) ≡ found = same_Some _ found places.2 in
    subst (λ (f : Why × List ℕ). ArePlaces f.0) same (places_said bytes places.0 places.1)

wait_said : (bytes : List ℕ) (found : Why × List ℕ) → wait_read bytes ≡ Some found → ArePlaces found.0
wait_said bytes found e =
    let places = then_read (places_read bytes) _ found e in
    let same : (Wait places.0.0 places.0.1, places.0.2) ≡ found = same_Some _ found places.2 in
    subst (λ (f : Why × List ℕ). ArePlaces f.0) same (places_said bytes places.0 places.1)

word_said : (base chain wait : Bool) (rest : List ℕ) (found : Why × List ℕ) →
    (if base then Some (Base, rest) else if chain then chain_read rest else if wait then wait_read rest else None) ≡ Some found → ArePlaces found.0
word_said true chain wait rest found e =
    let same : (Base, rest) ≡ found = same_Some _ found e in
    subst (λ (f : Why × List ℕ). ArePlaces f.0) same tt
word_said false true wait rest found e = chain_said rest found e
word_said false false true rest found e = wait_said rest found e
word_said false false false rest found e = absurd (cc)

least_most : (k n : ℕ) → k ≤ n → n ≤ min k (most_load - 1) → k < most_load
least_most k n p q = grind arith

is_place_said : (k : ℕ) (text : List ℕ) → is_place k text ≡ true → k < most_load
is_place_said k text e = at (number_within k (min k (most_load - 1)) text) refl e
  where
    at : (o : Option ℕ) → o ≡ number_within k (min k (most_load - 1)) text → is_some o ≡ true → k < most_load
    at None from e = absurd (cc)
    at (Some n) from e =
        let found = within_said k (min k (most_load - 1)) text n (sym from) in
        least_most k n found.0 found.1

rule_said : (k : ℕ) (line : List ℕ) (found : Why × List ℕ) → rule_read k line ≡ Some found → (k < most_load) × ArePlaces found.0
rule_said k line found e =
    let place = then_read (part line) _ found e in
    let rest = if_read (is_place k place.0.0) (part place.0.1 >>= (λ word. why_read word.0 word.1)) found place.2 in
    let word = then_read (part place.0.1) (λ word. why_read word.0 word.1) found rest.1 in
    (is_place_said k place.0.0 rest.0, word_said (bytes_eq word.0.0 (codes "base")) (bytes_eq word.0.0 (codes "chain")) (bytes_eq word.0.0 (codes "wait")) word.0.1 found word.2)

-- a step's line says a step that can be written
pub step_said : (names : List (List ℕ)) (k : ℕ) (line : List ℕ) (e : Entry) → step_read names k line ≡ Some e → (k < most_load) × IsPrintableStep names e
step_said names k line e is =
    let rule = then_read (rule_read k line) _ e is in
    let b = then_read (named_bound_read names rule.0.1) _ e rule.2 in
    let same : record { bound = b.0; why = rule.0.0 } ≡ e = same_Some _ e b.2 in
    let rules = rule_said k line rule.0 rule.1 in
    let bound = (named_said names rule.0.1 b.0 b.1).written in
    (rules.0, subst (IsPrintableStep names) same (record { node = bound.node; low = bound.low; high = bound.high; marks = bound.marks; places = rules.1 }))
