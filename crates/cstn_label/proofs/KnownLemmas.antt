-- What is known, by the bits of its two words.
use Rattle.std.proofs.Common.{ℕ, ◌≡◌, ◌<◌, Bool, ◌&&◌, Option, Some, None, arith, sym, ◌∙◌, ap, bit_and}
use Rattle.std.specs.Prelude.{if◌then◌else◌}
use Rattle.cstn_label.specs.declared.knowledge.Known.{Known}
use Rattle.cstn_label.specs.Words.{has_bit, meant}
use Rattle.cstn_label.specs.Read.{known_value}
use Rattle.cstn_label.proofs.WordLemmas.{has_bit_and, meant_from_bits, bits_from_meant}

-- the value v where s says that it is known, and none elsewhere
abbrev value : Bool → Bool → Option Bool
value v s = if s then Some v else None

same_seen : (v s w t : Bool) → value v s ≡ value w t → s ≡ t
same_seen v s w t e = grind arith

same_value : (v s w t : Bool) → (v && s) ≡ v → (w && t) ≡ w → value v s ≡ value w t → v ≡ w
same_value v s w t among also e = grind arith

pub bits_among : (k : Known) (p : ℕ) → (has_bit k.bits p && has_bit k.seen p) ≡ has_bit k.bits p
bits_among k p = sym (has_bit_and k.bits k.seen p) ∙ ap (λ w. has_bit w p) k.among_seen

masked : (v s : Bool) → value (v && s) s ≡ value v s
masked v s = grind arith

-- the known values of `bits & seen` are those of `bits`
pub value_taken : (bits seen q : ℕ) →
    (if has_bit seen q then Some (has_bit (bit_and bits seen) q) else None) ≡
    (if has_bit seen q then Some (has_bit bits q) else None)
value_taken bits seen q =
    ap (λ b. value b (has_bit seen q)) (has_bit_and bits seen q) ∙ masked (has_bit bits q) (has_bit seen q)

pub values_from_meant : (k l : Known) → meant k.seen ≡ meant l.seen → meant k.bits ≡ meant l.bits →
    (p : ℕ) → p < 52 → known_value k p ≡ known_value l p
values_from_meant k l seen bits p below =
    let s = bits_from_meant k.seen l.seen seen p below in
    let v = bits_from_meant k.bits l.bits bits p below in
    ap (λ b. value b (has_bit k.seen p)) v ∙ ap (λ b. value (has_bit l.bits p) b) s

pub seen_from_values : (k l : Known) → ((p : ℕ) → p < 52 → known_value k p ≡ known_value l p) →
    meant k.seen ≡ meant l.seen
seen_from_values k l same = meant_from_bits k.seen l.seen (λ p below.
    same_seen (has_bit k.bits p) (has_bit k.seen p) (has_bit l.bits p) (has_bit l.seen p) (same p below))

pub bits_from_values : (k l : Known) → ((p : ℕ) → p < 52 → known_value k p ≡ known_value l p) →
    meant k.bits ≡ meant l.bits
bits_from_values k l same = meant_from_bits k.bits l.bits (λ p below.
    same_value (has_bit k.bits p) (has_bit k.seen p) (has_bit l.bits p) (has_bit l.seen p)
    (bits_among k p) (bits_among l p) (same p below))
