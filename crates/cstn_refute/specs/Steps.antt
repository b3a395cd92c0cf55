-- Steps as lines.
use Rattle.std.specs.Prelude.{ℕ, ◌-◌, ◌++◌, Bool, min, is_some, if◌then◌else◌, List, [], ◌∷◌, Option, None, Some, codes, bytes_eq, pos, slice_index_or}
use Rattle.std.specs.Option.{option_and_then}
use Rattle.cstn_label.specs.Bounds.{Bound}
use Rattle.cstn_net.specs.Limits.{most_load}
use Rattle.cstn_rules.specs.declared.entries.Why.{Why}
use Rattle.cstn_rules.specs.declared.entries.Why.TheVariants.{Base, Chain, Wait}
use Rattle.cstn_rules.specs.Derivations.{Entry}
use Rattle.cstn_text.specs.SmallNumbers.{u32_read}
use Rattle.cstn_text.specs.Numbers.{number_within, printed_number, printed_value}
use Rattle.cstn_text.specs.PrintedNames.{printed_name}
use Rattle.cstn_text.specs.PrintedLabels.{label_read, printed_label}
use Rattle.cstn_text.specs.Parts.{part, node_read}
use Rattle.cstn_refute.specs.Limits.{most_least}

infixl 20 ◌>>=◌
-- what f gives from the value of o, if both are there
abbrev pub ◌>>=◌ : {A B : Type 0} → Option A → (A → Option B) → Option B
o >>= f = option_and_then f o

-- two such numbers, each with a space after it, and what follows
abbrev pub places_read : List ℕ → Option (ℕ × ℕ × List ℕ)
places_read bytes =
    part bytes >>= (λ one. part one.1 >>= (λ other.
    u32_read one.0 >>= (λ i. u32_read other.0 >>= (λ j. Some (i, j, other.1)))))

abbrev pub chain_read : List ℕ → Option (Why × List ℕ)
chain_read bytes = places_read bytes >>= (λ found. Some (Chain found.0 found.1, found.2))

abbrev pub wait_read : List ℕ → Option (Why × List ℕ)
wait_read bytes = places_read bytes >>= (λ found. Some (Wait found.0 found.1, found.2))

-- the rule of a step by its word and its places, and what follows
abbrev pub why_read : List ℕ → List ℕ → Option (Why × List ℕ)
why_read word rest =
    if bytes_eq word (codes "base") then Some (Base, rest)
    else if bytes_eq word (codes "chain") then chain_read rest
    else if bytes_eq word (codes "wait") then wait_read rest
    else None

-- a least value, a space, and a label
abbrev pub bound_read : ℕ → List ℕ → Option Bound
bound_read x bytes =
    part bytes >>= (λ least. number_within 0 most_least least.0 >>= (λ d. label_read least.1 >>= (λ a.
    Some (record { node = x; least = pos d; label = a }))))

-- the printed name of a time-point, a space, and the rest of its bound
abbrev pub named_bound_read : List (List ℕ) → List ℕ → Option Bound
named_bound_read names bytes = part bytes >>= (λ name. node_read names name.0 >>= (λ x. bound_read x name.1))

-- whether the text is the number k, where k is below 4,194,304
abbrev pub is_place : ℕ → List ℕ → Bool
is_place k text = is_some (number_within k (min k (most_load - 1)) text)

-- a step's rule and what follows, after its place k and a space
abbrev pub rule_read : ℕ → List ℕ → Option (Why × List ℕ)
rule_read k line =
    part line >>= (λ place. if is_place k place.0 then part place.1 >>= (λ word. why_read word.0 word.1) else None)

-- the step at the place k: k, the rule, and the bound, with a space between
abbrev pub step_read : List (List ℕ) → ℕ → List ℕ → Option Entry
step_read names k line =
    rule_read k line >>= (λ why. named_bound_read names why.1 >>= (λ b. Some (record { bound = b; why = why.0 })))

-- the rule's word, and its places
abbrev pub printed_why : Why → List ℕ
printed_why Base = codes "base"
printed_why (Chain id i) = codes "chain " ++ printed_number id ++ 32 ∷ printed_number i
printed_why (Wait i j) = codes "wait " ++ printed_number i ++ 32 ∷ printed_number j

-- the time-point's name, the least value and the label
abbrev pub printed_bound : List (List ℕ) → Bound → List ℕ
printed_bound names b =
    printed_name (slice_index_or names b.node []) ++ 32 ∷ printed_value b.least ++ 32 ∷ printed_label b.label

-- the line of the step at the place k
abbrev pub printed_step : List (List ℕ) → ℕ → Entry → List ℕ
printed_step names k e = printed_number k ++ 32 ∷ printed_why e.why ++ 32 ∷ printed_bound names e.bound
