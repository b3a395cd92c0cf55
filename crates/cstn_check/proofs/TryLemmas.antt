-- Growth tries no wait that has no conclusion.
use Rattle.std.proofs.Common.{ℕ, zero, suc, ◌≡◌, inl, inr, ◌+◌, ◌*◌, ◌<◌, ◌≤◌, Bool, false, List, length, Option, Some, None, arith, refl, sym, subst, ap, ◌∙◌}
use Rattle.std.specs.Prelude.{slice_get, slice_index_or}
use Rattle.std.proofs.lemmas.Bool.{cases_lt, cond-true}
use Rattle.std.proofs.lemmas.List.{length-map}
use Rattle.std.proofs.Math.Nat.{mul-suc, mul-le-mul_left}
use Rattle.cstn_label.specs.declared.marks.Mark.TheVariants.{Absent}
use Rattle.cstn_label.specs.Labels.{Label}
use Rattle.cstn_label.specs.Bounds.{Bound}
use Rattle.cstn_label.specs.Marks.{is_absent}
use Rattle.cstn_net.specs.Networks.{Network}
use Rattle.cstn_rules.specs.Rules.{without_own, finished, carried, awaited}
use Rattle.cstn_rules.specs.Derivations.{Entry, Follows, IsDerivation}
use Rattle.cstn_rules.specs.declared.entries.Why.{Why}
use Rattle.cstn_rules.specs.declared.entries.Why.TheVariants.{Base, Chain, Wait}
use Rattle.cstn_rules.specs.Read.{the_entry}
use Rattle.cstn_log.specs.Entries.{State, the_entries}
use Rattle.cstn_rules.specs.Tests.{wait_for, wait_of}
use Rattle.cstn_check.specs.Growth.{Instance, conclusion, of_two, tried}
use Rattle.cstn_check.specs.Growth.Instance.{wait_at}
use Rattle.cstn_check.specs.Tries.{total, how_many, concludes, concluding_pairs, concludes_with, concludes_upto}
use Rattle.cstn_check.specs.Turns.{HasBecome}
use Rattle.cstn_check.proofs.Lists.{Extends, length_upto}
use Rattle.cstn_check.proofs.Grows.{conclusion_kept, tried_extends}

-- ---- sums

total_add : (f g : ℕ → ℕ) (n : ℕ) → total (λ i. f i + g i) n ≡ total f n + total g n
total_add f g zero = refl
total_add f g (suc n) = let rest = total_add f g n in omega (arith, rest)

total_least : (f g : ℕ → ℕ) (n : ℕ) → ((i : ℕ) → i < n → f i ≤ g i) → total f n ≤ total g n
total_least f g zero each = omega arith
total_least f g (suc n) each =
    let rest = total_least f g n (λ i low. each i (omega (arith, low))) in
    let last = each n (omega arith) in
    omega (arith, rest, last)

pub total_upto : (f : ℕ → ℕ) (a b : ℕ) → a ≤ b → total f a ≤ total f b
total_upto f zero b upto = omega arith
total_upto f (suc a) zero upto = absurd (omega (arith, upto))
total_upto f (suc a) (suc b) upto = elim (cases_lt a b) [
  | inl below ↦ let rest = total_upto f (suc a) b (omega (arith, below)) in omega (arith, rest)
  | inr last ↦ let same : b ≡ a = omega (arith, last, upto) in rw same (omega arith)
]

-- the sum over the ordered pairs of the first n places
abbrev square : (ℕ → ℕ → ℕ) → ℕ → ℕ
square f n = total (λ i. total (f i) n) n

square_next : (f : ℕ → ℕ → ℕ) (n : ℕ) → square f (suc n) ≡ square f n + (total (λ i. f i n + f n i) n + f n n)
square_next f n =
    let rows = total_add (λ i. total (f i) n) (λ i. f i n) n in
    let cross = total_add (λ i. f i n) (f n) n in
    omega (arith, rows, cross)

square_upto : (f : ℕ → ℕ → ℕ) (a b : ℕ) → a ≤ b → square f a ≤ square f b
square_upto f a b upto =
    let inner = total_least (λ i. total (f i) a) (λ i. total (f i) b) a (λ i low. total_upto (f i) a b upto) in
    let outer = total_upto (λ i. total (f i) b) a b upto in
    omega (arith, inner, outer)

-- ---- no entry marks what its time-point observes

own_off : (o : Option ℕ) (a : Label) (p : ℕ) → o ≡ Some p → without_own o a p ≡ Absent
own_off o a p e = rw e (grind arith)

own_finished : (net : Network) (b : Bound) (p : ℕ) → slice_index_or net.observes b.node None ≡ Some p → (finished net b).label p ≡ Absent
own_finished net b p e = own_off (slice_index_or net.observes b.node None) b.label p e

pub own_follows : (net : Network) (steps : List Entry) (k : ℕ) (why : Why) (r : Bound) (p : ℕ) → Follows net steps k why r →
    slice_index_or net.observes r.node None ≡ Some p → r.label p ≡ Absent
own_follows net steps k Base r p follows e = ap (λ (b : Bound). b.label p) follows.gives
own_follows net steps k (Chain id i) r p (c, b, has, is, at, chain) e =
    ap (λ (x : Bound). x.label p) chain.gives
    ∙ own_finished net (carried c b) p (ap (λ (x : Bound). slice_index_or net.observes x.node None) (sym chain.gives) ∙ e)
own_follows net steps k (Wait i j) r p (q, seen, b, first, second, wait) e =
    ap (λ (x : Bound). x.label p) wait.gives
    ∙ own_finished net (awaited net q seen b) p (ap (λ (x : Bound). slice_index_or net.observes x.node None) (sym wait.gives) ∙ e)

none_awaited : (net : Network) (o : Option ℕ) (b : Bound) → ((p : ℕ) → o ≡ Some p → b.label p ≡ Absent) → wait_for net o b b ≡ None
none_awaited net None b off = refl
none_awaited net (Some p) b off = cond-true _ None _ (ap is_absent (off p refl))

none_alone : (net : Network) (L : List Entry) (k : ℕ) (o : Option Entry) → IsDerivation net L → slice_get L k ≡ o → of_two (wait_of net) o o ≡ None
none_alone net L k None derived e = refl
none_alone net L k (Some x) derived e =
    none_awaited net (slice_index_or net.observes x.bound.node None) x.bound
    (λ p is. own_follows net L k x.why x.bound p (derived k x e) is)

-- wait of an entry with itself has no conclusion
alone_none : (net : Network) (L : List Entry) (k : ℕ) → IsDerivation net L → concludes net L k k ≡ 0
alone_none net L k derived = ap how_many (none_alone net L k (slice_get L k) derived refl)

-- ---- how many at most

one_most : (o : Option Bound) → how_many o ≤ 1
one_most None = omega arith
one_most (Some b) = omega arith

withs_most : (net : Network) (L : List Entry) (j n : ℕ) → total (concludes_with net L j) n ≤ 2 * n
withs_most net L j zero = omega arith
withs_most net L j (suc n) =
    let rest = withs_most net L j n in
    let one : concludes net L n j ≤ 1 = one_most (conclusion net L (wait_at n j)) in
    let other : concludes net L j n ≤ 1 = one_most (conclusion net L (wait_at j n)) in
    omega (arith, rest, one, other)

-- each wait of an entry with those up to it has at most one conclusion
pub upto_most : (net : Network) (L : List Entry) (j : ℕ) → concludes_upto net L j ≤ 2 * (j + 1)
upto_most net L j = let all = withs_most net L j (suc j) in omega (arith, all)

-- ---- while the list grows

pub concludes_kept : (net : Network) (L G : List Entry) (i j : ℕ) → Extends L G → i < length L → j < length L → concludes net G i j ≡ concludes net L i j
concludes_kept net L G i j more low below = ap how_many (conclusion_kept net L G (wait_at i j) more (low, below))

pub with_kept : (net : Network) (L G : List Entry) (j i : ℕ) → Extends L G → j < length L → i < length L → concludes_with net G j i ≡ concludes_with net L j i
with_kept net L G j i more below low =
    omega (arith, concludes_kept net L G i j more low below, concludes_kept net L G j i more below low)

pub withs_kept : (net : Network) (L G : List Entry) (j n : ℕ) → Extends L G → j < length L → n ≤ length L →
    total (concludes_with net G j) n ≡ total (concludes_with net L j) n
withs_kept net L G j zero more below upto = refl
withs_kept net L G j (suc n) more below upto =
    omega (arith, withs_kept net L G j n more below (omega (arith, upto)), with_kept net L G j n more below (omega (arith, upto)))

pub upto_kept : (net : Network) (L G : List Entry) (j : ℕ) → Extends L G → j < length L → concludes_upto net G j ≡ concludes_upto net L j
upto_kept net L G j more below = withs_kept net L G j (suc j) more below (omega (arith, below))

-- how many waits of the first n turns have a conclusion
abbrev pub waits_of : Network → List Entry → ℕ → ℕ
waits_of net L n = total (concludes_upto net L) n

waits_kept : (net : Network) (L G : List Entry) (n : ℕ) → Extends L G → n ≤ length L → waits_of net G n ≡ waits_of net L n
waits_kept net L G zero more upto = refl
waits_kept net L G (suc n) more upto =
    omega (arith, waits_kept net L G n more (omega (arith, upto)), upto_kept net L G n more (omega (arith, upto)))

waits_square : (net : Network) (L : List Entry) (n : ℕ) → IsDerivation net L → waits_of net L n ≡ square (concludes net L) n
waits_square net L zero derived = refl
waits_square net L (suc n) derived =
    omega (arith, waits_square net L n derived, square_next (concludes net L) n, alone_none net L n derived)

-- a list that goes on has no fewer pairs of which wait has a conclusion
pairs_least : (net : Network) (L G : List Entry) → Extends L G → square (concludes net L) (length L) ≤ concluding_pairs net G
pairs_least net L G more =
    let same : square (concludes net L) (length L) ≤ square (concludes net G) (length L) =
    total_least (λ i. total (concludes net L i) (length L)) (λ i. total (concludes net G i) (length L)) (length L) (λ i low.
    total_least (concludes net L i) (concludes net G i) (length L) (λ j below. omega (arith, concludes_kept net L G i j more low below))) in
    omega (arith, same, square_upto (concludes net G) (length L) (length G) (length_upto L G more))

-- one more turn tries at most m chains, and its waits that have a conclusion
pub tries_step : (net : Network) (m : ℕ) (L G : List Entry) (j start before now : ℕ) → Extends L G → j < length L →
    before ≤ start + (m * j + waits_of net L j) → now ≤ before + (m + concludes_upto net L j) → now ≤ start + (m * (j + 1) + waits_of net G (j + 1))
tries_step net m L G j start before now more below was rose =
    let next : j + 1 ≡ suc j = omega arith in
    let times : m * suc j ≡ m * j + m = mul-suc m j in
    rw next (omega (arith, was, rose, times, waits_kept net L G j more (omega (arith, below)), upto_kept net L G j more below))

-- all turns try at most m chains for each entry, and one wait for each pair of which wait has a conclusion
pub tries_all : (net : Network) (m : ℕ) (L G : List Entry) (n : ℕ) → IsDerivation net L → Extends L G → n ≤ length L →
    m * n + waits_of net G n ≤ m * length G + concluding_pairs net G
tries_all net m L G n derived more upto =
    let turns = waits_kept net L G n more upto in
    let pairs = waits_square net L n derived in
    let wide = square_upto (concludes net L) n (length L) upto in
    let most = pairs_least net L G more in
    let few : m * n ≤ m * length G = mul-le-mul_left m (omega (arith, upto, length_upto L G more)) in
    omega (arith, turns, pairs, wide, most, few)

-- one more place adds its value to the sum
pub total_next : (f : ℕ → ℕ) (i next : ℕ) → i + 1 ≤ next → total f i + f i ≤ total f next
total_next f i next upto =
    let more = total_upto f (suc i) next (omega (arith, upto)) in
    omega (arith, more)

-- after instances are tried, the list of the log extends the one before
pub taken_on : (net : Network) (old new : State) (is : List Instance) (r : Bool) → HasBecome net old new (tried net (the_entries old.entries) is) r →
    Extends (the_entries old.entries) (the_entries new.entries)
taken_on net old new is r t =
    subst (λ l. Extends (the_entries old.entries) l) (sym t.entries) (tried_extends net is (the_entries old.entries))

pub size_is : (s : State) → length (the_entries s.entries) ≡ length s.entries
size_is s = length-map s.entries the_entry

-- a turn's waits with one more entry add at most those that have a conclusion
pub pairs_step : (net : Network) (old mid : State) (j i next : ℕ) (is : List Instance) (start before now : ℕ) →
    HasBecome net old mid (tried net (the_entries old.entries) is) false → j < length old.entries → i < length old.entries →
    before ≤ start + total (concludes_with net (the_entries old.entries) j) i →
    now ≤ before + concludes_with net (the_entries mid.entries) j i → i + 1 ≤ next →
    now ≤ start + total (concludes_with net (the_entries old.entries) j) next
pairs_step net old mid j i next is start before now t below low was rose upto =
    let size = size_is old in
    let kept = with_kept net (the_entries old.entries) (the_entries mid.entries) j i (taken_on net old mid is false t)
    (omega (arith, size, below)) (omega (arith, size, low)) in
    let more = total_next (concludes_with net (the_entries old.entries) j) i next upto in
    omega (arith, kept, more, was, rose)
