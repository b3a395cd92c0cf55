-- At the end of growth, every instance is spent.
use Rattle.std.proofs.Common.{ℕ, zero, suc, ◌≡◌, ◌⊎◌, inl, inr, ◌<◌, ◌≤◌, Bool, true, false, not, ◌&&◌, ◌||◌, List, [], ◌∷◌, ◌++◌, length, map, Option, Some, None, arith, refl, sym, subst, ap, ◌∙◌}
use Rattle.std.specs.Prelude.{slice_get}
use Rattle.std.specs.List.{Contains}
use Rattle.std.proofs.lemmas.Bool.{cases_Bool, cases_lt, or_right, and_parts, and_from, cond-true, cond-false}
use Rattle.std.proofs.lemmas.List.Folds.{list_any-append}
use Rattle.std.proofs.lemmas.Option.{slice_get_past}
use Rattle.cstn_net.specs.Networks.{Network, Constraint}
use Rattle.cstn_label.specs.Bounds.{Bound}
use Rattle.cstn_rules.specs.Derivations.{Entry}
use Rattle.cstn_rules.specs.Tests.{refutes, chain_of, wait_of}
use Rattle.cstn_label.specs.Tests.{dominates}
use Rattle.cstn_check.specs.Growth.{Instance, why_of, is_covered, is_live, is_refuted, premises_live, of_one, of_two, conclusion, with_conclusion, step, tried, waits_below, turn, grown}
use Rattle.cstn_check.specs.Growth.Instance.{chain_at, wait_at}
use Rattle.cstn_check.specs.Spent.{HasPremises, IsSpent}
use Rattle.cstn_check.proofs.Lists.{Extends, extends_itself, extends_through, get_kept, length_upto, none_before, covered_kept, live_before, itself_true}

within_more : (L G : List Entry) (i : Instance) → Extends L G → HasPremises L i → HasPremises G i
within_more L G (chain_at c j) e w = let l = length_upto L G e in omega arith
within_more L G (wait_at i j) e w = let l = length_upto L G e in (omega arith, omega arith)

pub conclusion_kept : (net : Network) (L G : List Entry) (i : Instance) → Extends L G → HasPremises L i →
    conclusion net G i ≡ conclusion net L i
conclusion_kept net L G (chain_at c j) e w = ap (of_one (chain_of net c)) (get_kept L G j e w)
conclusion_kept net L G (wait_at i j) e w =
    ap (λ o. of_two (wait_of net) o (slice_get G j)) (get_kept L G i e w.0)
    ∙ ap (λ o. of_two (wait_of net) (slice_get L i) o) (get_kept L G j e w.1)

premises_before : (L G : List Entry) (i : Instance) → Extends L G → HasPremises L i → premises_live G i ≡ true →
    premises_live L i ≡ true
premises_before L G (chain_at c j) e w h = live_before L G j e w h
premises_before L G (wait_at i j) e w h =
    let both = and_parts (is_live G i) (is_live G j) h in
    and_from (is_live L i) (is_live L j) (live_before L G i e w.0 both.0) (live_before L G j e w.1 both.1)

pub spent_kept : (net : Network) (L G : List Entry) (i : Instance) → Extends L G → HasPremises L i → IsSpent net L i → IsSpent net G i
spent_kept net L G i e w spent = λ r gives live.
    covered_kept L G r e (spent r (sym (conclusion_kept net L G i e w) ∙ gives) (premises_before L G i e w live))

with_extends : (L : List Entry) (i : Instance) (o : Option Bound) → Extends L (with_conclusion L i o)
with_extends L i None = extends_itself L
with_extends L i (Some r) = elim (cases_Bool (premises_live L i && not (is_covered L r))) [
  | inl new ↦ record { more = _; is = sym (cond-true _ _ _ new) }
  | inr old ↦ subst (λ G. Extends L G) (sym (cond-false _ _ _ old)) (extends_itself L)
]

pub step_extends : (net : Network) (L : List Entry) (i : Instance) → Extends L (step net L i)
unfolding step
step_extends net L i = elim (cases_Bool (is_refuted net L)) [
  | inl over ↦ subst (λ G. Extends L G) (sym (cond-true _ _ _ over)) (extends_itself L)
  | inr on ↦ subst (λ G. Extends L G) (sym (cond-false _ _ _ on)) (with_extends L i (conclusion net L i))
]

with_spent : (net : Network) (L : List Entry) (i : Instance) (o : Option Bound) → conclusion net L i ≡ o → HasPremises L i →
    IsSpent net (with_conclusion L i o) i
with_spent net L i None e w = λ r gives live. let f : ⊥ = cc in absurd f
with_spent net L i (Some r) e w = elim (cases_Bool (premises_live L i && not (is_covered L r))) [
  | inl new ↦
      let G = L ++ record { bound = r; why = why_of i } ∷ [] in
      let ext : Extends L G = record { more = record { bound = r; why = why_of i } ∷ []; is = refl } in
      subst (λ l. IsSpent net l i) (sym (cond-true _ _ _ new)) (λ q gives live.
      let same : r ≡ q = let k = conclusion_kept net L G i ext w in cc in
      subst (λ q. is_covered G q ≡ true) same
      (list_any-append (λ x. dominates x.bound r) L (record { bound = r; why = why_of i } ∷ [])
      ∙ or_right (is_covered L r) (dominates r r || false) (ap (λ b. b || false) (itself_true r))))
  | inr old ↦ subst (λ l. IsSpent net l i) (sym (cond-false _ _ _ old)) (λ q gives live.
      let same : r ≡ q = cc in
      subst (λ q. is_covered L q ≡ true) same (covered_from (premises_live L i) (is_covered L r) old live))
]
  where
    covered_from : (p c : Bool) → (p && not c) ≡ false → p ≡ true → c ≡ true
    covered_from p c h k = grind arith

step_spent : (net : Network) (L : List Entry) (i : Instance) → is_refuted net (step net L i) ≡ false → HasPremises L i →
    IsSpent net (step net L i) i
unfolding step
step_spent net L i h w =
    let on = none_before (λ x. refutes net x.bound) L (step net L i) (step_extends net L i) h in
    subst (λ G. IsSpent net G i) (sym (cond-false _ _ _ on)) (with_spent net L i (conclusion net L i) refl w)

pub tried_extends : (net : Network) (is : List Instance) (L : List Entry) → Extends L (tried net L is)
tried_extends net [] L = extends_itself L
tried_extends net (i ∷ is) L = extends_through L (step net L i) (tried net (step net L i) is) (step_extends net L i) (tried_extends net is (step net L i))

-- i is one of the instances
abbrev pub Has : List Instance → Instance → Type 0
Has [] i = ⊥
Has (x ∷ xs) i = (x ≡ i) ⊎ Has xs i

pub has_left : (xs ys : List Instance) (i : Instance) → Has xs i → Has (xs ++ ys) i
has_left [] ys i h = absurd h
has_left (x ∷ xs) ys i h = elim h [ inl e ↦ inl e | inr t ↦ inr (has_left xs ys i t) ]

pub has_right : (xs ys : List Instance) (i : Instance) → Has ys i → Has (xs ++ ys) i
has_right [] ys i h = h
has_right (x ∷ xs) ys i h = inr (has_right xs ys i h)

tried_spent : (net : Network) (is : List Instance) (L : List Entry) (i : Instance) →
    is_refuted net (tried net L is) ≡ false → Has is i → HasPremises L i → IsSpent net (tried net L is) i
tried_spent net [] L i h has w = absurd has
tried_spent net (x ∷ xs) L i h has w =
    let ext = tried_extends net xs (step net L x) in
    let on = none_before (λ e. refutes net e.bound) (step net L x) (tried net (step net L x) xs) ext h in
    elim has [
      | inl e ↦
          let wx = subst (λ y. HasPremises L y) (sym e) w in
          subst (λ y. IsSpent net (tried net (step net L x) xs) y) e
          (spent_kept net (step net L x) (tried net (step net L x) xs) x ext
          (within_more L (step net L x) x (step_extends net L x) wx) (step_spent net L x on wx))
      | inr t ↦ tried_spent net xs (step net L x) i h t (within_more L (step net L x) i (step_extends net L x) w)
    ]

-- each instance of the list has the property
abbrev pub Each : (Instance → Type 0) → List Instance → Type 0
Each P [] = Unit {0}
Each P (x ∷ xs) = P x × Each P xs

pub each_append : (P : Instance → Type 0) (xs ys : List Instance) → Each P xs → Each P ys → Each P (xs ++ ys)
each_append P [] ys h k = k
each_append P (x ∷ xs) ys h k = (h.0, each_append P xs ys h.1 k)

pub each_chain : (P : Instance → Type 0) (cs : List Constraint) (j : ℕ) →
    ((c : Constraint) → Contains cs c → P (chain_at c j)) → Each P (map (λ c. chain_at c j) cs)
each_chain P [] j h = tt
each_chain P (c ∷ cs) j h =
    (h c (0, omega arith, refl), each_chain P cs j (λ d has. h d (suc has.0, let l = has.1 in omega arith, has.2)))

pub each_wait : (P : Instance → Type 0) (n j : ℕ) → ((i : ℕ) → P (wait_at i j) × P (wait_at j i)) → Each P (waits_below n j)
each_wait P zero j h = tt
each_wait P (suc n) j h =
    each_append P (waits_below n j) (wait_at n j ∷ (wait_at j n ∷ [])) (each_wait P n j h) ((h n).0, ((h n).1, tt))

pub each_turn : (P : Instance → Type 0) (net : Network) (j : ℕ) →
    ((c : Constraint) → Contains net.constraints c → P (chain_at c j)) → ((i : ℕ) → P (wait_at i j) × P (wait_at j i)) →
    Each P (turn net j)
each_turn P net j h k =
    each_append P (map (λ c. chain_at c j) net.constraints) (waits_below (suc j) j) (each_chain P net.constraints j h)
    (each_wait P (suc j) j k)

-- a turn past the end changes nothing
of_two_none : (f : Bound → Bound → Option Bound) (o : Option Entry) → of_two f o None ≡ None
of_two_none f None = refl
of_two_none f (Some e) = refl

pub step_idle : (net : Network) (L : List Entry) (i : Instance) → conclusion net L i ≡ None → step net L i ≡ L
unfolding step
step_idle net L i e = elim (cases_Bool (is_refuted net L)) [
  | inl over ↦ cond-true _ _ _ over
  | inr on ↦ cond-false _ _ _ on ∙ ap (with_conclusion L i) e
]

tried_idle : (net : Network) (is : List Instance) (L : List Entry) → Each (λ i. conclusion net L i ≡ None) is →
    tried net L is ≡ L
tried_idle net [] L h = refl
tried_idle net (i ∷ is) L h =
    ap (λ l. tried net l is) (step_idle net L i h.0) ∙ tried_idle net is L h.1

turn_idle : (net : Network) (L : List Entry) (j : ℕ) → length L ≤ j → tried net L (turn net j) ≡ L
turn_idle net L j h =
    let past = slice_get_past L j h in
    tried_idle net (turn net j) L (each_turn (λ i. conclusion net L i ≡ None) net j
    (λ c has. ap (of_one (chain_of net c)) past)
    (λ i. (
      ap (of_two (wait_of net) (slice_get L i)) past ∙ of_two_none (wait_of net) (slice_get L i),
      ap (λ o. of_two (wait_of net) o (slice_get L i)) past,
    )))

pub grown_extends : (net : Network) (L : List Entry) (n m : ℕ) → n ≤ m → Extends (grown net L n) (grown net L m)
grown_extends net L n zero h = let e : 0 ≡ n = omega arith in subst (λ k. Extends (grown net L k) (grown net L 0)) e (extends_itself L)
grown_extends net L n (suc m) h = elim (cases_lt m n) [
  | inl last ↦
      let e : suc m ≡ n = omega arith in
      subst (λ k. Extends (grown net L k) (grown net L (suc m))) e (extends_itself (grown net L (suc m)))
  | inr before ↦ extends_through (grown net L n) (grown net L m) (grown net L (suc m)) (grown_extends net L n m before)
      (tried_extends net (turn net m) (grown net L m))
]

pub grown_idle : (net : Network) (L : List Entry) (n m : ℕ) → length (grown net L n) ≤ n → n ≤ m → grown net L m ≡ grown net L n
grown_idle net L n zero done h = let e : 0 ≡ n = omega arith in ap (grown net L) e
grown_idle net L n (suc m) done h = elim (cases_lt m n) [
  | inl last ↦ let e : suc m ≡ n = omega arith in ap (grown net L) e
  | inr before ↦
      let same = grown_idle net L n m done before in
      let short : length (grown net L m) ≤ m = let l = ap length same in omega arith in
      turn_idle net (grown net L m) m short ∙ same
]

-- where all turns are done and no entry refutes, each instance of a turn whose premises are there is spent
pub all_spent : (net : Network) (L : List Entry) (n j : ℕ) (i : Instance) → length (grown net L n) ≤ n →
    is_refuted net (grown net L n) ≡ false → j < length (grown net L n) → Has (turn net j) i →
    ((M : List Entry) → j < length M → HasPremises M i) → IsSpent net (grown net L n) i
all_spent net L n j i done on here has within =
    elim (cases_lt j (length (grown net L j))) [
      | inr short ↦
          let same = ap length (grown_idle net L j n short (omega arith)) in
          absurd (omega arith)
      | inl there ↦
          let ext = grown_extends net L (suc j) n (omega arith) in
          let on_then = none_before (λ e. refutes net e.bound) (grown net L (suc j)) (grown net L n) ext on in
          let w = within (grown net L j) there in
          spent_kept net (grown net L (suc j)) (grown net L n) i ext
          (within_more (grown net L j) (grown net L (suc j)) i (tried_extends net (turn net j) (grown net L j)) w)
          (tried_spent net (turn net j) (grown net L j) i on_then has w)
    ]
