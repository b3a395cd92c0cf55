-- What a piece gives: a comment, a tag or a text, with each reference of its form.
use Rattle.std.proofs.Common.{◌≡◌, ℕ, zero, suc, inl, inr, Bool, true, false, not, List, [], ◌∷◌, take, drop, refl, ap, subst, Option, Some, None, IsSome, IfSome, option_map, Bor, sym}
use Rattle.std.specs.Prelude.{codes, ◌==◌, ◌||◌}
use Rattle.std.specs.List.{prefix_len, AllByRecursion}
use Rattle.std.proofs.lemmas.Bool.{false≢true}
use Rattle.cstn_markup.specs.Bytes.{◌>>=◌, when, is_same, begins, past, past_white, past_first, resolved}
use Rattle.cstn_markup.specs.Tokens.{Attribute, Tail, Kind, name_at, attribute_value_at, attribute_at, tag_end_at, tail_at, raw_with, attributes_of, attributes_at, with_front, ended_or, start_tag_at, end_tag_at, text_at, piece_at}
use Rattle.cstn_markup.proofs.Rests.{bind_some, when_some, some_is, which, attribute_parts}

-- the token is a tag or a text, with each reference of its form
abbrev pub IsGiven : Kind → Type 0
IsGiven (Kind.start_tag name attributes closed) = AllByRecursion (λ a. IsSome (resolved a.raw)) attributes
IsGiven (Kind.end_tag name) = Unit {0}
IsGiven (Kind.text_run raw) = IsSome (resolved raw)
IsGiven Kind.wrong = ⊥
IsGiven Kind.finish = ⊥

some_by : (P : Kind → List ℕ → Type 0) (found : Option (Kind × List ℕ)) (k : Kind) (rest : List ℕ) → ((x : Kind × List ℕ) → found ≡ Some x → P x.0 x.1)
    → ◌>>=◌ {B = Option Kind × List ℕ} found (λ f. Some (Some f.0, f.1)) ≡ Some (Some k, rest) → P k rest
some_by P (Some x) k rest h e =
    let kind : x.0 ≡ k = some_is (ap (λ p. p.0) (some_is e)) in
    let same : x.1 ≡ rest = ap (λ p. p.1) (some_is e) in
    subst (λ j. P j rest) kind (subst (P x.0) same (h x refl))
some_by P None k rest h e = absurd (cc)

no_comment : (found : Option (List ℕ)) (k : Kind) (rest : List ℕ) → ◌>>=◌ {B = Option Kind × List ℕ} found (λ r. Some (None, r)) ≡ Some (Some k, rest) → ⊥
no_comment (Some r) k rest e = false≢true (let f : None ≡ Some k = ap (λ p. p.0) (some_is e) in let g : false ≡ true = cc in g)
no_comment None k rest e = false≢true (let g : false ≡ true = cc in g)

-- a piece that is no comment is a tag or a text
pub given_by : (P : Kind → List ℕ → Type 0) (bytes : List ℕ)
    → (begins (codes "</") bytes ≡ true → (x : Kind × List ℕ) → end_tag_at (drop 2 bytes) ≡ Some x → P x.0 x.1)
    → (begins (codes "<") bytes ≡ true → (x : Kind × List ℕ) → start_tag_at (drop 1 bytes) ≡ Some x → P x.0 x.1)
    → ((x : Kind × List ℕ) → text_at bytes ≡ Some x → P x.0 x.1)
    → (k : Kind) (rest : List ℕ) → piece_at bytes ≡ Some (Some k, rest) → P k rest
given_by P bytes of_end of_start of_text k rest e =
    elim (which (begins (codes "<!--") bytes) _ _ _ e) [
      | inl h ↦ absurd (no_comment (past_first (codes "-->") (drop 4 bytes)) k rest h.1)
      | inr f ↦ elim (which (begins (codes "</") bytes) _ _ _ f.1) [
        | inl h ↦ some_by P (end_tag_at (drop 2 bytes)) k rest (of_end h.0) h.1
        | inr g ↦ elim (which (begins (codes "<") bytes) _ _ _ g.1) [
          | inl h ↦ some_by P (start_tag_at (drop 1 bytes)) k rest (of_start h.0) h.1
          | inr h ↦ some_by P (text_at bytes) k rest of_text h.1
        ]
      ]
    ]

right_when : (b : Bool) (value rest : List ℕ) (x : List ℕ × List ℕ) → (b ≡ true → IsSome (resolved value)) → when b (value, rest) ≡ Some x → IsSome (resolved x.0)
right_when true value rest x h e = subst (λ v. IsSome (resolved v)) (ap (λ p. p.0) (some_is e)) (h refl)
right_when false value rest x h e = absurd (false≢true (let g : false ≡ true = cc in g))

value_right : (bytes : List ℕ) (x : List ℕ × List ℕ) → attribute_value_at bytes ≡ Some x → IsSome (resolved x.0)
value_right [] x e = absurd (cc)
value_right (quote ∷ bytes) x e =
    let h = bind_some (when (quote == 34 || quote == 39) (quote ∷ [])) _ x e in
    let k = bind_some (past h.0 (drop (prefix_len (λ b. not (b == quote || b == 60)) bytes) bytes)) _ x h.2 in
    right_when _ (take (prefix_len (λ b. not (b == quote || b == 60)) bytes) bytes) k.0 x (λ t. t) k.2

attribute_right : (bytes : List ℕ) (x : Attribute × List ℕ) → attribute_at bytes ≡ Some x → IsSome (resolved x.0.raw)
attribute_right bytes x e =
    let p = attribute_parts bytes x e in
    subst (λ (f : Attribute). IsSome (resolved f.raw)) (ap (λ q. q.0) p.is) (value_right (past_white p.equals) p.value p.valued)

abbrev AreRight : List Attribute → Type 0
AreRight attributes = AllByRecursion (λ a. IsSome (resolved a.raw)) attributes

ended_right : (ended : Option (Bool × List ℕ)) (more : Option Tail) (tail : Tail) → ((t : Tail) → more ≡ Some t → AreRight t.attributes) → ended_or ended more ≡ Some tail → AreRight tail.attributes
ended_right (Some x) more tail k e = subst (λ (t : Tail). AreRight t.attributes) (some_is e) tt
ended_right None more tail k e = k tail e

tail_right : (room : ℕ) (bytes : List ℕ) (tail : Tail) → tail_at room bytes ≡ Some tail → AreRight tail.attributes
unfolding tail_at
tail_right zero bytes tail e = ended_right (tag_end_at (past_white bytes)) None tail (λ t h. absurd (cc)) e
tail_right (suc room) bytes tail e =
    ended_right (tag_end_at (past_white bytes)) (attribute_at bytes >>= λ found. tail_at room found.1 >>= λ t. with_front found.0 t) tail
    (λ t h.
    let a = bind_some (attribute_at bytes) _ t h in
    let b = bind_some (tail_at room a.0.1) _ t a.2 in
    subst (λ (w : Tail). AreRight w.attributes) (when_some _ _ t b.2) (attribute_right bytes a.0 a.1, tail_right room a.0.1 b.0 b.1))
    e

right_of : (room : ℕ) (bytes : List ℕ) (o : Option Tail) → tail_at room bytes ≡ o → AreRight (attributes_of o)
right_of room bytes None e = tt
right_of room bytes (Some tail) e = tail_right room bytes tail e

pub attributes_right : (room : ℕ) (bytes : List ℕ) → AreRight (attributes_at room bytes)
attributes_right room bytes = right_of room bytes (tail_at room bytes) refl

-- what holds of the values of all attributes holds of the value that is found by a name
pub raw_found : (P : List ℕ → Type 0) (name raw : List ℕ) (attributes : List Attribute) → AllByRecursion (λ a. P a.raw) attributes → Some raw ≡ raw_with name attributes → P raw
raw_found P name raw [] h e = absurd (cc)
raw_found P name raw (a ∷ attributes) h e =
    elim (which (is_same a.name name) (Some a.raw) (raw_with name attributes) (Some raw) (sym e)) [
      | inl k ↦ subst P (some_is k.1) h.0
      | inr k ↦ raw_found P name raw attributes h.1 (sym k.1)
    ]

pub value_found : (P : List ℕ → Type 0) (name : List ℕ) (attributes : List Attribute) (found : Option (Bor (List ℕ))) → AllByRecursion (λ a. P a.raw) attributes
    → option_map (λ raw. raw.now) found ≡ raw_with name attributes → IfSome found (λ raw. P raw.now)
value_found P name attributes (Some raw) h e = raw_found P name raw.now attributes h e
value_found P name attributes None h e = tt

text_when : (b : Bool) (raw rest : List ℕ) (x : Kind × List ℕ) → (b ≡ true → IsSome (resolved raw)) → when b (Kind.text_run raw, rest) ≡ Some x → IsGiven x.0
text_when true raw rest x h e = subst IsGiven (ap (λ p. p.0) (some_is e)) (h refl)
text_when false raw rest x h e = absurd (false≢true (let g : false ≡ true = cc in g))

text_right : (bytes : List ℕ) (x : Kind × List ℕ) → text_at bytes ≡ Some x → IsGiven x.0
text_right bytes x e = text_when _ (take (prefix_len (λ b. not (b == 60)) bytes) bytes) _ x (λ t. t) e

pub given : (bytes : List ℕ) (k : Kind) (rest : List ℕ) → piece_at bytes ≡ Some (Some k, rest) → IsGiven k
given bytes k rest e =
    given_by (λ k rest. IsGiven k) bytes
    (λ h x g.
    let a = bind_some (name_at (drop 2 bytes)) _ x g in
    let b = bind_some (past (codes ">") (past_white a.0.1)) _ x a.2 in
    subst IsGiven (ap (λ p. p.0) (some_is b.2)) tt)
    (λ h x g.
    let a = bind_some (name_at (drop 1 bytes)) _ x g in
    let b = bind_some (tail_at 32 a.0.1) _ x a.2 in
    subst IsGiven (ap (λ p. p.0) (some_is b.2)) (tail_right 32 a.0.1 b.0 b.1))
    (λ x g. text_right bytes x g) k rest e
