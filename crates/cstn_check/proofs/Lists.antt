-- Lists that grow at the end, and their live entries.
use Rattle.std.proofs.Common.{ℕ, zero, suc, ◌≡◌, inl, inr, ◌<◌, ◌≤◌, Bool, true, false, List, [], ◌∷◌, ◌++◌, length, get_or, Some, arith, refl, sym, subst, ap, ◌∙◌, append_assoc, length-append}
use Rattle.std.specs.Prelude.{slice_get}
use Rattle.std.specs.List.{Contains, list_any}
use Rattle.std.proofs.lemmas.Bool.{cases_Bool, or_parts, or_left, or_cases, not-true, false≢true, cond-true, cond-false, not_from_false}
use Rattle.std.proofs.lemmas.List.{append-nil}
use Rattle.std.proofs.lemmas.List.Folds.{list_any-append}
use Rattle.cstn_facts.proofs.Members.{contains_tail}
use Rattle.cstn_label.specs.Bounds.{Bound, Dominates}
use Rattle.cstn_rules.specs.Derivations.{Entry}
use Rattle.cstn_label.specs.Tests.{dominates}
use Rattle.cstn_check.specs.Growth.{is_covered, is_live, live_bounds}
use Rattle.cstn_check.proofs.Decided.{true_dominates, dominates_true}
use Rattle.cstn_label.proofs.BoundLemmas.{dominates_through, dominates_itself}
use Rattle.cstn_check.specs.Relations.{AreOnLetters}

-- G is L with more at the end
pub record Extends {A : Type 0} (L G : List A) : Type 0 where
  pub more : List A
  pub is : L ++ more ≡ G

pub extends_itself : {A : Type 0} (L : List A) → Extends L L
extends_itself L = record { more = []; is = append-nil L }

pub extends_through : {A : Type 0} (L M G : List A) → Extends L M → Extends M G → Extends L G
extends_through L M G e f = record {
  more = e.more ++ f.more;
  is = sym (append_assoc L e.more f.more) ∙ ap (λ l. l ++ f.more) e.is ∙ f.is;
}

get_same : {A : Type 0} (L M : List A) (k : ℕ) → k < length L → slice_get (L ++ M) k ≡ slice_get L k
get_same [] M k h = absurd (omega arith)
get_same (x ∷ xs) M zero h = refl
get_same (x ∷ xs) M (suc k) h = get_same xs M k (omega arith)

pub get_kept : {A : Type 0} (L G : List A) (k : ℕ) → Extends L G → k < length L → slice_get G k ≡ slice_get L k
get_kept L G k e h = ap (λ l. slice_get l k) (sym e.is) ∙ get_same L e.more k h

pub length_upto : {A : Type 0} (L G : List A) → Extends L G → length L ≤ length G
length_upto L G e = let l = ap length e.is in let m = length-append L e.more in omega arith

any_kept : (test : Entry → Bool) (L G : List Entry) → Extends L G → list_any test L ≡ true → list_any test G ≡ true
any_kept test L G e h =
    ap (list_any test) (sym e.is) ∙ list_any-append test L e.more ∙ or_left (list_any test L) (list_any test e.more) h

pub none_before : (test : Entry → Bool) (L G : List Entry) → Extends L G → list_any test G ≡ false → list_any test L ≡ false
none_before test L G e h =
    (or_parts (list_any test L) (list_any test e.more)
    (sym (list_any-append test L e.more) ∙ ap (list_any test) e.is ∙ h)).0

pub covered_kept : (L G : List Entry) (r : Bound) → Extends L G → is_covered L r ≡ true → is_covered G r ≡ true
covered_kept L G r e h = any_kept (λ x. dominates x.bound r) L G e h

live_before_more : (L M : List Entry) (k : ℕ) → k < length L → is_live (L ++ M) k ≡ true → is_live L k ≡ true
live_before_more [] M k h live = absurd (omega arith)
live_before_more (x ∷ xs) M zero h live =
    not_from_false (is_covered xs x.bound)
    (none_before (λ e. dominates e.bound x.bound) xs (xs ++ M) (record { more = M; is = refl })
    (not-true (is_covered (xs ++ M) x.bound) live))
live_before_more (x ∷ xs) M (suc k) h live = live_before_more xs M k (omega arith) live

pub live_before : (L G : List Entry) (k : ℕ) → Extends L G → k < length L → is_live G k ≡ true → is_live L k ≡ true
live_before L G k e h live = live_before_more L e.more k h (ap (λ l. is_live l k) e.is ∙ live)

-- a live place has an entry
pub live_entry : (L : List Entry) (k : ℕ) → is_live L k ≡ true → (k < length L) × ((e : Entry) × (slice_get L k ≡ Some e))
live_entry [] k h = absurd (false≢true h)
live_entry (x ∷ xs) zero h = (omega arith, (x, refl))
live_entry (x ∷ xs) (suc k) h = let r = live_entry xs k h in (let l = r.0 in omega arith, r.1)

-- ---- each entry is dominated by a live one

pub record DominatedBy (L : List Entry) (r : Bound) : Type 0 where
  pub place : ℕ
  pub entry : Entry
  pub there : slice_get L place ≡ Some entry
  pub dominates : Dominates entry.bound r

pub covered_by : (L : List Entry) (r : Bound) → AreOnLetters L →
    is_covered L r ≡ true → DominatedBy L r
covered_by [] r small h = absurd (false≢true h)
covered_by (x ∷ xs) r small h = elim (cases_Bool (dominates x.bound r)) [
  | inl head ↦ record { place = 0; entry = x; there = refl; dominates = true_dominates x.bound r (small 0 x refl) head }
  | inr other ↦
      let tail : is_covered xs r ≡ true = elim (or_cases (dominates x.bound r) (is_covered xs r) h) [
        | inl head ↦ absurd (false≢true (sym other ∙ head))
        | inr t ↦ t
      ] in
      let d = covered_by xs r (λ k e there. small (suc k) e there) tail in
      record { place = suc d.place; entry = d.entry; there = d.there; dominates = d.dominates }
]

pub record LiveOver (L : List Entry) (r : Bound) : Type 0 where
  pub place : ℕ
  pub entry : Entry
  pub there : slice_get L place ≡ Some entry
  pub live : is_live L place ≡ true
  pub dominates : Dominates entry.bound r

pub itself_true : (a : Bound) → dominates a a ≡ true
itself_true a = dominates_true a a (dominates_itself a)

live_over_at : (L : List Entry) → AreOnLetters L →
    (k : ℕ) (e : Entry) → slice_get L k ≡ Some e → LiveOver L e.bound
live_over_at [] small k e h = let f : ⊥ = cc in absurd f
live_over_at (x ∷ xs) small zero e h =
    let same : x ≡ e = cc in
    let first : LiveOver (x ∷ xs) x.bound = elim (cases_Bool (is_covered xs x.bound)) [
      | inr free ↦ record { place = 0; entry = x; there = refl; live = not_from_false (is_covered xs x.bound) free; dominates = dominates_itself x.bound }
      | inl covered ↦
          let d = covered_by xs x.bound (λ k e there. small (suc k) e there) covered in
          let l = live_over_at xs (λ k e there. small (suc k) e there) d.place d.entry d.there in
          record {
            place = suc l.place;
            entry = l.entry;
            there = l.there;
            live = l.live;
            dominates = dominates_through l.entry.bound d.entry.bound x.bound l.dominates d.dominates;
          }
    ] in
    subst (λ y. LiveOver (x ∷ xs) y.bound) same first
live_over_at (x ∷ xs) small (suc k) e h =
    let l = live_over_at xs (λ k e there. small (suc k) e there) k e h in
    record { place = suc l.place; entry = l.entry; there = l.there; live = l.live; dominates = l.dominates }

pub live_over : (L : List Entry) (r : Bound) → AreOnLetters L →
    is_covered L r ≡ true → LiveOver L r
live_over L r small h =
    let d = covered_by L r small h in
    let l = live_over_at L small d.place d.entry d.there in
    record {
      place = l.place;
      entry = l.entry;
      there = l.there;
      live = l.live;
      dominates = dominates_through l.entry.bound d.entry.bound r l.dominates d.dominates;
    }

-- ---- the bounds of the live entries

pub live_listed : (L : List Entry) (k : ℕ) (e : Entry) → slice_get L k ≡ Some e → is_live L k ≡ true →
    Contains (live_bounds L) e.bound
live_listed [] k e h live = let f : ⊥ = cc in absurd f
live_listed (x ∷ xs) zero e h live =
    let same : x ≡ e = cc in
    subst (λ y. Contains (live_bounds (x ∷ xs)) y.bound) same
    (subst (λ l. Contains l x.bound)
    (sym (cond-false (is_covered xs x.bound) (live_bounds xs) (x.bound ∷ live_bounds xs) (not-true (is_covered xs x.bound) live)))
    (0, omega arith, refl))
live_listed (x ∷ xs) (suc k) e h live =
    let tail = live_listed xs k e h live in
    elim (cases_Bool (is_covered xs x.bound)) [
      | inl covered ↦ subst (λ l. Contains l e.bound) (sym (cond-true (is_covered xs x.bound) (live_bounds xs) (x.bound ∷ live_bounds xs) covered)) tail
      | inr free ↦ subst (λ l. Contains l e.bound) (sym (cond-false (is_covered xs x.bound) (live_bounds xs) (x.bound ∷ live_bounds xs) free))
          (contains_tail x.bound e.bound (live_bounds xs) tail)
    ]

pub record LiveAt (L : List Entry) (b : Bound) : Type 0 where
  pub place : ℕ
  pub entry : Entry
  pub there : slice_get L place ≡ Some entry
  pub live : is_live L place ≡ true
  pub bound : entry.bound ≡ b

later_at : (x : Entry) (xs : List Entry) (b : Bound) → LiveAt xs b → LiveAt (x ∷ xs) b
later_at x xs b l = record { place = suc l.place; entry = l.entry; there = l.there; live = l.live; bound = l.bound }

pub listed_live : (L : List Entry) (b : Bound) → Contains (live_bounds L) b → LiveAt L b
listed_live [] b h = let l = h.1 in absurd (omega arith)
listed_live (x ∷ xs) b h = elim (cases_Bool (is_covered xs x.bound)) [
  | inl covered ↦ later_at x xs b (listed_live xs b
      (subst (λ l. Contains l b) (cond-true (is_covered xs x.bound) (live_bounds xs) (x.bound ∷ live_bounds xs) covered) h))
  | inr free ↦
      go (subst (λ l. Contains l b) (cond-false (is_covered xs x.bound) (live_bounds xs) (x.bound ∷ live_bounds xs) free) h) free
      (listed_live xs b)
]
  where
    go_at : (k : ℕ) → k < length (x.bound ∷ live_bounds xs) → get_or (x.bound ∷ live_bounds xs) k b ≡ b →
        is_covered xs x.bound ≡ false → (Contains (live_bounds xs) b → LiveAt xs b) → LiveAt (x ∷ xs) b
    go_at zero l e free rest = record { place = 0; entry = x; there = refl; live = not_from_false (is_covered xs x.bound) free; bound = e }
    go_at (suc k) l e free rest = later_at x xs b (rest (k, omega arith, e))

    go : Contains (x.bound ∷ live_bounds xs) b → is_covered xs x.bound ≡ false →
        (Contains (live_bounds xs) b → LiveAt xs b) → LiveAt (x ∷ xs) b
    go h free rest = go_at h.0 h.1 h.2 free rest
