-- The constraints that are added in the rest, one kind after the other.
use Rattle.std.proofs.Common.{ℕ, zero, suc, ◌≡◌, ◌⊎◌, inl, inr, ◌<◌, Bool, true, false, [], ◌∷◌, Option, Some, None, arith, refl, sym, subst, ap, ◌∙◌}
use Rattle.std.specs.Prelude.{pos, ◌-ℤ◌, nat_lt, if◌then◌else◌, not, ◌&&◌}
use Rattle.std.specs.Option.{is_some}
use Rattle.std.specs.List.{Contains, range_with_len}
use Rattle.std.proofs.lemmas.Bool.{lt-ltb, ltb-true}
use Rattle.cstn_facts.proofs.Members.{flat_map_contains, flat_map_from, contains_one, contains_head}
use Rattle.cstn_facts.proofs.Ranges.{range_contains, range_from}
use Rattle.cstn_net.specs.Networks.{Constraint, count, limit}
use Rattle.cstn_lift.specs.Labelled.{Labelled}
use Rattle.cstn_history.specs.Histories.{History, is_done, soonest}
use Rattle.cstn_history.specs.Rest.{sight_left, is_left, number_left, bare, late_one, late, moment_watched, stands_at, watched_one, watched, coming_one, coming}

second_in : {X : Type 0} → (x y : X) → Contains (x ∷ (y ∷ [])) y
second_in x y = (1, omega arith, refl)

none_in : {X : Type 0} → (x : X) → Contains [] x → ⊥
none_in x has = let inside = has.1 in omega arith

one_of_two : {X : Type 0} → (x y z : X) → Contains (x ∷ (y ∷ [])) z → (x ≡ z) ⊎ (y ≡ z)
one_of_two x y z (zero, inside, here) = inl here
one_of_two x y z (suc zero, inside, here) = inr here
one_of_two x y z (suc (suc k), inside, here) = absurd (omega arith)

module _ (m : Labelled) (h : History) where
  abbrev n : ℕ
  n = count m.base

  -- x was done at t, above its limit
  pub record IsLate (e : Constraint) : Type 0 where
    pub point : ℕ
    pub moment : ℕ
    pub done : h.done point ≡ Some moment
    pub above : limit m.base point < moment
    pub is : bare 0 0 (pos (limit m.base point) -ℤ pos moment) ≡ e

  pub late_in : (x t : ℕ) → x < count m.base → h.done x ≡ Some t → limit m.base x < t →
      Contains (late m h) (bare 0 0 (pos (limit m.base x) -ℤ pos t))
  late_in x t here e above =
      let d = bare 0 0 (pos (limit m.base x) -ℤ pos t) in
      flat_map_contains (λ y. late_one m y (h.done y)) (range_with_len 0 (count m.base)) x d (range_contains (count m.base) x here)
      (subst (λ l. Contains l d) (sym (ap (late_one m x) e ∙ ap (λ b. if b then d ∷ [] else []) (lt-ltb (limit m.base x) t above))) (contains_head d []))

  late_by : (x : ℕ) (o : Option ℕ) (e : Constraint) → h.done x ≡ o → Contains (late_one m x o) e → IsLate e
  late_by x None e at has = absurd (none_in e has)
  late_by x (Some t) e at has = late_above (nat_lt (limit m.base x) t) refl has
    where
      late_above : (b : Bool) → nat_lt (limit m.base x) t ≡ b →
          Contains (if b then bare 0 0 (pos (limit m.base x) -ℤ pos t) ∷ [] else []) e → IsLate e
      late_above true is among = record {
        point = x;
        moment = t;
        done = at;
        above = ltb-true (limit m.base x) t is;
        is = contains_one (bare 0 0 (pos (limit m.base x) -ℤ pos t)) e among;
      }
      late_above false is among = absurd (none_in e among)

  pub late_from : (e : Constraint) → Contains (late m h) e → IsLate e
  late_from e has =
      let from = flat_map_from (λ y. late_one m y (h.done y)) (range_with_len 0 (count m.base)) e has in
      late_by from.0 (h.done from.0) e refl from.2

  -- by e, the watched time-point isn't earlier, or isn't later
  pub record IsWatched (e : Constraint) : Type 0 where
    pub point : ℕ
    pub moment : ℕ
    pub prop : ℕ
    pub here : suc point < count m.base
    pub done : h.done (suc point) ≡ Some moment
    pub sees : sight_left m h (suc point) ≡ Some prop
    pub is : (bare (number_left m h (suc point)) 0 (pos 0 -ℤ pos (moment_watched m h prop moment)) ≡ e)
        ⊎ (bare 0 (number_left m h (suc point)) (pos (moment_watched m h prop moment)) ≡ e)

  watched_is : (x t p : ℕ) → h.done (suc x) ≡ Some t → sight_left m h (suc x) ≡ Some p →
      watched_one m h (suc x) (h.done (suc x)) (sight_left m h (suc x)) ≡ stands_at (number_left m h (suc x)) (moment_watched m h p t)
  watched_is x t p e f = ap (λ o. watched_one m h (suc x) o (sight_left m h (suc x))) e ∙ ap (watched_one m h (suc x) (Some t)) f

  watched_in : (x t p : ℕ) (d : Constraint) → suc x < count m.base → h.done (suc x) ≡ Some t → sight_left m h (suc x) ≡ Some p →
      Contains (stands_at (number_left m h (suc x)) (moment_watched m h p t)) d → Contains (watched m h) d
  watched_in x t p d here e f has =
      flat_map_contains (λ y. watched_one m h y (h.done y) (sight_left m h y)) (range_with_len 0 (count m.base)) (suc x) d
      (range_contains (count m.base) (suc x) here) (subst (λ l. Contains l d) (sym (watched_is x t p e f)) has)

  pub watched_low : (x t p : ℕ) → suc x < count m.base → h.done (suc x) ≡ Some t → sight_left m h (suc x) ≡ Some p →
      Contains (watched m h) (bare (number_left m h (suc x)) 0 (pos 0 -ℤ pos (moment_watched m h p t)))
  watched_low x t p here e f = watched_in x t p (bare (number_left m h (suc x)) 0 (pos 0 -ℤ pos (moment_watched m h p t))) here e f
      (contains_head (bare (number_left m h (suc x)) 0 (pos 0 -ℤ pos (moment_watched m h p t))) (bare 0 (number_left m h (suc x)) (pos (moment_watched m h p t)) ∷ []))

  pub watched_high : (x t p : ℕ) → suc x < count m.base → h.done (suc x) ≡ Some t → sight_left m h (suc x) ≡ Some p →
      Contains (watched m h) (bare 0 (number_left m h (suc x)) (pos (moment_watched m h p t)))
  watched_high x t p here e f = watched_in x t p (bare 0 (number_left m h (suc x)) (pos (moment_watched m h p t))) here e f
      (second_in (bare (number_left m h (suc x)) 0 (pos 0 -ℤ pos (moment_watched m h p t))) (bare 0 (number_left m h (suc x)) (pos (moment_watched m h p t))))

  watched_by : (x : ℕ) (o q : Option ℕ) (e : Constraint) → x < count m.base → h.done x ≡ o → sight_left m h x ≡ q →
      Contains (watched_one m h x o q) e → IsWatched e
  watched_by zero o q e here at sees has = absurd (none_in e has)
  watched_by (suc x) None q e here at sees has = absurd (none_in e has)
  watched_by (suc x) (Some t) None e here at sees has = absurd (none_in e has)
  watched_by (suc x) (Some t) (Some p) e here at sees has = record {
    point = x;
    moment = t;
    prop = p;
    here = here;
    done = at;
    sees = sees;
    is = one_of_two (bare (number_left m h (suc x)) 0 (pos 0 -ℤ pos (moment_watched m h p t)))
        (bare 0 (number_left m h (suc x)) (pos (moment_watched m h p t))) e has;
  }

  pub watched_from : (e : Constraint) → Contains (watched m h) e → IsWatched e
  watched_from e has =
      let from = flat_map_from (λ y. watched_one m h y (h.done y) (sight_left m h y)) (range_with_len 0 (count m.base)) e has in
      watched_by from.0 (h.done from.0) (sight_left m h from.0) e (range_from (count m.base) from.0 from.1) refl refl from.2

  -- by e, x isn't before now and when it is ready
  pub record IsComing (e : Constraint) : Type 0 where
    pub point : ℕ
    pub here : point < count m.base
    pub left : is_left m h point ≡ true
    pub coming : h.done point ≡ None
    pub is : bare (number_left m h point) 0 (pos 0 -ℤ pos (soonest h point)) ≡ e

  pub coming_in : (x : ℕ) → x < count m.base → 0 < soonest h x → is_left m h x ≡ true → h.done x ≡ None →
      Contains (coming m h) (bare (number_left m h x) 0 (pos 0 -ℤ pos (soonest h x)))
  coming_in x here later left none =
      let d = bare (number_left m h x) 0 (pos 0 -ℤ pos (soonest h x)) in
      let undone : is_done h x ≡ false = ap is_some none in
      flat_map_contains (coming_one m h) (range_with_len 0 (count m.base)) x d (range_contains (count m.base) x here)
      (subst (λ l. Contains l d) (sym (ap (λ b. if b && is_left m h x && not (is_done h x) then d ∷ [] else []) (lt-ltb 0 (soonest h x) later)
      ∙ ap (λ b. if true && b && not (is_done h x) then d ∷ [] else []) left ∙ ap (λ b. if true && true && not b then d ∷ [] else []) undone)) (contains_head d []))

  undone : (o : Option ℕ) → is_some o ≡ false → o ≡ None
  undone None e = refl
  undone (Some t) e = absurd (cc)

  coming_by : (x : ℕ) (e : Constraint) (a b c : Bool) → x < count m.base → is_left m h x ≡ b → is_done h x ≡ c →
      Contains (if a && b && not c then bare (number_left m h x) 0 (pos 0 -ℤ pos (soonest h x)) ∷ [] else []) e → IsComing e
  coming_by x e true true false here left none has = record {
    point = x;
    here = here;
    left = left;
    coming = undone (h.done x) none;
    is = contains_one (bare (number_left m h x) 0 (pos 0 -ℤ pos (soonest h x))) e has;
  }
  coming_by x e true true true here left none has = absurd (none_in e has)
  coming_by x e true false c here left none has = absurd (none_in e has)
  coming_by x e false b c here left none has = absurd (none_in e has)

  pub coming_from : (e : Constraint) → Contains (coming m h) e → IsComing e
  coming_from e has =
      let from = flat_map_from (coming_one m h) (range_with_len 0 (count m.base)) e has in
      coming_by from.0 e (nat_lt 0 (soonest h from.0)) (is_left m h from.0) (is_done h from.0) (range_from (count m.base) from.0 from.1) refl refl from.2
