-- Where the first `&` stands.
use Rattle.std.proofs.Common.{◌≡◌, ℕ, suc, ◌+◌, ◌-◌, ◌<◌, ◌≤◌, Bool, true, false, not, cond, List, [], ◌∷◌, ◌++◌, length, take, drop, get_or, refl, ap, sym, ◌∙◌, subst, arith, length-drop}
use Rattle.std.specs.Prelude.{◌==◌}
use Rattle.std.specs.List.{prefix_len, list_all}
use Rattle.std.proofs.Math.Seq.{drop-cons}
use Rattle.std.proofs.lemmas.List.{take_all, take-append-drop}
use Rattle.std.proofs.lemmas.List.Sums.{prefix_len_stops}
use Rattle.cstn_markup.specs.Bytes.{IsSplit}
use Rattle.cstn_markup.proofs.Skips.{take_rest}

abbrev is_plain : ℕ → Bool
is_plain b = not (b == 38)

-- each byte of the longest front that passes the test passes it
front_by : (p : ℕ → Bool) (b : ℕ) (bytes : List ℕ) (t : Bool) → p b ≡ t → list_all p (take (prefix_len p bytes) bytes) ≡ true → list_all p (take (cond (p b) (1 + prefix_len p bytes) 0) (b ∷ bytes)) ≡ true
front_by p b bytes true e h = let one : 1 + prefix_len p bytes ≡ suc (prefix_len p bytes) = omega arith in rw (e, one, e, h) refl
front_by p b bytes false e h = rw e refl

front_passes : (p : ℕ → Bool) (bytes : List ℕ) → list_all p (take (prefix_len p bytes) bytes) ≡ true
front_passes p [] = refl
front_passes p (b ∷ bytes) = front_by p b bytes (p b) refl (front_passes p bytes)

-- all bytes pass the test where nothing follows the longest front that passes it
all_pass : (p : ℕ → Bool) (bytes : List ℕ) → length (drop (prefix_len p bytes) bytes) ≡ 0 → list_all p bytes ≡ true
all_pass p bytes e =
    let long : length bytes ≤ prefix_len p bytes = omega (arith, length-drop (prefix_len p bytes) bytes) in
    subst (λ xs. list_all p xs ≡ true) (take_all (prefix_len p bytes) bytes long) (front_passes p bytes)

mark_is : (b : ℕ) → not (b == 38) ≡ false → b ≡ 38
mark_is b e = grind arith

pub split_found : (n : ℕ) (bytes behind : List ℕ) (b : ℕ) → n ≡ prefix_len (λ c. not (c == 38)) bytes → take (length bytes - n) (drop n bytes) ≡ b ∷ behind → IsSplit bytes (take n bytes) behind
split_found n bytes behind b is e =
    let here : drop n bytes ≡ b ∷ behind = sym (take_rest n bytes) ∙ e in
    let inside : n < length bytes = omega (arith, ap length here, length-drop n bytes) in
    let first : get_or bytes n 0 ∷ drop (suc n) bytes ≡ b ∷ behind = sym (drop-cons bytes n 0 inside) ∙ here in
    let stops : not (get_or bytes n 0 == 38) ≡ false = subst (λ k. not (get_or bytes k 0 == 38) ≡ false) (sym is) (prefix_len_stops (λ c. not (c == 38)) bytes 0 (subst (λ k. k < length bytes) is inside)) in
    let mark : b ≡ 38 = (let same : get_or bytes n 0 ≡ b = cc in sym same) ∙ mark_is _ stops in
    record {
      is = sym (take-append-drop n bytes) ∙ ap (λ r. take n bytes ++ r) (here ∙ ap (λ c. c ∷ behind) mark);
      plain = subst (λ k. list_all is_plain (take k bytes) ≡ true) (sym is) (front_passes is_plain bytes);
    }

pub none_found : (n : ℕ) (bytes : List ℕ) → n ≡ prefix_len (λ c. not (c == 38)) bytes → length (take (length bytes - n) (drop n bytes)) ≡ 0 → list_all (λ c. not (c == 38)) bytes ≡ true
none_found n bytes is e =
    let short : length (drop n bytes) ≡ 0 = ap length (sym (take_rest n bytes)) ∙ e in
    all_pass is_plain bytes (subst (λ k. length (drop k bytes) ≡ 0) is short)
