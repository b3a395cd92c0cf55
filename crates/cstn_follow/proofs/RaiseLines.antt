-- `raise` and the number of a constraint.
use Rattle.std.proofs.Common.{ℕ, ◌≡◌, ◌<◌, ◌^◌, Bool, true, false, List, ◌∷◌, ◌++◌, take, drop, Option, Some, None, arith, refl, sym, subst, ap, ◌∙◌}
use Rattle.std.specs.Prelude.{nat_le, ◌&&◌, if◌then◌else◌, codes, bytes_eq}
use Rattle.std.specs.Option.{option_map, option_and_then}
use Rattle.std.proofs.lemmas.List.{take-append-drop}
use Rattle.std.proofs.lemmas.Slice.Eq.{bytes_eq-Decides}
use Rattle.cstn_text.specs.Numbers.{number_read, number_within, printed_number}
use Rattle.cstn_text.proofs.NumberLemmas.{number_back, number_printed}
use Rattle.cstn_follow.specs.Asking.{FurtherQuestion, asks_raise, IsFurtherQuestion, raise_read, printed_asked}

-- an id is read back
within_back : (n : ℕ) → n < 2 ^ 32 → number_within 0 4294967295 (printed_number n) ≡ Some n
within_back n small =
    ap (option_and_then (λ k. if nat_le 0 k && nat_le k 4294967295 then Some k else None)) (number_back n (omega arith)) ∙ chosen n small
  where
    chosen : (k : ℕ) → k < 2 ^ 32 → (if nat_le 0 k && nat_le k 4294967295 then Some k else None) ≡ Some k
    chosen k few = grind arith

pub raise_back : (id : ℕ) → id < 2 ^ 32 → raise_read (codes "raise" ++ 32 ∷ printed_number id) ≡ Some (asks_raise id)
raise_back id small = ap (option_map asks_raise) (within_back id small)

within_only : (text : List ℕ) (n : ℕ) → number_within 0 4294967295 text ≡ Some n → (printed_number n ≡ text) × (n < 2 ^ 32)
within_only text n is = by (number_read text) refl is
  where
    by_test : (k : ℕ) (b : Bool) → number_read text ≡ Some k → (nat_le 0 k && nat_le k 4294967295) ≡ b → (if b then Some k else None) ≡ Some n
        → (printed_number n ≡ text) × (n < 2 ^ 32)
    by_test k true reads within so =
        let same : k ≡ n = cc in
        let only = number_printed text k reads in
        subst (λ j. (printed_number j ≡ text) × (j < 2 ^ 32)) same (only.0, few k within)
      where
        few : (j : ℕ) → (nat_le 0 j && nat_le j 4294967295) ≡ true → j < 2 ^ 32
        few j e = grind arith
    by_test k false reads within so = absurd (cc)

    by : (o : Option ℕ) → number_read text ≡ o → option_and_then (λ k. if nat_le 0 k && nat_le k 4294967295 then Some k else None) o ≡ Some n
        → (printed_number n ≡ text) × (n < 2 ^ 32)
    by None reads so = absurd (cc)
    by (Some k) reads so = by_test k (nat_le 0 k && nat_le k 4294967295) reads refl so

pub raise_only : (text : List ℕ) (question : FurtherQuestion) → raise_read text ≡ Some question → (printed_asked question ≡ text) × IsFurtherQuestion question
raise_only text question is = by_word (bytes_eq (take 6 text) (codes "raise ")) refl is
  where
    by_number : (rest : List ℕ) → rest ≡ drop 6 text → codes "raise " ≡ take 6 text → (o : Option ℕ) → number_within 0 4294967295 rest ≡ o
        → option_map asks_raise o ≡ Some question → (printed_asked question ≡ text) × IsFurtherQuestion question
    by_number rest behind_is word_is None reads so = absurd (cc)
    by_number rest behind_is word_is (Some id) reads so =
        let same : asks_raise id ≡ question = cc in
        let only = within_only rest id reads in
        let whole : codes "raise " ++ printed_number id ≡ text =
        ap (λ l. codes "raise " ++ l) (only.0 ∙ behind_is) ∙ ap (λ l. l ++ drop 6 text) word_is ∙ take-append-drop 6 text in
        subst (λ q. (printed_asked q ≡ text) × IsFurtherQuestion q) same (whole, only.1)

    by_word : (b : Bool) → bytes_eq (take 6 text) (codes "raise ") ≡ b
        → option_and_then (λ rest. option_map asks_raise (number_within 0 4294967295 rest)) (if b then Some (drop 6 text) else None) ≡ Some question
        → (printed_asked question ≡ text) × IsFurtherQuestion question
    by_word true word so = by_number (drop 6 text) refl (sym ((bytes_eq-Decides (take 6 text) (codes "raise ")).0 word)) (number_within 0 4294967295 (drop 6 text)) refl so
    by_word false word so = absurd (cc)
