-- Listings by place: what is printed is read again, and what is read is what is printed, in some form of each line.
use Rattle.std.proofs.Common.{ℕ, ◌≡◌, ◌+◌, ◌<◌, ◌≤◌, ◌^◌, List, [], ◌∷◌, ◌++◌, length, get_or, take, map, arith, refl, sym, ap, ◌∙◌, subst, append_assoc, length-append}
use Rattle.std.specs.Prelude.{Option, Some}
use Rattle.std.specs.List.{All}
use Rattle.std.proofs.lemmas.Grind.{common_steps}
use Rattle.std.proofs.lemmas.List.{map_more, length-map}
use Rattle.std.proofs.lemmas.List.Elements.{All-nil, All-cons, All-head, All-tail}
use Rattle.cstn_text.specs.Numbers.{printed_number}
use Rattle.cstn_text.specs.Parts.{IsOnePart}
use Rattle.cstn_text.specs.Listings.{tells, told, AreLines, by_places, printed_lines, printed_listing, AreLinesBy, IsListingBy, AreListable}
use Rattle.cstn_text.proofs.ReadingLemmas.{IsFree}
use Rattle.cstn_text.proofs.ListingLemmas.{ends_some, some_ends, text_back, text_said}

module _ {A : Type 0} (most : ℕ) (read : ℕ → List ℕ → Option A) (CanStand : A → Type 0) (IsLine : ℕ → A → List ℕ → Type 0) where
  -- each line of a thing that can stand in a listing is read as it
  abbrev pub AreReadBack : Type 0
  AreReadBack = (k : ℕ) (x : A) (line : List ℕ) → k < most → CanStand x → IsLine k x line → (read k line ≡ Some x) × IsFree line

  -- what is read of a line can stand in a listing, and the line is one of its lines
  abbrev pub AreSaid : Type 0
  AreSaid = (k : ℕ) (line : List ℕ) (x : A) → read k line ≡ Some x → (k < most) × CanStand x × IsLine k x line

module _ {A : Type 0} (word : List ℕ) (most : ℕ) (read : ℕ → List ℕ → Option A) (CanStand : A → Type 0) (IsLine : ℕ → A → List ℕ → Type 0) where
  lines_read : AreReadBack most read CanStand IsLine → (before : List A) (k : ℕ) (xs : List A) (text : List ℕ) → length before ≡ k → k + length xs ≤ most →
      All CanStand xs → AreLinesBy IsLine k xs text → AreLines (by_places word most read) before xs text
  lines_read back before k [] text long few each lines = lines
  lines_read back before k (x ∷ xs) text long few each (line, rest, is, whole, lines) =
      let its = back k x line (omega (arith, few)) (All-head CanStand x xs each) is in
      let longer : length (before ++ x ∷ []) ≡ k + 1 = length-append before (x ∷ []) ∙ omega (arith, long) in (
        line,
        rest,
        ap (λ n. read n line) long ∙ its.0,
        its.1,
        whole,
        lines_read back (before ++ x ∷ []) (k + 1) xs rest longer (omega (arith, few)) (All-tail CanStand x xs each) lines,
      )

  -- a text with a line of each of the things, in any of its forms, says them
  pub listing_back : IsOnePart word → most < 2 ^ 64 → AreReadBack most read CanStand IsLine → (load : ℕ) (xs : List A) (text : List ℕ) →
      AreListable most CanStand load xs → IsListingBy word IsLine load xs text → told (by_places word most read) text ≡ tells load xs
  listing_back one small back load xs text is (rest, whole, lines) =
      text_back (by_places word most read) one small text load xs (record {
        low = is.load_low;
        high = is.load_high;
        ends = ends_some xs is.some;
        lines = rest;
        text = whole;
        each = lines_read back [] 0 xs rest refl (omega (arith, is.few)) is.each lines;
      })

  printed_are : (line : ℕ → A → List ℕ) → ((k : ℕ) (x : A) → CanStand x → IsLine k x (line k x)) → (k : ℕ) (xs : List A) → All CanStand xs →
      AreLinesBy IsLine k xs (printed_lines line k xs)
  printed_are line are k [] each = refl
  printed_are line are k (x ∷ xs) each =
      (line k x, printed_lines line (k + 1) xs, are k x (All-head CanStand x xs each), refl, printed_are line are (k + 1) xs (All-tail CanStand x xs each))

  -- the printed text of a load and things says them
  pub printed_back : IsOnePart word → most < 2 ^ 64 → AreReadBack most read CanStand IsLine → (line : ℕ → A → List ℕ) →
      ((k : ℕ) (x : A) → CanStand x → IsLine k x (line k x)) → (load : ℕ) (xs : List A) → AreListable most CanStand load xs →
      told (by_places word most read) (printed_listing word line load xs) ≡ tells load xs
  printed_back one small back line are load xs is =
      listing_back one small back load xs (printed_listing word line load xs) is (printed_lines line 0 xs, refl, printed_are line are 0 xs is.each)

  lines_said : AreSaid most read CanStand IsLine → (before : List A) (k : ℕ) (xs : List A) (text : List ℕ) → length before ≡ k → k ≤ most →
      AreLines (by_places word most read) before xs text → (k + length xs ≤ most) × All CanStand xs × AreLinesBy IsLine k xs text
  lines_said said before k [] text long few lines = (omega (arith, few), All-nil CanStand, lines)
  lines_said said before k (x ∷ xs) text long few (line, rest, is, free, whole, lines) =
      let its = said k line x (subst (λ n. read n line ≡ Some x) long is) in
      let longer : length (before ++ x ∷ []) ≡ k + 1 = length-append before (x ∷ []) ∙ omega (arith, long) in
      let more = lines_said said (before ++ x ∷ []) (k + 1) xs rest longer (omega (arith, its.0)) lines in
      (omega (arith, more.0), All-cons CanStand x xs its.1 more.1, (line, rest, its.2, whole, more.2))

  -- a text that says a load and things can list them, and has a line of each of them
  pub listing_said : AreSaid most read CanStand IsLine → (bytes : List ℕ) (load : ℕ) (xs : List A) → told (by_places word most read) bytes ≡ tells load xs →
      AreListable most CanStand load xs × IsListingBy word IsLine load xs bytes
  listing_said said bytes load xs e =
      let is = text_said (by_places word most read) bytes load xs e in
      let its = lines_said said [] 0 xs is.lines refl (omega arith) is.each in
      (record { load_low = is.low; load_high = is.high; some = some_ends xs is.ends; few = omega (arith, its.0); each = its.1 }, (is.lines, is.text, its.2))

module _ {A B : Type 0} (view : B → A) (word : List ℕ) (line : ℕ → A → List ℕ) where
  -- the lines of some things and of a further one
  lines_of_more : (k : ℕ) (xs : List A) (x : A) → printed_lines line k (xs ++ x ∷ []) ≡ printed_lines line k xs ++ (line (k + length xs) x ++ 10 ∷ [])
  lines_of_more k [] x =
      let same : k ≡ k + length {A = A} [] = omega arith in
      ap (λ n. line n x ++ 10 ∷ []) same
  lines_of_more k (y ∷ ys) x =
      let moved : k + 1 + length ys ≡ k + length (y ∷ ys) = omega arith in
      ap (λ t. line k y ++ 10 ∷ t) (lines_of_more (k + 1) ys x ∙ ap (λ n. printed_lines line (k + 1) ys ++ (line n x ++ 10 ∷ [])) moved)
      ∙ sym (append_assoc (line k y) (10 ∷ printed_lines line (k + 1) ys) (line (k + length (y ∷ ys)) x ++ 10 ∷ []))

  -- a listing of some things goes on with the line of the next
  pub listing_grows : (load : ℕ) (xs : List B) (k : ℕ) (x : B) (old : List ℕ) → k < length xs → x ≡ get_or xs k x →
      old ≡ printed_listing word line load (map view (take k xs)) → old ++ (line k (view x) ++ 10 ∷ []) ≡ printed_listing word line load (map view (take (k + 1) xs))
  listing_grows load xs k x old inside there before =
      let many : length (map view (take k xs)) ≡ k = rw (length-map (take k xs) view) (grind (arith, common_steps)) in
      let long : 0 + length (map view (take k xs)) ≡ k = omega arith in
      let done = map view (take k xs) in
      let more = map_more view xs k x inside ∙ ap (λ y. map view (take k xs) ++ view y ∷ []) (sym there) in
      let front = word ++ 32 ∷ printed_number load in
      ap (λ t. t ++ (line k (view x) ++ 10 ∷ [])) before
      ∙ append_assoc front (10 ∷ printed_lines line 0 done) (line k (view x) ++ 10 ∷ [])
      ∙ ap (λ t. front ++ 10 ∷ t)
      (ap (λ n. printed_lines line 0 done ++ (line n (view x) ++ 10 ∷ [])) (sym long)
      ∙ sym (lines_of_more 0 done (view x))
      ∙ ap (printed_lines line 0) (sym more))
