-- A printed name is UTF-8, and gives the name back.
use Rattle.std.proofs.Common.{◌≡◌, ℕ, zero, suc, ◌+◌, ◌*◌, ◌/◌, ◌%◌, ◌<◌, ◌≤◌, List, [], ◌∷◌, ◌++◌, length, get_or, drop, refl, ap, sym, ◌∙◌, subst, arith, Bool, true, false, ◌&&◌, Option, append_assoc, append-nil, ⊎_elim, ◌⊎◌, length-append}
use Rattle.std.specs.Prelude.{◌==◌, nat_lt, nat_le, Some, None, if◌then◌else◌, bytes_eq}
use Rattle.std.specs.Fmt.{digit_glyph}
use Rattle.std.specs.Str.{IsUtf8, IsAscii, is_utf8, encode_utf8_all, all_scalars}
use Rattle.std.proofs.Math.Utf8.{encode, scalar}
use Rattle.std.proofs.lemmas.Bool.{and_parts}
use Rattle.std.proofs.lemmas.Slice.Eq.{bytes_eq-Decides}
use Rattle.std.proofs.lemmas.Grind.{flat_map-append}
use Rattle.std.proofs.lemmas.List.{append_cancel_left}
use Rattle.std.proofs.lemmas.Str.{inside_one, encode_ascii, IsUtf8-nil, IsUtf8-append, IsUtf8-from_ascii, IsUtf8-encode, is_utf8-from_IsUtf8, IsUtf8-from_is_utf8}
use Rattle.cstn_text.specs.PrintedNames.{is_plain_byte, printed_byte, printed_name, hex_value, unprinted_after, unprinted, name_read}
use Rattle.cstn_text.specs.Names.{IsName, is_name}

plain_above : (b : ℕ) → 128 ≤ b → is_plain_byte b ≡ true
plain_above b high = grind arith

escaped_below : (b : ℕ) → is_plain_byte b ≡ false → b < 128
escaped_below b escaped = grind arith

plain_no_escape : (b : ℕ) → is_plain_byte b ≡ true → (b == 37) ≡ false
plain_no_escape b plain = grind arith

high_bytes_stay : (bytes : List ℕ) → ((k : ℕ) → k < length bytes → 128 ≤ get_or bytes k 0) → printed_name bytes ≡ bytes
high_bytes_stay [] high = refl
high_bytes_stay (b ∷ bytes) high =
    rw (plain_above b (high 0 (omega arith))) (ap (λ (bs : List ℕ). b ∷ bs) (high_bytes_stay bytes (λ k inside. high (suc k) (omega arith))))

split_at_128 : (b : ℕ) → (b < 128) ⊎ (128 ≤ b)
split_at_128 b = grind arith

high_byte : (c : ℕ) → 128 ≤ c → (k : ℕ) → k < length (encode c) → 128 ≤ get_or (encode c) k 0
high_byte c high k inside =
    ⊎_elim (λ low. absurd (not_low c high k inside low)) (λ e. e) (split_at_128 (get_or (encode c) k 0))
  where
    not_low : (c : ℕ) → 128 ≤ c → (k : ℕ) → k < length (encode c) → get_or (encode c) k 0 < 128 → ⊥
    not_low c high k inside low = omega (arith, inside_one c [] (encode c) k (sym (append-nil (encode c))) inside low)

hex_back : (d : ℕ) → d < 16 → hex_value (digit_glyph true d) ≡ d
hex_back d small = grind arith

glyph_small : (d : ℕ) → d < 16 → digit_glyph true d < 128
glyph_small d small = grind arith

three_ascii : (a b c : ℕ) → a < 128 → b < 128 → c < 128 → IsAscii (a ∷ b ∷ c ∷ [])
three_ascii a b c x y z zero = x
three_ascii a b c x y z (suc zero) = y
three_ascii a b c x y z (suc (suc zero)) = z
three_ascii a b c x y z (suc (suc (suc i))) = omega arith

one_ascii : (a : ℕ) → a < 128 → IsAscii (a ∷ [])
one_ascii a x zero = x
one_ascii a x (suc i) = omega arith

byte_ascii : (b : ℕ) (plain : Bool) → is_plain_byte b ≡ plain → b < 128 → IsAscii (printed_byte b)
byte_ascii b true e small = rw e (one_ascii b small)
byte_ascii b false e small = rw e (three_ascii 37 _ _ (omega arith) (glyph_small (b / 16) (omega arith)) (glyph_small (b % 16) (omega arith)))

printed_char : (c : ℕ) → scalar c ≡ true → IsUtf8 (printed_name (encode c))
printed_char c is = ⊎_elim
    (λ small. rw (encode_ascii c small, append-nil) (IsUtf8-from_ascii _ (byte_ascii c (is_plain_byte c) refl small)))
    (λ high. rw (high_bytes_stay (encode c) (λ k inside. high_byte c high k inside)) (IsUtf8-encode c is))
    (split_at_128 c)

printed_chars : (cs : List ℕ) → all_scalars cs ≡ true → IsUtf8 (printed_name (encode_utf8_all cs))
printed_chars [] all = IsUtf8-nil
printed_chars (c ∷ cs) all =
    let parts = and_parts (scalar c) (all_scalars cs) all in
    rw flat_map-append (IsUtf8-append _ _ (printed_char c parts.0) (printed_chars cs parts.1))

-- a printed name is UTF-8
pub printed_utf8 : (name : List ℕ) → IsUtf8 name → IsUtf8 (printed_name name)
printed_utf8 name text = subst (λ (bs : List ℕ). IsUtf8 (printed_name bs)) text.1.1 (printed_chars text.0 text.1.0)

pub unprinted_skip : (skip : ℕ) (bytes : List ℕ) → unprinted_after skip bytes ≡ unprinted_after 0 (drop skip bytes)
unfolding unprinted_after
unprinted_skip zero bytes = refl
unprinted_skip (suc skip) [] = refl
unprinted_skip (suc skip) (b ∷ bytes) = unprinted_skip skip bytes

byte_back : (b : ℕ) (plain : Bool) (rest : List ℕ) → is_plain_byte b ≡ plain → unprinted (printed_byte b ++ rest) ≡ b ∷ unprinted rest
unfolding unprinted_after
byte_back b true rest e = rw (e, plain_no_escape b e) refl
byte_back b false rest e =
    let small : b < 128 = escaped_below b e in
    let value : 16 * hex_value (digit_glyph true (b / 16)) + hex_value (digit_glyph true (b % 16)) ≡ b = omega (arith, hex_back (b / 16) (omega arith), hex_back (b % 16) (omega arith)) in
    rw e (ap (λ n. n ∷ unprinted rest) value)

-- `unprinted` gives back a text that is printed at the front
pub text_back : (text rest : List ℕ) → unprinted (printed_name text ++ rest) ≡ text ++ unprinted rest
text_back [] rest = refl
text_back (b ∷ text) rest =
    rw append_assoc (byte_back b (is_plain_byte b) (printed_name text ++ rest) refl ∙ ap (λ (bs : List ℕ). b ∷ bs) (text_back text rest))

choose : {A : Type 0} (utf8 shape same : Bool) (x : A) → utf8 ≡ true → shape ≡ true → same ≡ true → Some x ≡ (if (utf8 && shape) && same then Some x else None)
choose utf8 shape same x e f g = rw (e, f, g) refl

-- a text that passes the tests of `name_read` is what it reads
pub accepted : (bytes text printed : List ℕ) → text ≡ unprinted bytes → IsUtf8 text → (nat_lt 0 (length text) && nat_le (length text) 64) ≡ true
    → printed ≡ printed_name text → bytes_eq printed bytes ≡ true → Some text ≡ name_read bytes
accepted bytes text printed is utf8 shape p same =
    let read : Some text ≡ (if is_name text && bytes_eq (printed_name text) bytes then Some text else None) =
    choose (is_utf8 text) (nat_lt 0 (length text) && nat_le (length text) 64) (bytes_eq (printed_name text) bytes) text (is_utf8-from_IsUtf8 text utf8) shape (rw (← p) same) in
    read ∙ ap (λ (t : List ℕ). if is_name t && bytes_eq (printed_name t) bytes then Some t else None) is

pub shape_true : (n : ℕ) → 1 ≤ n → n ≤ 64 → (nat_lt 0 n && nat_le n 64) ≡ true
shape_true n some few = grind arith

-- `unprinted` gives back a text that was printed
told_back : (text : List ℕ) → unprinted (printed_name text) ≡ text
unfolding unprinted_after
told_back text = ap unprinted (sym (append-nil (printed_name text))) ∙ text_back text [] ∙ append-nil text

-- a printed name is read again
pub name_back : (name : List ℕ) → IsName name → name_read (printed_name name) ≡ Some name
name_back name is =
    sym (accepted (printed_name name) name (printed_name name) (sym (told_back name)) (IsUtf8-from_is_utf8 name is.utf8) (shape_true (length name) is.some is.few) refl
    ((bytes_eq-Decides (printed_name name) (printed_name name)).1 refl))

-- no two texts are printed alike
pub printed_once : (one other : List ℕ) → printed_name one ≡ printed_name other → one ≡ other
printed_once one other same = sym (told_back one) ∙ ap unprinted same ∙ told_back other

chosen_is : {A : Type 0} (utf8 some few same : Bool) (x y : A) → (if (utf8 && (some && few)) && same then Some x else None) ≡ Some y → (utf8 ≡ true) × (some ≡ true) × (few ≡ true) × (same ≡ true) × (x ≡ y)
chosen_is utf8 some few same x y e = grind arith

shape_is : (n : ℕ) → nat_lt 0 n ≡ true → nat_le n 64 ≡ true → (1 ≤ n) × (n ≤ 64)
shape_is n some few = grind arith

-- what is read is a name, and the bytes are its printed form
pub name_printed : (bytes name : List ℕ) → name_read bytes ≡ Some name → (printed_name name ≡ bytes) × IsName name
name_printed bytes name e =
    let text = unprinted bytes in
    let found = chosen_is (is_utf8 text) (nat_lt 0 (length text)) (nat_le (length text) 64) (bytes_eq (printed_name text) bytes) text name e in
    let sizes = shape_is (length text) found.1 found.2 in
    subst (λ (t : List ℕ). (printed_name t ≡ bytes) × IsName t) found.4
    ((bytes_eq-Decides (printed_name text) bytes).0 found.3, record { some = sizes.0; few = sizes.1; utf8 = found.0 })

-- where the bytes of a name begin with a printed text, the name begins with that text
rest_read : (bytes text left name : List ℕ) → bytes ≡ printed_name text ++ left → name_read bytes ≡ Some name →
    (more : List ℕ) × (name ≡ text ++ more) × (printed_name more ≡ left)
rest_read bytes text left name is e =
    let printed = (name_printed bytes name e).0 in
    let told : name ≡ text ++ unprinted left = sym (told_back name) ∙ ap unprinted (printed ∙ is) ∙ text_back text left in
    let both : printed_name text ++ printed_name (unprinted left) ≡ printed_name text ++ left =
    sym (flat_map-append printed_byte text (unprinted left)) ∙ ap printed_name (sym told) ∙ printed ∙ is in
    (unprinted left, told, append_cancel_left (printed_name text) (printed_name (unprinted left)) left both)

-- no name is read where no name begins with the text and goes on with what was printed as the bytes left
no_name : (bytes text left : List ℕ) → bytes ≡ printed_name text ++ left →
    ((name more : List ℕ) → IsName name → name ≡ text ++ more → printed_name more ≡ left → ⊥) → name_read bytes ≡ None
no_name bytes text left is wrong = at (name_read bytes) refl
  where
    at : (o : Option (List ℕ)) → name_read bytes ≡ o → name_read bytes ≡ None
    at None e = e
    at (Some name) e =
        let rest = rest_read bytes text left name is e in
        absurd (wrong name rest.0 (name_printed bytes name e).1 rest.1 rest.2)

-- where the bytes left don't begin with a printed byte, no name is read
pub none_first : (bytes text left : List ℕ) → bytes ≡ printed_name text ++ left → 0 < length left →
    ((b : ℕ) (rest : List ℕ) → left ≡ printed_byte b ++ rest → ⊥) → name_read bytes ≡ None
none_first bytes text left is some none = no_name bytes text left is (λ name more named e printed. at more printed)
  where
    at : (more : List ℕ) → printed_name more ≡ left → ⊥
    at [] printed = omega (arith, some, ap length printed)
    at (b ∷ more) printed = none b (printed_name more) (sym printed)

-- where bytes are left after 64 printed ones, no name is read
pub too_long : (bytes text left : List ℕ) → bytes ≡ printed_name text ++ left → 0 < length left → 64 ≤ length text → name_read bytes ≡ None
too_long bytes text left is some full = no_name bytes text left is (λ name more named e printed. at name more named e printed)
  where
    at : (name more : List ℕ) → IsName name → name ≡ text ++ more → printed_name more ≡ left → ⊥
    at name [] named e printed = omega (arith, some, ap length printed)
    at name (b ∷ more) named e printed = omega (arith, named.few, full, ap length e ∙ length-append text (b ∷ more))

-- the bytes of a printed name are read as the name
pub name_of : (bytes text : List ℕ) → printed_name text ≡ bytes → IsName text → name_read bytes ≡ Some text
name_of bytes text printed is = subst (λ (bs : List ℕ). name_read bs ≡ Some text) printed (name_back text is)

pub not_named : (bytes text : List ℕ) → printed_name text ≡ bytes → (IsName text → ⊥) → name_read bytes ≡ None
not_named bytes text printed wrong =
    no_name bytes text [] (sym printed ∙ sym (append-nil (printed_name text)))
    (λ name more named e none. wrong (subst IsName (printed_once name text ((ap printed_name e ∙ flat_map-append printed_byte text more) ∙ ap (λ (bs : List ℕ). printed_name text ++ bs) none ∙ append-nil (printed_name text))) named))

-- a printed byte at the front of the bytes left is one more byte of the text
pub byte_read : (bytes text left rest : List ℕ) (b : ℕ) → bytes ≡ printed_name text ++ left → left ≡ printed_byte b ++ rest → bytes ≡ printed_name (text ++ b ∷ []) ++ rest
byte_read bytes text left rest b is first =
    is ∙ ap (λ (bs : List ℕ). printed_name text ++ bs) first
    ∙ sym (append_assoc (printed_name text) (printed_byte b) rest)
    ∙ ap (λ (bs : List ℕ). bs ++ rest) (ap (λ (bs : List ℕ). printed_name text ++ bs) (sym (append-nil (printed_byte b))) ∙ sym (flat_map-append printed_byte text (b ∷ [])))

byte_length : (b : ℕ) (plain : Bool) → is_plain_byte b ≡ plain → (1 ≤ length (printed_byte b)) × (length (printed_byte b) ≤ 3)
byte_length b true e = rw e (omega arith, omega arith)
byte_length b false e = rw e (omega arith, omega arith)

-- a printed name is at least as long as the name, and at most three times as long
pub name_length : (text : List ℕ) → (length text ≤ length (printed_name text)) × (length (printed_name text) ≤ 3 * length text)
name_length [] = (omega arith, omega arith)
name_length (b ∷ text) =
    let more = name_length text in
    let here = byte_length b (is_plain_byte b) refl in
    rw length-append (omega arith, omega arith)

-- what follows a printed byte is shorter than the bytes that begin with it
pub shorter : (b : ℕ) (left rest : List ℕ) → left ≡ printed_byte b ++ rest → length rest < length left
shorter b left rest e = omega (arith, (byte_length b (is_plain_byte b) refl).0, ap length e ∙ length-append (printed_byte b) rest)
