-- A label that was read marks only the 52 propositions.
use Rattle.std.proofs.Common.{ℕ, ◌≡◌, ◌<◌, Bool, true, false, List, [], ◌∷◌, length, refl, subst}
use Rattle.std.specs.Prelude.{◌==◌, ◌&&◌, if◌then◌else◌, Some}
use Rattle.std.specs.Option.{option_and_then}
use Rattle.std.proofs.lemmas.Option.{same_Some, option_and_then_some}
use Rattle.cstn_label.specs.declared.marks.Mark.{Mark}
use Rattle.cstn_label.specs.declared.marks.Mark.TheVariants.{Absent, Yes, No, Unknown}
use Rattle.cstn_label.specs.Labels.{Label, empty, with_mark}
use Rattle.cstn_label.specs.OnLetters.{IsOnLetters}
use Rattle.cstn_label.specs.Letters.{prop_of}
use Rattle.cstn_text.specs.PrintedLabels.{LabelReading, nothing_read, signed, marked, reading_after, label_ended, marks_read, label_read}
use Rattle.cstn_label.proofs.LetterLemmas.{prop_small, with_small}

signed_small : (a : Label) (s sign : Mark) (next : LabelReading) → IsOnLetters a → signed a s sign ≡ Some next → IsOnLetters next.label
signed_small a Absent sign next small e = absurd (cc)
signed_small a No sign next small e = absurd (cc)
signed_small a Unknown sign next small e = absurd (cc)
signed_small a Yes sign next small e =
    let same : record { label = a; sign = sign } ≡ next = same_Some _ next e in
    subst (λ (r : LabelReading). IsOnLetters r.label) same small

marked_small : (a : Label) (sign m : Mark) (p : ℕ) (next : LabelReading) → IsOnLetters a → p < 52 → marked a sign m p ≡ Some next → IsOnLetters next.label
marked_small a sign Yes p next small low e = absurd (cc)
marked_small a sign No p next small low e = absurd (cc)
marked_small a sign Unknown p next small low e = absurd (cc)
marked_small a sign Absent p next small low e =
    let same : record { label = with_mark a p sign; sign = Yes } ≡ next = same_Some _ next e in
    subst (λ (r : LabelReading). IsOnLetters r.label) same (λ q high. with_small q p sign (a q) low high (small q high))

byte_cases : (no unknown : Bool) (r : LabelReading) (b : ℕ) (next : LabelReading) → IsOnLetters r.label →
    (if no then signed r.label r.sign No else if unknown then signed r.label r.sign Unknown
    else option_and_then (λ p. marked r.label r.sign (r.label p) p) (prop_of b)) ≡ Some next → IsOnLetters next.label
byte_cases true unknown r b next small e = signed_small r.label r.sign No next small e
byte_cases false true r b next small e = signed_small r.label r.sign Unknown next small e
byte_cases false false r b next small e =
    option_and_then_some (λ p. marked r.label r.sign (r.label p) p) (prop_of b) next e
    (λ p there marks. marked_small r.label r.sign (r.label p) p next small (prop_small b p there) marks)

ended_small : (a : Label) (s : Mark) (b : Label) → IsOnLetters a → label_ended a s ≡ Some b → IsOnLetters b
ended_small a Absent b small e = absurd (cc)
ended_small a No b small e = absurd (cc)
ended_small a Unknown b small e = absurd (cc)
ended_small a Yes b small e = subst IsOnLetters (same_Some a b e) small

marks_small : (r : LabelReading) (bytes : List ℕ) (a : Label) → IsOnLetters r.label → marks_read r bytes ≡ Some a → IsOnLetters a
marks_small r [] a small e = ended_small r.label r.sign a small e
marks_small r (b ∷ bytes) a small e =
    option_and_then_some (λ next. marks_read next bytes) (reading_after r b) a e
    (λ next is more. marks_small next bytes a (byte_cases (b == 33) (b == 63) r b next small is) more)

label_cases : (dash : Bool) (b : ℕ) (bytes : List ℕ) (a : Label) → (if dash then Some empty else marks_read nothing_read (b ∷ bytes)) ≡ Some a → IsOnLetters a
label_cases true b bytes a e = subst IsOnLetters (same_Some empty a e) (λ p high. refl)
label_cases false b bytes a e = marks_small nothing_read (b ∷ bytes) a (λ p high. refl) e

pub label_small : (text : List ℕ) (a : Label) → label_read text ≡ Some a → IsOnLetters a
label_small [] a e = absurd (cc)
label_small (b ∷ bytes) a e = label_cases (b == 45 && length bytes == 0) b bytes a e
