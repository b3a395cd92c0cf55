-- The text of a host line is read back as that line, and no other text is.
use Rattle.std.proofs.Common.{◌≡◌, ℕ, ◌<◌, ◌^◌, List, ◌∷◌, ◌++◌, refl, ap, sym, subst, ◌∙◌, Bool, true, false}
use Rattle.std.specs.Prelude.{Option, Some, None, if◌then◌else◌, codes, bytes_eq}
use Rattle.std.specs.Option.{option_map, option_and_then}
use Rattle.std.proofs.lemmas.Slice.Eq.{bytes_eq-Decides}
use Rattle.cstn_facts.proofs.Options.{then_read, map_read}
use Rattle.cstn_text.specs.Numbers.{printed_number}
use Rattle.cstn_text.proofs.CutLemmas.{cut_joined}
use Rattle.cstn_lines.specs.LiveLines.{Live, cut_at_space, live_read, IsLiveLine, printed_live}
use Rattle.cstn_lines.specs.EditLines.{id_read}
use Rattle.cstn_lines.specs.HostLines.{Hosted, opened, put_on, closed, opened_read, put_on_read, hosted_read, host_read, IsHosted, printed_hosted}
use Rattle.cstn_lines.proofs.LiveLemmas.{joined_cut, live_back, live_only}
use Rattle.cstn_lines.proofs.EditLemmas.{number_cut, id_back, id_only, spaced}

abbrev with_file : List ℕ × List ℕ → Option Hosted
with_file parts = option_and_then (λ id. option_map (opened id) (id_read parts.1)) (id_read parts.0)

abbrev with_live : List ℕ × List ℕ → Option Hosted
with_live parts = option_and_then (λ id. option_map (put_on id) (live_read parts.1)) (id_read parts.0)

opened_back : (id file : ℕ) → id < 2 ^ 32 → file < 2 ^ 32 → opened_read (printed_number id ++ 32 ∷ printed_number file) ≡ Some (opened id file)
opened_back id file small also =
    ap (option_and_then with_file) (number_cut id (printed_number file) small)
    ∙ ap (option_and_then (λ i. option_map (opened i) (id_read (printed_number file)))) (id_back id small)
    ∙ ap (option_map (opened id)) (id_back file also)

put_on_back : (id : ℕ) (line : Live) → id < 2 ^ 32 → IsLiveLine line → put_on_read (printed_number id ++ 32 ∷ printed_live line) ≡ Some (put_on id line)
put_on_back id line small live =
    ap (option_and_then with_live) (number_cut id (printed_live line) small)
    ∙ ap (option_and_then (λ i. option_map (put_on i) (live_read (printed_live line)))) (id_back id small)
    ∙ ap (option_map (put_on id)) (live_back line live)

pub host_back : (line : Hosted) → IsHosted line → host_read (printed_hosted line) ≡ Some line
host_back (opened id file) is = ap (option_and_then hosted_read) (joined_cut (codes "open") (printed_number id ++ 32 ∷ printed_number file) refl) ∙ opened_back id file is.0 is.1
host_back (put_on id line) is = ap (option_and_then hosted_read) (joined_cut (codes "on") (printed_number id ++ 32 ∷ printed_live line) refl) ∙ put_on_back id line is.0 is.1
host_back (closed id) small = ap (option_and_then hosted_read) (joined_cut (codes "close") (printed_number id) refl) ∙ ap (option_map closed) (id_back id small)

-- the text is the one of the line, which is one that a text can say
abbrev IsText : Hosted → List ℕ → Type 0
IsText line text = (printed_hosted line ≡ text) × IsHosted line

same_line : (a b : Hosted) (text : List ℕ) → a ≡ b → IsText a text → IsText b text
same_line a b text e is = subst (λ (line : Hosted). IsText line text) e is

opened_only : (rest : List ℕ) (line : Hosted) → opened_read rest ≡ Some line → IsText line (codes "open" ++ 32 ∷ rest)
opened_only rest line is =
    let parts = then_read (cut_at_space rest) with_file line is in
    let id = then_read (id_read parts.0.0) (λ id. option_map (opened id) (id_read parts.0.1)) line parts.2 in
    let file = map_read (id_read parts.0.1) (opened id.0) line id.2 in
    let first = id_only parts.0.0 id.0 id.1 in
    let second = id_only parts.0.1 file.0 file.1 in
    let whole = spaced rest parts.0.0 parts.0.1 _ _ (cut_joined 32 rest parts.0.0 parts.0.1 parts.1) first.0 (sym second.0) in
    same_line (opened id.0 file.0) line _ file.2 (ap (λ bs. codes "open" ++ 32 ∷ bs) (sym whole), (first.1, second.1))

put_on_only : (rest : List ℕ) (line : Hosted) → put_on_read rest ≡ Some line → IsText line (codes "on" ++ 32 ∷ rest)
put_on_only rest line is =
    let parts = then_read (cut_at_space rest) with_live line is in
    let id = then_read (id_read parts.0.0) (λ id. option_map (put_on id) (live_read parts.0.1)) line parts.2 in
    let live = map_read (live_read parts.0.1) (put_on id.0) line id.2 in
    let first = id_only parts.0.0 id.0 id.1 in
    let second = live_only parts.0.1 live.0 live.1 in
    let whole = spaced rest parts.0.0 parts.0.1 _ _ (cut_joined 32 rest parts.0.0 parts.0.1 parts.1) first.0 (sym second.0) in
    same_line (put_on id.0 live.0) line _ live.2 (ap (λ bs. codes "on" ++ 32 ∷ bs) (sym whole), (first.1, second.1))

closed_only : (rest : List ℕ) (line : Hosted) → option_map closed (id_read rest) ≡ Some line → IsText line (codes "close" ++ 32 ∷ rest)
closed_only rest line is =
    let id = map_read (id_read rest) closed line is in
    let its = id_only rest id.0 id.1 in
    same_line (closed id.0) line _ id.2 (ap (λ bs. codes "close" ++ 32 ∷ bs) its.0, its.1)

hosted_only : (word rest : List ℕ) (line : Hosted) → hosted_read (word, rest) ≡ Some line → IsText line (word ++ 32 ∷ rest)
hosted_only word rest line is = at (bytes_eq word (codes "open")) (bytes_eq word (codes "on")) (bytes_eq word (codes "close")) refl refl refl is
  where
    spelled : (bytes : List ℕ) → bytes_eq word bytes ≡ true → IsText line (bytes ++ 32 ∷ rest) → IsText line (word ++ 32 ∷ rest)
    spelled bytes same text = subst (λ (w : List ℕ). IsText line (w ++ 32 ∷ rest)) (sym ((bytes_eq-Decides word bytes).0 same)) text

    at : (open_ on close : Bool) → open_ ≡ bytes_eq word (codes "open") → on ≡ bytes_eq word (codes "on") → close ≡ bytes_eq word (codes "close")
        → (if open_ then opened_read rest else if on then put_on_read rest else if close then option_map closed (id_read rest) else None) ≡ Some line → IsText line (word ++ 32 ∷ rest)
    at true on close a b c e = spelled (codes "open") (sym a) (opened_only rest line e)
    at false true close a b c e = spelled (codes "on") (sym b) (put_on_only rest line e)
    at false false true a b c e = spelled (codes "close") (sym c) (closed_only rest line e)
    at false false false a b c e = absurd (cc)

host_text : (text : List ℕ) (line : Hosted) → host_read text ≡ Some line → IsText line text
host_text text line is =
    let parts = then_read (cut_at_space text) hosted_read line is in
    subst (λ (x : List ℕ). IsText line x) (sym (cut_joined 32 text parts.0.0 parts.0.1 parts.1)) (hosted_only parts.0.0 parts.0.1 line parts.2)

pub host_only : (text : List ℕ) (line : Hosted) → host_read text ≡ Some line → printed_hosted line ≡ text
host_only text line is = (host_text text line is).0

pub host_is : (text : List ℕ) (line : Hosted) → host_read text ≡ Some line → IsHosted line
host_is text line is = (host_text text line is).1
