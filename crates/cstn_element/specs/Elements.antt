-- Elements, read from the left.
use Rattle.std.specs.Prelude.{ℕ, Bool, true, false, List, [], ◌∷◌, ◌++◌, find, Option, Some, None, Result, Ok, Err, codes}
use Rattle.std.specs.List.{list_all, list_any}
use Rattle.cstn_markup.specs.Bytes.{is_same, is_white, resolved}
use Rattle.cstn_markup.specs.Tokens.{raw_with}
use Rattle.cstn_element.specs.Results.{Refusal, ◌>>=◌, or_refused, demand}
use Rattle.cstn_element.specs.Results.Refusal.{shape}
use Rattle.cstn_element.specs.WhiteSpace.{trimmed}
use Rattle.cstn_element.specs.Contents.{Tag, Content}
use Rattle.cstn_element.specs.Contents.Content.{done, cut, run, element}

abbrev pub or_no_bytes : Option (List ℕ) → List ℕ
or_no_bytes (Some bytes) = bytes
or_no_bytes None = []

-- the bytes with each reference replaced by its character; in bytes that the scanner gave, each reference is of its form
abbrev pub read_of : List ℕ → List ℕ
read_of raw = or_no_bytes (resolved raw)

abbrev pub read_option : Option (List ℕ) → Option (List ℕ)
read_option (Some raw) = Some (read_of raw)
read_option None = None

-- the value of the attribute with the name, its references replaced by their characters
abbrev pub attribute : List ℕ → Tag → Option (List ℕ)
attribute name tag = read_option (raw_with name tag.attributes)

-- a text between elements has to be white space, and is refused at its place otherwise
abbrev pub blank : ℕ → List ℕ → Result (Unit {0}) Refusal
blank at raw = demand (list_all is_white raw) (shape at)

-- what is passed over is refused only at a token that isn't of its form, is nested wrongly or too deep
unfoldable pub passed : Content → Result (Unit {0}) Refusal
passed (done at) = Ok tt
passed (cut at) = Err (shape at)
passed (run at raw after) = passed after
passed (element tag inside after) = passed inside >>= λ done_inside. passed after

-- How the rest of an element is read from the left, with a state: what its end makes of the state, what a text makes
-- of it, and what an element inside makes of it.
pub record Reading (S A : Type 0) : Type 0 where
  pub ends : S → ℕ → Result A Refusal
  pub runs : S → ℕ → List ℕ → Result S Refusal
  pub elements : S → Tag → Content → Result S Refusal

unfoldable pub read_by : {S A : Type 0} → Reading S A → S → Content → Result A Refusal
read_by r s (done at) = r.ends s at
read_by r s (cut at) = Err (shape at)
read_by r s (run at raw after) = r.runs s at raw >>= λ t. read_by r t after
read_by r s (element tag inside after) = r.elements s tag inside >>= λ t. read_by r t after

-- the texts of a data element, joined; an element in it is refused
abbrev pub texts_reading : Reading (List ℕ) (List ℕ)
texts_reading = record {
  ends = λ found at. Ok found;
  runs = λ found at raw. Ok (found ++ read_of raw);
  elements = λ found tag inside. Err (shape tag.at);
}

abbrev pub texts : Content → Result (List ℕ) Refusal
texts inside = read_by texts_reading [] inside

-- a data element with a used key, and its value
pub record Datum : Type 0 where
  pub key : List ℕ
  pub at : ℕ
  pub value : List ℕ

abbrev pub datum_by : Bool → Bool → List ℕ → Tag → Content → Result (Option Datum) Refusal
datum_by false is_taken key tag inside = passed inside >>= λ same. Ok None
datum_by true true key tag inside = Err (shape tag.at)
datum_by true false key tag inside = texts inside >>= λ bytes. Ok (Some (record { key = key; at = tag.at; value = trimmed bytes }))

-- a data element; None where its key isn't used, and refused where it has no key, or a used key that is taken
abbrev pub datum : List (List ℕ) → (List ℕ → Bool) → Tag → Content → Result (Option Datum) Refusal
datum used is_taken tag inside =
    or_refused (attribute (codes "key") tag) (shape tag.at) >>= λ key.
    datum_by (list_any (λ u. is_same u key) used) (is_taken key) key tag inside

abbrev pub datum_of : List ℕ → List Datum → Option Datum
datum_of key found = find (λ d. is_same d.key key) found

abbrev pub with_datum : List Datum → Option Datum → List Datum
with_datum found (Some d) = found ++ (d ∷ [])
with_datum found None = found

-- one of these data elements has the key
abbrev pub has_key : List Datum → List ℕ → Bool
has_key found key = list_any (λ d. is_same d.key key) found

-- the data found, after an element in a node or an edge: a data element is read, and any other element is passed over
abbrev pub child : Bool → List (List ℕ) → List Datum → Tag → Content → Result (List Datum) Refusal
child true used found tag inside = datum used (has_key found) tag inside >>= λ d. Ok (with_datum found d)
child false used found tag inside = passed inside >>= λ same. Ok found

-- the data of a node or an edge
abbrev pub data_reading : List (List ℕ) → Reading (List Datum) (List Datum)
data_reading used = record {
  ends = λ found at. Ok found;
  runs = λ found at raw. blank at raw >>= λ same. Ok found;
  elements = λ found tag inside. child (is_same tag.name (codes "data")) used found tag inside;
}

abbrev pub data_of : List (List ℕ) → Content → Result (List Datum) Refusal
data_of used inside = read_by (data_reading used) [] inside
