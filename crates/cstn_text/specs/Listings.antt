-- Listings: texts that have a word and a load on their first line, and then a line for each thing that is listed.
use Rattle.std.specs.Prelude.{ℕ, ◌≡◌, ◌≢◌, ◌+◌, ◌++◌, ◌≤◌, Bool, true, false, if◌then◌else◌, List, [], ◌∷◌, length, Option, None, Some, bytes_eq}
use Rattle.std.specs.List.{All}
use Rattle.std.specs.Option.{option_and_then, option_map}
use Rattle.cstn_text.specs.Cuts.{cut_at}
use Rattle.cstn_text.specs.Numbers.{number_within, printed_number}
use Rattle.cstn_text.specs.Parts.{part, parts_at}

-- what a text says: a load and the things that it lists, or that a line, counted from 1, is the first that isn't of the grammar
pub data Told (A : Type 0) : Type 0 where
  tells : (load : ℕ) → (listed : List A) → Told A
  wrong : (line : ℕ) → Told A

-- a kind of listing: the word on the first line and the greatest load, the thing on a line after those before it, if the line is
-- of the form, and whether the text may end after these
pub record ListingKind (A : Type 0) : Type 0 where
  pub word : List ℕ
  pub most : ℕ
  pub line_read : List A → List ℕ → Option A
  pub may_end : List A → Bool

-- the load on the first line: the word, a space, and a number from 1 to `most`
abbrev pub load_read : List ℕ → ℕ → List ℕ → Option ℕ
load_read word most line =
    option_and_then (λ found. if bytes_eq found.0 word then number_within 1 most found.1 else None) (part line)

-- the load on the first line, and what stands after that line
abbrev pub start_read : List ℕ → ℕ → List ℕ → Option (ℕ × List ℕ)
start_read word most bytes =
    option_and_then (λ (cut : List ℕ × List ℕ). option_map (λ load. (load, cut.1)) (load_read word most cut.0)) (cut_at 10 bytes)

module _ {A : Type 0} where
  -- what a text says where no whole line is left: it may end there, and nothing stands after its last LF
  abbrev pub at_end : (List A → Bool) → ℕ → List A → List ℕ → Told A
  at_end may_end load listed [] = if may_end listed then tells load listed else wrong (length listed + 2)
  at_end may_end load listed (b ∷ tail) = wrong (length listed + 2)

  -- something is listed
  abbrev pub is_some_listed : List A → Bool
  is_some_listed [] = false
  is_some_listed (x ∷ xs) = true

  -- the line is wrong where nothing is read of it
  abbrev pub or_wrong : {B : Type 0} → Option B → ℕ → (B → Told A) → Told A
  or_wrong None line next = wrong line
  or_wrong (Some x) line next = next x

  -- what the remaining lines say after the things that were read
  unfoldable pub told_after : ListingKind A → ℕ → List A → List (List ℕ) → List ℕ → Told A
  told_after kind load listed [] tail = at_end kind.may_end load listed tail
  told_after kind load listed (line ∷ lines) tail =
      or_wrong (kind.line_read listed line) (length listed + 2) (λ x. told_after kind load (listed ++ x ∷ []) lines tail)

  -- what a text says: its load, and then what it lists
  abbrev pub told : ListingKind A → List ℕ → Told A
  told kind bytes =
      or_wrong (start_read kind.word kind.most bytes) 1 (λ (start : ℕ × List ℕ). told_after kind start.0 [] (parts_at 10 start.1).0 (parts_at 10 start.1).1)

  -- the text is the lines of these things, each with its LF, after those before
  abbrev pub AreLines : ListingKind A → List A → List A → List ℕ → Type 0
  AreLines kind before [] text = text ≡ []
  AreLines kind before (x ∷ xs) text =
      (line : List ℕ) × (rest : List ℕ) × (kind.line_read before line ≡ Some x) × All (λ b. b ≢ 10) line × (text ≡ line ++ 10 ∷ rest) × AreLines kind (before ++ x ∷ []) xs rest

  -- the text has the word and a load in its range on its first line, and then the lines of these things, with which it may end
  pub record IsTextOf (kind : ListingKind A) (load : ℕ) (listed : List A) (bytes : List ℕ) : Type 0 where
    pub low : 1 ≤ load
    pub high : load ≤ kind.most
    pub ends : kind.may_end listed ≡ true
    pub lines : List ℕ
    pub text : bytes ≡ kind.word ++ 32 ∷ printed_number load ++ 10 ∷ lines
    pub each : AreLines kind [] listed lines

  -- ---- listings by place

  -- the kind of listings with a thing at least, each of which is read by its line and its place
  abbrev pub by_places : List ℕ → ℕ → (ℕ → List ℕ → Option A) → ListingKind A
  by_places word most read = record { word = word; most = most; line_read = λ listed line. read (length listed) line; may_end = is_some_listed }

  -- the lines of things from the place k on, each with its LF
  abbrev pub printed_lines : (ℕ → A → List ℕ) → ℕ → List A → List ℕ
  printed_lines line k [] = []
  printed_lines line k (x ∷ xs) = line k x ++ 10 ∷ printed_lines line (k + 1) xs

  -- the text of a load and things
  abbrev pub printed_listing : List ℕ → (ℕ → A → List ℕ) → ℕ → List A → List ℕ
  printed_listing word line load listed = word ++ 32 ∷ printed_number load ++ 10 ∷ printed_lines line 0 listed

  -- the text is a line for each thing from the place k on, of which `IsLine` holds, with its LF
  abbrev pub AreLinesBy : (ℕ → A → List ℕ → Type 0) → ℕ → List A → List ℕ → Type 0
  AreLinesBy IsLine k [] text = text ≡ []
  AreLinesBy IsLine k (x ∷ xs) text =
      (line : List ℕ) × (rest : List ℕ) × IsLine k x line × (text ≡ line ++ 10 ∷ rest) × AreLinesBy IsLine (k + 1) xs rest

  -- the text has the word and the load on its first line, and then such lines
  abbrev pub IsListingBy : List ℕ → (ℕ → A → List ℕ → Type 0) → ℕ → List A → List ℕ → Type 0
  IsListingBy word IsLine load listed text =
      (lines : List ℕ) × (text ≡ word ++ 32 ∷ printed_number load ++ 10 ∷ lines) × AreLinesBy IsLine 0 listed lines

  -- a load and things that a text can list: there is a thing, of each `CanStand` holds, and the load and their number are at
  -- most `most`
  pub record AreListable (most : ℕ) (CanStand : A → Type 0) (load : ℕ) (listed : List A) : Type 0 where
    pub load_low : 1 ≤ load
    pub load_high : load ≤ most
    pub some : 1 ≤ length listed
    pub few : length listed ≤ most
    pub each : All CanStand listed
