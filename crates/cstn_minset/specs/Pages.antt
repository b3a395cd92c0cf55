-- Rows of records in pages.
use Rattle.std.specs.Prelude.{◌≡◌, ℕ, suc, ◌+◌, ◌/◌, ◌<◌, ◌≤◌, ◌^◌, ◌≤ℤ◌, ◌++◌, List, [], ◌∷◌, map, length, Some, None, slice_get, All, flat_map}
use Rattle.cstn_pool.specs.Slots.{padded}
use Rattle.cstn_minset.specs.declared.columns.Record.{Record}
use Rattle.cstn_minset.specs.declared.page.Page.{Page}
use Rattle.cstn_minset.specs.Chains.{SlotChains}
use Rattle.cstn_minset.specs.Links.{Ring, AreLinks}

-- what contracts see of rows: how many there are, how many records find room, and the pages that were used
pub record Paged : Type 0 where
  pub heads : ℕ
  pub capacity : ℕ
  pub pages : List Page

-- the least values of a page's records are within its range
abbrev pub IsPage : Page → Type 0
IsPage page = All (λ r. (page.low ≤ℤ r.least) × (r.least ≤ℤ page.high)) page.records.items

-- the page of that number is one of the row
abbrev pub IsPageOf : List Page → ℕ → ℕ → Type 0
IsPageOf pages h number = (page : Page) × (slice_get pages number ≡ Some page) × (page.head ≡ h)

-- the records of a page, each with its row
abbrev pub on_page : Page → List (ℕ × Record)
on_page page = map (λ r. (page.head, r)) page.records.items

-- all records of the rows, each with its row
abbrev pub held_records : List Page → List (ℕ × Record)
held_records pages = flat_map on_page pages

-- for each page, from the number n on, its row and its number
abbrev pub homes : ℕ → List Page → SlotChains
homes n [] = []
homes n (page ∷ pages) = Some (page.head, n) ∷ homes (suc n) pages

-- how many pages there may be: one for each head, and enough for all records where each of these pages lacks one record at most
abbrev pub most_pages : ℕ → ℕ → ℕ
most_pages heads capacity = heads + capacity / 63 + 1

-- the chains of pages: each page that was used is in that of its row, under its number
abbrev pub numbered_pages : Paged → SlotChains
numbered_pages rows = padded None (most_pages rows.heads rows.capacity) (homes 0 rows.pages)

-- both have the same heads and the same room
abbrev pub SameRows : Paged → Paged → Type 0
SameRows old new = (new.heads ≡ old.heads) × (new.capacity ≡ old.capacity)

-- a page that is in order: its range and its room hold, and it is of a row, or of none and empty
pub record IsInOrder (heads : ℕ) (page : Page) : Type 0 where
  pub range : IsPage page
  pub room : length page.records.items ≤ 64
  pub head : page.head ≤ heads
  pub free : page.head ≡ heads → page.records.items ≡ []

-- rows that are in order: each head has its own page, and every other page of a row lacks one record at most
pub record IsPaged (heads capacity : ℕ) (pages : List Page) (links : Ring) (room : ℕ) : Type 0 where
  pub slots : links.slots ≡ most_pages heads capacity
  pub chains : links.heads ≡ heads + 1
  pub linked : AreLinks links (padded None (most_pages heads capacity) (homes 0 pages))
  pub enough : most_pages heads capacity ≤ room
  pub few : length pages ≤ most_pages heads capacity
  pub small : (heads < 2 ^ 16) × (capacity < 2 ^ 32)
  pub own : (h : ℕ) → h < heads → IsPageOf pages h h
  pub order : All (IsInOrder heads) pages
  pub dense : (k : ℕ) (page : Page) → heads ≤ k → slice_get pages k ≡ Some page → page.head < heads → 63 ≤ length page.records.items

-- the pages are those with which rows begin: each is the first page of a head, and empty
abbrev pub AreOpened : ℕ → List Page → Type 0
AreOpened heads pages = (length pages ≡ heads) × ((k : ℕ) (page : Page) → slice_get pages k ≡ Some page → (page.head ≡ k) × (page.records.items ≡ []) × IsPage page)

-- the second list begins with the first
abbrev pub StartsWith : List Record → List Record → Type 0
StartsWith front whole = (more : List Record) × (whole ≡ front ++ more)
