-- The data elements that the program has, as those that the definitions speak of.
use Rattle.std.specs.Prelude.{ℕ, List, map, Option, Some, None}
use Rattle.std.specs.Borrow.{Bor}
use Rattle.cstn_element.specs.WhiteSpace.{trimmed}
use Rattle.cstn_element.specs.declared.data_element.Datum.{Datum as Lent}
use Rattle.cstn_element.specs.Elements.{Datum}

abbrev pub datum_seen : Lent → Datum
datum_seen d = record { key = d.key.items; at = d.at; value = trimmed d.text.items }

abbrev pub data_seen : List Lent → List Datum
data_seen found = map datum_seen found

-- the keys that are used
abbrev pub keys_seen : List (Bor (List ℕ)) → List (List ℕ)
keys_seen used = map (λ key. key.now) used

abbrev pub maybe_datum : Option Lent → Option Datum
maybe_datum (Some d) = Some (datum_seen d)
maybe_datum None = None

abbrev pub lent_datum : Option (Bor Lent) → Option Datum
lent_datum (Some d) = Some (datum_seen d.now)
lent_datum None = None
