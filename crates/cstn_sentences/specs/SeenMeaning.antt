-- What the definitions see in what the program means, and in its observers.
use Rattle.std.specs.Prelude.{◌≡◌, ℕ, ◌<◌, List, map, Option, None, slice_index_or}
use Rattle.cstn_label.specs.Read.{marks}
use Rattle.cstn_graphml.specs.DrawnGraphSeen.{drawn_seen}
use Rattle.cstn_sentences.specs.declared.meaning.Meaning.{Meaning as Lent}
use Rattle.cstn_sentences.specs.Declarations.{Declared}
use Rattle.cstn_sentences.specs.Meaning.{Meaning, declared_observations, first_observer}

abbrev pub the_meaning : Lent → Meaning
the_meaning m = record {
  origin_label = marks m.origin_label;
  labels = map marks m.labels.items;
  constraints = map drawn_seen m.constraints.items;
}

-- the table has the first observer of each proposition, with its reaction
abbrev pub Knows : Declared → List (Option (ℕ × ℕ)) → Type 0
Knows d table = (p : ℕ) → p < 52 → slice_index_or table p None ≡ first_observer p 0 (declared_observations d)
