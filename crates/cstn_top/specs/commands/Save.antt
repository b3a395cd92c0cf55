-- `save FILE [--deadline N]`: the canonical document.
use Rattle.std.specs.Prelude.{ℕ, List}
use Rattle.cstn_lift.specs.Labelled.{Labelled}
use Rattle.cstn_save.specs.Canonical.{canonical}
use Rattle.cstn_reply.specs.Texts.{Said}
use Rattle.cstn_reply.specs.declared.output.Outcome.TheVariants.{Good}

-- what `save` says of a labelled network: its canonical document
abbrev pub saved : List (List ℕ) → Labelled → Said
saved names m = record { outcome = Good; text = canonical m names }
