-- `sentences FILE [--deadline N]`: the network of a document in sentences.
use Rattle.std.specs.Prelude.{ℕ, List}
use Rattle.cstn_lift.specs.Labelled.{Labelled}
use Rattle.cstn_sentences.specs.Sentences.{sentences}
use Rattle.cstn_reply.specs.Texts.{Said}
use Rattle.cstn_reply.specs.declared.output.Outcome.TheVariants.{Good}

-- what `sentences` says of a labelled network: its sentences
abbrev pub worded : List (List ℕ) → Labelled → Said
worded names m = record { outcome = Good; text = sentences m names }
