-- How values of the program are read.
use Rattle.cstn_reply.specs.Texts.{Said}
use Rattle.cstn_reply.specs.declared.output.Said.{Said as SaidText}

-- the text that ends a request, and how the request ends
abbrev pub the_said : SaidText → Said
the_said said = record { outcome = said.outcome; text = said.text.items }
