-- What the definitions see in what the program declares.
use Rattle.std.specs.Prelude.{map, option_map}
use Rattle.cstn_graphml.specs.DrawnGraphSeen.{observed_seen}
use Rattle.cstn_sentences.specs.declared.declarations.Declared.{Declared as Lent}
use Rattle.cstn_sentences.specs.Declarations.{Declared}

abbrev pub the_declared : Lent → Declared
the_declared d = record {
  deadline = d.deadline;
  start = d.start;
  words = d.words.items;
  origin = option_map observed_seen d.origin;
  names = d.names;
  begins_task = d.begins_task.items;
  observes = map observed_seen d.observes.items;
}
