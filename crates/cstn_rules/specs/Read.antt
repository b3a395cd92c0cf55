-- What the definitions see in the values of the program.
use Rattle.cstn_label.specs.Read.{the_bound}
use Rattle.cstn_rules.specs.declared.entries.Entry.{Entry}
use Rattle.cstn_rules.specs.Derivations.{Entry as TheEntry}

-- an entry's bound and rule
abbrev pub the_entry : Entry → TheEntry
the_entry e = record { bound = the_bound e.bound; why = e.why }
