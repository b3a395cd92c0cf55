-- How the program's reading of a label stands for that of the definitions.
use Rattle.cstn_label.specs.Read.{marks}
use Rattle.cstn_text.specs.declared.printed_labels.Reading.{Reading}
use Rattle.cstn_text.specs.PrintedLabels.{LabelReading as TheReading}

abbrev pub the_reading : Reading → TheReading
the_reading r = record { label = marks r.label; sign = r.sign }
