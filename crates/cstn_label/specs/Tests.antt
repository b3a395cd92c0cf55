-- The relations on marks, labels and bounds as functions that answer true or false.
use Rattle.std.specs.Prelude.{Bool, true, false, not, ◌&&◌, ◌==◌, int_lt}
use Rattle.cstn_label.specs.declared.marks.Mark.{Mark}
use Rattle.cstn_label.specs.declared.marks.Mark.TheVariants.{Absent, Yes, No, Unknown}
use Rattle.cstn_label.specs.Marks.{each_below}
use Rattle.cstn_label.specs.Labels.{Label}
use Rattle.cstn_label.specs.Bounds.{Bound}

-- the mark fits the truth value
abbrev pub fits : Bool → Mark → Bool
fits v Absent = true
fits true Yes = true
fits true No = false
fits true Unknown = false
fits false Yes = false
fits false No = true
fits false Unknown = false

-- a mark is within another
abbrev pub is_mark_within : Mark → Mark → Bool
is_mark_within Absent m = true
is_mark_within Yes Absent = false
is_mark_within Yes Yes = true
is_mark_within Yes No = false
is_mark_within Yes Unknown = true
is_mark_within No Absent = false
is_mark_within No Yes = false
is_mark_within No No = true
is_mark_within No Unknown = true
is_mark_within Unknown Absent = false
is_mark_within Unknown Yes = false
is_mark_within Unknown No = false
is_mark_within Unknown Unknown = true

-- each mark of the 52 letters is within the other label's
abbrev pub is_within : Label → Label → Bool
is_within a b = each_below (λ p. is_mark_within (a p) (b p)) 52

-- the first bound dominates the second
abbrev pub dominates : Bound → Bound → Bool
dominates a b = (a.node == b.node) && (not (int_lt a.least b.least) && is_within a.label b.label)
