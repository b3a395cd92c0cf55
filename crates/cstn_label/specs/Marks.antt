-- What a mark or a label is, answered by true or false.
use Rattle.std.specs.Prelude.{ℕ, zero, suc, Bool, true, false, ◌&&◌}
use Rattle.cstn_label.specs.declared.marks.Mark.{Mark}
use Rattle.cstn_label.specs.declared.marks.Mark.TheVariants.{Absent, Yes, No, Unknown}
use Rattle.cstn_label.specs.Labels.{Label}

-- the mark is absent
abbrev pub is_absent : Mark → Bool
is_absent Absent = true
is_absent Yes = false
is_absent No = false
is_absent Unknown = false

-- the mark isn't absent
abbrev pub is_marked : Mark → Bool
is_marked Absent = false
is_marked Yes = true
is_marked No = true
is_marked Unknown = true

-- the mark isn't unknown
abbrev pub is_mark_plain : Mark → Bool
is_mark_plain Absent = true
is_mark_plain Yes = true
is_mark_plain No = true
is_mark_plain Unknown = false

-- each of the first n propositions passes the test
abbrev pub each_below : (ℕ → Bool) → ℕ → Bool
each_below test zero = true
each_below test (suc n) = test n && each_below test n

-- none of the 52 propositions has an unknown mark
abbrev pub is_plain : Label → Bool
is_plain a = each_below (λ p. is_mark_plain (a p)) 52
