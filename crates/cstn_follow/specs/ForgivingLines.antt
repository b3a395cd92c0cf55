-- What is said where what was done has broken is forgiven.
use Rattle.std.specs.Prelude.{ℕ, ◌+◌, nat_lt, List, ◌++◌, length, if◌then◌else◌, codes}
use Rattle.cstn_net.specs.Limits.{most_edits}
use Rattle.cstn_change.specs.Changes.{EditLimit}
use Rattle.cstn_change.specs.ChangeLines.{refused_change_text}
use Rattle.cstn_reply.specs.Texts.{line}
use Rattle.cstn_follow.specs.Following.{Following, Heard, says}
use Rattle.cstn_follow.specs.Forgiving.{broken_ids, after_removals}
use Rattle.cstn_follow.specs.PlanLines.{edited_network, replanned}
use Rattle.cstn_follow.specs.Searches.{ids_text}

-- the ids of what is forgiven
abbrev pub forgiven_line : List ℕ → List ℕ
forgiven_line ids = line (codes "forgiven" ++ ids_text ids)

-- S6, where there would be too many edits, and else the constraints of these ids are removed
abbrev pub forgives_these : Following → List ℕ → Heard
forgives_these s ids =
    if nat_lt most_edits (s.edits + length ids) then says (line (refused_change_text EditLimit)) s
    else says (forgiven_line ids) (replanned s (after_removals (edited_network s) ids))

-- `forgive`: what is broken is removed
abbrev pub on_forgive : Following → Heard
on_forgive s = forgives_these s (broken_ids s.network s.history)
