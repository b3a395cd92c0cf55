-- What is said to an edit of the network.
use Rattle.std.specs.Prelude.{ℕ, ℤ, List, ◌++◌, Option, None, Some, Result, Ok, Err, codes, decimal}
use Rattle.cstn_label.specs.Labels.{Label}
use Rattle.cstn_net.specs.Limits.{most_constraints}
use Rattle.cstn_change.specs.Changes.{EditedNetwork, Change, removes, revalues, ChangeRefusal, edited_base, refusal, edited_by}
use Rattle.cstn_change.specs.ChangeLines.{accepted_text, refused_change_text, addition}
use Rattle.cstn_reply.specs.Texts.{line}
use Rattle.cstn_follow.specs.Following.{Following, Heard, says, follows}
use Rattle.cstn_follow.specs.Replans.{with_due}

-- the network of a session as edited
abbrev pub edited_network : Following → EditedNetwork
edited_network s = edited_base s.network s.fresh s.edits

-- the session in which this is the network as edited
abbrev pub replanned : Following → EditedNetwork → Following
replanned s e = record s { network = record s.network { base = e.net }; edits = e.edits; fresh = e.fresh }

-- what is said to a change that is refused for this, if it is refused, or else accepted
abbrev pub on_refusal : Following → Change → Option ChangeRefusal → Heard
on_refusal s change (Some why) = says (line (refused_change_text why)) s
on_refusal s change None = follows s (replanned s (edited_by (edited_network s) change)) (λ v. line (accepted_text s.fresh change))

-- what is said to a change, or to none, for which there is this reason
abbrev pub on_edit : Following → Result Change ChangeRefusal → Heard
on_edit s (Ok change) = on_refusal s change (refusal most_constraints (edited_network s) change)
on_edit s (Err why) = says (line (refused_change_text why)) s

-- `add`, by the names of its ends
abbrev pub on_add : Following → List ℕ → List ℕ → ℤ → Label → Heard
on_add s from to most a = on_edit s (addition s.names from to most a)

-- `remove` and `change`
abbrev pub on_remove : Following → ℕ → Heard
on_remove s id = on_edit s (Ok (removes id))

abbrev pub on_change : Following → ℕ → ℤ → Heard
on_change s id most = on_edit s (Ok (revalues id most))

-- `deadline`: the deadline is another one
abbrev pub on_deadline : Following → ℕ → Heard
on_deadline s deadline = follows s (replanned s (with_due (edited_network s) deadline)) (λ v. line (codes "deadline " ++ decimal deadline))
