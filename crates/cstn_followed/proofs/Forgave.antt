-- What is broken in the states of sessions.
use Rattle.std.proofs.Common.{ℕ, ◌≡◌, List, [], ap, ◌∙◌}
use Rattle.std.specs.Prelude.{◌↔◌, IsTrue}
use Rattle.std.specs.List.{Contains}
use Rattle.cstn_net.specs.Networks.{Constraint}
use Rattle.cstn_lift.specs.Labelled.{Labelled}
use Rattle.cstn_history.specs.Continuations.{Can}
use Rattle.cstn_change.specs.Changes.{EditedNetwork}
use Rattle.cstn_follow.specs.Following.{Following}
use Rattle.cstn_follow.specs.Forgiving.{IsBrokenBy, is_broken_by, broken_ids}
use Rattle.cstn_follow.specs.PlanLines.{edited_network, replanned}
use Rattle.cstn_follow.proofs.Broken.{broken_both, none_broken, none_left}
use Rattle.cstn_follow.proofs.Forgiven.{removed_is}
use Rattle.cstn_followed.specs.Edits.{Forgives}
use Rattle.cstn_followed.specs.Sessions.{IsReached}
use Rattle.cstn_followed.proofs.Verdicts.{reached_sound}

pub reached_broken : (s : Following) (c : Constraint) → IsReached s → Contains s.network.base.constraints c
    → IsTrue (is_broken_by s.network s.history c) ↔ IsBrokenBy s.network s.history c
reached_broken s c reached has =
    let sound = reached_sound s reached in
    broken_both s.network s.history sound.labelled sound.timely.history c has

pub reached_kept : (s : Following) → IsReached s → Can s.network s.history → broken_ids s.network s.history ≡ []
reached_kept s reached can =
    let sound = reached_sound s reached in
    none_broken s.network s.history sound.labelled sound.timely.history can

pub none_after : (s next : Following) (text : List ℕ) → Forgives s text next → broken_ids next.network next.history ≡ []
none_after s next text made =
    ap (λ (g : Following). broken_ids g.network g.history) made.next_is
    ∙ ap (λ (e : EditedNetwork). broken_ids (record s.network { base = e.net }) s.history) (removed_is (edited_network s) (broken_ids s.network s.history))
    ∙ none_left s.network s.history
