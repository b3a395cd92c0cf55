use Rattle.std.proofs.Common.{◌∷◌, [], ◌++◌, ap, ◌∙◌}
use Rattle.std.specs.Prelude.{if◌then◌else◌}
use Rattle.cstn_lift.specs.Read.{the_labelled}
use Rattle.cstn_history.specs.Read.{the_history}
use Rattle.cstn_follow.specs.Following.{name_of_point}
use Rattle.cstn_follow.specs.Read.{FollowingParts}
use Rattle.cstn_follow.proofs.Asked.{names_turn, names_few}
use Rattle.cstn_follow.proofs.following.Following.names_left.Goals as goal

pub loop-x-preserved : goal.loop-x-preserved
loop-x-preserved c =
    let s = c.args.self.now in
    let old = c.loop-x.names in
    let x = c.loop-x.x in
    let b = c.is_left.result in
    let named = c.name_of_point.ensures ∙ ap (λ (v : FollowingParts). name_of_point v.names x) c.self.view_is in
    record {
      names = names_turn (the_labelled s.network) (the_history s.history) s.names old c.push_name.new.names x b c.loop-x.invariant.names
          c.is_left.ensures (c.in_ok-push_name.ensures ∙ ap (λ n. old ++ (if b then n ∷ [] else [])) named);
      few = names_few old c.push_name.new.names c.name_of_point.result.now x b c.loop-x.invariant.few c.in_ok-push_name.ensures;
    }
