use Rattle.std.proofs.Common.{ℕ, ◌≡◌, Vec, Global}
use Rattle.std.specs.Option.{option_map}
use Rattle.cstn_lift.specs.Read.{the_labelled}
use Rattle.cstn_history.specs.Read.{the_history}
use Rattle.cstn_follow.specs.Further.{wait_lines}
use Rattle.cstn_follow.proofs.following.Following.wait_lines.Given as goal

abbrev pub invariant-loop-x : goal.invariant-loop-x
invariant-loop-x l =
    option_map (λ (v : Vec ℕ Global). v.items) l.text ≡ wait_lines l.self.names (the_labelled l.self.network) (the_history l.self.history) l.self.fresh l.self.cap l.x
