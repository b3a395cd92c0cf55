use Rattle.std.proofs.Common.{ℕ, arith, sym, ap, ◌∙◌}
use Rattle.cstn_net.specs.Networks.{count}
use Rattle.cstn_lift.specs.Read.{LabelledParts, the_labelled}
use Rattle.cstn_history.specs.Histories.{History, nothing_yet}
use Rattle.cstn_history.specs.Read.{the_history}
use Rattle.cstn_follow.specs.Following.{Following}
use Rattle.cstn_follow.proofs.following.Following.start.Goals as goal

pub invariant_of-result : goal.invariant_of-result
invariant_of-result c = record {
  named = c.requires.named ∙ ap (λ (l : LabelledParts). count (the_labelled l).base) (sym c.in_ok-session.ensures.network);
  few_lines = omega arith;
}

pub returns : goal.returns
returns c =
    let session = c.in_ok-session.ensures in
    let s = c.in_ok-session.session in
    let made : LabelledParts → History → ℕ → ℕ → ℕ → Following = λ l h cap edits fresh.
    record { network = the_labelled l; names = c.args.names; history = h; cap = cap; edits = edits; fresh = fresh; lines = 0 } in
    record {
      start = ap (λ l. made l (the_history s.history) s.cap s.edits s.fresh) session.network
          ∙ ap (λ h. made c.args.network h s.cap s.edits s.fresh) session.nothing
          ∙ ap (λ n. made c.args.network nothing_yet n s.edits s.fresh) session.cap
          ∙ ap (λ n. made c.args.network nothing_yet c.args.cap.entries n s.fresh) session.edits
          ∙ ap (λ n. made c.args.network nothing_yet c.args.cap.entries 0 n) session.fresh;
    }
