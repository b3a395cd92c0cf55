use Rattle.std.proofs.Common.{◌≡◌, Some, sym, subst, ap, ◌∙◌}
use Rattle.std.specs.Prelude.{option_map}
use Rattle.cstn_net.specs.Networks.{Network}
use Rattle.cstn_net.specs.Read.{NetworkParts, the_network}
use Rattle.cstn_check.specs.Givers.{ids_of, with_some}
use Rattle.cstn_check.specs.Needs.{IfNo, Stands}
use Rattle.cstn_check.specs.Search.{left_over}
use Rattle.cstn_check.proofs.Parts.{whole_part}
use Rattle.cstn_lift.specs.Read.{the_labelled}
use Rattle.cstn_history.specs.Read.{the_history}
use Rattle.cstn_follow.specs.Blame.{said_by_network}
use Rattle.cstn_follow.proofs.blames.blamed.Goals as goal

pub find-requires : goal.find-requires
find-requires c =
    let base = (the_labelled c.args.network.now).base in
    let same : the_network c.in_ok-whole.whole ≡ base = ap the_network c.in_ok-whole.ensures.equal ∙ ap (λ (n : NetworkParts). the_network n) c.base.ensures.base in
    let whole = whole_part base in
    record { may = (c.requires.tries, (whole.0, same ∙ whole.1)) }

pub leave_out-requires-clause-may : goal.leave_out-requires-clause-may
leave_out-requires-clause-may c test =
    let base = (the_labelled c.args.network.now).base in
    let same : the_network c.in_ok-whole-2.whole ≡ base = ap the_network c.in_ok-whole-2.ensures.equal ∙ ap (λ (n : NetworkParts). the_network n) c.base-2.ensures.base in
    (c.requires.tries, (test, ap (λ (n : Network). with_some n test) same))

pub leave_out-requires-clause-stands : goal.leave_out-requires-clause-stands
leave_out-requires-clause-stands c =
    let base = (the_labelled c.args.network.now).base in
    let same : the_network c.in_ok-whole.whole ≡ base = ap the_network c.in_ok-whole.ensures.equal ∙ ap (λ (n : NetworkParts). the_network n) c.base.ensures.base in
    let again : the_network c.in_ok-whole-2.whole ≡ base = ap the_network c.in_ok-whole-2.ensures.equal ∙ ap (λ (n : NetworkParts). the_network n) c.base-2.ensures.base in
    let says = said_by_network (the_labelled c.args.network.now) (the_history c.args.history.now) c.args.fresh c.args.cap.entries in
    subst (λ (n : Network). IfNo c.in_ok-first.first (Stands says n)) (same ∙ sym again) c.in_ok-first.ensures.stands

pub returns-in_default : goal.returns-in_default
returns-in_default c =
    let says = said_by_network (the_labelled c.args.network.now) (the_history c.args.history.now) c.args.fresh c.args.cap.entries in
    let again = ap the_network c.in_ok-whole-2.ensures.equal ∙ ap (λ (n : NetworkParts). the_network n) c.base-2.ensures.base in
    ap (option_map ids_of) (sym (ap (option_map (λ (n : NetworkParts). the_network n)) c.in_default.is) ∙ c.in_ok-left.ensures.left ∙ ap (left_over says) again)

pub returns : goal.returns
returns c =
    let says = said_by_network (the_labelled c.args.network.now) (the_history c.args.history.now) c.args.fresh c.args.cap.entries in
    let again = ap the_network c.in_ok-whole-2.ensures.equal ∙ ap (λ (n : NetworkParts). the_network n) c.base-2.ensures.base in
    ap (λ l. Some l) c.in_ok-ids.ensures
    ∙ ap (option_map ids_of) (sym (ap (option_map (λ (n : NetworkParts). the_network n)) c.in-Some.is) ∙ c.in_ok-left.ensures.left ∙ ap (left_over says) again)
