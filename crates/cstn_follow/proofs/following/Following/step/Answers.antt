use Rattle.std.proofs.Common.{◌≡◌, ◌++◌, ◌∷◌, [], None, sym, subst, ap, ◌∙◌}
use Rattle.std.specs.Prelude.{IfOk, codes}
use Rattle.std.proofs.lemmas.Result.{IfOk-weaker}
use Rattle.cstn_text.specs.Names.{number_of}
use Rattle.cstn_text.specs.PrintedNames.{printed_name}
use Rattle.cstn_reply.specs.Texts.{line}
use Rattle.cstn_follow.specs.Following.{says}
use Rattle.cstn_follow.specs.Read.{FollowingParts, following_of, the_following}
use Rattle.cstn_follow.specs.Sessions.{SessionParts}
use Rattle.cstn_follow.specs.StepLines.{on_step}
use Rattle.cstn_follow.proofs.SteppedLines.{refused_said, stepped_said}
use Rattle.cstn_follow.proofs.following.Following.step.Goals as goal

pub returns-in-Ok-clause-says : goal.returns-in-Ok-clause-says
returns-in-Ok-clause-says c =
    let w = c.self.inside in
    let name = c.args.name.now in
    let made = c.in-Ok.ensures in
    let next = c.step.new.self in
    let same = c.as_str-name.ensures.text in
    let text = c.in_ok-text.text.items in
    let unknown : None ≡ number_of w.names name =
    c.in_default.ensures.node ∙ ap (λ (v : FollowingParts). number_of v.names c.as_str-name.result.now) (sym c.self.view_is)
    ∙ ap (number_of w.names) same in
    let names_are : c.in_ok-names.names ≡ w.names ++ name ∷ [] = c.in_ok-names.ensures ∙ ap (λ n. w.names ++ n ∷ []) same in
    let text_is : text ≡ line (codes "step " ++ printed_name name) = c.in_ok-text.ensures ∙ ap (λ n. line (codes "step " ++ printed_name n)) same in
    subst (λ (v : FollowingParts). on_step (the_following v) name ≡ says text (the_following (following_of next c.in_ok-names.names w.lines))) c.self.view_is
    (stepped_said w.names w.lines name unknown w.session next c.in-Ok.field-0 text made.room made.network made.history made.others made.verdict text_is
    ∙ ap (λ names. says text (the_following (following_of next names w.lines))) (sym names_are))

pub returns-in-Err-clause-says : goal.returns-in-Err-clause-says
returns-in-Err-clause-says c =
    let w = c.self.inside in
    let name = c.args.name.now in
    let next = c.step.new.self in
    let unknown : None ≡ number_of w.names name =
    c.in_default.ensures.node ∙ ap (λ (v : FollowingParts). number_of v.names c.as_str-name.result.now) (sym c.self.view_is)
    ∙ ap (number_of w.names) c.as_str-name.ensures.text in
    subst (λ (v : FollowingParts). IfOk c.refused_step.result (λ text. on_step (the_following v) name
    ≡ says text.items (the_following (following_of next w.names w.lines)))) c.self.view_is
    (IfOk-weaker c.refused_step.result _ _
    (λ text said. refused_said w.names w.lines name unknown w.session c.in-Err.error text.items c.in-Err.ensures.refused said
    ∙ ap (λ (x : SessionParts). says text.items (the_following (following_of x w.names w.lines))) (sym c.in-Err.ensures.same)) c.refused_step.ensures)
