use Rattle.std.proofs.Common.{sym, ap, ◌∙◌}
use Rattle.std.specs.Option.{option_map}
use Rattle.cstn_label.specs.Marks.{is_plain}
use Rattle.cstn_label.specs.Read.{marks}
use Rattle.cstn_follow.specs.LeastDeadline.{goes_with}
use Rattle.cstn_follow.proofs.deadlines.goes_with.Goals as goal

pub returns-in-Some : goal.returns-in-Some
returns-in-Some c =
    c.is_plain.ensures ∙ ap is_plain c.join.ensures.join ∙ sym (ap (λ o. goes_with (option_map marks o) (marks c.args.label)) c.in-Some.is)
