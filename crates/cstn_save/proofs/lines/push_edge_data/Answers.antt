use Rattle.std.proofs.Common.{w32}
use Rattle.std.specs.Prelude.{codes, FitsSigned}
use Rattle.std.proofs.lemmas.Int.{to_z-of_z}
use Rattle.cstn_label.specs.Read.{marks}
use Rattle.cstn_text.specs.Numbers.{printed_value}
use Rattle.cstn_save.specs.Canonical.{document_label}
use Rattle.cstn_save.proofs.JoinLemmas.{five}
use Rattle.cstn_save.proofs.lines.push_edge_data.Goals as goal

pub returns : goal.returns
returns c =
    let fits : FitsSigned w32 c.args.most = c.ranges.most in
    five c.args.text.now.items (codes "<data key=\"Type\">requirement</data><data key=\"LabeledValues\">{(") (printed_value c.args.most) (codes ", ") (document_label (marks c.args.label)) (codes ")}</data></edge>\n") _ _ _ _ _
    c.in_ok-extend_from_slice.ensures.items (simp to_z-of_z at c.in_ok-push_value.ensures) c.in_ok-extend_from_slice-2.ensures.items c.in_ok-push_label.ensures c.in_ok-extend_from_slice-3.ensures.items
