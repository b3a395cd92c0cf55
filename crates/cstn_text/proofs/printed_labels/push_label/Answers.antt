use Rattle.std.proofs.Common.{◌≡◌, ◌++◌, ◌∷◌, [], ℕ, List, sym, subst, OnOk, rules}
use Rattle.std.specs.Prelude.{string_bytes}
use Rattle.cstn_label.specs.Read.{marks}
use Rattle.cstn_text.proofs.PrintedLabelLemmas.{printed_marks, printed_dash}
use Rattle.cstn_text.proofs.printed_labels.push_label.Goals as goal

pub returns-in-Some-clause-pushed : goal.returns-in-Some-clause-pushed
returns-in-Some-clause-pushed c =
    subst (λ (t : List ℕ). OnOk c.push_marks.result (string_bytes c.push_marks.new.text ≡ string_bytes c.args.text.now ++ t))
    (sym (printed_marks (marks c.args.label) c.in-Some.field-0.index c.in-Some.field-0.in_range c.in-Some.ensures.marked)) c.push_marks.ensures.pushed

pub returns-in-None-clause-pushed : goal.returns-in-None-clause-pushed
returns-in-None-clause-pushed c =
    let dash : OnOk c.push.result (string_bytes c.push.new.self ≡ string_bytes c.args.text.now ++ 45 ∷ []) = search rules in
    subst (λ (t : List ℕ). OnOk c.push.result (string_bytes c.push.new.self ≡ string_bytes c.args.text.now ++ t)) (sym (printed_dash (marks c.args.label) c.in-None.ensures.none)) dash
