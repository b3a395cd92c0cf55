use Rattle.std.proofs.Common.{◌≡◌, true, sym, ◌∙◌, ap}
use Rattle.std.specs.Option.{is_some}
use Rattle.cstn_label.specs.Read.{marks, known_value}
use Rattle.cstn_history.proofs.Told.{mark_taken}
use Rattle.cstn_history.proofs.histories.History.mark_left.Goals as goal

pub returns-then-is_some : goal.returns-then-is_some
returns-then-is_some c = λ q.
    let told = known_value c.args.self.now.told in
    let some : is_some (told c.args.p.index) ≡ true = sym (ap is_some c.told.ensures.told) ∙ sym c.is_some.ensures ∙ c.if-is_some.true in
    ap (λ l. l q) c.without.ensures.without ∙ mark_taken told (marks c.args.label) c.args.p.index some q
