use Rattle.std.proofs.Common.{refl, sym, ◌∙◌, subst}
use Rattle.cstn_minset.specs.Sets.{Places, AreBirths}
use Rattle.cstn_minset.proofs.StoredLemmas.{there_by_birth, there_by_entry}
use Rattle.cstn_minset.proofs.min_set.MinSet.holds.Goals as goal

pub returns-then-birth-clause-holds : goal.returns-then-birth-clause-holds
returns-then-birth-clause-holds c =
    let births = subst (λ (v : Places). AreBirths c.self.inside.births v.table) c.self.view_is c.self.invariant.1 in
    (λ y. there_by_birth c.self.inside.births c.args.self.now.table c.args.id.slot c.args.id.birth births (sym c.at-birth.ensures ∙ c.if-birth-id.false) (λ none. c.if-birth.true (c.if-birth-id.false ∙ none)), λ there. refl)

pub returns-clause-holds : goal.returns-clause-holds
returns-clause-holds c =
    let births = subst (λ (v : Places). AreBirths c.self.inside.births v.table) c.self.view_is c.self.invariant.1 in
    rw (c.is_some.ensures, c.entry.ensures.entry) (there_by_entry c.self.inside.births c.args.self.now.table c.args.id.slot c.args.id.birth births (sym c.at-birth.ensures ∙ c.if-birth-id.false))
