use Rattle.std.proofs.Common.{◌≡◌, sym, subst, arith}
use Rattle.std.specs.Prelude.{IfOk}
use Rattle.std.proofs.lemmas.List.{take_all}
use Rattle.cstn_rules.specs.Derivations.{IsDerivation, IsRefutation}
use Rattle.cstn_log.specs.Entries.{the_entries}
use Rattle.cstn_log.specs.Cuts.{last_with_ancestors}
use Rattle.cstn_log.proofs.DerivedLemmas.{ok_then}
use Rattle.cstn_log.proofs.MarkLemmas.{part_derivation, part_refutation}
use Rattle.cstn_log.proofs.log.Log.part.Goals as goal

pub returns-clause-part : goal.returns-clause-part
returns-clause-part c =
    subst (λ L. IfOk c.part_upto.result (λ steps. the_entries steps.items ≡ last_with_ancestors (the_entries L)))
    (take_all c.len.result c.args.self.now.entries (omega (arith, c.len.ensures.len))) c.part_upto.ensures.part

pub returns-clause-derivation : goal.returns-clause-derivation
returns-clause-derivation c = λ net derivation.
    ok_then c.part_upto.result (returns-clause-part c) (λ steps is.
    subst (λ xs. IsDerivation net xs) (sym is) (part_derivation net (the_entries c.args.self.now.entries) derivation))

pub returns-clause-refutation : goal.returns-clause-refutation
returns-clause-refutation c = λ net refutation.
    ok_then c.part_upto.result (returns-clause-part c) (λ steps is.
    subst (λ xs. IsRefutation net xs) (sym is) (part_refutation net (the_entries c.args.self.now.entries) refutation))
