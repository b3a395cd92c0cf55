use Rattle.cstn_rules.proofs.Derived.{each_holds, refuted_inconsistent}
use Rattle.cstn_rules.proofs.laws.derivations_are_sound.Goals as goal

pub returns-clause-each : goal.returns-clause-each
returns-clause-each c net table steps k e good strategy derivation there =
    each_holds net table steps good strategy derivation k e there

pub returns-clause-refuted : goal.returns-clause-refuted
returns-clause-refuted c = refuted_inconsistent
