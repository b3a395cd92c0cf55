use Rattle.cstn_rules.proofs.Derived.{empty_derivation, grown_derivation, first_derivation, derivation_elsewhere}
use Rattle.cstn_rules.proofs.laws.derivations_move.Goals as goal

pub returns-clause-first : goal.returns-clause-first
returns-clause-first c = first_derivation

pub returns-clause-elsewhere : goal.returns-clause-elsewhere
returns-clause-elsewhere c = derivation_elsewhere

pub returns-clause-empty : goal.returns-clause-empty
returns-clause-empty c = empty_derivation

pub returns-clause-grown : goal.returns-clause-grown
returns-clause-grown c = grown_derivation
