use Rattle.std.proofs.Common.{◌≡◌, ◌<◌, ℕ, Some, subst}
use Rattle.std.specs.Prelude.{slice_get}
use Rattle.cstn_rules.specs.declared.entries.Entry.{Entry}
use Rattle.cstn_rules.specs.Read.{the_entry}
use Rattle.cstn_log.specs.Entries.{State, the_entries}
use Rattle.cstn_log.proofs.StepLemmas.{entry_read}
use Rattle.cstn_log.proofs.log.Log.entry.Goals as goal

pub returns-clause-entry : goal.returns-clause-entry
returns-clause-entry c =
    subst (λ (v : State). slice_get v.entries c.args.k ≡ Some c.entry.result) c.self.view_is c.entry.ensures.entry

pub returns-clause-node : goal.returns-clause-node
returns-clause-node c =
    let all = subst (λ (v : State). (k : ℕ) (e : Entry) → slice_get v.entries k ≡ Some e → e.bound.node.0 < v.nodes) c.self.view_is c.self.invariant.kept.inside in
    all c.args.k c.entry.result (returns-clause-entry c)

pub returns-clause-holds : goal.returns-clause-holds
returns-clause-holds c = λ net table good strategy derivation.
    c.derivations_are_sound.ensures.each net table (the_entries c.args.self.now.entries) c.args.k (the_entry c.entry.result) good strategy derivation
    (entry_read c.args.self.now.entries c.args.k c.entry.result (returns-clause-entry c))
