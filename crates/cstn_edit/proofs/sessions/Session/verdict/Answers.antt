use Rattle.std.proofs.Common.{rules, ℕ, ◌≡◌, ◌≤◌, ◌+◌, [], ◌++◌, true, arith, length, sym, subst}
use Rattle.std.proofs.lemmas.List.{append-nil}
use Rattle.cstn_net.specs.Strategies.{IsConsistent}
use Rattle.cstn_net.specs.Read.{the_network}
use Rattle.cstn_log.specs.Entries.{the_entries}
use Rattle.cstn_edit.specs.Sessions.{EditSessionParts, Refuted, kept_of, kept_list}
use Rattle.cstn_check.specs.Spent.{most_tries}
use Rattle.cstn_check.specs.Turns.{KeepIds}
use Rattle.cstn_edit.specs.Fresh.{constraint_ids}
use Rattle.cstn_edit.proofs.FreshLemmas.{some_none, count_some}
use Rattle.cstn_edit.proofs.RefutationLemmas.{kept_load}
use Rattle.cstn_edit.proofs.VerdictLemmas.{no_true, prefix_of}
use Rattle.cstn_edit.proofs.sessions.Session.verdict.Goals as goal

pub returns-in-Some-clause-load : goal.returns-in-Some-clause-load
returns-in-Some-clause-load c = λ load said.
    let net = the_network c.self.inside.net in
    subst (λ (v : EditSessionParts). load ≡ length (kept_of v)) c.self.view_is
    (kept_load net c.self.inside.log c.in-Some.outcome load c.self.invariant.0.kept
    (subst (λ o. Refuted net c.self.inside.log o) c.in-Some.is c.self.invariant.0.refuted) said)

pub returns-clause-load : goal.returns-clause-load
returns-clause-load c = λ load said.
    kept_load (the_network c.self.inside.net) c.answer-outcome.new.log c.answer-outcome.result load c.answer-outcome.ensures.kept
    c.answer-outcome.ensures.refuted said

pub returns-in-Some-clause-no : goal.returns-in-Some-clause-no
returns-in-Some-clause-no c = λ load said.
    let net = the_network c.self.inside.net in
    subst (λ (v : EditSessionParts). IsConsistent (the_network v.net) → ⊥) c.self.view_is
    (no_true net c.self.inside.log c.in-Some.outcome load c.network_is_well_formed.ensures c.self.invariant.0.kept
    (subst (λ o. Refuted net c.self.inside.log o) c.in-Some.is c.self.invariant.0.refuted) said)

pub returns-clause-no : goal.returns-clause-no
returns-clause-no c = λ load said.
    subst (λ (v : EditSessionParts). IsConsistent (the_network v.net) → ⊥) c.self.view_is
    (no_true (the_network c.self.inside.net) c.answer-outcome.new.log c.answer-outcome.result load c.network_is_well_formed.ensures
    c.answer-outcome.ensures.kept c.answer-outcome.ensures.refuted said)

pub returns-clause-prefix : goal.returns-clause-prefix
returns-clause-prefix c = λ not.
    let net = the_network c.self.inside.net in
    let old = the_entries c.self.inside.log.entries in
    let new = the_entries c.answer-outcome.new.log.entries in
    let cap = c.self.inside.log.cap in
    let p = prefix_of net cap (kept_list net cap old) (kept_list net cap new) c.answer-outcome.result
    c.answer-outcome.ensures.outcome c.answer-outcome.ensures.list not in (
      p.0,
      subst (λ (v : EditSessionParts). kept_of v ++ p.0 ≡ kept_list net c.answer-outcome.new.log.cap new) c.self.view_is
          (subst (λ k. kept_list net cap old ++ p.0 ≡ kept_list net k new) (sym c.answer-outcome.ensures.size) p.1),
    )

pub returns-clause-ids : goal.returns-clause-ids
returns-clause-ids c = λ not.
    subst (λ (v : EditSessionParts). KeepIds v.ids c.answer-outcome.new.log.ids) c.self.view_is (c.answer-outcome.ensures.ids not)

pub returns-in-Some-clause-ids : goal.returns-in-Some-clause-ids
returns-in-Some-clause-ids c = λ not. record { more = []; is = append-nil _ }

pub invariant_of-self : goal.invariant_of-self
invariant_of-self c = (
  search rules,
  record {
    some = rw c.clear.ensures.items (some_none (constraint_ids c.self.inside.net.constraints));
    spent = λ t. rw c.clear.ensures.items (let yes' = c.is_yes-self-inside.ensures.0 t in c.answer-outcome.ensures.spent yes'.0 yes'.1);
    for_fresh = omega (arith, c.clear.ensures.capacity, c.self.invariant.1.for_fresh);
    for_list = c.self.invariant.1.for_list;
  },
)

pub returns-clause-most_tries : goal.returns-clause-most_tries
returns-clause-most_tries c = λ none settled afresh.
    let inside = c.self.inside in
    let on : inside.settled ≡ true = subst (λ (v : EditSessionParts). v.settled ≡ true) (sym c.self.view_is) settled in
    let most = rw c.deref.ensures.value at (c.answer-outcome.ensures.most_tries on afresh) in
    subst (λ (v : EditSessionParts). c.answer-outcome.new.tries.count ≤ v.tries + most_tries (length v.net.constraints) (length v.fresh) (length v.entries) (length c.answer-outcome.new.log.entries)) c.self.view_is
    (subst (λ (f : ℕ). c.answer-outcome.new.tries.count ≤ inside.tries.count + most_tries (length inside.net.constraints) f (length inside.log.entries) (length c.answer-outcome.new.log.entries))
    (count_some inside.fresh.items inside.net.constraints c.self.invariant.1.some) most)
