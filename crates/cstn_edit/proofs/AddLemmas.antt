-- `IsSession` still holds after a constraint is added.
use Rattle.std.proofs.Common.{ℕ, ◌≡◌, ◌+◌, ◌<◌, ◌≤◌, List, [], ◌∷◌, ◌++◌, length, map, Option, Some, None, arith, sym, subst, ap, ◌∙◌}
use Rattle.std.specs.Prelude.{slice_get}
use Rattle.std.specs.List.{All, Contains}
use Rattle.std.proofs.lemmas.List.{length-append, map-append}
use Rattle.std.proofs.lemmas.List.Elements.{All-push, All-weaker, Contains-append_left}
use Rattle.cstn_net.specs.Limits.{most_edits}
use Rattle.cstn_net.specs.declared.constraints.Constraint.{Constraint}
use Rattle.cstn_net.specs.Networks.{Network, Constraint as TheConstraint}
use Rattle.cstn_net.specs.Read.{NetworkParts, the_network, the_constraint}
use Rattle.cstn_label.specs.Bounds.{Bound}
use Rattle.cstn_rules.specs.declared.entries.Why.TheVariants.{Chain}
use Rattle.cstn_rules.specs.Derivations.{Entry, IsDerivation}
use Rattle.cstn_log.specs.Entries.{State, the_entries}
use Rattle.cstn_edit.specs.declared.outcomes.Outcome.{Outcome}
use Rattle.cstn_edit.specs.Sessions.{most_births, IsKeptLog, IsEditSession}

-- a derivation of a network is one of the network with other constraints too, if those that it uses are among them
abbrev pub DeriveElsewhere : Type 0
DeriveElsewhere = (net : Network) (constraints : List TheConstraint) (steps : List Entry) →
    ((c : TheConstraint) (b : Bound) (k i : ℕ) → Contains net.constraints c →
    slice_get steps k ≡ Some (record { bound = b; why = Chain c.id i }) → Contains constraints c) →
    IsDerivation net steps → IsDerivation (record net { constraints = constraints }) steps

-- a kept log of a network is one of the network with further constraints
longer_log : DeriveElsewhere → (net : Network) (cs : List TheConstraint) (log : State) →
    ((c : TheConstraint) → Contains net.constraints c → Contains cs c) → IsKeptLog net log → IsKeptLog (record net { constraints = cs }) log
longer_log elsewhere net cs log has kept = record {
  nodes = kept.nodes;
  derivation = elsewhere net cs (the_entries log.entries) (λ c b k i inside there. has c inside) kept.derivation;
  based = kept.based;
  empty = kept.empty;
  refuted = record {
    before = λ k e there inside r. kept.refuted.before k e there inside (record { node = r.node; plain = r.plain; above = r.above });
  };
  some = kept.some;
  most = kept.most;
}

has_old : (cs : List Constraint) (c : Constraint) (x : TheConstraint) → Contains (map the_constraint cs) x →
    Contains (map the_constraint (cs ++ c ∷ [])) x
has_old cs c x inside =
    subst (λ l. Contains l x) (sym (map-append the_constraint cs (c ∷ [])))
    (Contains-append_left (map the_constraint cs) (the_constraint c ∷ []) x inside)

more_births : (births edits : ℕ) (last : Option Outcome) → births ≤ most_births edits last → births ≤ most_births (edits + 1) None
more_births births edits None few = omega arith
more_births births edits (Some o) few = omega arith

-- a session with a further constraint is a session
pub added_session : DeriveElsewhere → (old new : NetworkParts) (c : Constraint) (log : State) (room edits next : ℕ) (last : Option Outcome) →
    IsEditSession old log room edits next last →
    new ≡ record old { constraints = old.constraints ++ c ∷ []; spare = new.spare } → new.spare + 1 ≡ old.spare →
    edits < most_edits → length old.constraints < room → c.id ≡ next → IsEditSession new log room (edits + 1) (next + 1) None
added_session elsewhere old new c log room edits next last session is spare few more id =
    let all : new.constraints ≡ old.constraints ++ c ∷ [] = ap (λ n. n.constraints) is in
    let long : length new.constraints ≡ length old.constraints + 1 = ap length all ∙ length-append old.constraints (c ∷ []) in
    record {
      kept = subst (λ n. IsKeptLog (the_network n) log) (sym is)
          (longer_log elsewhere (the_network old) (map the_constraint (old.constraints ++ c ∷ [])) log (has_old old.constraints c) session.kept);
      births = more_births log.births edits last session.births;
      few_edits = omega arith;
      fits = omega arith;
      most_room = session.most_room;
      spare = let room_there = session.spare in omega arith;
      below = subst (All (λ d. d.id < next + 1)) (sym all) (All-push (λ d. d.id < next + 1) old.constraints c
          (All-weaker (λ d. d.id < next) (λ d. d.id < next + 1) (λ d below. omega arith) old.constraints session.below)
          (omega arith));
      small = let small = session.small in omega arith;
      refuted = tt;
      consistent = tt;
    }
