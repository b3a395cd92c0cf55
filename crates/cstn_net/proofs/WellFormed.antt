-- Networks with other constraints.
use Rattle.std.proofs.Common.{ℕ, ◌<◌, ◌≤◌, List, length}
use Rattle.std.specs.List.{All, AllPairs}
use Rattle.std.proofs.lemmas.List.Elements.{All-weaker}
use Rattle.cstn_net.specs.Limits.{most_constraints, most_deadline}
use Rattle.cstn_net.specs.Networks.{Network, Constraint, Observes, IsConstraint, IsValue, IsWellFormed}

-- what a network observes doesn't depend on its constraints
pub observes_alike : (net : Network) (cs : List Constraint) (x p : ℕ) → Observes (record net { constraints = cs }) x p →
    Observes net x p
observes_alike net cs x p o = record { what = o.what }

pub observes_with : (net : Network) (cs : List Constraint) (x p : ℕ) → Observes net x p →
    Observes (record net { constraints = cs }) x p
observes_with net cs x p o = record { what = o.what }

-- a well-formed network stays so with another deadline in range
pub well_formed_by : (net : Network) (deadline : ℕ) → IsWellFormed net → deadline ≤ most_deadline → IsWellFormed (record net { deadline = deadline })
well_formed_by net deadline h in_time = record {
  network = record {
    origin = h.network.origin;
    one_observer = λ x y p o q. h.network.one_observer x y p (record { what = o.what }) (record { what = q.what });
    reacts = λ x p o. h.network.reacts x p (record { what = o.what });
    constraints = All-weaker (IsConstraint net) (IsConstraint (record net { deadline = deadline })) (λ c h. record {
      from = h.from;
      to = h.to;
      plain = h.plain;
      observed = λ p marked. let o = h.observed p marked in (o.0, record { what = o.1.what });
    }) net.constraints h.network.constraints;
  };
  few_points = h.few_points;
  letters = λ x p o. h.letters x p (record { what = o.what });
  soon = λ x p o. h.soon x p (record { what = o.what });
  few_constraints = h.few_constraints;
  ascending = h.ascending;
  values = h.values;
  in_time = in_time;
}

-- what is a constraint of a network doesn't depend on the network's other constraints
pub constraint_with : (net : Network) (cs : List Constraint) (c : Constraint) → IsConstraint net c →
    IsConstraint (record net { constraints = cs }) c
constraint_with net cs c h = record {
  from = h.from;
  to = h.to;
  plain = h.plain;
  observed = λ p marked. let o = h.observed p marked in (o.0, observes_with net cs o.0 p o.1);
}

-- a well-formed network stays so with other constraints in range
pub well_formed_with : (net : Network) (cs : List Constraint) → IsWellFormed net → length cs ≤ most_constraints →
    All (IsConstraint net) cs → AllPairs (λ b c. b.id < c.id) cs → All (λ c. IsValue c.most) cs →
    IsWellFormed (record net { constraints = cs })
well_formed_with net cs h few constraints ascending values = record {
  network = record {
    origin = h.network.origin;
    one_observer = λ x y p o q. h.network.one_observer x y p (observes_alike net cs x p o) (observes_alike net cs y p q);
    reacts = λ x p o. h.network.reacts x p (observes_alike net cs x p o);
    constraints = All-weaker (IsConstraint net) (IsConstraint (record net { constraints = cs })) (constraint_with net cs) cs constraints;
  };
  few_points = h.few_points;
  letters = λ x p o. h.letters x p (observes_alike net cs x p o);
  soon = λ x p o. h.soon x p (observes_alike net cs x p o);
  few_constraints = few;
  ascending = ascending;
  values = values;
  in_time = h.in_time;
}
