-- The document that a session follows has small ids.
use Rattle.std.proofs.Common.{ℕ, ◌+◌, ◌≤◌, ◌<◌, ◌^◌, List, [], ◌∷◌, length, map, sym, subst, arith}
use Rattle.std.specs.Prelude.{Option}
use Rattle.std.specs.List.{All}
use Rattle.std.proofs.lemmas.List.Elements.{All-nil, All-cons}
use Rattle.cstn_net.specs.Limits.{most_constraints}
use Rattle.cstn_net.specs.Networks.{Constraint}
use Rattle.cstn_lift.specs.Labelled.{Labelled}
use Rattle.cstn_lift.specs.Lowered.{numbered}
use Rattle.cstn_lift.specs.Read.{the_labelled}
use Rattle.cstn_graphml.specs.Networks.{constraint_drawn}
use Rattle.cstn_request.specs.Opened.{IsLabelledOf}
use Rattle.cstn_request.specs.declared.reading.NamedLabelled.{NamedLabelled}

abbrev pub HasSmallId : Constraint → Type 0
HasSmallId c = c.id < 2 ^ 31

-- constraints that are numbered from k on
pub small_numbers : (k : ℕ) (cs : List Constraint) → k + length (numbered k cs) ≤ most_constraints → All HasSmallId (numbered k cs)
small_numbers k [] few = All-nil HasSmallId
small_numbers k (c ∷ cs) few = All-cons HasSmallId (record c { id = k }) (numbered (k + 1) cs) (omega (arith, few)) (small_numbers (k + 1) cs (omega (arith, few)))

-- the ids of a document's constraints are their places
pub labelled_ids : (bytes : List ℕ) (deadline : Option ℕ) (d : NamedLabelled) → IsLabelledOf bytes deadline d → All (λ (c : Constraint). c.id < 2 ^ 31) (the_labelled d.labelled).base.constraints
labelled_ids bytes deadline d of =
    let is = of.is in
    let few = is.fit.labelled.base.few_constraints in
    subst (λ (m : Labelled). All HasSmallId m.base.constraints) (sym is.labelled_is) (small_numbers 0 (map constraint_drawn is.parts.constraints) (omega (arith, few)))
