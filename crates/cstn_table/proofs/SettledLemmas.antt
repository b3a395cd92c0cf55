-- Where nothing raises a moment any more, the table is the least strategy.
use Rattle.std.proofs.Common.{ℕ, ◌≡◌, ◌<◌, Bool, List, refl, sym, subst, ◌∙◌, ap}
use Rattle.std.specs.List.{Contains}
use Rattle.std.proofs.lemmas.List.Elements.{All-contains}
use Rattle.cstn_label.specs.declared.props.Prop.{Prop}
use Rattle.cstn_label.specs.declared.marks.Mark.{Mark}
use Rattle.cstn_label.specs.declared.marks.Mark.TheVariants.{Absent, Yes, No, Unknown}
use Rattle.cstn_label.specs.Labels.{Label, Scenario, Holds, MarkFits}
use Rattle.cstn_net.specs.Networks.{Network, IsNetwork, IsConstraint, IsOnObserved, Constraint, count}
use Rattle.cstn_net.specs.Strategies.{Table, IsDynamic, IsNeverLater, IsStrategy, IsLeast, Meets}
use Rattle.cstn_table.specs.Tables.{observed_props, row_of, scenario_of, table_by, table_of_rows}
use Rattle.cstn_table.specs.Raises.{IsLow, IsSettled, HasLeastRows}
use Rattle.cstn_table.specs.Read.{TableParts, numbers, the_table}
use Rattle.cstn_table.proofs.RowLemmas.{row_below, values_there}

-- a mark fits if it fits whenever it isn't absent
fits_unless_absent : (v : Bool) (m : Mark) → ((m ≡ Absent → ⊥) → MarkFits v m) → MarkFits v m
fits_unless_absent v Absent h = tt
fits_unless_absent v Yes h = h (λ e. cc)
fits_unless_absent v No h = h (λ e. cc)
fits_unless_absent v Unknown h = h (λ e. cc)

module _ (net : Network) (good : IsNetwork net) where
  -- a label that holds in a scenario holds in the scenario of its row
  holds_there : (s : Scenario) (a : Label) → IsOnObserved net a → Holds s a →
      Holds (scenario_of (observed_props net.observes) (row_of (observed_props net.observes) s)) a
  holds_there s a observed holds p =
      fits_unless_absent (scenario_of (observed_props net.observes) (row_of (observed_props net.observes) s) p) (a p)
      (λ marked.
      let o = observed p marked in
      subst (λ v. MarkFits v (a p)) (sym (values_there net good s o.0 p o.1)) (holds p))

  module _ (one_sided : (table : Table) → IsNeverLater net table → IsDynamic net table)
      (moments : List ℕ) (low : IsLow net moments) (settled : IsSettled net moments) where
    never_later : IsNeverLater net (table_of_rows net moments)
    never_later s r x here agrees =
        settled.no_later (row_of (observed_props net.observes) s) (row_of (observed_props net.observes) r)
        (row_below (observed_props net.observes) s) (row_below (observed_props net.observes) r) x here
        (λ p k. values_there net good r k.observer p k.observes ∙ agrees p k ∙ sym (values_there net good s k.observer p k.observes))

    meets : (s : Scenario) (c : Constraint) → Contains net.constraints c → Holds s c.label → Meets (table_of_rows net moments s) c
    meets s c has holds =
        let one = All-contains (IsConstraint net) net.constraints c good.constraints has in
        settled.meets c has (row_of (observed_props net.observes) s) (row_below (observed_props net.observes) s)
        (holds_there s c.label one.observed holds)

    pub settled_strategy : IsStrategy net (table_of_rows net moments)
    settled_strategy = record {
      within = low.within;
      dynamic = one_sided (table_of_rows net moments) never_later;
      meets = meets;
    }

    pub settled_least : (s : Scenario) (x : ℕ) → x < count net → IsLeast net s x (table_of_rows net moments s x)
    settled_least s x here = record {
      reached = (table_of_rows net moments, settled_strategy, refl);
      least = λ table strategy. low.below s x here table strategy;
    }

    -- the program's table of these moments is a table of the network's least moments
    pub settled_table : (props : List Prop) (points : ℕ) (t : TableParts) → numbers props ≡ observed_props net.observes →
        points ≡ count net → t ≡ record { props = props; points = points; moments = moments } → HasLeastRows net t
    settled_table props points t all counted is =
        let same : the_table t ≡ table_of_rows net moments =
        ap the_table is ∙ ap (λ ps. table_by ps points moments) all ∙ ap (λ n. table_by (observed_props net.observes) n moments) counted in
        record {
          points = ap (λ u. u.points) is ∙ counted;
          strategy = subst (IsStrategy net) (sym same) settled_strategy;
          least = λ s x here. subst (λ table. IsLeast net s x (table s x)) (sym same) (settled_least s x here);
        }
