-- Propositions with one number are one, and so are time-points.
use Rattle.std.proofs.Common.{ℕ, ◌≡◌, ◌<◌, ap, subst}
use Rattle.std.specs.Coded.{le_prop}
use Rattle.cstn_label.specs.declared.nodes.NodeId.{NodeId}
use Rattle.cstn_label.specs.declared.props.Prop.{Prop}

same_built : (i : ℕ) (h k : i < 52) → ◌≡◌ {A = Prop} (record { index = i; in_range = h }) (record { index = i; in_range = k })
same_built i h k = let e : h ≡ k = le_prop h k in cc

pub same_prop : (p q : Prop) → p.index ≡ q.index → p ≡ q
same_prop p q e =
    subst (λ i. (k : i < 52) → p ≡ record { index = i; in_range = k }) e (λ k. same_built p.index p.in_range k) q.in_range

pub same_node : (x y : NodeId) → x.0 ≡ y.0 → x ≡ y
same_node x y e = ap {B = NodeId} (λ n. record { 0 = n }) e
