use Rattle.std.proofs.Common.{◌≡◌, ◌+◌, length, arith, ap, ◌∙◌, to_z, of_z, w32}
use Rattle.std.specs.Prelude.{ℤ}
use Rattle.std.proofs.lemmas.Int.{to_z-of_z}
use Rattle.cstn_label.specs.Labels.{Label}
use Rattle.cstn_net.specs.declared.constraints.Constraint.{Constraint}
use Rattle.cstn_net.specs.Read.{the_constraint}
use Rattle.cstn_history.specs.Rest.{bare}
use Rattle.cstn_history.proofs.Made.{adds_one}
use Rattle.cstn_history.proofs.adding.add_bare.Goals as goal

pub returns-clause-added : goal.returns-clause-added
returns-clause-added c =
    let old = c.args.added.now in
    let e = bare c.args.from c.args.to c.args.most in
    let value : to_z w32 (of_z w32 c.args.most) ≡ c.args.most = to_z-of_z w32 c.args.most c.ranges.most in
    let long : c.len.result ≡ length old.items = (let at = c.len.ensures in let items = old.ok.0 in omega arith) in
    let d : Constraint = record { id = c.args.fresh + c.len.result; from = record { 0 = c.args.from }; to = record { 0 = c.args.to }; most = to_z w32 (of_z w32 c.args.most); label = c.empty.result } in
    adds_one c.args.fresh old.items c.push.new.self.items d e c.in_ok-push.ensures.items
    (ap (λ (v : ℤ). record (the_constraint d) { most = v }) value
    ∙ ap (λ (l : Label). record (the_constraint d) { most = c.args.most; label = l }) c.empty.ensures.empty
    ∙ ap (λ n. record e { id = c.args.fresh + n }) long)
