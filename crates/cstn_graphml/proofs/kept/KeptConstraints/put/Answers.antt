use Rattle.std.proofs.Common.{◌≡◌, ◌≤◌, [], ◌∷◌, ◌++◌, length, arith, sym, ◌∙◌}
use Rattle.std.proofs.lemmas.List.{take_at, take_all, length-append}
use Rattle.cstn_net.specs.Limits.{most_constraints}
use Rattle.cstn_graphml.proofs.kept.KeptConstraints.put.Goals as goal

pub returns-then-len-gt-MAX_CONSTRAINTS : goal.returns-then-len-gt-MAX_CONSTRAINTS
returns-then-len-gt-MAX_CONSTRAINTS c =
    let list = c.args.self.now.list.items in
    let many : length list ≡ 16385 = grind arith in
    sym (take_at list (c.args.constraint ∷ []) 16385 many)

pub returns : goal.returns
returns c =
    let list = c.args.self.now.list.items in
    let more = list ++ (c.args.constraint ∷ []) in
    let few : length list ≤ most_constraints = grind arith in
    c.in_ok-push.ensures.items ∙ sym (take_all 16385 more (omega (arith, few, length-append list (c.args.constraint ∷ []))))
