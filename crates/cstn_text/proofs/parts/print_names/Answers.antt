use Rattle.std.proofs.Common.{◌≡◌, ◌∙◌, ℕ, List, map, ap, arith}
use Rattle.std.specs.Prelude.{string_bytes}
use Rattle.std.proofs.lemmas.List.{take_all}
use Rattle.cstn_text.specs.PrintedNames.{printed_name}
use Rattle.cstn_text.proofs.NameLemmas.{name_at}
use Rattle.cstn_text.proofs.parts.print_names.Goals as goal

pub returns-clause-each : goal.returns-clause-each
returns-clause-each c =
    let names = c.as_slice-names.result.now in
    let all = take_all c.loop-name.name-index names (omega (arith, c.loop-name-test.false)) in
    let same : map string_bytes c.loop-name.texts.items ≡ map printed_name c.args.names.now =
    c.loop-name.invariant ∙ ap (λ (ns : List (List ℕ)). map printed_name ns) (ap (map string_bytes) all ∙ c.as_slice-names.ensures.names) in
    λ i text inside. name_at c.loop-name.texts.items c.args.names.now i text same inside
