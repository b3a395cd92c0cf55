use Rattle.std.proofs.Common.{sym, ◌∙◌, ap, subst, take, ◌≡◌}
use Rattle.std.specs.Str.{IsUtf8}
use Rattle.std.proofs.lemmas.List.{take_all}
use Rattle.cstn_text.specs.PrintedNames.{printed_name}
use Rattle.cstn_text.proofs.PrintedNameLemmas.{printed_utf8}
use Rattle.cstn_text.proofs.printed_names.print_name.Goals as goal

pub unwrap-requires : goal.unwrap-requires
unwrap-requires c =
    let name = c.as_bytes-b-items.result.now in
    let whole : take c.loop-b.b-index name ≡ name = take_all c.loop-b.b-index name c.loop-b-test.false in
    c.from_utf8.ensures.succeeds (subst IsUtf8 (sym (c.loop-b.invariant ∙ ap printed_name whole)) (printed_utf8 name c.as_bytes-b-items.ensures.utf8))
