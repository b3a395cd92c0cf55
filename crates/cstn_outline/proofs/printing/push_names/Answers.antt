use Rattle.std.proofs.Common.{List, ◌≡◌, ◌++◌, ◌∷◌, [], get_or, ap, sym, ◌∙◌}
use Rattle.std.specs.Char.{encode_utf8}
use Rattle.std.specs.Prelude.{flat_map, slice_index_or, string_bytes}
use Rattle.std.proofs.lemmas.Option.{get_or_from_slice_get}
use Rattle.std.proofs.lemmas.List.{take_all}
use Rattle.cstn_label.specs.declared.nodes.NodeId.{NodeId}
use Rattle.cstn_text.specs.PrintedNames.{printed_name}
use Rattle.cstn_outline.specs.Read.{node_numbers}
use Rattle.cstn_outline.proofs.PrintLemmas.{printed_more, pushed_twice}
use Rattle.cstn_outline.proofs.printing.push_names.Goals as goal

pub loop-x-preserved : goal.loop-x-preserved
unfolding encode_utf8
loop-x-preserved c =
    let names = c.args.names.now in
    let x = (get_or c.args.named.now c.loop-x.x-index (record { 0 = 0 })).0 in
    let name : c.deref.result.now ≡ printed_name (slice_index_or names x []) =
    c.deref.ensures ∙ c.in_ok-name.ensures.printed ∙ ap printed_name (sym (get_or_from_slice_get names x c.name.result.now [] c.name.ensures.name)) in
    printed_more (λ (y : NodeId). y.0) (λ y. 32 ∷ printed_name (slice_index_or names y [])) c.args.named.now c.loop-x.x-index (record { 0 = 0 })
    (string_bytes c.args.text.now) (string_bytes c.loop-x.text) (string_bytes c.push_str.new.self) (32 ∷ c.deref.result.now) c.loop-x-test.true c.loop-x.invariant
    (pushed_twice (string_bytes c.loop-x.text) (string_bytes c.push.new.self) (string_bytes c.push_str.new.self) (32 ∷ []) c.deref.result.now c.in_ok-push.ensures.bytes c.in_ok-push_str.ensures.bytes)
    (ap (λ l. 32 ∷ l) name)

pub returns : goal.returns
returns c = record {
  pushed = c.loop-x.invariant ∙ ap (λ (l : List NodeId). string_bytes c.args.text.now ++ flat_map (λ x. 32 ∷ printed_name (slice_index_or c.args.names.now x [])) (node_numbers l)) (take_all c.loop-x.x-index c.args.named.now c.loop-x-test.false);
}
