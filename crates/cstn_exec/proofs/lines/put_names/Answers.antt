use Rattle.std.proofs.Common.{arith, map, length, string_bytes, ap, ℕ, ◌∷◌}
use Rattle.std.proofs.lemmas.List.{length-append}
use Rattle.cstn_exec.proofs.Names.{name_at, shown_short, next_name}
use Rattle.cstn_exec.proofs.lines.put_names.Goals as goal

pub put_name-requires : goal.put_name-requires
put_name-requires c =
    let inside = c.requires.inside c.loop-x.x-index (record { 0 = 0 }) c.loop-x-test.true in
    let shown = name_at c.args.names.now c.args.named.now c.loop-x.x-index c.index.result c.index-names-index.result c.as_str.result.now c.index.ensures.index c.index-names-index.is inside c.as_str.ensures.value in
    let short = shown_short c.args.names.now _ c.as_str.result.now c.requires.short inside shown in
    record { room = omega (arith, short, c.loop-x-test.true, c.loop-x.invariant.short, c.requires.room) }

pub loop-x-preserved : goal.loop-x-preserved
loop-x-preserved c =
    let inside = c.requires.inside c.loop-x.x-index (record { 0 = 0 }) c.loop-x-test.true in
    let shown = name_at c.args.names.now c.args.named.now c.loop-x.x-index c.index.result c.index-names-index.result c.as_str.result.now c.index.ensures.index c.index-names-index.is inside c.as_str.ensures.value in
    let short = shown_short c.args.names.now _ c.as_str.result.now c.requires.short inside shown in
    let items = c.put_name.ensures in
    let size = ap length items in
    record {
      items = next_name (map string_bytes c.args.names.now) c.args.named.now c.loop-x.x-index c.args.text.now c.loop-x.text c.put_name.new.text c.as_str.result.now c.loop-x.invariant.items items c.loop-x-test.true shown;
      short = omega (arith, short, size, length-append {A = ℕ} c.loop-x.text (32 ∷ c.as_str.result.now), c.loop-x.invariant.short);
    }
