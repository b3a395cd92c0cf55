use Rattle.std.proofs.Common.{◌≡◌, sym, ◌∙◌, ap, rules, None}
use Rattle.cstn_markup.specs.Bytes.{past_white}
use Rattle.cstn_markup.specs.Tokens.{tag_end_at, attribute_at}
use Rattle.cstn_markup.proofs.Tails.{end_is, attribute_is, attribute_none, ends, told, told_none, wrong_tail, full_tail, twice, one_read, ended}
use Rattle.cstn_markup.proofs.tags.tail_at.Goals as goal
use Rattle.cstn_markup.proofs.tags.tail_at.Goals.{then-n-eq0-via-then-n-eq0, then-n-eq0-via-else-n-eq0+then-is_full}

pub returns-in-Some : goal.returns-in-Some
returns-in-Some c =
    told _ (c.in-Some.closed, c.in-Some.rest.now) (c.loop-closed.invariant.same ∙ ends _ _ c.loop-closed.rest.now _ (end_is c.white_len-n.result c.loop-closed.rest.now _ c.white_len-n.ensures.value c.in-Some.ensures))

pub returns-then-n-eq0 : goal.returns-then-n-eq0
returns-then-n-eq0 c =
    let unended : tag_end_at (past_white c.loop-closed.rest.now) ≡ None = end_is c.white_len-n.result c.loop-closed.rest.now _ c.white_len-n.ensures.value c.in_default.ensures in
    elim c.then-n-eq0.branch [
      | then-n-eq0-via-then-n-eq0 w ↦
          let none = attribute_none c.white_len-n.result c.loop-closed.rest.now c.white_len-n.ensures.value w.if-n-eq0.true in
          told_none _ (c.loop-closed.invariant.same ∙ ap (ended c.loop-closed.seen) (wrong_tail _ c.loop-closed.rest.now unended none))
      | then-n-eq0-via-else-n-eq0+then-is_full w ↦
          told_none _ (c.loop-closed.invariant.same ∙ ap (ended c.loop-closed.seen) (full_tail _ c.loop-closed.rest.now (search rules) unended))
    ]

pub returns-in_err-attribute : goal.returns-in_err-attribute
returns-in_err-attribute c =
    let unended : tag_end_at (past_white c.loop-closed.rest.now) ≡ None = end_is c.white_len-n.result c.loop-closed.rest.now _ c.white_len-n.ensures.value c.in_default.ensures in
    let none : attribute_at c.loop-closed.rest.now ≡ None = attribute_is c.white_len-n.result c.loop-closed.rest.now _ c.white_len-n.ensures.value c.if-n-eq0.false c.in_err-attribute.ensures in
    rw c.from_residual.ensures (told_none _ (c.loop-closed.invariant.same ∙ ap (ended c.loop-closed.seen) (wrong_tail _ c.loop-closed.rest.now unended none)))

pub returns-then-has : goal.returns-then-has
returns-then-has c =
    let here = attribute_is c.white_len-n.result c.loop-closed.rest.now _ c.white_len-n.ensures.value c.if-n-eq0.false c.in_ok-attribute.ensures in
    told_none _ (c.loop-closed.invariant.same ∙ twice c.loop-closed.seen _ c.loop-closed.rest.now _ _ (search rules) here (sym c.if-has.ensures))

pub loop-closed-preserved : goal.loop-closed-preserved
loop-closed-preserved c =
    let here = attribute_is c.white_len-n.result c.loop-closed.rest.now _ c.white_len-n.ensures.value c.if-n-eq0.false c.in_ok-attribute.ensures in
    let r = one_read _ c.loop-closed.seen c.push.new.self c.loop-closed.rest.now _ _ c.loop-closed.invariant.few c.loop-closed.invariant.same c.if-is_full.ensures here c.if-has.ensures c.push.ensures in
    record { few = r.few; same = r.same }
