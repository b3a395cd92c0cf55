use Rattle.std.proofs.Common.{◌≡◌, false, true}
use Rattle.cstn_label.specs.Labels.{IsPlain}
use Rattle.cstn_label.specs.Read.{marks}
use Rattle.cstn_net.proofs.Lowest.{fails_first}
use Rattle.cstn_net.proofs.scans.first_not_plain.Goals as goal

pub returns-then-not-is_plain : goal.returns-then-not-is_plain
returns-then-not-is_plain c =
    fails_first (λ d. IsPlain (marks d.label)) c.args.drafts.now c.loop-i.i c.index-drafts-i.result c.loop-i-test.true c.index-drafts-i.is
    (λ plain. let no : false ≡ true = c.if-not-is_plain.ensures.plain.1 plain in cc) c.loop-i.invariant
