use Rattle.std.proofs.Common.{List, ℕ, ap, sym, subst, ◌∙◌, ◌++◌}
use Rattle.cstn_lift.specs.Read.{the_labelled}
use Rattle.cstn_reply.specs.Written.{EndsLine}
use Rattle.cstn_save.specs.Canonical.{canonical}
use Rattle.cstn_follow.specs.Digests.{digest_line}
use Rattle.cstn_top.specs.commands.Follow.{heard_text}
use Rattle.cstn_top.proofs.FollowedLines.{canonical_ends, digest_ends}
use Rattle.cstn_top.proofs.commands.follow.put_heard.Goals as goal

pub returns-in_ok-extend-in-Rest-clause-lines : goal.returns-in_ok-extend-in-Rest-clause-lines
returns-in_ok-extend-in-Rest-clause-lines c =
    let whole =
    c.in_ok-extend-in-Rest.ensures.whole
    ∙ ap (λ (xs : List ℕ). xs ++ c.deref-in-Rest.result.now) c.requires.empty
    ∙ c.deref-in-Rest.ensures.value
    ∙ c.in_ok-document-in-Rest.ensures.canonical in
    subst EndsLine (sym whole) (canonical_ends (the_labelled c.in-Rest.network) c.in-Rest.names)

pub returns-in_ok-extend-in-Digest-clause-text : goal.returns-in_ok-extend-in-Digest-clause-text
returns-in_ok-extend-in-Digest-clause-text c =
    c.in_ok-extend-in-Digest.ensures.whole
    ∙ ap (λ (xs : List ℕ). xs ++ c.deref-in-Digest-2.result.now) c.requires.empty
    ∙ c.deref-in-Digest-2.ensures.value
    ∙ c.in_ok-line-in-Digest.ensures.line
    ∙ ap digest_line (c.deref-in-Digest.ensures.value ∙ c.in_ok-document-in-Digest.ensures.canonical)
    ∙ ap heard_text (sym c.in-Digest.is)

pub returns-in_ok-extend-in-Digest-clause-lines : goal.returns-in_ok-extend-in-Digest-clause-lines
returns-in_ok-extend-in-Digest-clause-lines c =
    let whole =
    c.in_ok-extend-in-Digest.ensures.whole
    ∙ ap (λ (xs : List ℕ). xs ++ c.deref-in-Digest-2.result.now) c.requires.empty
    ∙ c.deref-in-Digest-2.ensures.value
    ∙ c.in_ok-line-in-Digest.ensures.line
    ∙ ap digest_line (c.deref-in-Digest.ensures.value ∙ c.in_ok-document-in-Digest.ensures.canonical) in
    subst EndsLine (sym whole) (digest_ends (canonical (the_labelled c.in-Digest.network) c.in-Digest.names))
