use Rattle.std.proofs.Common.{ℕ, List, length, ap, arith, ◌∙◌}
use Rattle.std.specs.Prelude.{◌++◌, codes}
use Rattle.cstn_lines.specs.LiveLines.{moment_at}
use Rattle.cstn_lines.specs.HostLines.{put_on}
use Rattle.cstn_run.specs.hosted.SessionRead.{the_names}
use Rattle.cstn_run.specs.hosted.Sessions.{with_id}
use Rattle.cstn_run.proofs.hosts.PutLines.{more_line}
use Rattle.cstn_run.proofs.hosts.Accepted.{taken, done_then, texts_inside, texts_short, few_named, line_is}
use Rattle.cstn_run.proofs.hosts.Answered.{refused_said, refused_after, after_is, moment_said, last_said}
use Rattle.cstn_run.proofs.hosted.sessions.HostSession.moment.Goals as goal

pub returns-in-Err-clause-said : goal.returns-in-Err-clause-said
returns-in-Err-clause-said c =
    refused_said c.args.self.now c.self.inside.host (the_names c.self.inside.names.items) c.self.view_is c.self.invariant.as_many c.put_error.result (put_on c.args.id (moment_at c.args.t)) c.in-Err.error c.put_error.new.text c.in-Err.ensures.answer c.put_error.ensures.items

pub returns-in-Err-clause-after : goal.returns-in-Err-clause-after
returns-in-Err-clause-after c =
    refused_after c.args.self.now c.self.inside.host (the_names c.self.inside.names.items) c.self.view_is c.self.invariant.as_many c.put_error.result (put_on c.args.id (moment_at c.args.t)) c.moment.new.self c.moment.ensures.after

pub put_moment-requires-clause-inside : goal.put_moment-requires-clause-inside
put_moment-requires-clause-inside c =
    let k =
    taken c.self.inside.host c.moment.new.self c.args.id c.args.t c.self.inside.names.items c.in-Ok.file c.index.result.now c.deref.result.now c.in-Ok-named.named.now c.self.invariant.as_many
    c.moment.ensures.after c.moment.ensures.plans c.in_default.ensures.answer c.in-Ok.ensures.answer c.in-Ok.ensures.inside c.in-Ok-named.ensures.answer c.index.ensures c.deref.ensures.value in
    texts_inside _ _ _ _ c.self.invariant _ _ _ k

pub put_moment-requires-clause-short : goal.put_moment-requires-clause-short
put_moment-requires-clause-short c =
    let k =
    taken c.self.inside.host c.moment.new.self c.args.id c.args.t c.self.inside.names.items c.in-Ok.file c.index.result.now c.deref.result.now c.in-Ok-named.named.now c.self.invariant.as_many
    c.moment.ensures.after c.moment.ensures.plans c.in_default.ensures.answer c.in-Ok.ensures.answer c.in-Ok.ensures.inside c.in-Ok-named.ensures.answer c.index.ensures c.deref.ensures.value in
    texts_short _ _ _ _ c.self.invariant _ _ _ k

pub put_moment-requires-clause-room : goal.put_moment-requires-clause-room
put_moment-requires-clause-room c =
    let k =
    taken c.self.inside.host c.moment.new.self c.args.id c.args.t c.self.inside.names.items c.in-Ok.file c.index.result.now c.deref.result.now c.in-Ok-named.named.now c.self.invariant.as_many
    c.moment.ensures.after c.moment.ensures.plans c.in_default.ensures.answer c.in-Ok.ensures.answer c.in-Ok.ensures.inside c.in-Ok-named.ensures.answer c.index.ensures c.deref.ensures.value in
    let few = few_named _ _ _ _ c.self.invariant _ _ _ k in
    omega (arith, few, c.put_id.ensures.length, ap length c.requires.empty)

pub returns-then-not-has_done_all-clause-said : goal.returns-then-not-has_done_all-clause-said
returns-then-not-has_done_all-clause-said c =
    let k =
    taken c.self.inside.host c.moment.new.self c.args.id c.args.t c.self.inside.names.items c.in-Ok.file c.index.result.now c.deref.result.now c.in-Ok-named.named.now c.self.invariant.as_many
    c.moment.ensures.after c.moment.ensures.plans c.in_default.ensures.answer c.in-Ok.ensures.answer c.in-Ok.ensures.inside c.in-Ok-named.ensures.answer c.index.ensures c.deref.ensures.value in
    moment_said c.args.self.now c.self.inside.host (the_names c.self.inside.names.items) c.self.view_is c.self.invariant.as_many c.args.id c.args.t k.moved k.told c.put_moment.new.text
    (done_then c.self.inside.host c.moment.new.self c.args.id c.args.t k.moved _ c.moment.ensures.after c.if-not-has_done_all.ensures.done)
    (line_is _ _ _ _ c.self.invariant _ _ _ k _ _ _ c.requires.empty c.put_id.ensures.items c.put_moment.ensures.items)

pub returns-then-not-has_done_all-clause-after : goal.returns-then-not-has_done_all-clause-after
returns-then-not-has_done_all-clause-after c =
    after_is c.args.self.now c.self.inside.host (the_names c.self.inside.names.items) c.self.view_is c.self.invariant.as_many (put_on c.args.id (moment_at c.args.t)) c.moment.new.self c.moment.ensures.after

pub put_id-requires-2 : goal.put_id-requires-2
put_id-requires-2 c =
    let k =
    taken c.self.inside.host c.moment.new.self c.args.id c.args.t c.self.inside.names.items c.in-Ok.file c.index.result.now c.deref.result.now c.in-Ok-named.named.now c.self.invariant.as_many
    c.moment.ensures.after c.moment.ensures.plans c.in_default.ensures.answer c.in-Ok.ensures.answer c.in-Ok.ensures.inside c.in-Ok-named.ensures.answer c.index.ensures c.deref.ensures.value in
    let few = few_named _ _ _ _ c.self.invariant _ _ _ k in
    record { room = omega (arith, few, c.put_id.ensures.length, c.put_moment.ensures.short, ap length c.requires.empty) }

pub put_due-requires : goal.put_due-requires
put_due-requires c =
    let k =
    taken c.self.inside.host c.moment.new.self c.args.id c.args.t c.self.inside.names.items c.in-Ok.file c.index.result.now c.deref.result.now c.in-Ok-named.named.now c.self.invariant.as_many
    c.moment.ensures.after c.moment.ensures.plans c.in_default.ensures.answer c.in-Ok.ensures.answer c.in-Ok.ensures.inside c.in-Ok-named.ensures.answer c.index.ensures c.deref.ensures.value in
    let few = few_named _ _ _ _ c.self.invariant _ _ _ k in
    record { room = omega (arith, few, c.put_id.ensures.length, c.put_moment.ensures.short, c.put_id-2.ensures.length, ap length c.requires.empty) }

pub returns-clause-said : goal.returns-clause-said
returns-clause-said c =
    let k =
    taken c.self.inside.host c.moment.new.self c.args.id c.args.t c.self.inside.names.items c.in-Ok.file c.index.result.now c.deref.result.now c.in-Ok-named.named.now c.self.invariant.as_many
    c.moment.ensures.after c.moment.ensures.plans c.in_default.ensures.answer c.in-Ok.ensures.answer c.in-Ok.ensures.inside c.in-Ok-named.ensures.answer c.index.ensures c.deref.ensures.value in
    let line = line_is _ _ _ _ c.self.invariant _ _ _ k _ _ _ c.requires.empty c.put_id.ensures.items c.put_moment.ensures.items in
    last_said c.args.self.now c.self.inside.host (the_names c.self.inside.names.items) c.self.view_is c.self.invariant.as_many c.args.id c.args.t k.moved k.told c.put_due.new.text
    (done_then c.self.inside.host c.moment.new.self c.args.id c.args.t k.moved _ c.moment.ensures.after c.if-not-has_done_all.ensures.done)
    (more_line c.put_moment.new.text _ _ c.args.id (codes "done") c.put_id-2.ensures.items c.put_due.ensures ∙ ap (λ (xs : List ℕ). xs ++ with_id c.args.id (codes "done")) line)

pub returns-clause-after : goal.returns-clause-after
returns-clause-after c =
    after_is c.args.self.now c.self.inside.host (the_names c.self.inside.names.items) c.self.view_is c.self.invariant.as_many (put_on c.args.id (moment_at c.args.t)) c.moment.new.self c.moment.ensures.after
