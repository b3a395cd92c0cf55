use Rattle.std.proofs.Common.{inl, inr, refl}
use Rattle.cstn_request.specs.Read.{the_request}
use Rattle.cstn_top.specs.Prepared.{the_plan}
use Rattle.cstn_reply.specs.Written.{view}
use Rattle.cstn_top.proofs.Endings.{words_end, fault_end, memory_end, spoken, asked_before, none_asked, there_is, refused_is, reads_live, live_is, memory_is, words_is}
use Rattle.cstn_top.proofs.Calls.{ranged_as}
use Rattle.cstn_top.proofs.Told.{told_is, unranged}
use Rattle.cstn_top.proofs.top.run.Goals as goal

pub returns-in_default-clause-told : goal.returns-in_default-clause-told
returns-in_default-clause-told g c =
    told_is _ (g.F.Shelf.files c.args.shelf.now) (view g.S.Source.left g.S.Source.faults g.S.Source.reads) _ _ _ _ _ (unranged _ c.in_default.ensures.request)
    (words_end _ (g.F.Shelf.files c.args.shelf.now) c.args.live.now (view g.S.Source.left g.S.Source.faults g.S.Source.reads c.args.live.now) _ _ _ c.in_default.ensures.request
    c.finish.ensures.written)

pub returns-in-Err-ReadFault-clause-told : goal.returns-in-Err-ReadFault-clause-told
returns-in-Err-ReadFault-clause-told g c =
    told_is _ (g.F.Shelf.files c.args.shelf.now) (view g.S.Source.left g.S.Source.faults g.S.Source.reads) _ _ _ _ _ (ranged_as _ c.in-Some.request c.in-Some.ensures.request)
    (fault_end _ (g.F.Shelf.files c.args.shelf.now) c.args.live.now (view g.S.Source.left g.S.Source.faults g.S.Source.reads c.args.live.now) _ _ _
    c.finish-in-Err-ReadFault.ensures.written)

pub returns-in-Err-Memory-clause-told : goal.returns-in-Err-Memory-clause-told
returns-in-Err-Memory-clause-told g c =
    told_is _ (g.F.Shelf.files c.args.shelf.now) (view g.S.Source.left g.S.Source.faults g.S.Source.reads) _ _ _ _ _ (ranged_as _ c.in-Some.request c.in-Some.ensures.request)
    (memory_end _ (g.F.Shelf.files c.args.shelf.now) c.args.live.now (view g.S.Source.left g.S.Source.faults g.S.Source.reads c.args.live.now) _ _ _
    c.finish-in-Err-Memory.ensures.written)

pub returns-in-Ok-clause-told : goal.returns-in-Ok-clause-told
returns-in-Ok-clause-told g c =
    told_is _ (g.F.Shelf.files c.args.shelf.now) (view g.S.Source.left g.S.Source.faults g.S.Source.reads) _ _ _ _ _ (ranged_as _ c.in-Some.request c.in-Some.ensures.request)
    (spoken _ (the_request c.in-Some.request) (g.F.Shelf.files c.args.shelf.now) (view g.S.Source.left g.S.Source.faults g.S.Source.reads) _ _ c.in-Ok.prepared _ _ _
    c.in-Some.ensures.request c.in-Ok.ensures.plan c.speak.ensures.ends c.speak.ensures.untouched)

pub returns-in-Ok-clause-words_only : goal.returns-in-Ok-clause-words_only
returns-in-Ok-clause-words_only g c =
    words_is _ (g.F.Shelf.files c.args.shelf.now) _ _ _ _ _ _ _
    (spoken _ (the_request c.in-Some.request) (g.F.Shelf.files c.args.shelf.now) (view g.S.Source.left g.S.Source.faults g.S.Source.reads) _ _ c.in-Ok.prepared _ _ _
    c.in-Some.ensures.request c.in-Ok.ensures.plan c.speak.ensures.ends c.speak.ensures.untouched)

pub returns-in_default-clause-there : goal.returns-in_default-clause-there
returns-in_default-clause-there g c = none_asked _ (g.F.Shelf.files c.args.shelf.now) _ _ c.in_default.ensures.request

pub returns-in-Err-ReadFault-clause-there : goal.returns-in-Err-ReadFault-clause-there
returns-in-Err-ReadFault-clause-there g c =
    asked_before _ (the_request c.in-Some.request) (g.F.Shelf.files c.args.shelf.now) _ _ _ _ c.in-Some.ensures.request (c.in-Err-ReadFault.ensures.first refl) (inl refl) c.finish-in-Err-ReadFault.ensures.status

pub returns-in-Err-Memory-clause-there : goal.returns-in-Err-Memory-clause-there
returns-in-Err-Memory-clause-there g c =
    asked_before _ (the_request c.in-Some.request) (g.F.Shelf.files c.args.shelf.now) _ _ _ _ c.in-Some.ensures.request (c.in-Err-Memory.ensures.first refl) (inr (inr refl)) c.finish-in-Err-Memory.ensures.status

pub returns-in-Ok-clause-there : goal.returns-in-Ok-clause-there
returns-in-Ok-clause-there g c =
    there_is _ (the_request c.in-Some.request) (g.F.Shelf.files c.args.shelf.now) _ _ (the_plan c.in-Ok.prepared) _ _ _ _ _ c.in-Some.ensures.request c.in-Ok.ensures.plan c.in-Ok.ensures.asked c.speak.ensures.ends

pub returns-in-Ok-clause-refused : goal.returns-in-Ok-clause-refused
returns-in-Ok-clause-refused g c =
    refused_is _ (the_request c.in-Some.request) (g.F.Shelf.files c.args.shelf.now) _ _ (the_plan c.in-Ok.prepared) _ _ _ _ _
    c.in-Some.ensures.request c.in-Ok.ensures.refused c.speak.ensures.ends

pub returns-in-Ok-clause-live : goal.returns-in-Ok-clause-live
returns-in-Ok-clause-live g c =
    live_is _ (the_request c.in-Some.request) (g.F.Shelf.files c.args.shelf.now) _ _ _ c.in-Some.ensures.request c.in-Ok.ensures.plan c.speak.ensures.untouched

pub returns-in-Ok-clause-read_fault : goal.returns-in-Ok-clause-read_fault
returns-in-Ok-clause-read_fault g c = λ is.
    inr (reads_live _ (the_request c.in-Some.request) (g.F.Shelf.files c.args.shelf.now) _ c.in-Some.ensures.request c.in-Ok.ensures.plan (c.speak.ensures.read_fault is).0, (c.speak.ensures.read_fault is).1)

pub returns-in-Ok-clause-memory : goal.returns-in-Ok-clause-memory
returns-in-Ok-clause-memory g c = λ is.
    memory_is _ (the_request c.in-Some.request) (g.F.Shelf.files c.args.shelf.now) (g.S.Source.left c.args.live.now) c.in-Ok.prepared _ c.in-Some.ensures.request c.in-Ok.ensures.plan (c.speak.ensures.memory is)
