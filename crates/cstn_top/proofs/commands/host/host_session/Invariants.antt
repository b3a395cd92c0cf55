use Rattle.std.proofs.Common.{◌≡◌, ◌++◌, length, map}
use Rattle.std.specs.Vec.Iter.{into_iter_items, into_iter_len}
use Rattle.cstn_top.specs.Begun.{the_named, HasBegun}
use Rattle.cstn_top.proofs.commands.host.host_session.Given as goal

abbrev pub invariant-loop-document : goal.invariant-loop-document
invariant-loop-document l = record {
  documents : l.fn.documents.items ≡ l.yielded ++ into_iter_items l.document-iterator;
  left : length (into_iter_items l.document-iterator) ≡ into_iter_len l.document-iterator;
  begun : HasBegun l.cap.entries (map the_named l.yielded) l.begun;
}
