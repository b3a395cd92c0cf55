use Rattle.std.proofs.Common.{◌≡◌, ◌≤◌, length, take, map, string_bytes}
use Rattle.std.specs.List.{All}
use Rattle.cstn_io.specs.Asked.{and_names}
use Rattle.cstn_request.specs.Several.{HasRead, IsSoundNetwork}
use Rattle.cstn_request.proofs.several.open_all.Given as goal

abbrev pub invariant-loop-file : goal.invariant-loop-file
invariant-loop-file g l = record {
  read : HasRead (g.F.Shelf.files l.fn.shelf) l.deadline (map string_bytes (take l.file-index l.files)) l.documents.items;
  many : length l.documents.items ≡ l.file-index;
  sound : All IsSoundNetwork l.documents.items;
  ask : g.F.Shelf.may_ask l.shelf ≡ g.F.Shelf.may_ask l.fn.shelf;
  once : g.F.Shelf.asked l.shelf ≡ and_names (g.F.Shelf.asked l.fn.shelf) (map string_bytes (take l.file-index l.files));
  files : g.F.Shelf.files l.shelf ≡ g.F.Shelf.files l.fn.shelf;
  later : g.F.Shelf.faults l.fn.shelf ≤ g.F.Shelf.faults l.shelf;
}
