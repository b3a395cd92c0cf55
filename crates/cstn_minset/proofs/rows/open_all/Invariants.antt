use Rattle.std.proofs.Common.{◌≡◌, vec_capacity}
use Rattle.std.specs.Prelude.{None}
use Rattle.cstn_pool.specs.Slots.{padded}
use Rattle.cstn_minset.specs.Links.{AreLinks, SameSize}
use Rattle.cstn_minset.specs.Pages.{homes, AreOpened}
use Rattle.cstn_minset.proofs.rows.open_all.Given as goal

abbrev pub invariant-loop-head : goal.invariant-loop-head
invariant-loop-head l = record {
  size : SameSize l.fn.links l.links;
  room : vec_capacity l.pages ≡ vec_capacity l.fn.pages;
  opened : AreOpened l.head l.pages.items;
  linked : AreLinks l.links (padded None l.links.slots (homes 0 l.pages.items));
}
