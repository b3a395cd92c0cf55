use Rattle.std.specs.Prelude.{map, string_bytes}
use Rattle.cstn_reply.specs.Written.{view}
use Rattle.cstn_headline.proofs.NetworkChecks.{may_ask_it, told_decided}
use Rattle.cstn_headline.proofs.networks.check_network.Goals as goal

pub run-requires : goal.run-requires
run-requires g c = record {
  may_ask = may_ask_it c.numbers_have_one_text.ensures.back c.args.release (map string_bytes c.args.words.now) c.requires.asks.0 c.requires.asks.1.0
      (g.F.Shelf.may_ask c.args.shelf.now) c.requires.asks.1.1 c.requires.asks.1.2;
}

pub returns : goal.returns
returns g c = record {
  decided =
      told_decided c.numbers_have_one_text.ensures.back c.growth_is_bounded.ensures.load c.documents_are_read_back.ensures.back c.documents_are_read_back.ensures.fit
      c.documents_are_read_back.ensures.same_but_ids c.lowered_is_well_formed.ensures.well_formed c.args.release (map string_bytes c.args.words.now)
      (g.F.Shelf.files c.args.shelf.now) (view g.S.Source.left g.S.Source.faults g.S.Source.reads) _ _ _ _ _ c.run.ensures.told;
}
