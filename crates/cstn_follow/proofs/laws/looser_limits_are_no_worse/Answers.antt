use Rattle.std.proofs.Common.{inl, inr}
use Rattle.cstn_follow.proofs.Loosened.{easier_continues, easier_can}
use Rattle.cstn_follow.proofs.laws.looser_limits_are_no_worse.Goals as goal

pub returns : goal.returns
returns c = record {
  table = λ m h id v w table good more goes. easier_continues m h id good v w table (inl more) goes;
  beyond = λ m h id v w good beyond can. easier_can m h id good v w (inr (inl beyond)) can;
}
