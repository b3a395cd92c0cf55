use Rattle.cstn_text.proofs.ListingLemmas.{text_said, text_back}
use Rattle.cstn_text.proofs.laws.listings_are_their_texts.Goals as goal

pub returns-clause-said : goal.returns-clause-said
returns-clause-said g c = text_said

pub returns-clause-says : goal.returns-clause-says
returns-clause-says g c = λ kind bytes load listed word small. text_back kind word small bytes load listed
