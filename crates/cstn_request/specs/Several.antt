-- Documents that were read one after another.
use Rattle.std.specs.Prelude.{◌≡◌, ℕ, suc, List, [], ◌∷◌, ◌++◌, length, take, Option}
use Rattle.cstn_net.specs.Networks.{IsWellFormed, count}
use Rattle.cstn_net.specs.Read.{the_network}
use Rattle.cstn_reply.specs.Texts.{Said}
use Rattle.cstn_reply.specs.Read.{the_said}
use Rattle.cstn_reply.specs.declared.output.Said.{Said as SaidText}
use Rattle.cstn_reply.specs.declared.output.Outcome.TheVariants.{Document}
use Rattle.cstn_request.specs.Files.{AreContents, AreThere}
use Rattle.cstn_request.specs.Asked.{WereRead}
use Rattle.cstn_request.specs.Documents.{IsSaidPlainly}
use Rattle.cstn_request.specs.Opened.{IsPlainOf}
use Rattle.cstn_request.specs.declared.reading.NamedNetwork.{NamedNetwork}

-- a document's network is well-formed, and each of its time-points has a name
pub record IsSoundNetwork (document : NamedNetwork) : Type 0 where
  pub well_formed : IsWellFormed (the_network document.network)
  pub named : length document.names ≡ count (the_network document.network)

-- documents with these contents were accepted, one after another
abbrev pub WereOpened : List (List ℕ) → Option ℕ → List NamedNetwork → Type 0
WereOpened [] deadline [] = Unit {0}
WereOpened [] deadline (document ∷ documents) = ⊥
WereOpened (bytes ∷ rest) deadline [] = ⊥
WereOpened (bytes ∷ rest) deadline (document ∷ documents) = IsPlainOf bytes deadline document × WereOpened rest deadline documents

-- these files are there, and these documents of them were accepted
pub record HasRead (shelf : Option (List ℕ → Option (List ℕ))) (deadline : Option ℕ) (files : List (List ℕ)) (documents : List NamedNetwork) : Type 0 where
  pub contents : List (List ℕ)
  pub are : AreContents shelf files contents
  pub many : length contents ≡ length files
  pub there : AreThere shelf files
  pub accepted : WereOpened contents deadline documents

-- Where the files have these contents, the documents of the first of them were accepted, and that of the next one is refused: this is said
-- of it. It is there, and so is each file before it; these were asked for, and no other.
pub record IsRefusedFile (shelf : Option (List ℕ → Option (List ℕ))) (before after : Option (List (List ℕ))) (deadline : Option ℕ) (files contents : List (List ℕ)) (said : Said) : Type 0 where
  pub earlier : List (List ℕ)
  pub bytes : List ℕ
  pub later : List (List ℕ)
  pub contents_are : contents ≡ earlier ++ bytes ∷ later
  pub documents : List NamedNetwork
  pub accepted : WereOpened earlier deadline documents
  pub is : IsSaidPlainly bytes deadline said
  pub read : WereRead shelf before after (take (suc (length earlier)) files)

-- a document of these files is refused, and this is said of it
pub record HasRefusedFile (shelf : Option (List ℕ → Option (List ℕ))) (before after : Option (List (List ℕ))) (deadline : Option ℕ) (files : List (List ℕ)) (said : SaidText) : Type 0 where
  pub contents : List (List ℕ)
  pub are : AreContents shelf files contents
  pub file : IsRefusedFile shelf before after deadline files contents (the_said said)
  pub outcome : said.outcome ≡ Document
