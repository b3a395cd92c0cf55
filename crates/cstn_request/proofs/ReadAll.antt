-- Documents that were read one after another.
use Rattle.std.proofs.Common.{◌≡◌, ◌+◌, ℕ, suc, Bool, true, false, List, [], ◌∷◌, ◌++◌, length, map, take, refl, ap, sym, subst, ◌∙◌}
use Rattle.std.specs.Prelude.{Option, is_some, ◌&&◌}
use Rattle.std.specs.List.{list_all}
use Rattle.std.proofs.lemmas.List.{map-append, length-append}
use Rattle.std.proofs.lemmas.List.Folds.{list_all-append}
use Rattle.std.proofs.lemmas.List.Elements.{All-append, All-cons, All-nil}
use Rattle.cstn_io.specs.Asked.{and_names}
use Rattle.cstn_request.specs.Requests.{AskedFile}
use Rattle.cstn_request.specs.Files.{file_bytes, AreContents, AreThere}
use Rattle.cstn_reply.specs.declared.output.Said.{Said as SaidText}
use Rattle.cstn_request.proofs.Asking.{take_next}
use Rattle.cstn_request.proofs.Contents.{some_contents, one_content, none_there}
use Rattle.cstn_request.specs.Opened.{HasAskedFile, IsPlainOf, IsPlainRefusal}
use Rattle.cstn_request.specs.declared.reading.NamedNetwork.{NamedNetwork}
use Rattle.std.specs.List.{All}
use Rattle.cstn_request.specs.Several.{WereOpened, HasRead, HasRefusedFile, IsSoundNetwork}

-- where all documents are sound, and one more is, they are sound together
pub sound_more : (old new : List NamedNetwork) (document : NamedNetwork) → new ≡ old ++ document ∷ [] → All IsSoundNetwork old → IsSoundNetwork document → All IsSoundNetwork new
sound_more old new document is all one = subst (λ (ds : List NamedNetwork). All IsSoundNetwork ds) (sym is) (All-append IsSoundNetwork old (document ∷ []) all (All-cons IsSoundNetwork document [] one (All-nil IsSoundNetwork)))

-- the contents of some files, and those of further files, are the contents of all
pub contents_more : (shelf : Option (List ℕ → Option (List ℕ))) (names more contents later : List (List ℕ)) → AreContents shelf names contents → AreContents shelf more later → AreContents shelf (names ++ more) (contents ++ later)
contents_more shelf names more contents later one two = λ files e.
    ap (λ (xs : List (List ℕ)). xs ++ later) (one files e) ∙ ap (λ (xs : List (List ℕ)). map (file_bytes files) names ++ xs) (two files e) ∙ sym (map-append (file_bytes files) names more)

both : (a b : Bool) → a ≡ true → b ≡ true → (a && b) ≡ true
both true true x y = refl
both true false x y = absurd (cc)
both false b x y = absurd (cc)

-- where some files are there, and further files are, all are
pub there_more : (shelf : Option (List ℕ → Option (List ℕ))) (names more : List (List ℕ)) → AreThere shelf names → AreThere shelf more → AreThere shelf (names ++ more)
there_more shelf names more one two = λ files e.
    list_all-append (λ name. is_some (files name)) names more
    ∙ both (list_all (λ name. is_some (files name)) names) (list_all (λ name. is_some (files name)) more) (one files e) (two files e)

-- a file, and the deadline with which its document is read
abbrev pub asked_for : List ℕ → Option ℕ → AskedFile
asked_for file deadline = record { file = file; deadline = deadline }

-- no document was read yet
pub read_none : (shelf : Option (List ℕ → Option (List ℕ))) (deadline : Option ℕ) → HasRead shelf deadline [] []
read_none shelf deadline = record { contents = []; are = λ files e. refl; many = refl; there = none_there shelf; accepted = tt }

accepted_more : (contents : List (List ℕ)) (deadline : Option ℕ) (documents : List NamedNetwork) (bytes : List ℕ) (document : NamedNetwork) → WereOpened contents deadline documents → IsPlainOf bytes deadline document → WereOpened (contents ++ bytes ∷ []) deadline (documents ++ document ∷ [])
accepted_more [] deadline [] bytes document are is = (is, tt)
accepted_more [] deadline (d ∷ ds) bytes document are is = absurd are
accepted_more (first ∷ rest) deadline [] bytes document are is = absurd are
accepted_more (first ∷ rest) deadline (d ∷ ds) bytes document are is = (are.0, accepted_more rest deadline ds bytes document are.1 is)

module _ (shelf : Option (List ℕ → Option (List ℕ))) (deadline : Option ℕ) (files : List (List ℕ)) (documents : List NamedNetwork) (so_far : HasRead shelf deadline files documents) (file : List ℕ) where
  -- the next document is accepted
  pub read_more : (d : NamedNetwork) → HasAskedFile shelf (asked_for file deadline) (λ bytes asked. IsPlainOf bytes asked d) → HasRead shelf deadline (files ++ file ∷ []) (documents ++ d ∷ [])
  read_more d opened = record {
    contents = so_far.contents ++ opened.bytes ∷ [];
    are = contents_more shelf files (file ∷ []) so_far.contents (opened.bytes ∷ []) so_far.are (one_content shelf file opened.bytes opened.content);
    many = length-append so_far.contents (opened.bytes ∷ []) ∙ ap (λ (n : ℕ). n + 1) so_far.many ∙ sym (length-append files (file ∷ []));
    there = there_more shelf files (file ∷ []) so_far.there opened.there;
    accepted = accepted_more so_far.contents deadline documents opened.bytes d so_far.accepted opened.is;
  }

  -- the next document is refused
  pub read_refused : (before after : Option (List (List ℕ))) (all rest : List (List ℕ)) (said : SaidText) → files ++ file ∷ rest ≡ all → HasAskedFile shelf (asked_for file deadline) (λ bytes asked. IsPlainRefusal bytes asked said) → after ≡ and_names before (files ++ file ∷ []) → HasRefusedFile shelf before after deadline all said
  read_refused before after all rest said is opened asked =
      subst (λ (names : List (List ℕ)). HasRefusedFile shelf before after deadline names said) is (record {
        contents = so_far.contents ++ opened.bytes ∷ later.0;
        are = contents_all;
        file = record {
          earlier = so_far.contents;
          bytes = opened.bytes;
          later = later.0;
          contents_are = refl;
          documents = documents;
          accepted = so_far.accepted;
          is = opened.is.0;
          read = record { asked = asked ∙ ap (and_names before) (sym up_to_it); there = up_to_place };
        };
        outcome = opened.is.1;
      })
    where
      later : (contents : List (List ℕ)) × AreContents shelf rest contents
      later = some_contents shelf rest

      contents_all : AreContents shelf (files ++ file ∷ rest) (so_far.contents ++ opened.bytes ∷ later.0)
      contents_all = contents_more shelf files (file ∷ rest) so_far.contents (opened.bytes ∷ later.0) so_far.are (contents_more shelf (file ∷ []) rest (opened.bytes ∷ []) later.0 (one_content shelf file opened.bytes opened.content) later.1)

      up_to_it : take (suc (length so_far.contents)) (files ++ file ∷ rest) ≡ files ++ file ∷ []
      up_to_it = ap (λ (n : ℕ). take (suc n) (files ++ file ∷ rest)) so_far.many ∙ take_next files file rest

      up_to_place : AreThere shelf (take (suc (length so_far.contents)) (files ++ file ∷ rest))
      up_to_place = subst (AreThere shelf) (sym up_to_it) (there_more shelf files (file ∷ []) so_far.there opened.there)
