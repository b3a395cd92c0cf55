-- What is known of files that were read.
use Rattle.std.proofs.Common.{◌≡◌, ℕ, ◌+◌, ◌<◌, List, [], ◌∷◌, length, map, refl, ap, sym, ◌∙◌, subst, arith}
use Rattle.std.specs.Prelude.{Option, None, Some, IsTrue, Bool, true, false, ◌&&◌, is_some, replicate}
use Rattle.std.specs.Option.{IsSomeAnd}
use Rattle.std.proofs.lemmas.List.{length-replicate}
use Rattle.cstn_io.specs.Contents.{IsFile, IsLongFile}
use Rattle.cstn_request.specs.Files.{file_bytes, bytes_or_none, IsContent, AreContents, AreThere}

-- the bytes that were read of a file are its content
pub is_content : (shelf : Option (List ℕ → Option (List ℕ))) (name bytes : List ℕ) → IsFile shelf name bytes → IsContent shelf name bytes
is_content None name bytes is = λ files e. absurd (cc)
is_content (Some known) name bytes is = λ files e. told_bytes known files name bytes (cc) is
  where
    told_bytes : (known files : List ℕ → Option (List ℕ)) (name bytes : List ℕ) → known ≡ files → known name ≡ Some bytes → bytes ≡ file_bytes files name
    told_bytes known files name bytes same is = ap (λ (o : Option (List ℕ)). bytes_or_none o) (sym is) ∙ ap (λ (f : List ℕ → Option (List ℕ)). file_bytes f name) same

some_long : (n : ℕ) → (bytes : List ℕ) × (n < length bytes)
some_long n = (replicate (n + 1) 0, omega (arith, length-replicate {A = ℕ} (n + 1) 0))

-- a file above the limit has a content of more bytes than the limit
pub long_content : (shelf : Option (List ℕ → Option (List ℕ))) (name : List ℕ) (limit : ℕ) → IsLongFile shelf name limit → (bytes : List ℕ) × IsContent shelf name bytes × (limit < length bytes)
long_content None name limit long = let w = some_long limit in (w.0, (λ files e. absurd (cc)), w.1)
long_content (Some known) name limit long = (file_bytes known name, (λ files e. let same : known ≡ files = cc in ap (λ (f : List ℕ → Option (List ℕ)). file_bytes f name) same), longer (known name) limit long)
  where
    longer : (o : Option (List ℕ)) (limit : ℕ) → IsSomeAnd o (λ bs. limit < length bs) → limit < length (bytes_or_none o)
    longer None limit h = absurd h
    longer (Some bs) limit h = h

-- there are contents that agree with what is told of the files
pub some_contents : (shelf : Option (List ℕ → Option (List ℕ))) (names : List (List ℕ)) → (contents : List (List ℕ)) × AreContents shelf names contents
some_contents None names = ([], (λ files e. absurd (cc)))
some_contents (Some known) names = (map (file_bytes known) names, (λ files e. let same : known ≡ files = cc in ap (λ (f : List ℕ → Option (List ℕ)). map (file_bytes f) names) same))

-- a list of one content, from the content of the file
pub one_content : (shelf : Option (List ℕ → Option (List ℕ))) (name bytes : List ℕ) → IsContent shelf name bytes → AreContents shelf (name ∷ []) (bytes ∷ [])
one_content shelf name bytes content = λ files e. ap (λ (bs : List ℕ). bs ∷ []) (content files e)

-- there are bytes that agree with what is told of a file
pub some_content : (shelf : Option (List ℕ → Option (List ℕ))) (name : List ℕ) → (bytes : List ℕ) × IsContent shelf name bytes
some_content None name = ([], (λ files e. absurd (cc)))
some_content (Some known) name = (file_bytes known name, (λ files e. let same : known ≡ files = cc in ap (λ (f : List ℕ → Option (List ℕ)). file_bytes f name) same))

-- a list of two contents, from the contents of the two files
pub two_contents : (shelf : Option (List ℕ → Option (List ℕ))) (name other bytes text : List ℕ) → IsContent shelf name bytes → IsContent shelf other text → AreContents shelf (name ∷ other ∷ []) (bytes ∷ text ∷ [])
two_contents shelf name other bytes text content second = λ files e. let one = content files e in let two = second files e in cc

-- a file that was read is there
pub is_there : (shelf : Option (List ℕ → Option (List ℕ))) (name bytes : List ℕ) → IsFile shelf name bytes → AreThere shelf (name ∷ [])
is_there None name bytes is = λ files e. absurd (cc)
is_there (Some known) name bytes is = λ files e. there_at known files name bytes (cc) is
  where
    there_at : (known files : List ℕ → Option (List ℕ)) (name bytes : List ℕ) → known ≡ files → known name ≡ Some bytes → IsTrue (is_some (files name) && true)
    there_at known files name bytes same is =
        let found : files name ≡ Some bytes = ap (λ (f : List ℕ → Option (List ℕ)). f name) (sym same) ∙ is in
        rw found refl

-- a file that is too long is there
pub long_is_there : (shelf : Option (List ℕ → Option (List ℕ))) (name : List ℕ) (limit : ℕ) → IsLongFile shelf name limit → AreThere shelf (name ∷ [])
long_is_there None name limit long = λ files e. absurd (cc)
long_is_there (Some known) name limit long = λ files e.
    let same : known ≡ files = cc in
    subst (λ (f : List ℕ → Option (List ℕ)). IsTrue (is_some (f name) && true)) same (some_there (known name) limit long)
  where
    some_there : (o : Option (List ℕ)) (limit : ℕ) → IsSomeAnd o (λ bs. limit < length bs) → IsTrue (is_some o && true)
    some_there None limit h = absurd h
    some_there (Some bytes) limit h = refl

-- the files of an empty list are there
pub none_there : (shelf : Option (List ℕ → Option (List ℕ))) → AreThere shelf []
none_there shelf = λ files e. refl

-- two files are there where each of them is
pub two_there : (shelf : Option (List ℕ → Option (List ℕ))) (name other : List ℕ) → AreThere shelf (name ∷ []) → AreThere shelf (other ∷ []) → AreThere shelf (name ∷ other ∷ [])
two_there shelf name other one two = λ files e. both (is_some (files name)) (is_some (files other)) (one files e) (two files e)
  where
    both : (a b : Bool) → IsTrue (a && true) → IsTrue (b && true) → IsTrue (a && (b && true))
    both true b x y = y
    both false b x y = absurd (cc)
