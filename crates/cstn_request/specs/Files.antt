-- What was read of the files that words name.
use Rattle.std.specs.Prelude.{◌≡◌, ℕ, List, [], Option, None, Some, IsTrue, is_some, map}
use Rattle.std.specs.List.{list_all}

-- the bytes that are there, or none
abbrev pub bytes_or_none : Option (List ℕ) → List ℕ
bytes_or_none None = []
bytes_or_none (Some bytes) = bytes

-- the bytes of a file: none where it isn't there
abbrev pub file_bytes : (List ℕ → Option (List ℕ)) → List ℕ → List ℕ
file_bytes files name = bytes_or_none (files name)

-- the bytes are those of the named file, where it is told what files there are
abbrev pub IsContent : Option (List ℕ → Option (List ℕ)) → List ℕ → List ℕ → Type 0
IsContent shelf name bytes = (files : List ℕ → Option (List ℕ)) → shelf ≡ Some files → bytes ≡ file_bytes files name

-- the contents are those of the named files, one after another, where it is told what files there are
abbrev pub AreContents : Option (List ℕ → Option (List ℕ)) → List (List ℕ) → List (List ℕ) → Type 0
AreContents shelf names contents = (files : List ℕ → Option (List ℕ)) → shelf ≡ Some files → contents ≡ map (file_bytes files) names

-- the named files are there, where it is told what files there are
abbrev pub AreThere : Option (List ℕ → Option (List ℕ)) → List (List ℕ) → Type 0
AreThere shelf names = (files : List ℕ → Option (List ℕ)) → shelf ≡ Some files → IsTrue (list_all (λ name. is_some (files name)) names)
