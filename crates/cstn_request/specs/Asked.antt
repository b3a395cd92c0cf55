-- Which files a shelf was asked for.
use Rattle.std.specs.Prelude.{◌≡◌, ◌⊎◌, ◌-◌, ℕ, List, [], ◌∷◌, take, Option, Result, Ok, Err}
use Rattle.cstn_io.specs.Asked.{and_names}
use Rattle.cstn_request.specs.Files.{AreThere}
use Rattle.cstn_request.specs.declared.reading.Unread.{Unread}
use Rattle.cstn_request.specs.declared.reading.Unread.TheVariants.{Told, ReadFault, Memory}

-- The file of this name was to be read: its name was asked for, once and no other, unless memory was refused before.
abbrev pub AsksFileOnce : {T : Type 0} → List ℕ → Option (List (List ℕ)) → Option (List (List ℕ)) → Result T Unread → Type 0
AsksFileOnce name before after (Ok _) = after ≡ and_names before (name ∷ [])
AsksFileOnce name before after (Err (Told said)) = after ≡ and_names before (name ∷ [])
AsksFileOnce name before after (Err ReadFault) = after ≡ and_names before (name ∷ [])
AsksFileOnce name before after (Err Memory) = (after ≡ and_names before (name ∷ [])) ⊎ (after ≡ before)

-- these files were asked for, in their order and each once, and no other was; each of them is there
pub record WereRead (shelf : Option (List ℕ → Option (List ℕ))) (before after : Option (List (List ℕ))) (names : List (List ℕ)) : Type 0 where
  pub asked : after ≡ and_names before names
  pub there : AreThere shelf names

-- the first of these files were asked for, in their order and each once, and no other was; each of them but the last is there
pub record AskedFirst (shelf : Option (List ℕ → Option (List ℕ))) (before after : Option (List (List ℕ))) (names : List (List ℕ)) : Type 0 where
  pub count : ℕ
  pub asked : after ≡ and_names before (take count names)
  pub earlier : AreThere shelf (take (count - 1) names)
