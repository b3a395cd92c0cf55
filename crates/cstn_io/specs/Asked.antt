-- The names that a shelf was asked for, where they are told.
use Rattle.std.specs.Prelude.{◌≡◌, ◌⊎◌, ℕ, List, [], ◌∷◌, ◌++◌, Option, Result, Ok, Err}
use Rattle.std.specs.Option.{option_map}
use Rattle.cstn_io.specs.declared.shelf.ChooseError.{ChooseError}
use Rattle.cstn_io.specs.declared.shelf.ChooseError.TheVariants.{Failed, Memory}
use Rattle.cstn_io.specs.declared.whole.TakeError.{TakeError}
use Rattle.cstn_io.specs.declared.whole.TakeError.TheVariants.{ReadFault, TooLong, Memory as NoMemory}

-- the names, and then these, where they are told
abbrev pub and_names : Option (List (List ℕ)) → List (List ℕ) → Option (List (List ℕ))
and_names told names = option_map (λ asked. asked ++ names) told

-- what was asked for after the choice of a file: this name too, unless memory was refused
abbrev pub asked_after : {T : Type 0} → Option (List (List ℕ)) → List ℕ → Result T ChooseError → Option (List (List ℕ))
asked_after told name (Ok _) = and_names told (name ∷ [])
asked_after told name (Err Failed) = and_names told (name ∷ [])
asked_after told name (Err (Memory e)) = told

-- A file of this name was to be taken whole: its name was asked for, once and no other, unless memory was refused before.
abbrev pub AsksOnce : {T : Type 0} → List ℕ → Option (List (List ℕ)) → Option (List (List ℕ)) → Result T TakeError → Type 0
AsksOnce name before after (Ok _) = after ≡ and_names before (name ∷ [])
AsksOnce name before after (Err TooLong) = after ≡ and_names before (name ∷ [])
AsksOnce name before after (Err ReadFault) = after ≡ and_names before (name ∷ [])
AsksOnce name before after (Err (NoMemory e)) = (after ≡ and_names before (name ∷ [])) ⊎ (after ≡ before)
