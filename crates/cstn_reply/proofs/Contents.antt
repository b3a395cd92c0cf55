-- What is known of bytes that are told.
use Rattle.std.proofs.Common.{◌≡◌, ℕ, List, [], ◌++◌, refl}
use Rattle.std.specs.Prelude.{Option, None, Some}
use Rattle.cstn_io.specs.Contents.{after_bytes, IsAllOf, IsAtEnd}

-- the bytes that are told, or none where they aren't told
pub given : Option (List ℕ) → List ℕ
given None = []
given (Some xs) = xs

pub all_given : (told now : Option (List ℕ)) (taken : List ℕ) → told ≡ after_bytes taken now → IsAllOf told (taken ++ given now)
unfolding given
all_given told None taken is = λ xs e. absurd (cc)
all_given told (Some ys) taken is = λ xs e. cc

pub given_end : (now : Option (List ℕ)) → IsAtEnd now → given now ≡ []
unfolding given
given_end None end = refl
given_end (Some xs) end = end xs refl
