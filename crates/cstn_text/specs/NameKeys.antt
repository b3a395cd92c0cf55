-- The keys of lists of names.
use Rattle.std.specs.Prelude.{ℕ, List}
use Rattle.std.specs.Hash.DefaultHasher.{initial, write}
use Rattle.std.specs.declared.hash.DefaultHasher.{DefaultHasher}
use Rattle.sha2.specs.Sha512.{sha512}

-- SipHash with zero keys that has taken in the SHA-512 digest of a text
abbrev pub hasher_after_digest : List ℕ → DefaultHasher
hasher_after_digest text = write initial (sha512 text)
