-- What is shown of a document.
use Rattle.std.specs.Prelude.{ℕ, List, ◌++◌, codes}
use Rattle.hex.specs.Hex.{encode_lower}
use Rattle.sha2.specs.Sha256.{sha256}
use Rattle.cstn_reply.specs.Texts.{line}
use Rattle.cstn_follow.specs.Following.{Showing, in_full, by_digest}

-- the line of the SHA-256 of a text, in 64 hexadecimal digits
abbrev pub digest_line : List ℕ → List ℕ
digest_line text = line (codes "digest " ++ encode_lower (sha256 text))

-- the text itself, or the line of its digest
abbrev pub shown : Showing → List ℕ → List ℕ
shown in_full text = text
shown by_digest text = digest_line text
