-- The limits of what words may ask for, and of documents.
use Rattle.std.specs.Prelude.{ℕ}

-- the cap that holds where none is named
abbrev pub usual_cap : ℕ
usual_cap = 65536

-- the greatest cap of a host, which holds for each of its logs
abbrev pub most_host_cap : ℕ
most_host_cap = 65536

-- the most files of a host
abbrev pub most_files : ℕ
most_files = 8

-- the most bytes of a document, and of a plan in sentences
abbrev pub most_document : ℕ
most_document = 8388608
