-- How values of the program are read.
use Rattle.std.specs.Prelude.{ℕ, List, Option, map, String, string_bytes}
use Rattle.cstn_request.specs.Requests.{AskedFile, Taken, Request, of_network, of_labelled, of_text, of_document, of_plan, drill, host, version, request_of, names_of}
use Rattle.cstn_log.specs.declared.caps.Cap.{Cap}
use Rattle.cstn_request.specs.declared.words.Asked.{Asked as AskedWords}
use Rattle.cstn_request.specs.declared.words.Taken.{Taken as TakenWords}
use Rattle.cstn_request.specs.declared.words.Release.{Release}
use Rattle.cstn_request.specs.declared.words.Request.{Request as RequestWords}
use Rattle.cstn_request.specs.declared.words.Request.TheVariants.{OfNetwork, OfLabelled, OfText, OfDocument, OfPlan, Drill, Host, Version}

-- the file and the deadline that are asked for
abbrev pub the_asked_file : AskedWords → AskedFile
the_asked_file asked = record { file = asked.file.now; deadline = asked.deadline }

-- the file and the deadline that are asked for, and how many entries the log may have
abbrev pub the_capped : AskedWords × Cap → AskedFile × ℕ
the_capped capped = (the_asked_file capped.0, capped.1.entries)

-- the number of an option, if it is there, and the words after it
abbrev pub the_taken : TakenWords → Taken
the_taken taken = record { value = taken.value; rest = map string_bytes taken.rest.now }

abbrev pub the_request : RequestWords → Request
the_request (OfNetwork verb asked cap) = of_network verb (the_asked_file asked) cap.entries
the_request (OfLabelled verb asked cap) = of_labelled verb (the_asked_file asked) cap.entries
the_request (OfText verb asked proof) = of_text verb (the_asked_file asked) proof.now
the_request (OfDocument verb asked) = of_document verb (the_asked_file asked)
the_request (OfPlan asked) = of_plan (the_asked_file asked)
the_request (Drill number) = drill number
the_request (Host files deadline cap) = host (map string_bytes files.names.now) deadline cap.entries
the_request (Version release) = version release

-- the request that the words are to a program of this release; none where they are no request
abbrev pub request_in : {Z : Type 0} → Release → List (String Z) → Option Request
request_in release words = request_of release (map string_bytes words)

-- the files that the words name
abbrev pub named_files : {Z : Type 0} → Release → List (String Z) → List (List ℕ)
named_files release words = names_of (request_in release words)
