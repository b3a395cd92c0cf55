-- Which words are a request.
use Rattle.std.specs.Prelude.{ℕ, Bool, true, false, nat_le, nat_eq, ◌&&◌, if◌then◌else◌, List, [], ◌∷◌, length, Option, None, Some, codes}
use Rattle.std.specs.Option.{option_map, option_and_then, unwrap_or}
use Rattle.std.specs.Cmp.Lexicographic.{pointwise}
use Rattle.cstn_net.specs.Limits.{most_deadline, most_load}
use Rattle.cstn_text.specs.Numbers.{number_read, number_within}
use Rattle.cstn_request.specs.Limits.{usual_cap, most_host_cap, most_files}
use Rattle.cstn_request.specs.declared.words.Release.{Release}
use Rattle.cstn_request.specs.declared.words.NetworkVerb.{NetworkVerb}
use Rattle.cstn_request.specs.declared.words.NetworkVerb.TheVariants.{Check, Closed, Tight, Conflict, Tree, Edit}
use Rattle.cstn_request.specs.declared.words.LabelledVerb.{LabelledVerb}
use Rattle.cstn_request.specs.declared.words.LabelledVerb.TheVariants.{Follow, Run, Cases}
use Rattle.cstn_request.specs.declared.words.TextVerb.{TextVerb}
use Rattle.cstn_request.specs.declared.words.TextVerb.TheVariants.{Replay, Closedcheck, Treecheck}
use Rattle.cstn_request.specs.declared.words.DocumentVerb.{DocumentVerb}
use Rattle.cstn_request.specs.declared.words.DocumentVerb.TheVariants.{Save, Sentences}

-- the two texts are the same
abbrev pub same_text : List ℕ → List ℕ → Bool
same_text xs ys = pointwise nat_eq xs ys

-- `FILE [--deadline N]`: the file of a document, and the deadline that is to hold, if one is named
pub record AskedFile : Type 0 where
  pub file : List ℕ
  pub deadline : Option ℕ

-- A request: what is asked of a network, by the file of its document with the deadline that is to hold, and how many entries a log may
-- have; of a labelled network, likewise; of a network and the file of a text that is to be checked against it; of a document alone; of
-- a plan in sentences, by its file with the deadline that is to hold; or the number of a drill; or the files of a host, with the deadline
-- that is to hold for each and how many entries the log of each may have; or what the program is.
pub data Request : Type 0 where
  of_network : NetworkVerb → AskedFile → ℕ → Request
  of_labelled : LabelledVerb → AskedFile → ℕ → Request
  of_text : TextVerb → AskedFile → List ℕ → Request
  of_document : DocumentVerb → AskedFile → Request
  of_plan : AskedFile → Request
  drill : ℕ → Request
  host : List (List ℕ) → Option ℕ → ℕ → Request
  version : Release → Request

-- each verb, as a request
abbrev pub check : AskedFile → ℕ → Request
check asked cap = of_network Check asked cap

abbrev pub closed : AskedFile → ℕ → Request
closed asked cap = of_network Closed asked cap

abbrev pub tight : AskedFile → ℕ → Request
tight asked cap = of_network Tight asked cap

abbrev pub conflict : AskedFile → ℕ → Request
conflict asked cap = of_network Conflict asked cap

abbrev pub tree : AskedFile → ℕ → Request
tree asked cap = of_network Tree asked cap

abbrev pub edit : AskedFile → ℕ → Request
edit asked cap = of_network Edit asked cap

abbrev pub follow : AskedFile → ℕ → Request
follow asked cap = of_labelled Follow asked cap

abbrev pub run : AskedFile → ℕ → Request
run asked cap = of_labelled Run asked cap

abbrev pub cases : AskedFile → ℕ → Request
cases asked cap = of_labelled Cases asked cap

abbrev pub replay : AskedFile → List ℕ → Request
replay asked proof = of_text Replay asked proof

abbrev pub closedcheck : AskedFile → List ℕ → Request
closedcheck asked proof = of_text Closedcheck asked proof

abbrev pub treecheck : AskedFile → List ℕ → Request
treecheck asked proof = of_text Treecheck asked proof

abbrev pub save : AskedFile → Request
save asked = of_document Save asked

abbrev pub sentences_request : AskedFile → Request
sentences_request asked = of_document Sentences asked

-- the time-points of the network may have labels: it is then lowered
abbrev pub network_labels : NetworkVerb → Bool
network_labels Check = true
network_labels Closed = true
network_labels Tight = true
network_labels Conflict = false
network_labels Tree = false
network_labels Edit = false

abbrev pub text_labels : TextVerb → Bool
text_labels Replay = true
text_labels Closedcheck = true
text_labels Treecheck = false

-- the number of an option, if it is there, and the words after it
pub record Taken : Type 0 where
  pub value : Option ℕ
  pub rest : List (List ℕ)

-- the number from least to most that the words begin with, and the words after it
abbrev pub option_value : ℕ → ℕ → List (List ℕ) → Option Taken
option_value least most [] = None
option_value least most (word ∷ rest) = option_map (λ n. record { value = Some n; rest = rest }) (number_within least most word)

-- the number of the option of this name, if the words begin with it, and the words after it
abbrev pub option_at : List ℕ → ℕ → ℕ → List (List ℕ) → Option Taken
option_at name least most [] = Some (record { value = None; rest = [] })
option_at name least most (word ∷ rest) =
    if same_text word name then option_value least most rest else Some (record { value = None; rest = word ∷ rest })

-- `[--deadline N]`, with N up to 1,000,000
abbrev pub deadline_at : List (List ℕ) → Option Taken
deadline_at words = option_at (codes "--deadline") 0 most_deadline words

-- `[--cap CAP]`, with CAP from 1 to 4,194,304
abbrev pub cap_at : List (List ℕ) → Option Taken
cap_at words = option_at (codes "--cap") 1 most_load words

-- the number of an option after which no word is left
abbrev pub last_value : Taken → Option (Option ℕ)
last_value taken = if nat_eq (length taken.rest) 0 then Some taken.value else None

-- `[--deadline N]` and no more
abbrev pub deadline_alone : List (List ℕ) → Option (Option ℕ)
deadline_alone words = option_and_then last_value (deadline_at words)

-- `[--cap CAP]` and no more; 65,536 where it isn't there
abbrev pub cap_of : List (List ℕ) → Option ℕ
cap_of words = option_map (λ cap. unwrap_or cap usual_cap) (option_and_then last_value (cap_at words))

-- a file, and its deadline
abbrev pub asked_of : List (List ℕ) → Option AskedFile
asked_of [] = None
asked_of (file ∷ rest) = option_map (λ deadline. record { file = file; deadline = deadline }) (deadline_alone rest)

-- a file with its deadline, and how many entries its log may have
abbrev pub capped_of : List (List ℕ) → Option (AskedFile × ℕ)
capped_of [] = None
capped_of (file ∷ rest) =
    option_and_then (λ (taken : Taken). option_map (λ cap. (record { file = file; deadline = taken.value }, cap)) (cap_of taken.rest)) (deadline_at rest)

-- a file with its deadline, and the file of the text that is to be checked against it
abbrev pub checked_of : List (List ℕ) → Option (AskedFile × List ℕ)
checked_of (file ∷ proof ∷ rest) =
    option_map (λ deadline. (record { file = file; deadline = deadline }, proof)) (deadline_alone rest)
checked_of words = None

-- the request of a drill by its number, which is below 2 ^ 64
abbrev pub drill_of : List (List ℕ) → Option Request
drill_of (number ∷ []) = option_map drill (number_read number)
drill_of words = None

-- the request of a host with the files that stand after its options: 1 to 8, and 65,536 entries where no number is given
abbrev pub hosted_of : Option ℕ → Taken → Option Request
hosted_of deadline cap =
    if nat_le 1 (length cap.rest) && nat_le (length cap.rest) most_files then Some (host cap.rest deadline (unwrap_or cap.value usual_cap)) else None

-- `[--deadline N] [--cap CAP] FILE ..`, with CAP from 1 to 65,536
abbrev pub host_of : List (List ℕ) → Option Request
host_of words =
    option_and_then (λ (deadline : Taken). option_and_then (hosted_of deadline.value) (option_at (codes "--cap") 1 most_host_cap deadline.rest)) (deadline_at words)

-- the request for what a program of this release is: no word may stand after it
abbrev pub version_of : Release → List (List ℕ) → Option Request
version_of release [] = Some (version release)
version_of release (word ∷ rest) = None

-- the request of a command with this file and this many entries that a log may have
abbrev pub capped_at : List ℕ → AskedFile × ℕ → Option Request
capped_at command found =
    if same_text command (codes "check") then Some (check found.0 found.1)
    else if same_text command (codes "run") then Some (run found.0 found.1)
    else if same_text command (codes "edit") then Some (edit found.0 found.1)
    else if same_text command (codes "follow") then Some (follow found.0 found.1)
    else if same_text command (codes "closed") then Some (closed found.0 found.1)
    else if same_text command (codes "tight") then Some (tight found.0 found.1)
    else if same_text command (codes "conflict") then Some (conflict found.0 found.1)
    else if same_text command (codes "tree") then Some (tree found.0 found.1)
    else if same_text command (codes "cases") then Some (cases found.0 found.1) else None

-- the request of a command with these words after it, to a program of this release
abbrev pub request_at : Release → List ℕ → List (List ℕ) → Option Request
request_at release command rest =
    if same_text command (codes "save") then option_map save (asked_of rest)
    else if same_text command (codes "sentences") then option_map sentences_request (asked_of rest)
    else if same_text command (codes "plan") then option_map of_plan (asked_of rest)
    else if same_text command (codes "replay") then option_map (λ found. replay found.0 found.1) (checked_of rest)
    else if same_text command (codes "closedcheck") then option_map (λ found. closedcheck found.0 found.1) (checked_of rest)
    else if same_text command (codes "treecheck") then option_map (λ found. treecheck found.0 found.1) (checked_of rest)
    else if same_text command (codes "drill") then drill_of rest
    else if same_text command (codes "host") then host_of rest
    else if same_text command (codes "--version") then version_of release rest
    else option_and_then (capped_at command) (capped_of rest)

-- the request that the words are to a program of this release; none where they are no request
abbrev pub request_of : Release → List (List ℕ) → Option Request
request_of release [] = None
request_of release (command ∷ rest) = request_at release command rest

-- the files that a request names, in the order of the words
abbrev pub files_of : Request → List (List ℕ)
files_of (of_network verb asked cap) = asked.file ∷ []
files_of (of_labelled verb asked cap) = asked.file ∷ []
files_of (of_text verb asked proof) = asked.file ∷ proof ∷ []
files_of (of_document verb asked) = asked.file ∷ []
files_of (of_plan asked) = asked.file ∷ []
files_of (drill number) = []
files_of (host files deadline cap) = files
files_of (version release) = []

-- the files that words name
abbrev pub names_of : Option Request → List (List ℕ)
names_of None = []
names_of (Some request) = files_of request
