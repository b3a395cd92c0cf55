use Rattle.std.proofs.Common.{◌≡◌, ℕ, true, List, [], ◌∷◌, refl}
use Rattle.std.specs.Prelude.{IsTrue, map, string_bytes}
use Rattle.std.specs.List.{list_all}
use Rattle.cstn_request.specs.Requests.{names_of, request_of}
use Rattle.cstn.specs.declared.TheConstants.{RELEASE, LINES}
use Rattle.cstn.proofs.main.Goals as goal

-- a shelf that may be asked for every name may be asked for each of these
all_asked : (names : List (List ℕ)) → IsTrue (list_all (λ (name : List ℕ). true) names)
all_asked [] = refl
all_asked (name ∷ names) = all_asked names

pub run-status-requires : goal.run-status-requires
run-status-requires c = record { may_ask = all_asked (names_of (request_of (record { number = RELEASE; lines = LINES }) (map string_bytes c.deref.result.now))) }
