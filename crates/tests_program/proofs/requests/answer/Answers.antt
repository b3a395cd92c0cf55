use Rattle.std.proofs.Common.{◌≡◌, ℕ, Bool, true, List, [], ◌∷◌, refl, ap, ◌∙◌}
use Rattle.std.specs.Prelude.{IsTrue, ◌&&◌, map, string_bytes}
use Rattle.std.specs.List.{list_all}
use Rattle.cstn_request.specs.Requests.{request_of, names_of}
use Rattle.tests_program.specs.declared.requests.TheConstants.{RELEASE}
use Rattle.tests_program.proofs.requests.answer.Goals as goal

-- a shelf that may be asked for every name may be asked for all of these
asked_all : (asked : List ℕ → Bool) → ((name : List ℕ) → asked name ≡ true) → (names : List (List ℕ)) → IsTrue (list_all asked names)
asked_all asked each [] = refl
asked_all asked each (name ∷ names) = ap (λ (b : Bool). b && list_all asked names) (each name) ∙ asked_all asked each names

pub run-requires : goal.run-requires
run-requires c = record { may_ask = asked_all _ (λ name. refl) (names_of (request_of RELEASE (map string_bytes c.args.words.now))) }
