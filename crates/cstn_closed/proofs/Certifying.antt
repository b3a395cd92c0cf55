-- What is said of a fault of a list of bounds.
use Rattle.std.proofs.Common.{◌≡◌, ℕ, List, [], ◌∷◌, ◌++◌, sym, ap, inl, inr, append_assoc}
use Rattle.std.specs.Prelude.{Result, Ok, Err, IfOk, codes, decimal}
use Rattle.cstn_label.specs.Bounds.{Bound}
use Rattle.cstn_net.specs.Networks.{Network}
use Rattle.cstn_rules.specs.Closed.{IsClosed}
use Rattle.cstn_closed.specs.Faults.{Fault, IsFirstFault, IsFaultless}
use Rattle.cstn_closed.specs.Certificates.{fault_words, IsCertificate}
use Rattle.cstn_reply.specs.Texts.{say, Said}
use Rattle.cstn_reply.specs.Read.{the_said}
use Rattle.cstn_reply.specs.declared.output.Said.{Said as SaidText}
use Rattle.cstn_reply.specs.declared.output.Outcome.TheVariants.{Good, Bad}

pub faultless_said : {E : Type 0} (names : List (List ℕ)) (bounds : List Bound) (net : Network) (r : Result SaidText E) → IsFaultless net bounds → IsClosed net bounds → IfOk r (λ said. the_said said ≡ say Good (codes "accepted")) → IfOk r (λ said. IsCertificate names bounds net (the_said said))
faultless_said names bounds net (Err e) faultless closed is = tt
faultless_said names bounds net (Ok said) faultless closed is = inl (faultless, closed, is)

pub fault_said : {E : Type 0} (names : List (List ℕ)) (bounds : List Bound) (net : Network) (f : Fault) (r : Result SaidText E) → IsFirstFault net bounds f → IfOk r (λ said. the_said said ≡ say Bad (codes "rejected " ++ fault_words names f)) → IfOk r (λ said. IsCertificate names bounds net (the_said said))
fault_said names bounds net f (Err e) first is = tt
fault_said names bounds net f (Ok said) first is = inr (f, first, is)

-- two numbers at the end of a line
pub two_numbers : (front : List ℕ) (n m : ℕ) → front ++ (decimal n ++ 32 ∷ (decimal m ++ 10 ∷ [])) ≡ front ++ ((decimal n ++ 32 ∷ decimal m) ++ 10 ∷ [])
two_numbers front n m = ap (λ (xs : List ℕ). front ++ xs) (sym (append_assoc (decimal n) (32 ∷ decimal m) (10 ∷ [])))

-- the text of a refusal
abbrev pub refusal_text : List ℕ → Said
refusal_text text = record { outcome = Bad; text = text }
