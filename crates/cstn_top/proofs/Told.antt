-- What follows of what a call tells, all of it of the same contents.
use Rattle.std.proofs.Common.{◌≡◌, ℕ, List, subst}
use Rattle.std.specs.Prelude.{IfSome, Option, None}
use Rattle.cstn_request.specs.Requests.{Request}
use Rattle.cstn_reply.specs.Written.{LiveState}
use Rattle.cstn_reply.specs.declared.status.Status.{Status}
use Rattle.cstn_top.specs.Told.{Answers, IsToldOfCall}
use Rattle.cstn_top.specs.Meanings.{IsCapRanged}

-- the range of the cap, with what was written, is all that a call tells
pub told_is : {S : Type 0} (words : Option Request) (shelf : Option (List ℕ → Option (List ℕ))) (seen : S → LiveState) (source now : S) (old new : Option (List ℕ)) (result : Status) → IfSome words IsCapRanged →
    Answers words shelf seen source now old new result → IsToldOfCall words shelf seen source now old new result
told_is words shelf seen source now old new result ranged answered = record {
  contents = answered.0;
  are = answered.1;
  output = answered.2;
  untouched = answered.3;
  ranged = ranged;
}

-- words that are no request have no cap
pub unranged : (words : Option Request) → None ≡ words → IfSome words IsCapRanged
unranged words none = subst (λ (w : Option Request). IfSome w IsCapRanged) none tt
