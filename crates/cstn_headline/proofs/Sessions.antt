-- What was written for a session.
use Rattle.std.proofs.Common.{◌≡◌, ℕ, Bool, List, ap}
use Rattle.std.specs.Prelude.{Option}
use Rattle.cstn_io.specs.Contents.{IsAllOf}
use Rattle.cstn_reply.specs.Texts.{Said, after_text}
use Rattle.cstn_reply.specs.Sessions.{Turn, play}
use Rattle.cstn_lines.specs.Pieces.{heard_lines}
use Rattle.cstn_headline.specs.Sessions.{Wrote}

-- what was said is an opening and then the session
pub wrote : {S : Type 0} (ends : Bool) (turn : S → List ℕ → Turn S) (ending : S → Said) (opening : List ℕ) (start : S) (source : Option (List ℕ)) (live : List ℕ) (said : Said) (OfLines : List (List ℕ) → Type 0) →
    IsAllOf source live → said ≡ after_text opening (play turn ending start 0 (heard_lines ends live)) → OfLines (heard_lines ends live) → Wrote ends turn ending opening start source said.text OfLines
wrote ends turn ending opening start source live said OfLines all is of_lines = record { live = live; all = all; text_is = ap (λ (s : Said). s.text) is; of_lines = of_lines }
