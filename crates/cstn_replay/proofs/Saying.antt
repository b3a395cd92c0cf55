-- Steps that are no refutation.
use Rattle.std.proofs.Common.{◌≡◌, ℕ, List, ◌++◌, inr}
use Rattle.std.specs.Prelude.{◌⊎◌, Result, Ok, Err, IfOk, codes, decimal}
use Rattle.cstn_net.specs.Networks.{Network}
use Rattle.cstn_rules.specs.Derivations.{Entry}
use Rattle.cstn_replay.specs.Wrong.{IsFirstWrong, EndsInVain}
use Rattle.cstn_reply.specs.Texts.{say}
use Rattle.cstn_replay.specs.Texts.{IsReplay}
use Rattle.cstn_reply.specs.Read.{the_said}
use Rattle.cstn_reply.specs.declared.output.Said.{Said as SaidText}
use Rattle.cstn_reply.specs.declared.output.Outcome.TheVariants.{Bad}

pub rejected_said : {E : Type 0} (net : Network) (steps : List Entry) (k : ℕ) (r : Result SaidText E) → IsFirstWrong net steps k ⊎ EndsInVain net steps k → IfOk r (λ said. the_said said ≡ say Bad (codes "rejected " ++ decimal k)) → IfOk r (λ said. IsReplay steps net (the_said said))
rejected_said net steps k (Err e) why is = tt
rejected_said net steps k (Ok said) why is = inr (k, why, is)
