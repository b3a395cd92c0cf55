-- What is said of a network by the text of a refutation.
use Rattle.std.specs.Prelude.{◌≡◌, ◌⊎◌, ℕ, List, ◌++◌, codes, decimal}
use Rattle.cstn_net.specs.Networks.{Network}
use Rattle.cstn_rules.specs.Derivations.{Entry, IsRefutation}
use Rattle.cstn_refute.specs.Texts.{RefutationTold, tells, wrong, refutation_told}
use Rattle.cstn_reply.specs.Texts.{Said, say}
use Rattle.cstn_reply.specs.Sessions.{script}
use Rattle.cstn_reply.specs.declared.output.Outcome.TheVariants.{Good, Bad}
use Rattle.cstn_replay.specs.Wrong.{IsFirstWrong, EndsInVain}

-- what the replay of steps says: accepted where they refute the network; else rejected with the place of the first step that
-- doesn't follow by its rule, or of the last step where all follow
abbrev pub IsReplay : List Entry → Network → Said → Type 0
IsReplay steps net said =
    (IsRefutation net steps × (said ≡ say Good (codes "accepted")))
    ⊎ ((k : ℕ) × (IsFirstWrong net steps k ⊎ EndsInVain net steps k) × (said ≡ say Bad (codes "rejected " ++ decimal k)))

-- the steps of a text are replayed, or its first wrong line is told
abbrev pub IsReplayOfSteps : RefutationTold → Network → Said → Type 0
IsReplayOfSteps (tells load steps) net said = IsReplay steps net said
IsReplayOfSteps (wrong at) net said = said ≡ script at

-- what `replay` says of a network by a text
abbrev pub IsReplayOf : List (List ℕ) → List ℕ → Network → Said → Type 0
IsReplayOf names text net said = IsReplayOfSteps (refutation_told names text) net said
