-- `drill NUMBER`: 64 small networks with the counts of their verdicts, and a large network.
use Rattle.std.specs.Prelude.{ℕ, zero, suc, ◌+◌, ◌-◌, ◌%◌, ◌^◌, Bool, not, if◌then◌else◌, List, ◌++◌, codes, decimal}
use Rattle.cstn_net.specs.Networks.{Network}
use Rattle.cstn_check.specs.Growth.{is_refuted, log_of}
use Rattle.cstn_check.specs.declared.verdicts.Verdict.{Verdict}
use Rattle.cstn_check.specs.declared.verdicts.Verdict.TheVariants.{Yes, No, Full}
use Rattle.cstn_gen.specs.Generated.{generated}
use Rattle.cstn_reply.specs.Texts.{line, Said}
use Rattle.cstn_top.specs.declared.commands.drill.Counts.{Counts}
use Rattle.cstn_check.specs.Decisions.{verdict}
use Rattle.cstn_reply.specs.declared.output.Outcome.TheVariants.{Good}

-- the small network of a drill that is i after its number, where 0 comes after 2 ^ 64 - 1
unfoldable pub small : ℕ → ℕ → Network
small number i = generated ((number + i) % 2 ^ 64) 6

-- the large network of a number
unfoldable pub large : ℕ → Network
large number = generated number 48

-- no entry of its log refutes the network
unfoldable pub is_unrefuted : Network → Bool
is_unrefuted net = not (is_refuted net (log_of net))

-- how many of the first n small networks aren't refuted by their logs
abbrev pub unrefuted : ℕ → ℕ → ℕ
unrefuted number zero = 0
unrefuted number (suc n) = unrefuted number n + (if is_unrefuted (small number n) then 1 else 0)

-- the counts of the first n small networks, on each of which the table agrees with the check
abbrev pub counts_of : ℕ → ℕ → Counts
counts_of number n = record { yes = unrefuted number n; no = n - unrefuted number n; differ = 0 }

-- the line of the small networks
abbrev pub small_line : Counts → List ℕ
small_line counts =
    line (codes "small 64 yes " ++ decimal counts.yes ++ codes " no " ++ decimal counts.no ++ codes " differ " ++ decimal counts.differ)

-- the text of a verdict, where the log may have `cap` entries
abbrev pub large_verdict_text : ℕ → Verdict → List ℕ
large_verdict_text cap (Yes load) = codes "yes " ++ decimal load
large_verdict_text cap (No load) = codes "no " ++ decimal load
large_verdict_text cap Full = codes "full " ++ decimal cap

-- the cap of the large network
abbrev pub large_cap : ℕ
large_cap = 16384

-- the line of the large network
abbrev pub large_line : Verdict → List ℕ
large_line v = line (codes "large 48 " ++ large_verdict_text large_cap v)

-- what the drill of a number says: the counts of 64 small networks, and the verdict on the large one
abbrev pub drilled : ℕ → Said
drilled number =
    record { outcome = Good; text = small_line (counts_of number 64) ++ large_line (verdict large_cap (large number)) }
