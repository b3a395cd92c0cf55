use Rattle.std.proofs.Common.{ℕ, arith, sym, ◌∙◌}
use Rattle.std.proofs.lemmas.Bool.{cond-true}
use Rattle.cstn_net.specs.Read.{the_network, the_constraint}
use Rattle.cstn_check.proofs.Sequences.{open_step}
use Rattle.cstn_check.proofs.SpentLemmas.{chain_spent}
use Rattle.cstn_check.proofs.turns.try_fresh.Goals as goal

pub returns-then-is_fresh-clause-most_fresh : goal.returns-then-is_fresh-clause-most_fresh
returns-then-is_fresh-clause-most_fresh c = λ low.
    let one = cond-true {A = ℕ} _ 1 0 (sym c.is_fresh.ensures ∙ c.if-is_fresh.true) in
    omega (arith, one, c.try_chain-then-is_fresh.ensures.counted.most)

pub returns-clause-outcome : goal.returns-clause-outcome
returns-clause-outcome c =
    open_step _ _ _ _
    (chain_spent (the_network c.args.net.now) c.args.log.now c.args.fresh.now c.args.old c.args.j (the_constraint c.args.c.now) c.requires.ready c.requires.spent
    c.constraint_is_of_network.ensures.constraint (sym c.is_fresh.ensures ∙ c.if-is_fresh.false) (omega (arith, c.if-old-j.false)))
    c.requires.ready
