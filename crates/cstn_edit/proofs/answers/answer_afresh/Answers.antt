use Rattle.std.proofs.Common.{rules, [], ◌≡◌, ◌∙◌, length, arith, sym, subst, ap}
use Rattle.std.proofs.lemmas.List.{length-map, append-nil}
use Rattle.cstn_net.specs.Networks.{count}
use Rattle.cstn_net.specs.Read.{the_network}
use Rattle.cstn_rules.specs.Read.{the_entry}
use Rattle.cstn_log.specs.Entries.{State, the_entries, bases}
use Rattle.cstn_check.specs.declared.growth.Grown.TheVariants.{Full}
use Rattle.cstn_check.specs.declared.verdicts.Verdict.TheVariants.{Yes, Full as FullVerdict}
use Rattle.cstn_check.specs.Spent.{AreSpent}
use Rattle.cstn_check.specs.Growth.{grow, log_of}
use Rattle.cstn_check.specs.Turns.{IsRefutedLast}
use Rattle.cstn_check.proofs.Lists.{extends_itself}
use Rattle.cstn_check.proofs.Last.{bases_stand}
use Rattle.cstn_check.proofs.Starts.{bases_go_on}
use Rattle.cstn_edit.specs.Sessions.{IsKeptLog}
use Rattle.cstn_edit.proofs.VerdictLemmas.{first_bases, grown_log, bases_log, afresh_verdict, afresh_yes, afresh_spent, spent_entries}
use Rattle.cstn_edit.proofs.answers.answer_afresh.Goals.{then-eq, else-eq}
use Rattle.cstn_edit.proofs.answers.answer_afresh.Goals as goal

pub grow-grown-requires : goal.grow-grown-requires
grow-grown-requires c =
    let net = the_network c.args.net.now in
    let same = c.restart.ensures.restart ∙ first_bases net c.args.log.now.cap c.requires.room in
    record {
      growable = record {
        nodes = c.restart.ensures.size.1 ∙ c.requires.nodes;
        derivation = c.restart.ensures.derivation;
        front = ([], append-nil (bases (count net)) ∙ sym same);
        last = subst (λ l. IsRefutedLast net l) (sym same) (bases_stand net);
        births = omega (arith, c.requires.births, c.restart.ensures.births.1, c.network_is_well_formed.ensures.few_points);
      };
    }

pub returns-clause-verdict : goal.returns-clause-verdict
returns-clause-verdict c =
    let net = the_network c.args.net.now in
    afresh_verdict net c.args.log.now.cap (the_entries c.restart.new.self.entries) (the_entries c.grow-grown.new.log.entries)
    c.grow-grown.result c.verdict_of.result c.len.result c.network_is_well_formed.ensures
    (c.restart.ensures.restart ∙ first_bases net c.args.log.now.cap c.requires.room)
    (rw c.restart.ensures.size.0 at c.grow-grown.ensures.grown.full) c.grow-grown.ensures.grown.whole c.grow-grown.ensures.grown.refuted
    (λ not. elim c.if-eq.branch [
      | then-eq w ↦ absurd (not (search (rules, w.if-eq.ensures)))
      | else-eq w ↦ c.len.ensures.len ∙ ap (λ (s : State). length s.entries) w.log-is ∙ sym (length-map c.grow-grown.new.log.entries the_entry)
    ])
    c.verdict_of.ensures.closed c.verdict_of.ensures.refuted c.verdict_of.ensures.full

pub returns-clause-kept : goal.returns-clause-kept
returns-clause-kept c =
    let net = the_network c.args.net.now in
    elim c.if-eq.branch [
      | then-eq w ↦ subst (λ (s : State). IsKeptLog net s) (sym w.log-is)
          (bases_log net w.restart-then-eq.new.self c.network_is_well_formed.ensures
          (w.restart-then-eq.ensures.restart ∙ first_bases net c.grow-grown.new.log.cap (omega (arith, c.requires.room, c.restart.ensures.size.0, c.grow-grown.ensures.grown.cap)))
          (w.restart-then-eq.ensures.size.1 ∙ c.grow-grown.ensures.grown.nodes ∙ c.restart.ensures.size.1 ∙ c.requires.nodes)
          (omega (arith, c.requires.room, c.restart.ensures.size.0, c.grow-grown.ensures.grown.cap, w.restart-then-eq.ensures.size.0))
          (omega (arith, c.requires.size.0, c.restart.ensures.size.0, c.grow-grown.ensures.grown.cap, w.restart-then-eq.ensures.size.0))
          (omega (arith, c.requires.size.1, c.restart.ensures.size.0, c.grow-grown.ensures.grown.cap, w.restart-then-eq.ensures.size.0)))
      | else-eq w ↦ subst (λ (s : State). IsKeptLog net s) (sym w.log-is)
          (grown_log net (bases (count net)) c.grow-grown.new.log c.network_is_well_formed.ensures (bases_go_on net c.network_is_well_formed.ensures.network c.network_is_well_formed.ensures.letters)
          (extends_itself (bases (count net)))
          (c.grow-grown.ensures.grown.whole (λ full. search (rules, full, w.if-eq.ensures))
          ∙ ap (grow net) (c.restart.ensures.restart ∙ first_bases net c.args.log.now.cap c.requires.room))
          (c.grow-grown.ensures.grown.nodes ∙ c.restart.ensures.size.1 ∙ c.requires.nodes)
          (omega (arith, c.requires.room, c.restart.ensures.size.0, c.grow-grown.ensures.grown.cap))
          (omega (arith, c.requires.size.0, c.restart.ensures.size.0, c.grow-grown.ensures.grown.cap))
          (omega (arith, c.requires.size.1, c.restart.ensures.size.0, c.grow-grown.ensures.grown.cap)))
    ]

pub returns-clause-yes : goal.returns-clause-yes
returns-clause-yes c = λ load yes.
    afresh_yes (the_network c.args.net.now) c.args.log.now.cap load c.verdict_of.result c.network_is_well_formed.ensures (returns-clause-verdict c) yes

pub returns-clause-spent : goal.returns-clause-spent
returns-clause-spent c = λ load said.
    let net = the_network c.args.net.now in
    elim c.if-eq.branch [
      | then-eq w ↦
          let full : c.grow-grown.result ≡ Full = search (rules, w.if-eq.ensures) in
          let same : FullVerdict ≡ Yes load = sym (c.verdict_of.ensures.full full) ∙ said in
          let clash : ⊥ = cc in absurd clash
      | else-eq w ↦ subst (λ (s : State). AreSpent net (the_entries s.entries) [] (length s.entries)) (sym w.log-is)
          (spent_entries net c.grow-grown.new.log.entries (log_of net) []
          (c.grow-grown.ensures.grown.whole (λ full. search (rules, full, w.if-eq.ensures))
          ∙ ap (grow net) (c.restart.ensures.restart ∙ first_bases net c.args.log.now.cap c.requires.room))
          (afresh_spent net c.args.log.now.cap load c.verdict_of.result c.network_is_well_formed.ensures (returns-clause-verdict c) said))
    ]
