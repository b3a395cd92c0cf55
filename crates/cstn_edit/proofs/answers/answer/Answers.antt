use Rattle.std.proofs.Common.{rules, [], ◌≡◌, ◌≤◌, ◌∙◌, length, arith, sym, ap}
use Rattle.std.proofs.lemmas.List.{length-map}
use Rattle.cstn_net.specs.Networks.{count}
use Rattle.cstn_net.specs.Read.{the_network}
use Rattle.cstn_rules.specs.Read.{the_entry}
use Rattle.cstn_log.specs.Entries.{the_entries}
use Rattle.cstn_check.specs.Growth.{grow}
use Rattle.cstn_check.specs.declared.growth.Grown.TheVariants.{Full}
use Rattle.cstn_check.proofs.Starts.{GoesOn}
use Rattle.cstn_edit.specs.Sessions.{verdict_by}
use Rattle.cstn_edit.proofs.VerdictLemmas.{log_on, small_where_empty, room_where_not, small_outcome, small_after, grown_outcome, grown_log, verdict_is, yes_by}
use Rattle.cstn_edit.proofs.VerdictLemmas.{yes_spent, spent_entries}
use Rattle.cstn_edit.proofs.answers.answer.Goals as goal

pub grow_further-grown-requires-clause-growable : goal.grow_further-grown-requires-clause-growable
grow_further-grown-requires-clause-growable c =
    record {
      nodes = c.requires.kept.nodes;
      derivation = c.requires.kept.derivation;
      front = c.requires.kept.based (room_where_not (the_network c.args.net.now) c.args.log.now c.requires.kept
          (λ none. omega (arith, none, c.len.ensures.len, c.if-len-eq0.false)));
      last = c.requires.kept.refuted;
      births = omega (arith, c.requires.births);
    }

pub returns-then-len-eq0-clause-outcome : goal.returns-then-len-eq0-clause-outcome
returns-then-len-eq0-clause-outcome c =
    let net = the_network c.args.net.now in
    small_outcome net c.args.log.now.cap c.network_is_well_formed.ensures
    (small_where_empty net c.args.log.now c.network_is_well_formed.ensures c.requires.kept (omega (arith, c.len.ensures.len, c.if-len-eq0.true)))
    (the_entries c.args.log.now.entries)

pub returns-then-len-eq0-clause-list : goal.returns-then-len-eq0-clause-list
returns-then-len-eq0-clause-list c =
    let net = the_network c.args.net.now in
    small_after net c.args.log.now.cap c.network_is_well_formed.ensures
    (small_where_empty net c.args.log.now c.network_is_well_formed.ensures c.requires.kept (omega (arith, c.len.ensures.len, c.if-len-eq0.true)))
    (the_entries c.args.log.now.entries)

room : (c : goal.After-verdict_of) → count (the_network c.args.net.now) ≤ c.args.log.now.cap
room c = room_where_not (the_network c.args.net.now) c.args.log.now c.requires.kept
    (λ none. omega (arith, none, c.len.ensures.len, c.if-len-eq0.false))

on : (c : goal.After-verdict_of) → GoesOn (the_network c.args.net.now) (the_entries c.args.log.now.entries)
on c =
    log_on (the_network c.args.net.now) c.args.log.now c.network_is_well_formed.ensures c.requires.kept c.len.ensures.all_new (room c)

not_full : (c : goal.After-verdict_of) → c.grow_further-grown.result ≡ Full → ⊥
not_full c = λ full. search (rules, full, c.if-eq.ensures)

list : (c : goal.After-verdict_of) → the_entries c.grow_further-grown.new.log.entries ≡ grow (the_network c.args.net.now) (the_entries c.args.log.now.entries)
list c = c.grow_further-grown.ensures.grown.whole (not_full c)

verdict : (c : goal.After-verdict_of) →
    c.verdict_of.result ≡ verdict_by (the_network c.args.net.now) (grow (the_network c.args.net.now) (the_entries c.args.log.now.entries))
verdict c =
    verdict_is (the_network c.args.net.now) c.network_is_well_formed.ensures (the_entries c.args.log.now.entries) (on c)
    (the_entries c.grow_further-grown.new.log.entries) c.grow_further-grown.result c.verdict_of.result c.len-2.result (not_full c) (list c)
    c.grow_further-grown.ensures.grown.refuted (c.len-2.ensures.len ∙ sym (length-map c.grow_further-grown.new.log.entries the_entry))
    c.verdict_of.ensures.closed c.verdict_of.ensures.refuted

pub returns-clause-outcome : goal.returns-clause-outcome
returns-clause-outcome c =
    let net = the_network c.args.net.now in
    let long = ap length (list c) in
    let same : length (the_entries c.grow_further-grown.new.log.entries) ≡ length c.grow_further-grown.new.log.entries = length-map c.grow_further-grown.new.log.entries the_entry in
    grown_outcome net c.args.log.now.cap (the_entries c.args.log.now.entries) c.verdict_of.result (room c)
    (omega (arith, long, same, c.len-2.ensures.len, c.len-2.ensures.at_most, c.grow_further-grown.ensures.grown.cap)) (verdict c)

pub returns-clause-kept : goal.returns-clause-kept
returns-clause-kept c =
    let net = the_network c.args.net.now in
    let based = c.requires.kept.based (room c) in
    grown_log net (the_entries c.args.log.now.entries) c.grow_further-grown.new.log c.network_is_well_formed.ensures (on c)
    (record { more = based.0; is = based.1 }) (list c)
    (c.grow_further-grown.ensures.grown.nodes ∙ c.requires.kept.nodes)
    (omega (arith, room c, c.grow_further-grown.ensures.grown.cap))
    (omega (arith, c.requires.kept.some, c.grow_further-grown.ensures.grown.cap))
    (omega (arith, c.requires.kept.most, c.grow_further-grown.ensures.grown.cap))

pub returns-clause-consistent : goal.returns-clause-consistent
returns-clause-consistent c = λ load said.
    yes_by (the_network c.args.net.now) c.network_is_well_formed.ensures (the_entries c.args.log.now.entries) (on c) load (sym (verdict c) ∙ said)

pub returns-clause-spent : goal.returns-clause-spent
returns-clause-spent c = λ load said.
    let net = the_network c.args.net.now in
    let L = the_entries c.args.log.now.entries in
    spent_entries net c.grow_further-grown.new.log.entries (grow net L) [] (list c) (yes_spent net c.network_is_well_formed.ensures L (on c) [] load (sym (verdict c) ∙ said))

pub returns-clause-most_tries : goal.returns-clause-most_tries
returns-clause-most_tries c = λ settled afresh. c.grow_further-grown.ensures.most_tries settled (not_full c)

pub returns-clause-ids : goal.returns-clause-ids
returns-clause-ids c = λ afresh. c.grow_further-grown.ensures.grown.ids
