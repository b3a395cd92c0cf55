use Rattle.std.proofs.Common.{◌+◌, ◌≤◌, length, take, arith, rules, refl, ap, sym, subst, ◌∙◌}
use Rattle.std.proofs.lemmas.List.{take_all, with_items_is}
use Rattle.cstn_net.specs.Read.{the_network}
use Rattle.cstn_rules.specs.Read.{the_entry}
use Rattle.cstn_log.specs.Entries.{the_entries}
use Rattle.cstn_check.proofs.Fewer.{map_next}
use Rattle.cstn_check.specs.Needs.{AreMarked}
use Rattle.cstn_check.proofs.needs.marks_of_log.Goals as goal

pub loop-k-init : goal.loop-k-init
loop-k-init c = record {
  end = c.len-k-end.ensures.len;
  size = search rules;
  marked = λ k inside clear. refl;
}

pub loop-k-preserved : goal.loop-k-preserved
loop-k-preserved c =
    let net = the_network c.args.net.now in
    let entries = c.args.log.now.entries in
    let next = map_next the_entry entries c.loop-k.k c.entry.result c.entry.ensures.entry in
    let before = the_entries (take c.loop-k.k entries) in
    let same = with_items_is c.loop-k.marks c.mark.new.marks (c.mark.ensures.size ∙ c.deref_mut.ensures.len) in
    record {
      end = c.loop-k.invariant.end;
      size = ap length same ∙ c.mark.ensures.size ∙ ap length c.deref_mut.ensures.value ∙ c.loop-k.invariant.size;
      marked = subst (λ bs. AreMarked net bs (the_entries (take (c.loop-k.k + 1) entries))) (sym same)
          (subst (AreMarked net c.mark.new.marks) (sym next)
          (c.mark.ensures.marked before (subst (λ bs. AreMarked net bs before) (sym c.deref_mut.ensures.value) c.loop-k.invariant.marked)));
    }

pub returns-clause-marked : goal.returns-clause-marked
returns-clause-marked c =
    let net = the_network c.args.net.now in
    let end = c.loop-k.invariant.end in
    let past : length c.args.log.now.entries ≤ c.loop-k.k = omega arith in
    subst (AreMarked net c.loop-k.marks.items) (ap the_entries (take_all c.loop-k.k c.args.log.now.entries past)) c.loop-k.invariant.marked
