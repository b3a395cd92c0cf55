use Rattle.std.proofs.Common.{◌≡◌, ◌≤◌, length, map, take}
use Rattle.cstn_label.specs.Read.{known_value}
use Rattle.cstn_net.specs.Read.{the_network}
use Rattle.cstn_lift.specs.Read.{the_labelled}
use Rattle.cstn_exec.specs.Guides.{holding, others, all_denied, with_left}
use Rattle.cstn_exec.proofs.guides.sorting.sort_out.Given as goal

abbrev pub invariant-loop-k : goal.invariant-loop-k
invariant-loop-k l = record {
  executive : l.executive ≡ record l.fn.executive {
    run = all_denied (the_network l.fn.executive.net)
        (others (the_labelled l.fn.labels) (known_value l.fn.known) (take l.k l.fn.executive.named))
        l.fn.executive.run;
  };
  left : l.left.items ≡ with_left
      (others (the_labelled l.fn.labels) (known_value l.fn.known) (take l.k l.fn.executive.named))
      l.fn.left.items;
  named : map (λ x. x.0) l.named.items ≡
      holding (the_labelled l.fn.labels) (known_value l.fn.known) (take l.k l.fn.executive.named);
  room : length l.named.items ≤ l.k;
  capacity : l.named.capacity ≡ l.fn.named.capacity;
}
