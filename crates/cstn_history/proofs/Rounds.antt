-- Completion by rounds, each of which joins in the labels of the observers of what is marked.
use Rattle.std.proofs.Common.{ℕ, ◌≡◌, ◌+◌, ◌<◌, ◌≤◌}
use Rattle.cstn_label.specs.declared.marks.Mark.TheVariants.{Absent}
use Rattle.cstn_label.specs.Labels.{Label, IsMarked, IsWithin, joined}
use Rattle.cstn_net.specs.Networks.{Observes, count}
use Rattle.cstn_lift.specs.Labelled.{Labelled, label_of}
use Rattle.cstn_lift.specs.Completion.{completed, joined_upto, rounds, IsLabelOfObserver}
use Rattle.cstn_lift.proofs.CompletionLemmas.{round_contains, round_is, rounds_end, turn_joined, turn_upto, within_left}

-- where a further round changes nothing, the label is the completed one
pub rounds_are_over : (m : Labelled) (n : ℕ) (a : Label) → joined_upto m (count m.base) (rounds m n a) ≡ rounds m n a → rounds m n a ≡ completed m a
rounds_are_over m n a fixed = rounds_end m n a fixed

-- what a round makes of the label a, where b has come so far
pub round_begins : (m : Labelled) (a : Label) → IsWithin a (joined_upto m (count m.base) a)
round_begins m a = round_contains m a

pub round_ends : (m : Labelled) (a b : Label) → IsWithin a b → ((x p : ℕ) → Observes m.base x p → IsMarked a p → IsWithin (label_of m x) b) →
    IsWithin b (joined_upto m (count m.base) a) → b ≡ joined_upto m (count m.base) a
round_ends m a b h each below = round_is m a b h each below

module _ (m : Labelled) (one : (x y p : ℕ) → Observes m.base x p → Observes m.base y p → x ≡ y) (a b c : Label) (from p : ℕ) (new : IsLabelOfObserver m p c) where
  pub round_joins : ((q : ℕ) → from ≤ q → q < p → a q ≡ Absent) →
      ((x q : ℕ) → q < from → Observes m.base x q → IsMarked a q → IsWithin (label_of m x) b) →
      (x q : ℕ) → q < p + 1 → Observes m.base x q → IsMarked a q → IsWithin (label_of m x) (joined b c)
  round_joins skipped before = turn_joined m one a b c from p new skipped before

  pub round_within : IsMarked a p → IsWithin b (joined_upto m (count m.base) a) → IsWithin (joined b c) (joined_upto m (count m.base) a)
  round_within marked h = turn_upto m one a b c from p new marked h

  pub round_grows : IsWithin b (joined b c)
  round_grows = within_left b c
