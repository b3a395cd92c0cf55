use Rattle.std.proofs.Common.{ℕ, ◌≡◌, ◌⊎◌, ◌<◌, ◌≤◌, true, length}
use Rattle.std.specs.Prelude.{slice_index_or}
use Rattle.cstn_log.specs.Agendas.{has_place}
use Rattle.cstn_log.specs.Kept.{IsIdAt}
use Rattle.cstn_log.proofs.putting.put_down.Given as goal

abbrev pub invariant-loop-at : goal.invariant-loop-at
invariant-loop-at l = record {
  kept : (m : ℕ) → has_place l.fn.agenda m ≡ true → has_place l.agenda m ≡ true;
  added : (i birth k : ℕ) → i < l.at → IsIdAt l.list.ids (slice_index_or l.slots i 0) birth k → k ≤ l.upto → has_place l.agenda k ≡ true;
  upto : (m : ℕ) → has_place l.agenda m ≡ true → (has_place l.fn.agenda m ≡ true) ⊎ (m ≤ l.upto);
  size : length l.agenda ≡ length l.fn.agenda;
}
