-- What is written for a request, also after a fault.
use Rattle.std.specs.Prelude.{◌≡◌, ◌⊎◌, ◌≤◌, ◌+◌, ℕ, List, [], ◌++◌, length, take, Option, Some, IsSome, codes}
use Rattle.cstn_io.specs.Causes.{Rose}
use Rattle.cstn_io.specs.Contents.{after_bytes, with_bytes, IsAllOf}
use Rattle.cstn_reply.specs.Texts.{Said, line}
use Rattle.cstn_reply.specs.Statuses.{status_of}
use Rattle.cstn_reply.specs.declared.status.Status.{Status}
use Rattle.cstn_reply.specs.declared.status.Status.TheVariants.{ReadFault, WriteFault, Memory}

-- the text is empty or ends with LF
abbrev pub EndsLine : List ℕ → Type 0
EndsLine text = (text ≡ []) ⊎ ((front : List ℕ) × (text ≡ line front))

-- what is seen of the live source: the bytes left, where they are told, how many calls failed, and how many reads were made
pub record LiveState : Type 0 where
  pub left : Option (List ℕ)
  pub faults : ℕ
  pub reads : ℕ

-- what is seen of a live source, by the bytes that it has left and its counts of faults and of reads
abbrev pub view : {S : Type 0} → (S → Option (List ℕ)) → (S → ℕ) → (S → ℕ) → S → LiveState
view left faults reads source = record { left = left source; faults = faults source; reads = reads source }

-- The reads that took these bytes; `before` and `after` count those of the source. By `heard`, more is read after `first`, and there
-- were no more reads than one for each byte of it, and one. So nothing behind what ends a session is read a byte at a time.
pub record ReadsLeadOn (heard : List ℕ → Option (List ℕ)) (taken : List ℕ) (before after : ℕ) : Type 0 where
  pub first : List ℕ
  pub last : List ℕ
  pub parts : taken ≡ first ++ last
  pub leads : IsSome (heard first)
  pub few : after ≤ before + length first + 1

-- nothing was taken of the live source, or no more than reads that go on by `heard` took
abbrev pub IsTaken : (List ℕ → Option (List ℕ)) → LiveState → LiveState → Type 0
IsTaken heard before after =
    (after ≡ before) ⊎ ((taken : List ℕ) × (before.left ≡ after_bytes taken after.left) × ReadsLeadOn heard taken before.reads after.reads)

-- What is written where each write is accepted: what is said where the live source has these bytes, by `output`, or what comes
-- after a fault or want of memory. `heard` gives what is said before a fault of the live source that has given these bytes, if
-- more is read then; `stops` holds of what is said before an answer for which memory is refused.
pub data IsText (output : List ℕ → Said → Type 0) (heard : List ℕ → Option (List ℕ)) (stops : Option (List ℕ) → List ℕ → Type 0) (before after : LiveState) : Status → List ℕ → Type 0 where
  is_output : (live : List ℕ) (said : Said) → IsAllOf before.left live → output live said → IsTaken heard before after → IsText output heard stops before after (status_of said.outcome) said.text
  is_file_fault : after ≡ before → IsText output heard stops before after ReadFault (line (codes "read fault"))
  is_live_fault : (taken said : List ℕ) → before.left ≡ after_bytes taken after.left → Rose before.faults after.faults → heard taken ≡ Some said → ReadsLeadOn heard taken before.reads after.reads → IsText output heard stops before after ReadFault (said ++ line (codes "read fault"))
  is_memory : after ≡ before → IsText output heard stops before after Memory (line (codes "memory"))
  is_stopped : (said : List ℕ) → stops before.left said → IsTaken heard before after → IsText output heard stops before after Memory (said ++ line (codes "memory"))

-- The text was written whole with its status, or after a fault of the sink a prefix of it.
abbrev pub IsWritten : Option (List ℕ) → Option (List ℕ) → List ℕ → Status → Status → Type 0
IsWritten old new text status result = ((result ≡ status) × (new ≡ with_bytes old text)) ⊎ ((result ≡ WriteFault) × ((n : ℕ) × (new ≡ with_bytes old (take n text))))

-- A call ends with this status: a text of the output was written, whole or in part.
abbrev pub Ends : (List ℕ → Said → Type 0) → (List ℕ → Option (List ℕ)) → (Option (List ℕ) → List ℕ → Type 0) → LiveState → LiveState → Option (List ℕ) → Option (List ℕ) → Status → Type 0
Ends output heard stops before after old new result =
    (status : Status) × (text : List ℕ) × IsText output heard stops before after status text × IsWritten old new text status result
