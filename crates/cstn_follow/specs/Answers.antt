-- What a session answers to questions, in the words of plans and histories, and by its verdict.
use Rattle.std.specs.Prelude.{ℕ, ◌≡◌, ◌<◌, ◌≤◌, ◌↔◌, ◌⊎◌, not, nat_le, List, Option, None, Some, map, if◌then◌else◌}
use Rattle.std.specs.List.{All, AllPairs, Contains}
use Rattle.cstn_label.specs.declared.nodes.NodeId.{NodeId}
use Rattle.cstn_net.specs.Networks.{count}
use Rattle.cstn_lift.specs.Labelled.{Labelled}
use Rattle.cstn_lift.specs.Completion.{completed_label}
use Rattle.cstn_lift.specs.Lowered.{lowered}
use Rattle.cstn_lift.specs.Read.{the_labelled}
use Rattle.cstn_log.specs.Cuts.{last_with_ancestors}
use Rattle.cstn_refute.specs.Refutations.{RefutationParts, the_steps}
use Rattle.cstn_check.specs.Growth.{log_of, live_bounds}
use Rattle.cstn_check.specs.declared.verdicts.Verdict.TheVariants.{Yes as IsYes, No as IsNo, Full as IsFull}
use Rattle.cstn_history.specs.Continuations.{Can, CanWait, IsNext, IsNamed, IsAwaited}
use Rattle.cstn_history.specs.Facts.{wait_refusal}
use Rattle.cstn_history.specs.Histories.{History, allows}
use Rattle.cstn_history.specs.Read.{the_history, the_fact_refusal}
use Rattle.cstn_next.specs.declared.moments.NextMoment.{NextMoment}
use Rattle.cstn_next.specs.Next.{IsAllDone, TellsNext}
use Rattle.cstn_check.specs.Givers.{is_of, but}
use Rattle.cstn_follow.specs.Blame.{network_alone, ids_to_blame}
use Rattle.cstn_follow.specs.Executions.{execution_left}
use Rattle.cstn_follow.specs.Sessions.{SessionParts, execution_of}
use Rattle.cstn_follow.specs.Waiting.{HasRoomToWait, waits_until}
use Rattle.cstn_follow.specs.declared.answers.Outlook.{Outlook}
use Rattle.cstn_follow.specs.declared.answers.Outlook.TheVariants.{Next, Finished, Impossible as CannotGoOn, Unknown as IsNotKnown}
use Rattle.cstn_follow.specs.declared.answers.Latest.{Latest}
use Rattle.cstn_follow.specs.declared.answers.Latest.TheVariants.{Until, Refused, TooManyConstraints, Impossible, Unknown}
use Rattle.cstn_follow.specs.declared.answers.ToBlame.{ToBlame}
use Rattle.cstn_follow.specs.declared.answers.ToBlame.TheVariants.{Constraints, Nothing, Unknown as IsUnfound}

-- ---- what is next

-- this is next: the next moment, with exactly the time-points that are named and the outcomes that are awaited at it
pub record IsWhatIsNext (m : Labelled) (h : History) (n : NextMoment) : Type 0 where
  pub next : IsNext m h n.moment
  pub named : (x : ℕ) → Contains (map (λ x. x.0) n.named.items) x ↔ IsNamed m h n.moment x
  pub awaited : (p : ℕ) → Contains (map (λ p. p.index) n.awaited.items) p ↔ IsAwaited m h n.moment p

-- the answer is right: some table continues the history, with this next or with nothing left, or no table continues it
abbrev pub IsRightOutlook : Labelled → History → Outlook → Type 0
IsRightOutlook m h (Next n) = Can m h × IsWhatIsNext m h n
IsRightOutlook m h Finished = Can m h × IsAllDone m h
IsRightOutlook m h CannotGoOn = Can m h → ⊥
IsRightOutlook m h IsNotKnown = Unit

-- the verdict of the session is yes, or no
abbrev pub SaidYes : SessionParts → Type 0
SaidYes s = (load : ℕ) × (s.verdict ≡ IsYes load)

abbrev pub SaidNo : SessionParts → Type 0
SaidNo s = (load : ℕ) × (s.verdict ≡ IsNo load)

-- what is told by the bounds of the plan of what is left
abbrev pub TellsByPlan : SessionParts → Option NextMoment → Type 0
TellsByPlan s o = TellsNext (the_labelled s.network) (the_history s.history) (live_bounds (log_of (lowered (execution_left (execution_of s))))) o

-- what is next is told after a yes, by the plan of what is left
abbrev pub TellsOutlook : SessionParts → Outlook → Type 0
TellsOutlook s (Next n) = SaidYes s × TellsByPlan s (Some n)
TellsOutlook s Finished = SaidYes s × TellsByPlan s None
TellsOutlook s CannotGoOn = SaidNo s
TellsOutlook s IsNotKnown = s.verdict ≡ IsFull

-- ---- why it can't go on

-- this is the refutation that ends the log of what is left, lowered
abbrev pub IsLeftRefuted : SessionParts → RefutationParts → Type 0
IsLeftRefuted s r =
    (s.verdict ≡ IsNo r.load) × (the_steps r ≡ last_with_ancestors (log_of (lowered (execution_left (execution_of s)))))
    × All (λ e. e.bound.node.0 < count (execution_left (execution_of s)).base) r.steps

-- ---- until when

-- x can wait until t, and until no later moment
pub record IsLatest (m : Labelled) (h : History) (x t : ℕ) : Type 0 where
  pub waits : CanWait m h x t
  pub last : (u : ℕ) → CanWait m h x u → u ≤ t

-- the answer is right: x can wait until this moment and no longer; or this is why it isn't told; or no table continues the history
abbrev pub IsRightLatest : Labelled → History → NodeId → Latest → Type 0
IsRightLatest m h x (Until t) = (wait_refusal m h x.0 ≡ None) × IsLatest m h x.0 t
IsRightLatest m h x (Refused e) = wait_refusal m h x.0 ≡ Some (the_fact_refusal e)
IsRightLatest m h x TooManyConstraints = wait_refusal m h x.0 ≡ None
IsRightLatest m h x Impossible = (wait_refusal m h x.0 ≡ None) × (Can m h → ⊥)
IsRightLatest m h x Unknown = wait_refusal m h x.0 ≡ None

-- there is room for one constraint more of what is left
abbrev pub HasRoomLeftToWait : SessionParts → Type 0
HasRoomLeftToWait s = HasRoomToWait (the_labelled s.network) (the_history s.history) s.fresh

-- the moment until which x can wait, by halving; none where a log that is tried is full
abbrev pub wait_found : SessionParts → ℕ → Option ℕ
wait_found s x = waits_until (the_labelled s.network) (the_history s.history) s.fresh x s.cap

-- until when is told after a yes, where there is room for one constraint more
abbrev pub TellsLatest : SessionParts → NodeId → Latest → Type 0
TellsLatest s x (Until t) = HasRoomLeftToWait s × SaidYes s × (wait_found s x.0 ≡ Some t)
TellsLatest s x (Refused e) = Unit
TellsLatest s x TooManyConstraints = HasRoomLeftToWait s → ⊥
TellsLatest s x Impossible = HasRoomLeftToWait s × SaidNo s
TellsLatest s x Unknown = HasRoomLeftToWait s × ((s.verdict ≡ IsFull) ⊎ (SaidYes s × (wait_found s x.0 ≡ None)))

-- what has happened can go on, and there is room for one constraint more
abbrev pub CanAskWaits : SessionParts → Type 0
CanAskWaits s = SaidYes s × HasRoomLeftToWait s

-- ---- which constraints

-- the history can't go on, by the constraints of these ids alone it can't either, and without any one of them it can
pub record AreToBlame (m : Labelled) (h : History) (ids : List ℕ) : Type 0 where
  pub stuck : Can m h → ⊥
  pub cannot : Can (network_alone m (is_of ids)) h → ⊥
  pub needed : (id : ℕ) → Contains ids id → Can (network_alone m (but id (is_of ids))) h
  pub ascending : AllPairs (λ a b. a < b) ids

-- the answer is right: these are to blame, or some table continues the history
abbrev pub IsRightBlame : Labelled → History → ToBlame → Type 0
IsRightBlame m h (Constraints ids) = AreToBlame m h ids.items
IsRightBlame m h Nothing = Can m h
IsRightBlame m h IsUnfound = Unit

-- the ids that are found; none where a log that is tried is full
abbrev pub blame_of : SessionParts → Option (List ℕ)
blame_of s = ids_to_blame (the_labelled s.network) (the_history s.history) s.fresh s.cap

-- which is told after a no
abbrev pub TellsBlame : SessionParts → ToBlame → Type 0
TellsBlame s (Constraints ids) = SaidNo s × (blame_of s ≡ Some ids.items)
TellsBlame s Nothing = SaidYes s
TellsBlame s IsUnfound = (s.verdict ≡ IsFull) ⊎ (SaidNo s × (blame_of s ≡ None))
