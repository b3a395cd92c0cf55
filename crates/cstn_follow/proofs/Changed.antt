-- What edits of the network make of a session.
use Rattle.std.proofs.Common.{ℕ, ◌≡◌, ◌<◌, inl, List, Some, None, length, refl, sym, subst, ap, ◌∙◌}
use Rattle.std.specs.Prelude.{Ok, Err}
use Rattle.cstn_label.specs.Labels.{Label}
use Rattle.cstn_net.specs.Limits.{most_constraints}
use Rattle.cstn_net.specs.Networks.{Network, Constraint}
use Rattle.cstn_lift.specs.Labelled.{Labelled}
use Rattle.cstn_lift.specs.Lowered.{lowered}
use Rattle.cstn_lift.specs.Read.{LabelledParts, the_labelled}
use Rattle.cstn_check.specs.declared.verdicts.Verdict.{Verdict}
use Rattle.cstn_history.specs.declared.errors.RestError.{RestError}
use Rattle.cstn_history.specs.declared.errors.RestError.TheVariants.{TooManyConstraints as AreTooMany, Memory as OutOfMemory}
use Rattle.cstn_history.specs.Histories.{edited}
use Rattle.cstn_history.specs.Read.{the_history, IsKeptFor}
use Rattle.cstn_history.proofs.Edited.{timely_edited}
use Rattle.cstn_change.specs.Changes.{EditedNetwork, Change, edited_base, edited_by, constraints_after}
use Rattle.cstn_follow.specs.Following.{verdict_left}
use Rattle.cstn_follow.proofs.Edited.{left_many}
use Rattle.cstn_follow.specs.declared.findings.Finding.{Finding}
use Rattle.cstn_follow.specs.Executions.{ExecutionParts}
use Rattle.cstn_follow.specs.Findings.{verdict_of}
use Rattle.cstn_follow.specs.Sessions.{SessionParts, IsSession, session_parts}
use Rattle.cstn_follow.specs.Replans.{Replans, edited_now, with_due, labelled_replanned, verdict_replanned}

-- a labelled network of this network, with these labels
abbrev labelled_on : Network → List Label → Labelled
labelled_on net labels = record { base = net; labels = labels }

-- a network with the labels of that of a session is the one as edited
pub labels_stay : (s : SessionParts) (l : LabelledParts) (fresh edits : ℕ) → (the_labelled l).labels ≡ (the_labelled s.network).labels
    → the_labelled l ≡ labelled_replanned s (edited_base (the_labelled l) fresh edits)
labels_stay s l fresh edits same = ap (labelled_on (the_labelled l).base) same

-- without a check of what would be left nothing is edited
pub not_replanned : (e : EditedNetwork) (old : SessionParts) (error : RestError) → (error ≡ AreTooMany → verdict_replanned old e ≡ None)
    → Replans e old old (Err error)
not_replanned e old AreTooMany none = (none refl, refl)
not_replanned e old (OutOfMemory error) none = refl

-- what is found of the network as edited comes in its place
module _ (x y : ExecutionParts) (network : LabelledParts) (fresh cap edits later : ℕ) (f g : Finding) where
  pub replanned_by : (v : Verdict) → y ≡ record x { network = network; fresh = fresh } → (the_labelled network).labels ≡ (the_labelled x.network).labels
      → v ≡ verdict_of g → verdict_left (the_labelled network) (the_history x.history) fresh cap ≡ Some (verdict_of g)
      → Replans (edited_base (the_labelled network) fresh later) (session_parts x cap edits f) (session_parts y cap later g) (Ok v)
  replanned_by v is same said found =
      let e : EditedNetwork = edited_base (the_labelled network) fresh later in
      let old : SessionParts = session_parts x cap edits f in
      let new : ExecutionParts = record x { network = network; fresh = fresh } in
      let labels = labels_stay old network fresh later same in
      let verdict = ap (λ (m : Labelled). verdict_left m (the_history x.history) fresh cap) (sym labels) ∙ found in
      subst (λ (z : ExecutionParts). Replans e old (session_parts z cap later g) (Ok v)) (sym is)
      (subst (λ (u : Verdict). Replans e old (session_parts new cap later g) (Ok u)) (sym said) (labels, refl, verdict))

-- ---- the network as edited

-- the labelled network with a change of its constraints
abbrev changed_network : LabelledParts → ℕ → Change → Labelled
changed_network l fresh change = edited (the_labelled l) l.base.deadline (constraints_after (the_labelled l).base.constraints fresh change)

module _ (s : SessionParts) (m : Labelled) where
  -- what calls say of the parts of a session is true of it
  pub changed_by : (l : LabelledParts) (fresh : ℕ) (change : Change) → l ≡ s.network → fresh ≡ s.fresh → m ≡ changed_network l fresh change
      → m ≡ changed_network s.network s.fresh change
  changed_by l fresh change same next is =
      is ∙ ap (λ (k : LabelledParts). changed_network k fresh change) same ∙ ap (λ (n : ℕ). changed_network s.network n change) next

  pub due_by : (l : LabelledParts) (deadline : ℕ) → l ≡ s.network → m ≡ edited (the_labelled l) deadline (the_labelled l).base.constraints
      → m ≡ edited (the_labelled s.network) deadline (the_labelled s.network).base.constraints
  due_by l deadline same is = is ∙ ap (λ (k : LabelledParts). edited (the_labelled k) deadline (the_labelled k).base.constraints) same

-- what has happened is kept for it
pub kept_replanned : (s : SessionParts) (m : Labelled) (deadline : ℕ) (cs : List Constraint) → IsSession s → m ≡ edited (the_labelled s.network) deadline cs
    → IsKeptFor m s.history
kept_replanned s m deadline cs good is =
    let kept = good.execution.kept in
    let timely = timely_edited (the_labelled s.network) (the_history s.history) deadline cs kept.history kept.in_time in
    subst (λ (n : Labelled). IsKeptFor n s.history) (sym is)
    (record { one_each = kept.one_each; wide = kept.wide; ready_each = kept.ready_each; history = timely.history; in_time = timely.in_time })

-- there is no verdict where it has too many constraints, lowered
pub too_many_edited : (s : SessionParts) (e : EditedNetwork) → most_constraints < length (lowered (labelled_replanned s e)).constraints → verdict_replanned s e ≡ None
too_many_edited s e many = left_many (labelled_replanned s e) (the_history s.history) e.fresh s.cap (inl many)

module _ (s : SessionParts) (l : LabelledParts) (same : l ≡ s.network) where
  pub many_changed : (fresh : ℕ) (change : Change) → fresh ≡ s.fresh → most_constraints < length (lowered (changed_network l fresh change)).constraints
      → verdict_replanned s (edited_by (edited_now s) change) ≡ None
  many_changed fresh change next many =
      too_many_edited s (edited_by (edited_now s) change)
      (subst (λ (m : Labelled). most_constraints < length (lowered m).constraints) (changed_by s _ l fresh change same next refl) many)

  pub many_due : (deadline : ℕ) → most_constraints < length (lowered (edited (the_labelled l) deadline (the_labelled l).base.constraints)).constraints
      → verdict_replanned s (with_due (edited_now s) deadline) ≡ None
  many_due deadline many =
      too_many_edited s (with_due (edited_now s) deadline)
      (subst (λ (m : Labelled). most_constraints < length (lowered m).constraints) (due_by s _ l deadline same refl) many)
