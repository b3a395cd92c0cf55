-- What forgiving makes of a session.
use Rattle.std.proofs.Common.{ℕ, ◌≡◌, ◌+◌, ◌<◌, ◌≤◌, not, List, length, arith, refl, sym, subst, ap, ◌∙◌}
use Rattle.std.specs.Prelude.{Result, Ok, Err}
use Rattle.std.specs.List.{All, filter}
use Rattle.std.proofs.lemmas.List.{length-map}
use Rattle.std.proofs.lemmas.List.Filters.{length-filter_both}
use Rattle.cstn_net.specs.Limits.{most_constraints}
use Rattle.cstn_net.specs.Networks.{Constraint}
use Rattle.cstn_net.specs.Read.{NetworkParts, the_network}
use Rattle.cstn_lift.specs.Labelled.{Labelled}
use Rattle.cstn_lift.specs.Lowered.{lowered}
use Rattle.cstn_lift.specs.Read.{LabelledParts, the_labelled}
use Rattle.cstn_lift.specs.WellFormed.{IsLabelled}
use Rattle.cstn_check.specs.Givers.{with_some}
use Rattle.cstn_check.specs.declared.verdicts.Verdict.{Verdict}
use Rattle.cstn_history.specs.declared.errors.RestError.{RestError}
use Rattle.cstn_history.specs.declared.errors.RestError.TheVariants.{TooManyConstraints as AreTooMany}
use Rattle.cstn_history.specs.Histories.{History}
use Rattle.cstn_history.specs.Read.{the_history, IsKeptFor}
use Rattle.cstn_change.specs.Changes.{EditedNetwork, edited_base}
use Rattle.cstn_follow.specs.Blame.{network_alone}
use Rattle.cstn_follow.specs.Following.{verdict_left}
use Rattle.cstn_follow.specs.Forgiving.{is_broken_by, broken_ids, broken_now, forgiven_now, after_removals}
use Rattle.cstn_follow.specs.Replans.{Replans, edited_now, verdict_replanned}
use Rattle.cstn_follow.specs.Sessions.{SessionParts, IsSession}
use Rattle.cstn_follow.specs.Tries.{with_base}
use Rattle.cstn_follow.proofs.Changed.{kept_replanned}
use Rattle.cstn_follow.proofs.Forgiven.{isnt_of, removed_is, part_verdict}
use Rattle.cstn_follow.proofs.Parts.{part_labelled, part_short, part_above}

-- not more is broken than there is
pub few_broken : (m : Labelled) (h : History) → IsLabelled m → length (broken_ids m h) ≤ most_constraints
few_broken m h good =
    let cs = m.base.constraints in
    let some = length-map (filter (is_broken_by m h) cs) (λ (c : Constraint). c.id) in
    let both = length-filter_both (is_broken_by m h) (λ c. not (is_broken_by m h c)) (λ c. refl) cs in
    let few = good.base.few_constraints in
    omega arith

module _ (s : SessionParts) (ids : List ℕ) where
  abbrev M : Labelled
  M = the_labelled s.network

  -- the labelled network without these constraints
  abbrev less : Labelled
  less = network_alone M (isnt_of ids)

  pub less_is : (l k : LabelledParts) (n b : NetworkParts) → l ≡ s.network → k ≡ s.network → n ≡ l.base → the_network b ≡ with_some (the_network n) (isnt_of ids)
      → with_base (the_labelled k) (the_network b) ≡ less
  less_is l k n b same also of_base is =
      ap (λ (k : LabelledParts). with_base (the_labelled k) (the_network b)) also
      ∙ ap (with_base M) (is ∙ ap (λ (n : NetworkParts). with_some (the_network n) (isnt_of ids)) of_base
      ∙ ap (λ (l : LabelledParts). with_some (the_network l.base) (isnt_of ids)) same)

  module _ (good : IsSession s) (m : Labelled) (is : m ≡ less) where
    pub less_labelled : IsLabelled m
    less_labelled = subst IsLabelled (sym is) (part_labelled M (isnt_of ids) good.execution.labelled)

    pub less_few : length (lowered m).constraints ≤ most_constraints
    less_few =
        let short = part_short M (isnt_of ids) good.execution.labelled in
        let few = good.execution.few in
        subst (λ (k : Labelled). length (lowered k).constraints ≤ most_constraints) (sym is) (omega arith)

    pub less_kept : IsKeptFor m s.history
    less_kept = kept_replanned s m M.base.deadline (filter (λ (c : Constraint). isnt_of ids c.id) M.base.constraints) good is

    pub less_above : (fresh : ℕ) → fresh ≡ s.fresh → All (λ c. c.id < fresh) m.base.constraints
    less_above fresh next =
        subst (λ (n : ℕ). All (λ (c : Constraint). c.id < n) m.base.constraints) (sym next)
        (subst (λ (k : Labelled). All (λ (c : Constraint). c.id < s.fresh) k.base.constraints) (sym is) (part_above M (isnt_of ids) s.fresh good.execution.above))

    -- there is a verdict on what is left of it
    pub less_said : (fresh edits : ℕ) (new : SessionParts) (r : Result Verdict RestError) → fresh ≡ s.fresh → r ≡ Err AreTooMany
        → Replans (edited_base m fresh edits) s new r → ⊥
    less_said fresh edits new r next many made =
        let none = (subst (λ q. Replans (edited_base m fresh edits) s new q) many made).0 in
        let some = part_verdict M (isnt_of ids) (the_history s.history) s.fresh s.cap s.verdict good.execution.labelled good.verdict in
        let same : verdict_replanned s (edited_base m fresh edits) ≡ verdict_left less (the_history s.history) s.fresh s.cap =
        ap (λ (k : Labelled). verdict_replanned s (edited_base k fresh edits)) is ∙ ap (λ (n : ℕ). verdict_left less (the_history s.history) n s.cap) next in
        let both = sym none ∙ same ∙ some in
        absurd (cc)

    -- it is the network as edited without what is broken
    pub less_made : (fresh edits : ℕ) (new : SessionParts) (v : Verdict) → ids ≡ broken_now s → fresh ≡ s.fresh → edits ≡ s.edits + length ids
        → Replans (edited_base m fresh edits) s new (Ok v) → Replans (forgiven_now s) s new (Ok v)
    less_made fresh edits new v broken next counted =
        let same : edited_base m fresh edits ≡ forgiven_now s =
        ap (λ (k : Labelled). edited_base k fresh edits) is
        ∙ ap (λ (n : ℕ). edited_base less n edits) next
        ∙ ap (edited_base less s.fresh) counted
        ∙ sym (removed_is (edited_now s) ids)
        ∙ ap (after_removals (edited_now s)) broken in
        subst (λ (e : EditedNetwork). Replans e s new (Ok v)) same
