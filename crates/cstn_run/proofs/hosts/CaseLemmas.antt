-- What contracts see of a host's cases.
use Rattle.std.proofs.Common.{◌≡◌, ◌<◌, ◌≤◌, ℕ, List, [], length, replicate, refl, ap, sym, subst, ◌∙◌, arith, false}
use Rattle.std.specs.Prelude.{Option, Some, None, is_some, slice_index_or, slice_set, IfSome}
use Rattle.std.specs.Option.{option_map}
use Rattle.std.proofs.Math.ListN.{get_or-map}
use Rattle.std.proofs.lemmas.List.{map-set, get_or_default, get_or-set_same, length-set, length-replicate}
use Rattle.std.proofs.lemmas.List.Elements.{All-set, All-replicate}
use Rattle.cstn_net.specs.Networks.{count}
use Rattle.cstn_net.specs.Read.{the_network}
use Rattle.cstn_plan.specs.Plans.{PlanParts}
use Rattle.cstn_exec.specs.Runs.{start_of_run}
use Rattle.cstn_exec.specs.Read.{ExecParts}
use Rattle.cstn_run.specs.declared.hosted.cases.Case.{Case}
use Rattle.cstn_run.specs.hosted.Hosts.{HostParts, Opened, plan_of_file}
use Rattle.cstn_run.specs.hosted.Calls.{HostCall, Open, Close, answer_at, answer_on, case_after, host_after}
use Rattle.cstn_run.specs.hosted.Read.{the_opened, the_cases, IsOverPlan, IsHost}
use Rattle.cstn_run.proofs.hosts.Ids.{is_below}

-- what is seen of the case at a place
pub case_read : (cases : List (Option Case)) (k : ℕ) → slice_index_or (the_cases cases) k None ≡ option_map the_opened (slice_index_or cases k None)
case_read cases k = get_or-map (option_map the_opened) cases k None

-- a host stays one when a place gets a case over one of the plans, or none
pub kept : (plans : List PlanParts) (cases : List (Option Case)) (k : ℕ) (v : Option Case) → IsHost plans cases → IfSome v (IsOverPlan plans) → IsHost plans (slice_set cases k v)
kept plans cases k v is over = record {
  some = is.some;
  few = is.few;
  ids = length-set cases k v ∙ is.ids;
  over = All-set (λ c. IfSome c (IsOverPlan plans)) cases k v over is.over;
}

-- 64 places of which none is open are the cases of a host
pub closed_host : (plans : List PlanParts) (cases : List (Option Case)) → cases ≡ replicate 64 None → 1 ≤ length plans → length plans ≤ 8 → IsHost plans cases
closed_host plans cases is some few = subst (IsHost plans) (sym is) (record {
  some = some;
  few = few;
  ids = length-replicate {A = Option Case} 64 None;
  over = All-replicate (λ c. IfSome c (IsOverPlan plans)) 64 None tt;
})

abbrev pub host_of : List PlanParts → List (Option Case) → HostParts
host_of plans cases = record { plans = plans; cases = the_cases cases }

-- the id is below 64, and d is what its place holds
pub record IsAt (cases : List (Option Case)) (id place : ℕ) (d : Option Case) : Type 0 where
  pub is_place : place ≡ id
  pub is_small : id < 64
  pub is_item : d ≡ slice_index_or cases place d

pub at_id : (plans : List PlanParts) (cases : List (Option Case)) (id place : ℕ) (d : Option Case) → IsHost plans cases → IsAt cases id place d → slice_index_or cases id None ≡ d
at_id plans cases id place d is here =
    let ids = is.ids in
    let small = here.is_small in
    ap (λ k. slice_index_or cases k None) (sym here.is_place) ∙ get_or_default cases place None d (let at = here.is_place in omega arith) ∙ sym here.is_item

pub over_at : (plans : List PlanParts) (cases : List (Option Case)) (id place : ℕ) (d : Option Case) → IsHost plans cases → IsAt cases id place d → IfSome d (IsOverPlan plans)
over_at plans cases id place d is here =
    let ids = is.ids in
    let small = here.is_small in
    subst (λ c. IfSome c (IsOverPlan plans)) (at_id plans cases id place d is here) (is.over id None (omega arith))

-- the answer to a call on such an id is that by the case at its place
pub answered_at : (plans : List PlanParts) (cases : List (Option Case)) (id place : ℕ) (d : Option Case) (call : HostCall) → IsHost plans cases → IsAt cases id place d → answer_on (host_of plans cases) id call ≡ answer_at plans id (option_map the_opened d) call
answered_at plans cases id place d call is here = rw (is_below id 64 here.is_small, case_read cases id, at_id plans cases id place d is here) refl

-- the host after a call that puts v into the id's place
pub after_put : (plans : List PlanParts) (cases : List (Option Case)) (id place : ℕ) (d v : Option Case) (call : HostCall) → IsHost plans cases → IsAt cases id place d → option_map the_opened v ≡ case_after plans (option_map the_opened d) call → host_of plans (slice_set cases place v) ≡ host_after (host_of plans cases) id call
after_put plans cases id place d v call is here puts = rw (here.is_place, is_below id 64 here.is_small, case_read cases id, at_id plans cases id place d is here, ← puts, map-set (option_map the_opened) cases id v) refl

-- what was put into a place is there
pub put_there : (plans : List PlanParts) (cases : List (Option Case)) (id place : ℕ) (d v : Option Case) → IsHost plans cases → IsAt cases id place d → slice_index_or (the_cases (slice_set cases place v)) id None ≡ option_map the_opened v
put_there plans cases id place d v is here =
    let ids = is.ids in
    let small = here.is_small in
    rw here.is_place (case_read (slice_set cases id v) id ∙ ap (option_map the_opened) (get_or-set_same cases id v None (omega arith)))

-- an id that is closed is open over nothing
pub closed_after : (plans : List PlanParts) (o : Option Opened) → None ≡ case_after plans o Close
closed_after plans None = refl
closed_after plans (Some c) = refl

-- `open` puts in a case with an executive that was started on a copy of the file's plan
pub opened_on : (plans : List PlanParts) (file : ℕ) (d : Option Case) (e : ExecParts) → d ≡ None → file < length plans
    → e ≡ record { net = record (plan_of_file plans file).net { spare = 0 }; bounds = (plan_of_file plans file).bounds; run = start_of_run (count (the_network (plan_of_file plans file).net)); named = [] }
    → Some (the_opened (record { file = file; executive = e })) ≡ case_after plans (option_map the_opened d) (Open file false)
opened_on plans file d e none inside is =
    rw (none, is_below file (length plans) inside) (ap Some (ap (λ (x : ExecParts). record { file = file; run = x.run; named = x.named }) is))

pub is_closed : (d : Option Case) → is_some d ≡ false → d ≡ None
is_closed None is = refl
is_closed (Some c) is = absurd (cc)
