-- A check of a network whose document is in memory.
use Rattle.std.proofs.Common.{◌≡◌, ℕ, suc, ◌+◌, ◌*◌, ◌<◌, ◌≤◌, ◌^◌, List, [], ◌∷◌, length, refl, sym, ap, ◌∙◌, subst, inl, inr, arith, Option, None, Some, Bool, Ok}
use Rattle.std.specs.Prelude.{◌⊎◌, ◌&&◌, nat_le, true, is_some, option_map, if◌then◌else◌, IsTrue, codes}
use Rattle.std.specs.Option.{option_and_then, unwrap_or}
use Rattle.std.specs.List.{filter, list_all}
use Rattle.cstn_net.specs.Limits.{most_constraints, most_load}
use Rattle.cstn_net.specs.Networks.{Network, IsWellFormed, count}
use Rattle.cstn_lift.specs.Labelled.{Labelled}
use Rattle.cstn_lift.specs.Lowered.{lowered}
use Rattle.cstn_lift.specs.WellFormed.{IsLabelled}
use Rattle.cstn_text.specs.Numbers.{number_read, number_within, printed_number}
use Rattle.cstn_check.specs.Growth.{count_observed, load_of, most_entries}
use Rattle.cstn_save.specs.Canonical.{canonical}
use Rattle.cstn_save.specs.ReadBack.{parts, AreSameButIds}
use Rattle.cstn_save.specs.Names.{AreNamesOf}
use Rattle.cstn_graphml.specs.Document.{document}
use Rattle.cstn_graphml.specs.Networks.{labelled_of, network_of, IsFit}
use Rattle.cstn_request.specs.Limits.{usual_cap, most_document}
use Rattle.cstn_request.specs.Requests.{AskedFile, Request, check, request_of, names_of, capped_at, last_value}
use Rattle.cstn_request.specs.Files.{bytes_or_none}
use Rattle.cstn_request.specs.declared.words.Release.{Release}
use Rattle.cstn_reply.specs.Statuses.{status_of}
use Rattle.cstn_reply.specs.Written.{LiveState}
use Rattle.cstn_reply.specs.declared.status.Status.{Status}
use Rattle.cstn_reply.specs.declared.status.Status.TheVariants.{Good, Bad, Full}
use Rattle.cstn_reply.specs.declared.output.Outcome.{Outcome}
use Rattle.cstn_reply.specs.declared.output.Outcome.TheVariants.{Good as IsGoodOutcome, Bad as IsBadOutcome, Full as IsFullOutcome, Words, Document as IsRefused, Unfinished, Script, Wide}
use Rattle.cstn_top.specs.Plans.{PlanEnds}
use Rattle.cstn_top.specs.Dispatch.{plan_at}
use Rattle.cstn_top.specs.Meanings.{IsStopped}
use Rattle.cstn_top.specs.Told.{IsToldOfCall}
use Rattle.cstn_top.proofs.Endings.{EndsAs, end_status}
use Rattle.cstn_top.proofs.Labels.{of_parts}
use Rattle.cstn_headline.proofs.Checks.{VerdictsLabelled}
use Rattle.cstn_headline.specs.Headline.{Document}
use Rattle.cstn_headline.specs.Networks.{AskCheck, IsNamedNetwork, HasDocument, most_bounds, IsNetworkDecided}
use Rattle.cstn_headline.proofs.HeadlineLemmas.{check_said}
use Rattle.cstn_headline.proofs.SameStrategies.{consistent_back, consistent_on}

-- ---- the words

-- a number is read back
abbrev pub NumbersBack : Type 0
NumbersBack = (n : ℕ) → n < 2 ^ 64 → number_read (printed_number n) ≡ Some n

-- a file, without a deadline of its own
abbrev file_asked : List ℕ → AskedFile
file_asked file = record { file = file; deadline = None }

-- the request of `check FILE` and an option's number
abbrev capped_check : List ℕ → Option ℕ → Option Request
capped_check file o =
    option_and_then (capped_at (codes "check"))
    (option_map (λ cap. (file_asked file, cap))
    (option_map (λ cap. unwrap_or cap usual_cap) (option_and_then last_value (option_map (λ n. record { value = Some n; rest = [] }) o))))

least_is : (least n : ℕ) → least ≤ n → nat_le least n ≡ true
least_is least n is = grind arith

cap_within : NumbersBack → (cap : ℕ) → 1 ≤ cap → cap ≤ most_load → number_within 1 most_load (printed_number cap) ≡ Some cap
cap_within back cap some few =
    ap (option_and_then (λ n. if nat_le 1 n && nat_le n most_load then Some n else None)) (back cap (omega (arith, few)))
    ∙ rw (least_is 1 cap some, least_is cap most_load few) refl

-- the words ask for a check of the file
pub asks_check : NumbersBack → (release : Release) (words : List (List ℕ)) (file : List ℕ) (cap : ℕ) → AskCheck words file cap →
    request_of release words ≡ Some (check (file_asked file) cap)
asks_check back release words file cap (inl (same, usual)) =
    ap (request_of release) same ∙ ap (λ (c : ℕ). Some (check (file_asked file) c)) (sym usual)
asks_check back release words file cap (inr (same, some, few)) =
    ap (request_of release) same ∙ ap (capped_check file) (cap_within back cap some few)

-- the file is the only one that they name
pub may_ask_it : NumbersBack → (release : Release) (words : List (List ℕ)) (file : List ℕ) (cap : ℕ) (may : List ℕ → Bool) → AskCheck words file cap → IsTrue (may file) →
    IsTrue (list_all may (names_of (request_of release words)))
may_ask_it back release words file cap may asks is =
    subst (λ (r : Option Request). IsTrue (list_all may (names_of r))) (sym (asks_check back release words file cap asks)) (rw (true_is (may file) is) refl)
  where
    true_is : (b : Bool) → IsTrue b → b ≡ true
    true_is b holds = cc

-- ---- how many bounds there can be

observed_count : (os : List (Option ℕ)) → count_observed os ≡ length (filter is_some os)
observed_count [] = refl
observed_count (None ∷ os) = observed_count os
observed_count (Some p ∷ os) = ap suc (observed_count os)

bounded : (net : Network) → most_entries net ≡ most_bounds net
bounded net = ap (λ (k : ℕ). count net * (net.deadline + 2) * 4 ^ k) (observed_count net.observes)

-- ---- the verdict

good_bad : Good ≡ Bad → ⊥
good_bad same = let f : ⊥ = cc in f

good_full : Good ≡ Full → ⊥
good_full same = let f : ⊥ = cc in f

bad_full : Bad ≡ Full → ⊥
bad_full same = let f : ⊥ = cc in f

-- a check that was stopped decides nothing
stopped_decides : (m : Labelled) (cap : ℕ) (status : Status) → IsStopped status → IsNetworkDecided m cap status
stopped_decides m cap status (inl is) = record {
  yes = λ at. let f : ⊥ = cc in absurd f;
  no = λ at. let f : ⊥ = cc in absurd f;
  full = λ at. let f : ⊥ = cc in absurd f;
  ends = (3, omega arith, sym is);
}
stopped_decides m cap status (inr (inl is)) = record {
  yes = λ at. let f : ⊥ = cc in absurd f;
  no = λ at. let f : ⊥ = cc in absurd f;
  full = λ at. let f : ⊥ = cc in absurd f;
  ends = (4, omega arith, sym is);
}
stopped_decides m cap status (inr (inr is)) = record {
  yes = λ at. let f : ⊥ = cc in absurd f;
  no = λ at. let f : ⊥ = cc in absurd f;
  full = λ at. let f : ⊥ = cc in absurd f;
  ends = (5, omega arith, sym is);
}

-- the laws that are needed here
abbrev pub EntriesBounded : Type 0
EntriesBounded = (net : Network) → IsWellFormed net → load_of net ≤ most_entries net

abbrev pub DocumentsBack : Type 0
DocumentsBack = (m : Labelled) (names : List (List ℕ)) → IsLabelled m → AreNamesOf m.base names → document (canonical m names) None ≡ Ok (parts m names)

abbrev pub DocumentsFit : Type 0
DocumentsFit = (m : Labelled) (names : List (List ℕ)) → IsLabelled m → IsWellFormed (lowered m) → IsFit (parts m names)

abbrev pub SameButIds : Type 0
SameButIds = (m : Labelled) (names : List (List ℕ)) → AreSameButIds (network_of (parts m names)) m.base

abbrev pub LoweredWell : Type 0
LoweredWell = (m : Labelled) → IsLabelled m → length (lowered m).constraints ≤ most_constraints → IsWellFormed (lowered m)

module _ (numbers : NumbersBack) (entries : EntriesBounded) (backs : DocumentsBack) (fits : DocumentsFit) (same : SameButIds) (well : LoweredWell) where
  module _ (m : Labelled) (names : List (List ℕ)) (is : IsNamedNetwork m names) (file : List ℕ) (short : length (canonical m names) ≤ most_document) where
    -- the document of the network, as it is asked for
    abbrev of_network : Document
    of_network = record {
      asked = file_asked file;
      bytes = canonical m names;
      short = short;
      parts = parts m names;
      reads = backs m names is.labelled is.named;
      fit = fits m names is.labelled (well m is.labelled is.few);
    }

    -- its log has no more bounds than there can be
    load_bounded : load_of (lowered (labelled_of (parts m names))) ≤ most_bounds m.base
    load_bounded =
        subst (λ (n : ℕ). load_of (lowered (labelled_of (parts m names))) ≤ n)
        (bounded (lowered (labelled_of (parts m names)))
        ∙ ap (λ (os : List (Option ℕ)). length os * (m.base.deadline + 2) * 4 ^ length (filter is_some os)) (same m names).observes)
        (entries (lowered (labelled_of (parts m names)))
        (of_parts (canonical m names) None (parts m names) (backs m names is.labelled is.named) (fits m names is.labelled (well m is.labelled is.few))).plain.good)

    by_outcome : (cap : ℕ) (status : Status) (o : Outcome) → status ≡ status_of o → VerdictsLabelled cap (labelled_of (parts m names)) o → IsNetworkDecided m cap status
    by_outcome cap status IsGoodOutcome at verdict = record {
      yes = λ good. consistent_back m names (same m names) verdict.0;
      no = λ bad. absurd (good_bad (sym at ∙ bad));
      full = λ full. absurd (good_full (sym at ∙ full));
      ends = (0, omega arith, sym at);
    }
    by_outcome cap status IsBadOutcome at verdict = record {
      yes = λ good. absurd (good_bad (sym good ∙ at));
      no = λ bad has. verdict.0 (consistent_on m names (same m names) has);
      full = λ full. absurd (bad_full (sym at ∙ full));
      ends = (1, omega arith, sym at);
    }
    by_outcome cap status IsFullOutcome at verdict = record {
      yes = λ good. absurd (good_full (sym good ∙ at));
      no = λ bad. absurd (bad_full (sym bad ∙ at));
      full = λ full. let below = load_bounded in omega (arith, verdict, below);
      ends = (2, omega arith, sym at);
    }
    by_outcome cap status Words at never = absurd never
    by_outcome cap status IsRefused at never = absurd never
    by_outcome cap status Unfinished at never = absurd never
    by_outcome cap status Script at never = absurd never
    by_outcome cap status Wide at never = absurd never

    ends_decided : (cap : ℕ) (before after : LiveState) (old new : Option (List ℕ)) (status : Status) →
        PlanEnds (plan_at (check (file_asked file) cap) (canonical m names ∷ [])) before after old new status → IsNetworkDecided m cap status
    ends_decided cap before after old new status ends =
        by_end (end_status (plan_at (check (file_asked file) cap) (canonical m names ∷ [])) before after old new status ends)
      where
        by_end : EndsAs (plan_at (check (file_asked file) cap) (canonical m names ∷ [])) before status ⊎ IsStopped status → IsNetworkDecided m cap status
        by_end (inl ended) = let said = check_said of_network cap before status ended in by_outcome cap status said.0 said.1 said.2
        by_end (inr stopped) = stopped_decides m cap status stopped

  -- a call of `run` with words that ask for a check of the network's document decides it
  pub told_decided : {S : Type 0} (release : Release) (words : List (List ℕ)) (shelf : Option (List ℕ → Option (List ℕ))) (seen : S → LiveState) (source now : S) (old new : Option (List ℕ)) (status : Status) →
      IsToldOfCall (request_of release words) shelf seen source now old new status →
      (m : Labelled) (names : List (List ℕ)) (file : List ℕ) (cap : ℕ) → IsNamedNetwork m names → AskCheck words file cap → HasDocument shelf file m names → IsNetworkDecided m cap status
  told_decided release words shelf seen source now old new status all m names file cap is asks has =
      by_request (subst (λ (w : Option Request). IsToldOfCall w shelf seen source now old new status) (asks_check numbers release words file cap asks) all)
    where
      by_request : IsToldOfCall (Some (check (file_asked file) cap)) shelf seen source now old new status → IsNetworkDecided m cap status
      by_request of_check =
          ends_decided m names is file has.short cap (seen source) (seen now) old new status
          (subst (λ (contents : List (List ℕ)). PlanEnds (plan_at (check (file_asked file) cap) contents) (seen source) (seen now) old new status)
          (of_check.are has.files has.told_is ∙ ap (λ (bytes : Option (List ℕ)). bytes_or_none bytes ∷ []) has.content) of_check.output)
