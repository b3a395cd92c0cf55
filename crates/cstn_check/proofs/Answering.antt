-- What a check's log says of its network.
use Rattle.std.proofs.Common.{ℕ, ◌≡◌, ◌<◌, ◌≤◌, inl, inr, true, [], ◌++◌, length, take, drop, arith, refl, sym, subst, ap, ◌∙◌}
use Rattle.std.specs.Prelude.{◌↔◌, nat_lt}
use Rattle.std.proofs.lemmas.Bool.{cases_Bool, ltb-true, ltb-false, cond-true, cond-false}
use Rattle.std.proofs.lemmas.List.{length-map, take-append-drop, append-nil}
use Rattle.cstn_net.specs.Networks.{Network, IsWellFormed, count}
use Rattle.cstn_rules.specs.Derivations.{IsDerivation}
use Rattle.cstn_rules.specs.Read.{the_entry}
use Rattle.cstn_log.specs.Entries.{State, the_entries, bases}
use Rattle.cstn_log.proofs.DerivedLemmas.{length_bases}
use Rattle.cstn_check.specs.Growth.{is_refuted, grow, log_of, load_of}
use Rattle.cstn_check.specs.Turns.{IsRefutedLast, LastRefutes, IsGrowable}
use Rattle.cstn_check.specs.Checks.{IsStarted, IsVerdict}
use Rattle.cstn_check.specs.declared.growth.Grown.{Grown}
use Rattle.cstn_check.specs.declared.growth.Grown.TheVariants.{Closed, Refuted, Full}
use Rattle.cstn_check.specs.declared.verdicts.Verdict.{Verdict}
use Rattle.cstn_check.specs.declared.verdicts.Verdict.TheVariants.{Yes, No, Full as FullVerdict}
use Rattle.cstn_check.proofs.Derives.{bases_derived}
use Rattle.cstn_check.proofs.Last.{bases_stand}
use Rattle.cstn_check.proofs.Decides.{log_last_refutes}
use Rattle.cstn_check.proofs.Ends.{load_above}

module _ (net : Network) (s : State) (good : IsWellFormed net) (started : IsStarted net s) where
  -- a log that is started and not empty has the base bounds
  pub has_bases : (length s.entries ≡ 0 → ⊥) → the_entries s.entries ≡ bases (count net)
  has_bases some = elim (cases_Bool (nat_lt s.cap (count net))) [
    | inl small ↦
        let none : the_entries s.entries ≡ [] = started.entries ∙ cond-true _ _ _ small in
        let long : length (the_entries s.entries) ≡ length s.entries = length-map s.entries the_entry in
        let zero_long = ap length none in
        absurd (some (omega arith))
    | inr large ↦ started.entries ∙ cond-false _ _ _ large
  ]

  pub has_room : (length s.entries ≡ 0 → ⊥) → count net ≤ s.cap
  has_room some = elim (cases_Bool (nat_lt s.cap (count net))) [
    | inl small ↦
        let none = ap length (started.entries ∙ cond-true _ _ _ small) in
        let long : length (the_entries s.entries) ≡ length s.entries = length-map s.entries the_entry in
        absurd (some (omega arith))
    | inr large ↦ ltb-false s.cap (count net) large
  ]

  -- and it can be grown
  pub start_growable : (length s.entries ≡ 0 → ⊥) → IsGrowable net s
  start_growable some =
      let has = has_bases some in
      let few = good.few_points in
      let born = started.births in
      record {
        nodes = started.nodes;
        derivation = subst (λ l. IsDerivation net l) (sym has) (bases_derived net good.network good.letters (count net) (omega arith));
        front = ([], append-nil (bases (count net)) ∙ sym has);
        last = subst (λ l. IsRefutedLast net l) (sym has) (bases_stand net);
        births = omega (arith, few, born);
      }

  -- where the log has no room for the base bounds, the log of the network has more entries than the cap
  pub no_room : length s.entries ≡ 0 → IsVerdict net s.cap (the_entries s.entries) FullVerdict
  no_room none =
      let long : length (the_entries s.entries) ≡ length s.entries = length-map s.entries the_entry in
      let size = length_bases (count net) in
      let least = load_above net good in
      elim (cases_Bool (nat_lt s.cap (count net))) [
        | inl small ↦
            let below = ltb-true s.cap (count net) small in (
              omega arith,
              record {
                rest = log_of net;
                is = ap (λ l. l ++ log_of net) (started.entries ∙ cond-true _ _ _ small);
              },
              λ few. started.entries ∙ cond-true _ _ _ small,
              λ room. absurd (omega (arith, below, room)),
            )
        | inr large ↦
            let all = ap length (started.entries ∙ cond-false _ _ _ large) in
            let origin = good.network.origin in
            absurd (omega arith)
      ]

-- where an entry of the log refutes, the last one does
pub log_refutes_last : (net : Network) → IsWellFormed net → is_refuted net (log_of net) ≡ true → LastRefutes net (log_of net)
log_refutes_last net good = log_last_refutes net good.network good.letters

pub verdict_from : (net : Network) (old new : State) (r : Grown) (v : Verdict) (load : ℕ) → IsWellFormed net →
    the_entries old.entries ≡ bases (count net) →
    (r ≡ Full ↔ (old.cap < length (grow net (the_entries old.entries)))) →
    (r ≡ Full → the_entries new.entries ≡ take old.cap (grow net (the_entries old.entries))) →
    ((r ≡ Full → ⊥) → the_entries new.entries ≡ grow net (the_entries old.entries)) →
    (r ≡ Refuted ↔ ((r ≡ Full → ⊥) × LastRefutes net (the_entries new.entries))) → load ≡ length new.entries →
    load ≤ old.cap → count net ≤ old.cap →
    (r ≡ Closed → v ≡ Yes load) → (r ≡ Refuted → v ≡ No load) → (r ≡ Full → v ≡ FullVerdict) →
    IsVerdict net old.cap (the_entries new.entries) v
verdict_from net old new Closed v load good base full cut whole refuted is short room y n f =
    let list = whole (λ e. cc) ∙ ap (grow net) base in
    let long : length (the_entries new.entries) ≡ length new.entries = length-map new.entries the_entry in
    let same : load ≡ load_of net = is ∙ sym long ∙ ap length list in
    subst (λ w. IsVerdict net old.cap (the_entries new.entries) w) (sym (y refl)) (
      same,
      omega arith,
      list,
      elim (cases_Bool (is_refuted net (log_of net))) [
        | inr stands ↦ stands
        | inl over ↦
            let last = subst (λ l. LastRefutes net l) (sym list) (log_refutes_last net good over) in
            let clash : Closed ≡ Refuted = refuted.1 ((λ e. cc), last) in
            cc
      ],
    )
verdict_from net old new Refuted v load good base full cut whole refuted is short room y n f =
    let list = whole (λ e. cc) ∙ ap (grow net) base in
    let long : length (the_entries new.entries) ≡ length new.entries = length-map new.entries the_entry in
    let same : load ≡ load_of net = is ∙ sym long ∙ ap length list in
    subst (λ w. IsVerdict net old.cap (the_entries new.entries) w) (sym (n refl))
    (same, omega arith, list, subst (λ l. LastRefutes net l) list (refuted.0 refl).1)
verdict_from net old new Full v load good base full cut whole refuted is short room y n f =
    let above = full.0 refl in
    let loads : length (grow net (the_entries old.entries)) ≡ load_of net = ap (λ l. length (grow net l)) base in
    subst (λ w. IsVerdict net old.cap (the_entries new.entries) w) (sym (f refl)) (
      omega arith,
      record {
        rest = drop old.cap (log_of net);
        is = ap (λ l. l ++ drop old.cap (log_of net)) (cut refl ∙ ap (λ l. take old.cap (grow net l)) base)
            ∙ take-append-drop old.cap (log_of net);
      },
      λ few. absurd (omega arith),
      λ fits. cut refl ∙ ap (λ l. take old.cap (grow net l)) base,
    )
