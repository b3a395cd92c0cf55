-- What the list that is grown from a kept one says of the network.
use Rattle.std.proofs.Common.{ℕ, ◌≡◌, ◌+◌, ◌<◌, ◌≤◌, inl, inr, Bool, true, false, ◌&&◌, List, [], ◌++◌, length, Some, arith, refl, sym, subst, ap, ◌∙◌}
use Rattle.std.specs.Prelude.{◌↔◌, nat_lt, if◌then◌else◌}
use Rattle.std.proofs.lemmas.Bool.{cases_Bool, cases_lt, lt-ltb, le-ltb, lt-leb, le-leb, ltb-true, ltb-false, cond-true, cond-false}
use Rattle.std.proofs.lemmas.List.{length-map, append-nil}
use Rattle.cstn_net.specs.Limits.{most_load}
use Rattle.cstn_net.specs.Networks.{Network, IsWellFormed, count}
use Rattle.cstn_net.specs.Strategies.{IsConsistent}
use Rattle.cstn_rules.specs.Derivations.{Entry, IsDerivation}
use Rattle.cstn_rules.specs.Read.{the_entry}
use Rattle.cstn_rules.proofs.Derived.{refuted_inconsistent}
use Rattle.cstn_log.specs.Entries.{State, the_entries, bases, first_entries, AllNew}
use Rattle.cstn_log.proofs.DerivedLemmas.{length_bases}
use Rattle.cstn_check.specs.Growth.{is_refuted, grow, log_of, load_of, most_entries}
use Rattle.cstn_check.specs.Turns.{IsRefutedLast, LastRefutes}
use Rattle.cstn_check.specs.declared.growth.Grown.{Grown}
use Rattle.cstn_check.specs.declared.growth.Grown.TheVariants.{Closed, Refuted, Full}
use Rattle.cstn_check.specs.declared.verdicts.Verdict.{Verdict}
use Rattle.cstn_check.specs.declared.verdicts.Verdict.TheVariants.{Yes, No, Full as FullVerdict}
use Rattle.cstn_rules.specs.declared.entries.Entry.{Entry as DeclaredEntry}
use Rattle.cstn_check.specs.Spent.{AreSpent}
use Rattle.cstn_check.proofs.SpentLemmas.{grown_spent}
use Rattle.cstn_check.proofs.Lists.{Extends, extends_through, length_upto}
use Rattle.cstn_check.proofs.Last.{last_refuted}
use Rattle.cstn_check.proofs.Starts.{GoesOn, bases_go_on, kept_from, apart_from}
use Rattle.cstn_check.proofs.Decides.{grown_derivation, grown_by_last, grown_last_refutes, grown_decides}
use Rattle.cstn_check.proofs.Grows.{grown_extends}
use Rattle.cstn_check.proofs.Ends.{grow_from, load_above}
use Rattle.cstn_edit.specs.declared.outcomes.Outcome.{Outcome}
use Rattle.cstn_edit.specs.Sessions.{IsKeptLog, Refuted as AfterNo, kept_list, kept_after, new_outcome, verdict_by}

pub first_bases : (net : Network) (cap : ℕ) → count net ≤ cap → first_entries net cap ≡ bases (count net)
first_bases net cap room = cond-false _ _ _ (le-ltb cap (count net) room)

-- a kept log is a list that growth can go on from
pub log_on : (net : Network) (s : State) → IsWellFormed net → IsKeptLog net s → AllNew s.entries → count net ≤ s.cap →
    GoesOn net (the_entries s.entries)
log_on net s good kept new room =
    let ext = kept.based room in
    record {
      kept = kept_from net good (the_entries s.entries) kept.derivation (record { more = ext.0; is = ext.1 }) (apart_from s.entries new);
      derivation = kept.derivation;
      last = kept.refuted;
    }

module _ (net : Network) (good : IsWellFormed net) (list : List Entry) (on : GoesOn net list) where
  -- the verdict by the answer of growth is the one that the grown list gives
  pub verdict_is : (new : List Entry) (r : Grown) (v : Verdict) (load : ℕ) → (r ≡ Full → ⊥) →
      new ≡ grow net list → (r ≡ Refuted ↔ ((r ≡ Full → ⊥) × LastRefutes net new)) → load ≡ length new →
      (r ≡ Closed → v ≡ Yes load) → (r ≡ Refuted → v ≡ No load) → v ≡ verdict_by net (grow net list)
  verdict_is new Closed v load not is refuted long y n =
      let stands : is_refuted net (grow net list) ≡ false = elim (cases_Bool (is_refuted net (grow net list))) [
        | inr no_e ↦ no_e
        | inl over ↦
            let clash : Closed ≡ Refuted = refuted.1 (not, subst (λ l. LastRefutes net l) (sym is) (grown_last_refutes net list good.network good.letters on over)) in
            cc
      ] in
      y refl ∙ ap (λ k. Yes k) (long ∙ ap length is) ∙ sym (cond-false _ _ _ stands)
  verdict_is new Refuted v load not is refuted long y n =
      let over = last_refuted net (grow net list) (subst (λ l. LastRefutes net l) is (refuted.0 refl).1) in
      n refl ∙ ap (λ k. No k) (long ∙ ap length is) ∙ sym (cond-true _ _ _ over)
  verdict_is new Full v load not is refuted long y n = absurd (not refl)

  -- after a no by the grown list its last entry refutes the network, and after a yes the network is consistent
  pub no_by : (load : ℕ) → verdict_by net (grow net list) ≡ No load → (load ≡ length (grow net list)) × LastRefutes net (grow net list)
  no_by load is = elim (cases_Bool (is_refuted net (grow net list))) [
    | inl over ↦
        let same : No (length (grow net list)) ≡ No load = sym (cond-true _ _ _ over) ∙ is in
        (cc, grown_last_refutes net list good.network good.letters on over)
    | inr stands ↦
        let same : Yes (length (grow net list)) ≡ No load = sym (cond-false _ _ _ stands) ∙ is in
        let clash : ⊥ = cc in absurd clash
  ]

  pub yes_by : (load : ℕ) → verdict_by net (grow net list) ≡ Yes load → IsConsistent net
  yes_by load is = elim (cases_Bool (is_refuted net (grow net list))) [
    | inl over ↦
        let same : No (length (grow net list)) ≡ Yes load = sym (cond-true _ _ _ over) ∙ is in
        let clash : ⊥ = cc in absurd clash
    | inr stands ↦ (grown_decides net list good.network good.letters on).1 stands
  ]

  -- after a yes nothing is left to do on the grown list
  pub yes_spent : (fresh : List ℕ) (load : ℕ) → verdict_by net (grow net list) ≡ Yes load → AreSpent net (grow net list) fresh (length (grow net list))
  yes_spent fresh load is = elim (cases_Bool (is_refuted net (grow net list))) [
    | inl over ↦
        let same : No (length (grow net list)) ≡ Yes load = sym (cond-true _ _ _ over) ∙ is in
        let clash : ⊥ = cc in absurd clash
    | inr stands ↦ grown_spent net list fresh good on.kept stands
  ]

-- so nothing is left to do on the entries of a log that has this list
pub spent_entries : (net : Network) (entries : List DeclaredEntry) (list : List Entry) (fresh : List ℕ) → the_entries entries ≡ list → AreSpent net list fresh (length list) → AreSpent net (the_entries entries) fresh (length entries)
spent_entries net entries list fresh is spent =
    subst (λ n. AreSpent net (the_entries entries) fresh n) (length-map entries the_entry) (subst (λ l. AreSpent net l fresh (length l)) (sym is) spent)

pub afresh_spent : (net : Network) (cap load : ℕ) (v : Verdict) → IsWellFormed net → v ≡ (if nat_lt cap (load_of net) then FullVerdict else verdict_by net (log_of net)) → v ≡ Yes load → AreSpent net (log_of net) [] (length (log_of net))
afresh_spent net cap load v good is yes' = elim (cases_Bool (nat_lt cap (load_of net))) [
  | inl above ↦
      let same : FullVerdict ≡ Yes load = sym (is ∙ cond-true _ _ _ above) ∙ yes' in
      let clash : ⊥ = cc in absurd clash
  | inr fits ↦ yes_spent net good (bases (count net)) (bases_go_on net good.network good.letters) [] load (sym (is ∙ cond-false _ _ _ fits) ∙ yes')
]

-- the outcome, from the answers of its two tests
pub outcome_when : (net : Network) (cap : ℕ) (kept : List Entry) (b d : Bool) → nat_lt cap (length (grow net kept)) ≡ b →
    nat_lt cap (load_of net) ≡ d →
    new_outcome net cap kept ≡ record { afresh = b; verdict = if b && d then FullVerdict else verdict_by net (kept_after net cap kept) }
outcome_when net cap kept b d one other =
    let of : Bool → Bool → Outcome = λ x y. record { afresh = x; verdict = if x && y then FullVerdict else verdict_by net (kept_after net cap kept) } in
    ap (λ x. of x (nat_lt cap (load_of net))) one ∙ ap (of b) other

-- the list after a verdict, where the kept list has room to grow, where the log has room, and where neither has
pub after_grown : (net : Network) (cap : ℕ) (kept : List Entry) → length (grow net kept) ≤ cap → kept_after net cap kept ≡ grow net kept
after_grown net cap kept room = cond-true _ _ _ (le-leb (length (grow net kept)) cap room)

pub after_log : (net : Network) (cap : ℕ) (kept : List Entry) → cap < length (grow net kept) → load_of net ≤ cap → kept_after net cap kept ≡ log_of net
after_log net cap kept long room =
    cond-false _ _ _ (lt-leb (length (grow net kept)) cap long) ∙ cond-true _ _ _ (le-leb (load_of net) cap room)

pub after_bases : (net : Network) (cap : ℕ) (kept : List Entry) → cap < length (grow net kept) → cap < load_of net → kept_after net cap kept ≡ bases (count net)
after_bases net cap kept long full =
    cond-false _ _ _ (lt-leb (length (grow net kept)) cap long) ∙ cond-false _ _ _ (lt-leb (load_of net) cap full)

-- a log whose entries are grown from a list that growth may go on from is a kept log
pub grown_log : (net : Network) (list : List Entry) (new : State) → IsWellFormed net → GoesOn net list →
    Extends (bases (count net)) list → the_entries new.entries ≡ grow net list → new.nodes ≡ count net → count net ≤ new.cap →
    1 ≤ new.cap → new.cap ≤ most_load → IsKeptLog net new
grown_log net list new good on begins is nodes room some most =
    let all = extends_through (bases (count net)) list (grow net list) begins (grow_from net good.network good.letters list on.kept 0) in
    record {
      nodes = nodes;
      derivation = subst (λ l. IsDerivation net l) (sym is) (grown_derivation net list good.network good.letters on);
      based = λ h. (all.more, all.is ∙ sym is);
      empty = λ few. absurd (omega arith);
      refuted = subst (λ l. IsRefutedLast net l) (sym is) (grown_by_last net list good.network good.letters on);
      some = some;
      most = most;
    }

-- a log of the base bounds is a kept log
pub bases_log : (net : Network) (new : State) → IsWellFormed net → the_entries new.entries ≡ bases (count net) → new.nodes ≡ count net →
    count net ≤ new.cap → 1 ≤ new.cap → new.cap ≤ most_load → IsKeptLog net new
bases_log net new good is nodes room some most =
    let on = bases_go_on net good.network good.letters in
    record {
      nodes = nodes;
      derivation = subst (λ l. IsDerivation net l) (sym is) on.derivation;
      based = λ h. ([], append-nil (bases (count net)) ∙ sym is);
      empty = λ few. absurd (omega arith);
      refuted = subst (λ l. IsRefutedLast net l) (sym is) on.last;
      some = some;
      most = most;
    }

-- the verdict of growth from the base bounds
pub afresh_verdict : (net : Network) (cap : ℕ) (old new : List Entry) (r : Grown) (v : Verdict) (load : ℕ) → IsWellFormed net →
    old ≡ bases (count net) → (r ≡ Full ↔ (cap < length (grow net old))) → ((r ≡ Full → ⊥) → new ≡ grow net old) →
    (r ≡ Refuted ↔ ((r ≡ Full → ⊥) × LastRefutes net new)) → ((r ≡ Full → ⊥) → load ≡ length new) →
    (r ≡ Closed → v ≡ Yes load) → (r ≡ Refuted → v ≡ No load) → (r ≡ Full → v ≡ FullVerdict) →
    v ≡ (if nat_lt cap (load_of net) then FullVerdict else verdict_by net (log_of net))
afresh_verdict net cap old new r v load good start full whole refuted long y n f =
    let same : length (grow net old) ≡ load_of net = ap (λ l. length (grow net l)) start in
    elim (cases_Bool (nat_lt cap (load_of net))) [
      | inl t ↦
          let above = ltb-true cap (load_of net) t in
          f (full.1 (omega arith)) ∙ sym (cond-true _ _ _ t)
      | inr u ↦
          let upto = ltb-false cap (load_of net) u in
          let not : r ≡ Full → ⊥ = λ e. (let above = full.0 e in omega arith) in
          verdict_is net good (bases (count net)) (bases_go_on net good.network good.letters) new r v load not
          (whole not ∙ ap (grow net) start) refuted (long not) y n
          ∙ sym (cond-false _ _ _ u)
    ]

-- after a yes by growth from the base bounds the network is consistent
pub afresh_yes : (net : Network) (cap load : ℕ) (v : Verdict) → IsWellFormed net →
    v ≡ (if nat_lt cap (load_of net) then FullVerdict else verdict_by net (log_of net)) → v ≡ Yes load → IsConsistent net
afresh_yes net cap load v good is said = elim (cases_Bool (nat_lt cap (load_of net))) [
  | inl t ↦
      let clash : Yes load ≡ FullVerdict = sym said ∙ is ∙ cond-true _ _ _ t in
      let f : ⊥ = cc in absurd f
  | inr u ↦ yes_by net good (bases (count net)) (bases_go_on net good.network good.letters) load (sym (cond-false _ _ _ u) ∙ sym is ∙ said)
]

-- where a log has no room for the base bounds, these are the kept list, also after a verdict, and the verdict is full
module _ (net : Network) (cap : ℕ) (good : IsWellFormed net) (small : cap < count net) where
  cap_below_load : cap < load_of net
  cap_below_load = let above = load_above net good in omega arith

  pub small_kept : (entries : List Entry) → kept_list net cap entries ≡ bases (count net)
  small_kept entries = cond-true _ _ _ (lt-ltb cap (count net) small)

  pub small_outcome : (entries : List Entry) → record { afresh = true; verdict = FullVerdict } ≡ new_outcome net cap (kept_list net cap entries)
  small_outcome entries =
      let test = lt-ltb cap (load_of net) cap_below_load in
      sym (ap (new_outcome net cap) (small_kept entries) ∙ outcome_when net cap (bases (count net)) true true test test)

  pub small_after : (entries : List Entry) → kept_list net cap entries ≡ kept_after net cap (kept_list net cap entries)
  small_after entries =
      small_kept entries ∙ sym (ap (kept_after net cap) (small_kept entries)
      ∙ after_bases net cap (bases (count net)) cap_below_load cap_below_load)

-- a log that has no entry has no room for the base bounds
pub small_where_empty : (net : Network) (s : State) → IsWellFormed net → IsKeptLog net s → length s.entries ≡ 0 → s.cap < count net
small_where_empty net s good kept none = elim (cases_lt s.cap (count net)) [
  | inl small ↦ small
  | inr room ↦
      let based = kept.based room in
      let long : length (the_entries s.entries) ≡ length s.entries = length-map s.entries the_entry in
      let size = length_bases (count net) in
      let from = length_upto (bases (count net)) (the_entries s.entries) (record { more = based.0; is = based.1 }) in
      let origin = good.network.origin in
      absurd (omega arith)
]

pub room_where_not : (net : Network) (s : State) → IsKeptLog net s → (length s.entries ≡ 0 → ⊥) → count net ≤ s.cap
room_where_not net s kept some = elim (cases_lt s.cap (count net)) [
  | inl small ↦
      let none = ap length (kept.empty small) in
      let long : length (the_entries s.entries) ≡ length s.entries = length-map s.entries the_entry in
      absurd (some (omega arith))
  | inr room ↦ omega arith
]

pub room_kept : (net : Network) (cap : ℕ) (entries : List Entry) → count net ≤ cap → kept_list net cap entries ≡ entries
room_kept net cap entries room = cond-false _ _ _ (le-ltb cap (count net) room)

-- the outcome where the kept list has room to grow
pub grown_outcome : (net : Network) (cap : ℕ) (entries : List Entry) (v : Verdict) → count net ≤ cap → length (grow net entries) ≤ cap →
    v ≡ verdict_by net (grow net entries) → record { afresh = false; verdict = v } ≡ new_outcome net cap (kept_list net cap entries)
grown_outcome net cap entries v room short is =
    let by : Verdict → Outcome = λ x. record { afresh = false; verdict = x } in
    ap by (is ∙ ap (verdict_by net) (sym (after_grown net cap entries short)))
    ∙ sym (ap (new_outcome net cap) (room_kept net cap entries room)
    ∙ outcome_when net cap entries false (nat_lt cap (load_of net)) (le-ltb cap (length (grow net entries)) short) refl)

-- after a no the network is not consistent
pub no_true : (net : Network) (s : State) (o : Outcome) (load : ℕ) → IsWellFormed net → IsKeptLog net s → AfterNo net s (Some o) →
    o.verdict ≡ No load → IsConsistent net → ⊥
no_true net s o load good kept after said c =
    let l = (after load said).1 in
    refuted_inconsistent net (the_entries s.entries) good.network
    (record { derivation = kept.derivation; last = l.last; is_last = l.is_last; refutes = l.refutes }) c

-- where the kept list wasn't thrown away for a verdict, it is a front of the one after it
pub prefix_of : (net : Network) (cap : ℕ) (kept after : List Entry) (o : Outcome) → o ≡ new_outcome net cap kept →
    after ≡ kept_after net cap kept → o.afresh ≡ false → (more : List Entry) × (kept ++ more ≡ after)
prefix_of net cap kept after o is list not =
    let test : nat_lt cap (length (grow net kept)) ≡ false = sym (ap (λ (x : Outcome). x.afresh) is) ∙ not in
    let room = ltb-false cap (length (grow net kept)) test in
    let ext = grown_extends net kept 0 (length kept + most_entries net) (omega arith) in
    (ext.more, ext.is ∙ sym (list ∙ after_grown net cap kept room))
