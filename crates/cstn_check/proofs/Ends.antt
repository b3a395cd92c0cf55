-- Where growth has come to its end.
use Rattle.std.proofs.Common.{ℕ, ◌≡◌, ◌+◌, ◌-◌, ◌≤◌, inl, inr, true, List, length, arith, sym, subst, ap, ◌∙◌}
use Rattle.std.proofs.lemmas.Bool.{cases_lt}
use Rattle.cstn_net.specs.Networks.{Network, IsNetwork, IsWellFormed, count}
use Rattle.cstn_rules.specs.Derivations.{Entry}
use Rattle.cstn_log.specs.Entries.{bases}
use Rattle.cstn_log.proofs.DerivedLemmas.{length_bases}
use Rattle.cstn_check.specs.Kept.{IsKeptList}
use Rattle.cstn_check.specs.Growth.{is_refuted, grown, grow, log_of, load_of, most_entries}
use Rattle.cstn_check.proofs.Decided.{HasLetters}
use Rattle.cstn_check.proofs.Lists.{Extends, extends_itself, length_upto}
use Rattle.cstn_check.proofs.Grows.{grown_extends, grown_idle}
use Rattle.cstn_check.proofs.Bounded.{bases_kept, grown_short}
use Rattle.cstn_check.proofs.Last.{refuted_stays}

module _ (net : Network) (wf : IsNetwork net) (letters : HasLetters net) (list : List Entry) (kept : IsKeptList net list) where
  pub all_turns : length (grow net list) ≤ length list + most_entries net
  all_turns = let s = grown_short net wf letters list (length list + most_entries net) kept in omega arith

  -- after further turns than growth takes, the list is the same
  grow_past : (n : ℕ) → length list + most_entries net ≤ n → grow net list ≡ grown net list n
  grow_past n past = sym (grown_idle net list (length list + most_entries net) n all_turns past)

  pub grow_at : (n : ℕ) → length (grown net list n) ≤ n → grow net list ≡ grown net list n
  grow_at n done = elim (cases_lt n (length list + most_entries net)) [
    | inl before ↦ grown_idle net list n (length list + most_entries net) done (omega arith)
    | inr past ↦ grow_past n past
  ]

  pub grow_at_refuted : (n : ℕ) → is_refuted net (grown net list n) ≡ true → grow net list ≡ grown net list n
  grow_at_refuted n over = elim (cases_lt n (length list + most_entries net)) [
    | inl before ↦
        let all = length list + most_entries net in
        let e : all - n + n ≡ all = omega arith in
        ap (grown net list) (sym e) ∙ refuted_stays net list n (all - n) over
    | inr past ↦ grow_past n past
  ]

  -- the grown list begins with the list after any number of turns
  pub grow_from : (n : ℕ) → Extends (grown net list n) (grow net list)
  grow_from n = elim (cases_lt n (length list + most_entries net)) [
    | inl before ↦ grown_extends net list n (length list + most_entries net) (omega arith)
    | inr past ↦ subst (λ l. Extends (grown net list n) l) (sym (grow_past n past)) (extends_itself (grown net list n))
  ]

  pub grow_after : (n : ℕ) → length (grow net list) ≤ n → grown net list n ≡ grow net list
  grow_after n long =
      let ext = length_upto (grown net list n) (grow net list) (grow_from n) in
      sym (grow_at n (omega arith))

pub log_after : (net : Network) (n : ℕ) → IsWellFormed net → load_of net ≤ n → grown net (bases (count net)) n ≡ log_of net
log_after net n good long =
    grow_after net good.network good.letters (bases (count net)) (bases_kept net good.network good.letters) n long

pub log_refuted : (net : Network) (n : ℕ) → IsWellFormed net → is_refuted net (grown net (bases (count net)) n) ≡ true →
    grown net (bases (count net)) n ≡ log_of net
log_refuted net n good over =
    sym (grow_at_refuted net good.network good.letters (bases (count net)) (bases_kept net good.network good.letters) n over)

pub log_goes_on : (net : Network) (n : ℕ) → IsWellFormed net → Extends (grown net (bases (count net)) n) (log_of net)
log_goes_on net n good =
    grow_from net good.network good.letters (bases (count net)) (bases_kept net good.network good.letters) n

-- the log has a base bound for each time-point
pub load_above : (net : Network) → IsWellFormed net → count net ≤ load_of net
load_above net good =
    let size = length_bases (count net) in
    let from = length_upto (bases (count net)) (log_of net) (log_goes_on net 0 good) in
    omega arith
