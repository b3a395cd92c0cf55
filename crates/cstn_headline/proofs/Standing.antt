-- The text of each answer stands for it.
use Rattle.std.proofs.Common.{◌≡◌, ℕ, ◌-◌, ◌≤◌, ◌<◌, ◌^◌, Bool, true, false, Some, List, [], length, refl, inl, inr, arith}
use Rattle.std.specs.Prelude.{◌⊎◌, nat_eq, if◌then◌else◌}
use Rattle.std.proofs.lemmas.List.Elements.{All-filter}
use Rattle.cstn_net.specs.Limits.{most_load}
use Rattle.cstn_net.specs.Networks.{Network, Constraint, IsWellFormed, count}
use Rattle.cstn_net.specs.Strategies.{IsConsistent}
use Rattle.cstn_text.specs.Names.{AreNames}
use Rattle.cstn_check.specs.Growth.{log_of, load_of, live_bounds}
use Rattle.cstn_log.specs.Cuts.{last_with_ancestors}
use Rattle.cstn_refute.specs.Texts.{refutation_shown as shown_steps}
use Rattle.cstn_closed.specs.Texts.{closed_shown as shown_bounds}
use Rattle.cstn_check.specs.Givers.{is_of, with_ids}
use Rattle.cstn_check.specs.Needs.{said as said_by_check}
use Rattle.cstn_check.proofs.Fewer.{some_well_formed}
use Rattle.cstn_check.proofs.Said.{said_is, said_no}
use Rattle.cstn_conflict.specs.Conflicts.{conflict_set}
use Rattle.cstn_conflict.proofs.ConflictLemmas.{inconsistent, needed, no_with}
use Rattle.cstn_tight.specs.Deadlines.{at_deadline, least_deadline}
use Rattle.cstn_tight.proofs.LeastLemmas.{IsRefuted, IsFound, found}
use Rattle.cstn_headline.proofs.EvidenceLemmas.{at_well}
use Rattle.cstn_headline.specs.Accepted.{IsYesText, IsNoText, HasIds}
use Rattle.cstn_headline.specs.commands.Tight.{IsTightText}
use Rattle.cstn_headline.specs.commands.Conflict.{IsConflictText}
use Rattle.cstn_check.specs.Decisions.{IsNo}
use Rattle.cstn_conflict.specs.Texts.{blame_text}
use Rattle.cstn_tight.specs.Texts.{refuted_text, tight_text}
use Rattle.cstn_top.proofs.Documents.{IsOfDocument}

zero_of : (n : ℕ) → nat_eq n 0 ≡ true → n ≡ 0
zero_of n is = grind arith

not_zero : (n : ℕ) → n ≡ 0 → nat_eq n 0 ≡ false → ⊥
not_zero n none is = grind arith

-- the laws of texts that are needed here
abbrev pub YesAccepted : Type 0
YesAccepted = (names : List (List ℕ)) (net : Network) → IsWellFormed net → AreNames names → length names ≡ count net → load_of net ≤ most_load → IsConsistent net → IsYesText names net (shown_bounds names (load_of net) (live_bounds (log_of net)))

abbrev pub NoAccepted : Type 0
NoAccepted = (names : List (List ℕ)) (net : Network) → IsWellFormed net → AreNames names → length names ≡ count net → HasIds net → load_of net ≤ most_load → (IsConsistent net → ⊥) → IsNoText names net (shown_steps names (load_of net) (last_with_ancestors (log_of net)))

module _ (yes_text : YesAccepted) (no_text : NoAccepted) where
  -- what is said of a least deadline stands for it
  pub tight_stands : (cap : ℕ) (names : List (List ℕ)) (net : Network) → IsOfDocument names net → cap ≤ most_load → load_of net ≤ cap → IsConsistent net →
      IsTightText names net (tight_text names net (least_deadline net))
  tight_stands cap names net is capped within consistent =
      let h : ℕ = least_deadline net in
      let found' : IsFound cap net h = found net good consistent cap within in
      record {
        deadline = h;
        at = shown_bounds names (load_of (at_deadline net h)) (live_bounds (log_of (at_deadline net h)));
        below = if nat_eq h 0 then [] else refuted_text names (at_deadline net (h - 1));
        parts = refl;
        least = found'.least;
        yes_at = yes_text names (at_deadline net h) (at_well net h good found'.upto) is.are is.named (omega (arith, found'.within, capped)) found'.least.consistent;
        no_below = below h found'.upto found'.below (nat_eq h 0) refl;
      }
    where
      good : IsWellFormed net
      good = is.good

      below : (h : ℕ) → h ≤ net.deadline → (h ≡ 0) ⊎ IsRefuted cap net (h - 1) → (first : Bool) → nat_eq h 0 ≡ first →
          ((h ≡ 0) × ((if first then [] else refuted_text names (at_deadline net (h - 1))) ≡ [])) ⊎ IsNoText names (at_deadline net (h - 1)) (if first then [] else refuted_text names (at_deadline net (h - 1)))
      below h upto why true same = inl (zero_of h same, refl)
      below h upto (inl none) false same = absurd (not_zero h none same)
      below h upto (inr refuted) false same =
          inr (no_text names (at_deadline net (h - 1)) (at_well net (h - 1) good (omega (arith, upto))) is.are is.named is.ids (omega (arith, refuted.within, capped)) refuted.never)

  -- what is said of a conflict set stands for it
  pub conflict_stands : (cap : ℕ) (names : List (List ℕ)) (net : Network) (ids : List ℕ) → IsOfDocument names net → cap ≤ most_load → IsNo cap net → conflict_set cap net ≡ Some ids → IsConflictText names net (blame_text names net ids)
  conflict_stands cap names net ids is capped no' some =
      let no : said_by_check cap net ≡ Some false = said_no cap net is.good no'.1 no'.0 in
      let short : load_of (with_ids net ids) ≤ cap = (said_is cap (with_ids net ids) false (no_with cap net ids some no)).1 in
      record {
        ids = ids;
        steps = refuted_text names (with_ids net ids);
        parts = refl;
        no_with = no_text names (with_ids net ids) (some_well_formed net (λ (c : Constraint). is_of ids c.id) is.good) is.are is.named
            (All-filter (λ (c : Constraint). is_of ids c.id) (λ (c : Constraint). c.id < 2 ^ 32) net.constraints is.ids) (omega (arith, short, capped))
            (inconsistent cap net ids some is.good no'.0);
        needed = needed cap net ids some is.good;
      }
