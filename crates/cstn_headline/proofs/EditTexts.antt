-- What an edit session says after no is accepted by a replay on the network as edited.
use Rattle.std.proofs.Common.{◌≡◌, ℕ, ◌+◌, ◌-◌, ◌≤◌, ◌<◌, ◌^◌, Bool, true, false, List, [], ◌∷◌, length, get_or, Some, refl, sym, ap, subst, arith}
use Rattle.std.specs.Prelude.{nat_le, Result, Ok, Err, if◌then◌else◌, pos, ◌≤ℤ◌, slice_get, Option, None}
use Rattle.std.specs.List.{All}
use Rattle.std.proofs.lemmas.Int.{ints}
use Rattle.std.proofs.lemmas.Bool.{leb-false}
use Rattle.std.proofs.lemmas.List.Elements.{All-contains}
use Rattle.std.proofs.lemmas.Option.{slice_get_within, slice_get-get_or}
use Rattle.cstn_label.specs.Bounds.{Bound}
use Rattle.cstn_net.specs.Limits.{most_load, most_edits, most_constraints}
use Rattle.cstn_net.specs.Networks.{Network, Constraint, IsWellFormed, IsOnObserved, count, limit}
use Rattle.cstn_rules.specs.declared.entries.Why.{Why}
use Rattle.cstn_rules.specs.declared.entries.Why.TheVariants.{Base, Chain, Wait}
use Rattle.cstn_rules.specs.Derivations.{Entry, Follows, IsRefutation}
use Rattle.cstn_log.specs.Cuts.{last_with_ancestors, last_marked, with_ancestors}
use Rattle.cstn_log.proofs.CutLemmas.{comes}
use Rattle.cstn_log.proofs.MarkLemmas.{part_refutation}
use Rattle.cstn_check.specs.Kept.{IsKeptList}
use Rattle.cstn_check.proofs.GoodLemmas.{good_at}
use Rattle.cstn_check.proofs.PartLemmas.{part_short}
use Rattle.cstn_text.specs.Names.{AreNames}
use Rattle.cstn_refute.specs.Texts.{RefutationTold, tells, refutation_told, refutation_shown}
use Rattle.cstn_refute.specs.Written.{ArePlaces, IsPrintableStep, AreStepsWritten}
use Rattle.cstn_lines.specs.EditLines.{Edit, added, removed, changed, asked, edit_read}
use Rattle.cstn_replay.specs.Texts.{IsReplayOfSteps, IsReplayOf}
use Rattle.cstn_headline.specs.Accepted.{IsAcceptance, IsNoText, HasIds}
use Rattle.cstn_change.specs.Changes.{EditedNetwork, Change, adds, removes, revalues, ChangeRefusal, EditLimit, unedited, refusal, edited_by, if_accepted}
use Rattle.cstn_change.specs.ChangeLines.{addition, after_change, after_edit, after_lines}
use Rattle.cstn_change.proofs.IdLemmas.{above_small, one_id}
use Rattle.cstn_net.proofs.Kept.{limit_in_time}
use Rattle.cstn_headline.proofs.Lengths.{steps_text_short}
use Rattle.cstn_headline.proofs.ReadBack.{letters_alone, short_accepted, replay_accepted, StepsBack}

-- ---- ids stay numbers of 32 bits

-- where a first test refuses nothing, it doesn't pass
no_limit : (edits : ℕ) (o : Option ChangeRefusal) → (if nat_le most_edits edits then Some EditLimit else o) ≡ None → edits < most_edits
no_limit edits o none = leb-false most_edits edits (by_test (nat_le most_edits edits) none)
  where
    by_test : (b : Bool) → (if b then Some EditLimit else o) ≡ None → b ≡ false
    by_test true is = absurd (cc)
    by_test false is = refl

-- there were few edits, and each of them took one id at most
record TookFew (e : EditedNetwork) : Type 0 where
  few : e.edits ≤ most_edits
  small : e.fresh ≤ 2 ^ 31 + e.edits

-- this stays so after a change, which is accepted only where fewer than 1,000,000 were accepted before
below_limit : (e : EditedNetwork) (change : Change) → refusal most_constraints e change ≡ None → e.edits < most_edits
below_limit e (adds from to most a) none = no_limit e.edits _ none
below_limit e (removes id) none = no_limit e.edits _ none
below_limit e (revalues id most) none = no_limit e.edits _ none

one_took : (e : EditedNetwork) (change : Change) → TookFew e → TookFew (after_change e (Ok change))
one_took e change took = by_why (refusal most_constraints e change) refl
  where
    by_why : (why : Option ChangeRefusal) → refusal most_constraints e change ≡ why → TookFew (if_accepted why (edited_by e change) e)
    by_why None is =
        let below = below_limit e change is in
        let one = one_id e.fresh change in
        record { few = omega (arith, below); small = omega (arith, took.small, one) }
    by_why (Some why) is = took

change_took : (e : EditedNetwork) (r : Result Change ChangeRefusal) → TookFew e → TookFew (after_change e r)
change_took e (Ok change) took = one_took e change took
change_took e (Err why) took = took

edit_took : (names : List (List ℕ)) (e : EditedNetwork) (o : Option Edit) → TookFew e → TookFew (after_edit names e o)
edit_took names e None took = took
edit_took names e (Some (added from to most a)) took = change_took e (addition names from to most a) took
edit_took names e (Some (removed id)) took = one_took e (removes id) took
edit_took names e (Some (changed id most)) took = one_took e (revalues id most) took
edit_took names e (Some asked) took = took

lines_took : (names : List (List ℕ)) (e : EditedNetwork) (lines : List (List ℕ)) → TookFew e → TookFew (after_lines names e lines)
lines_took names e [] took = took
lines_took names e (first ∷ lines) took = lines_took names (after_edit names e (edit_read first)) lines (edit_took names e (edit_read first) took)

-- after any lines, the id of the next constraint is at most 2 ^ 32
pub next_small : (names : List (List ℕ)) (net : Network) (lines : List (List ℕ)) → All (λ (c : Constraint). c.id < 2 ^ 31) net.constraints → (after_lines names (unedited net) lines).fresh ≤ 2 ^ 32
next_small names net lines small =
    let begins : TookFew (unedited net) = record { few = omega arith; small = let s = above_small (2 ^ 31) net.constraints small in omega (arith, s) } in
    let took = lines_took names (unedited net) lines begins in
    let few = took.few in
    let next = took.small in
    omega (arith, few, next)

-- ---- the text of a kept list that refutes

module _ (names : List (List ℕ)) (net : Network) (good : IsWellFormed net) (named : length names ≡ count net) (ids : HasIds net)
    (list : List Entry) (kept : IsKeptList net list) (few : length list ≤ most_load) (refutation : IsRefutation net list) where
  places_small : (steps : List Entry) (k : ℕ) (why : Why) (r : Bound) → k < 2 ^ 32 → Follows net steps k why r → ArePlaces why
  places_small steps k Base r below follows = tt
  places_small steps k (Chain id i) r below follows =
      let c : Constraint = follows.0 in
      let its : c.id < 2 ^ 32 = All-contains (λ (c : Constraint). c.id < 2 ^ 32) net.constraints c ids follows.2 in
      let before = follows.4.before in
      (subst (λ (n : ℕ). n < 2 ^ 32) follows.3 its, omega (arith, before, below))
  places_small steps k (Wait i j) r below follows =
      let one = follows.3.before in
      let other = follows.4.before in
      (omega (arith, one, below), omega (arith, other, below))

  step_written : (k : ℕ) (e : Entry) → slice_get (last_with_ancestors list) k ≡ Some e → IsPrintableStep names e
  step_written k e there =
      let from = comes (with_ancestors list (length list) (last_marked (length list))) list k e there in
      let same : from.1.bound ≡ e.bound = sym (ap (λ (x : Entry). x.bound) from.5) in
      let its = good_at net list from.0 from.1 kept.good from.2 in
      let node : e.bound.node < count net = subst (λ (b : Bound). b.node < count net) same its.node in
      let observed : IsOnObserved net e.bound.label = subst (λ (b : Bound). IsOnObserved net b.label) same its.observed in
      let range = kept.ranged from.0 from.1 from.2 in
      let low : pos 0 ≤ℤ e.bound.least = subst (λ (b : Bound). pos 0 ≤ℤ b.least) same range.low in
      let high : e.bound.least ≤ℤ pos (limit net e.bound.node + 1) = subst (λ (b : Bound). b.least ≤ℤ pos (limit net b.node + 1)) same range.high in
      let most = limit_in_time net good e.bound.node in
      let inside = slice_get_within (last_with_ancestors list) k e there in
      let short = part_short list in
      record {
        node = omega (arith, node, named);
        low = low;
        high = omega (arith, ints, most, high);
        marks = letters_alone net e.bound.label good observed;
        places = places_small (last_with_ancestors list) k e.why e.bound (omega (arith, inside, short, few)) ((part_refutation net list refutation).derivation k e there);
      }

  steps_written : AreStepsWritten names (length list) (last_with_ancestors list)
  steps_written =
      let steps = part_refutation net list refutation in
      let inside = slice_get_within (last_with_ancestors list) (length (last_with_ancestors list) - 1) steps.last steps.is_last in
      let whole = slice_get_within list (length list - 1) refutation.last refutation.is_last in
      let short = part_short list in
      record {
        load_low = omega (arith, whole);
        load_high = few;
        some = omega (arith, inside);
        few = omega (arith, short, few);
        each = λ k d within. step_written k (get_or (last_with_ancestors list) k d) (slice_get-get_or (last_with_ancestors list) k d within);
      }

  pub kept_text : StepsBack → AreNames names → IsNoText names net (refutation_shown names (length list) (last_with_ancestors list))
  kept_text back are =
      let text = refutation_shown names (length list) (last_with_ancestors list) in
      let says : refutation_told names text ≡ tells (length list) (last_with_ancestors list) = back names (length list) (last_with_ancestors list) are steps_written in
      short_accepted (IsReplayOf names text net) text (steps_text_short names (length list) (last_with_ancestors list) are steps_written)
      (subst (λ (t : RefutationTold). IsAcceptance (IsReplayOfSteps t net)) (sym says) (replay_accepted net (last_with_ancestors list) (part_refutation net list refutation)))
