-- What is written of a network is accepted when it is handed in again.
use Rattle.std.proofs.Common.{◌≡◌, ◌≢◌, ℕ, ◌+◌, ◌-◌, ◌≤◌, ◌<◌, ◌^◌, List, Some, length, get_or, refl, sym, ap, subst, inl, inr, arith}
use Rattle.std.specs.Prelude.{codes, pos, ◌≤ℤ◌, slice_get}
use Rattle.std.specs.List.{Contains}
use Rattle.std.proofs.lemmas.Int.{ints}
use Rattle.std.proofs.lemmas.List.Elements.{All-contains, Contains-get_or}
use Rattle.std.proofs.lemmas.Option.{slice_get_within, slice_get-get_or}
use Rattle.cstn_label.specs.declared.marks.Mark.{Mark}
use Rattle.cstn_label.specs.declared.marks.Mark.TheVariants.{Absent, Yes, No, Unknown}
use Rattle.cstn_label.specs.Bounds.{Bound}
use Rattle.cstn_label.specs.Labels.{Label}
use Rattle.cstn_net.specs.Limits.{most_load}
use Rattle.cstn_net.specs.Networks.{Network, Constraint, IsWellFormed, IsOnObserved, count, limit}
use Rattle.cstn_net.specs.Strategies.{IsConsistent}
use Rattle.cstn_text.specs.Limits.{most_text}
use Rattle.cstn_rules.specs.Closed.{IsClosed}
use Rattle.cstn_rules.specs.declared.entries.Why.{Why}
use Rattle.cstn_rules.specs.declared.entries.Why.TheVariants.{Base, Chain, Wait}
use Rattle.cstn_rules.specs.Derivations.{Entry, Follows, IsRefutation}
use Rattle.cstn_log.specs.Cuts.{last_with_ancestors, last_marked, with_ancestors}
use Rattle.cstn_log.proofs.CutLemmas.{comes}
use Rattle.cstn_check.specs.Growth.{log_of, load_of, live_bounds}
use Rattle.cstn_check.proofs.Bounded.{log_kept}
use Rattle.cstn_check.proofs.Decides.{log_closed, log_decides}
use Rattle.cstn_check.proofs.Ends.{load_above}
use Rattle.cstn_check.proofs.GoodLemmas.{good_at}
use Rattle.cstn_check.proofs.InRange.{live_in_range}
use Rattle.cstn_check.proofs.PartLemmas.{part_short}
use Rattle.cstn_text.specs.Names.{AreNames}
use Rattle.cstn_refute.specs.Texts.{RefutationTold as ToldSteps, tells as tells_steps, refutation_told as told_steps, refutation_shown as shown_steps}
use Rattle.cstn_refute.specs.Written.{ArePlaces, IsPrintableStep as IsWrittenStep, AreStepsWritten as AreWrittenSteps}
use Rattle.cstn_closed.specs.Faults.{IsFaultless}
use Rattle.cstn_closed.specs.Texts.{ClosedTold as ToldBounds, tells as tells_bounds, closed_told as told_bounds, closed_shown as shown_bounds}
use Rattle.cstn_closed.specs.Written.{IsPrintableBound as IsWrittenBound, AreBoundsWritten as AreWrittenBounds}
use Rattle.cstn_replay.specs.Texts.{IsReplay, IsReplayOfSteps, IsReplayOf}
use Rattle.cstn_closed.specs.Certificates.{IsCertificate, IsCertificateOfBounds, IsCertificateOf}
use Rattle.cstn_reply.specs.Texts.{Said, say}
use Rattle.cstn_top.specs.Answers.{IsByText}
use Rattle.cstn_headline.specs.Accepted.{IsAcceptance, IsYesText, IsNoText, HasIds}
use Rattle.cstn_reply.specs.declared.output.Outcome.TheVariants.{Good}
use Rattle.cstn_tight.proofs.ClosedLemmas.{live_short, some_live}
use Rattle.cstn_net.proofs.Kept.{limit_in_time}
use Rattle.cstn_headline.proofs.Lengths.{bounds_text_short, steps_text_short}
use Rattle.cstn_headline.proofs.LogTexts.{listed_faultless, refuted_by_log, no_refutation}

absent : (m : Mark) → (m ≢ Absent → ⊥) → m ≡ Absent
absent Absent never = refl
absent Yes never = absurd (never (λ e. cc))
absent No never = absurd (never (λ e. cc))
absent Unknown never = absurd (never (λ e. cc))

-- a label that marks observed propositions alone marks none above the letters
pub letters_alone : (net : Network) (a : Label) → IsWellFormed net → IsOnObserved net a → (p : ℕ) → 52 ≤ p → a p ≡ Absent
letters_alone net a good on p above = absent (a p) (λ named. let seen = on p named in let below = good.letters seen.0 p seen.1 in omega (arith, above, below))

some_load : (net : Network) → IsWellFormed net → 1 ≤ load_of net
some_load net good = omega (arith, load_above net good, good.network.origin)

-- the bounds of a yes can be written
module _ (names : List (List ℕ)) (net : Network) (good : IsWellFormed net) (named : length names ≡ count net) (few : load_of net ≤ most_load) where
  bound_written : IsClosed net (live_bounds (log_of net)) → (b : Bound) → Contains (live_bounds (log_of net)) b → IsWrittenBound names b
  bound_written closed b has =
      let is = live_in_range net good b has in
      let most = limit_in_time net good b.node in
      let node = is.node in
      let low = is.low in
      let high = is.high in
      record { node = omega (arith, node, named); low = low; high = omega (arith, ints, most, high); marks = letters_alone net b.label good (closed.observed b has) }

  bounds_written : IsClosed net (live_bounds (log_of net)) → AreWrittenBounds names (load_of net) (live_bounds (log_of net))
  bounds_written closed = record {
    load_low = some_load net good;
    load_high = few;
    some = some_live (log_of net) (some_load net good);
    few = let short = live_short (log_of net) in omega (arith, short, few);
    each = λ k d inside. bound_written closed (get_or (live_bounds (log_of net)) k d) (Contains-get_or (live_bounds (log_of net)) k d inside);
  }

  -- the steps of a no can be written
  places_small : HasIds net → (steps : List Entry) (k : ℕ) (why : Why) (r : Bound) → k < 2 ^ 32 → Follows net steps k why r → ArePlaces why
  places_small ids steps k Base r below follows = tt
  places_small ids steps k (Chain id i) r below follows =
      let c : Constraint = follows.0 in
      let its : c.id < 2 ^ 32 = All-contains (λ (c : Constraint). c.id < 2 ^ 32) net.constraints c ids follows.2 in
      let before = follows.4.before in
      (subst (λ (n : ℕ). n < 2 ^ 32) follows.3 its, omega (arith, before, below))
  places_small ids steps k (Wait i j) r below follows =
      let one = follows.3.before in
      let other = follows.4.before in
      (omega (arith, one, below), omega (arith, other, below))

  step_written : HasIds net → IsRefutation net (last_with_ancestors (log_of net)) → (k : ℕ) (e : Entry) → slice_get (last_with_ancestors (log_of net)) k ≡ Some e → IsWrittenStep names e
  step_written ids refutation k e there =
      let list = log_of net in
      let kept = log_kept net good.network good.letters in
      let from = comes (with_ancestors list (length list) (last_marked (length list))) list k e there in
      let same : from.1.bound ≡ e.bound = sym (ap (λ (x : Entry). x.bound) from.5) in
      let its = good_at net list from.0 from.1 kept.good from.2 in
      let node : e.bound.node < count net = subst (λ (b : Bound). b.node < count net) same its.node in
      let observed : IsOnObserved net e.bound.label = subst (λ (b : Bound). IsOnObserved net b.label) same its.observed in
      let range = kept.ranged from.0 from.1 from.2 in
      let low : pos 0 ≤ℤ e.bound.least = subst (λ (b : Bound). pos 0 ≤ℤ b.least) same range.low in
      let high : e.bound.least ≤ℤ pos (limit net e.bound.node + 1) = subst (λ (b : Bound). b.least ≤ℤ pos (limit net b.node + 1)) same range.high in
      let most = limit_in_time net good e.bound.node in
      let inside = slice_get_within (last_with_ancestors list) k e there in
      let short = part_short list in
      record {
        node = omega (arith, node, named);
        low = low;
        high = omega (arith, ints, most, high);
        marks = letters_alone net e.bound.label good observed;
        places = places_small ids (last_with_ancestors list) k e.why e.bound (omega (arith, inside, short, few)) (refutation.derivation k e there);
      }

  steps_written : HasIds net → IsRefutation net (last_with_ancestors (log_of net)) → AreWrittenSteps names (load_of net) (last_with_ancestors (log_of net))
  steps_written ids refutation =
      let steps = last_with_ancestors (log_of net) in
      let inside = slice_get_within steps (length steps - 1) refutation.last refutation.is_last in
      let short = part_short (log_of net) in
      record {
        load_low = some_load net good;
        load_high = few;
        some = omega (arith, inside);
        few = omega (arith, short, few);
        each = λ k d within. step_written ids refutation k (get_or steps k d) (slice_get-get_or steps k d within);
      }

-- what is accepted of a text that is short enough is accepted by it
pub short_accepted : (speaks : Said → Type 0) (text : List ℕ) → length text ≤ most_text → IsAcceptance speaks → IsAcceptance (IsByText speaks text)
short_accepted speaks text short accepted said = (only, λ same. inr (short, (accepted said).1 same))
  where
    only : IsByText speaks text said → said ≡ say Good (codes "accepted")
    only (inl long) = absurd (let above = long.0 in omega (arith, above, short))
    only (inr is) = (accepted said).0 is.1

certificate_accepted : (names : List (List ℕ)) (net : Network) (bounds : List Bound) → IsFaultless net bounds → IsClosed net bounds → IsAcceptance (IsCertificate names bounds net)
certificate_accepted names net bounds faultless closed said = (only, λ same. inl (faultless, closed, same))
  where
    only : IsCertificate names bounds net said → said ≡ say Good (codes "accepted")
    only (inl found) = found.2
    only (inr found) = absurd (faultless found.0 found.1.fault)

pub replay_accepted : (net : Network) (steps : List Entry) → IsRefutation net steps → IsAcceptance (IsReplay steps net)
replay_accepted net steps refutation said = (only, λ same. inl (refutation, same))
  where
    only : IsReplay steps net said → said ≡ say Good (codes "accepted")
    only (inl found) = found.1
    only (inr found) = absurd (no_refutation net steps found.0 found.1 refutation)

-- the laws of texts that are needed here
abbrev pub BoundsBack : Type 0
BoundsBack = (names : List (List ℕ)) (load : ℕ) (bounds : List Bound) → AreNames names → AreWrittenBounds names load bounds → told_bounds names (shown_bounds names load bounds) ≡ tells_bounds load bounds

abbrev pub StepsBack : Type 0
StepsBack = (names : List (List ℕ)) (load : ℕ) (steps : List Entry) → AreNames names → AreWrittenSteps names load steps → told_steps names (shown_steps names load steps) ≡ tells_steps load steps

-- the text of a yes is accepted
pub yes_text : BoundsBack → (names : List (List ℕ)) (net : Network) → IsWellFormed net → AreNames names → length names ≡ count net → load_of net ≤ most_load → IsConsistent net → IsYesText names net (shown_bounds names (load_of net) (live_bounds (log_of net)))
yes_text back names net good are named few consistent =
    let bounds = live_bounds (log_of net) in
    let text = shown_bounds names (load_of net) bounds in
    let closed : IsClosed net bounds = log_closed net good.network good.letters ((log_decides net good.network good.letters).0 consistent) in
    let written : AreWrittenBounds names (load_of net) bounds = bounds_written names net good named few closed in
    let told : told_bounds names text ≡ tells_bounds (load_of net) bounds = back names (load_of net) bounds are written in
    short_accepted (IsCertificateOf names text net) text (bounds_text_short names (load_of net) bounds are written)
    (subst (λ (t : ToldBounds). IsAcceptance (IsCertificateOfBounds names t net)) (sym told) (certificate_accepted names net bounds (listed_faultless net good consistent) closed))

-- and so is the text of a no
pub no_text : StepsBack → (names : List (List ℕ)) (net : Network) → IsWellFormed net → AreNames names → length names ≡ count net → HasIds net → load_of net ≤ most_load → (IsConsistent net → ⊥) → IsNoText names net (shown_steps names (load_of net) (last_with_ancestors (log_of net)))
no_text back names net good are named ids few never =
    let steps = last_with_ancestors (log_of net) in
    let text = shown_steps names (load_of net) steps in
    let refutation : IsRefutation net steps = refuted_by_log net good never in
    let written : AreWrittenSteps names (load_of net) steps = steps_written names net good named few ids refutation in
    let told : told_steps names text ≡ tells_steps (load_of net) steps = back names (load_of net) steps are written in
    short_accepted (IsReplayOf names text net) text (steps_text_short names (load_of net) steps are written)
    (subst (λ (t : ToldSteps). IsAcceptance (IsReplayOfSteps t net)) (sym told) (replay_accepted net steps refutation))
