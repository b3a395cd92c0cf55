-- The greatest least value in the log of a consistent network is its least deadline.
use Rattle.std.proofs.Common.{ℕ, zero, suc, ◌≡◌, ◌<◌, ◌≤◌, ◌+◌, ◌-◌, true, inl, inr, List, [], ◌∷◌, Some, length, take, arith, refl, sym, subst, ap, ◌∙◌}
use Rattle.std.specs.Prelude.{◌↔◌, ℤ, pos, negsuc, ◌≤ℤ◌, ◌<ℤ◌, slice_get}
use Rattle.std.proofs.lemmas.Int.{ints, by_lt_z}
use Rattle.std.proofs.lemmas.Bool.{cases_eq, cases_lt, both_ways}
use Rattle.std.proofs.lemmas.List.{length-map}
use Rattle.std.proofs.lemmas.Option.{slice_get_within, same_Some}
use Rattle.cstn_facts.proofs.Integers.{int_lt-false, le-int_lt, lt-int_lt}
use Rattle.cstn_net.specs.Networks.{Network, IsWellFormed, limit}
use Rattle.cstn_net.specs.Strategies.{IsConsistent}
use Rattle.cstn_rules.specs.declared.entries.Entry.{Entry as DeclaredEntry}
use Rattle.cstn_rules.specs.Derivations.{Entry}
use Rattle.cstn_rules.specs.Read.{the_entry}
use Rattle.cstn_log.specs.Entries.{the_entries}
use Rattle.cstn_check.specs.Growth.{log_of, load_of}
use Rattle.cstn_check.specs.Deadlines.{is_late, past_limit}
use Rattle.cstn_check.proofs.Bounded.{log_kept}
use Rattle.cstn_check.proofs.Ends.{load_above}
use Rattle.cstn_check.proofs.DeadlineLemmas.{AllEarly, early_from, none_at, none_late, log_upto, late_decides, upto_early_list, upto_front}
use Rattle.cstn_tight.specs.Deadlines.{at_deadline, IsLeastDeadline}
use Rattle.cstn_tight.specs.Greatest.{IsGreatest, IsFirstGreatest}
use Rattle.cstn_tight.proofs.LeastLemmas.{one_least}
use Rattle.cstn_net.proofs.Kept.{limit_upto}
use Rattle.cstn_log.proofs.StepLemmas.{entry_read}

entry_there : (L : List Entry) (k : ℕ) → k < length L → (e : Entry) × (slice_get L k ≡ Some e)
entry_there [] k inside = absurd (omega arith)
entry_there (x ∷ xs) zero inside = (x, refl)
entry_there (x ∷ xs) (suc k) inside = entry_there xs k (omega arith)

-- the first of the greatest, of one more entry
first_start : (L : List Entry) (e : Entry) → slice_get L 0 ≡ Some e → IsFirstGreatest L 1 0
first_start L e there = record {
  entry = e;
  there = there;
  upto = λ k f here at_k.
      let zero_is : k ≡ 0 = omega arith in
      let same : f ≡ e = same_Some f e (sym at_k ∙ ap (slice_get L) zero_is ∙ there) in
      subst (λ (x : Entry). x.bound.least ≤ℤ e.bound.least) (sym same) (omega (arith, ints));
  first = λ k f here at_k. absurd (omega arith);
}

first_here : (L : List Entry) (n place : ℕ) (e : Entry) (f : IsFirstGreatest L n place) → slice_get L n ≡ Some e → place < n →
    f.entry.bound.least <ℤ e.bound.least → IsFirstGreatest L (n + 1) n
first_here L n place e f there inside more = record {
  entry = e;
  there = there;
  upto = λ k x here at_k. elim (cases_lt k n) [
    | inl before ↦ let u = f.upto k x before at_k in omega (arith, ints)
    | inr last ↦
        let is : k ≡ n = omega arith in
        let same : x ≡ e = same_Some x e (sym at_k ∙ ap (slice_get L) is ∙ there) in
        subst (λ (y : Entry). y.bound.least ≤ℤ e.bound.least) (sym same) (omega (arith, ints))
  ];
  first = λ k x before at_k. let u = f.upto k x before at_k in omega (arith, ints);
}

first_stays : (L : List Entry) (n place : ℕ) (e : Entry) (f : IsFirstGreatest L n place) → slice_get L n ≡ Some e →
    e.bound.least ≤ℤ f.entry.bound.least → IsFirstGreatest L (n + 1) place
first_stays L n place e f there less = record {
  entry = f.entry;
  there = f.there;
  upto = λ k x here at_k. elim (cases_lt k n) [
    | inl before ↦ f.upto k x before at_k
    | inr last ↦
        let is : k ≡ n = omega arith in
        let same : x ≡ e = same_Some x e (sym at_k ∙ ap (slice_get L) is ∙ there) in
        subst (λ (y : Entry). y.bound.least ≤ℤ f.entry.bound.least) (sym same) less
  ];
  first = f.first;
}

pub first_one : (L : List DeclaredEntry) → 0 < length L → IsFirstGreatest (the_entries L) 1 0
first_one L some = let e = entry_there (the_entries L) 0 (let long = length-map L the_entry in omega arith) in first_start (the_entries L) e.0 e.1

pub first_next : (L : List DeclaredEntry) (n place : ℕ) (p e : DeclaredEntry) → IsFirstGreatest (the_entries L) n place →
    slice_get L place ≡ Some p → slice_get L n ≡ Some e → place < n →
    (p.bound.least <ℤ e.bound.least → IsFirstGreatest (the_entries L) (n + 1) n) × (e.bound.least ≤ℤ p.bound.least → IsFirstGreatest (the_entries L) (n + 1) place)
first_next L n place p e f at_place at_n inside =
    let there = entry_read L n e at_n in
    let same : f.entry ≡ the_entry p = same_Some f.entry (the_entry p) (sym f.there ∙ entry_read L place p at_place) in
    let least : f.entry.bound.least ≡ p.bound.least = ap (λ (x : Entry). x.bound.least) same in (
      λ more. first_here (the_entries L) n place (the_entry e) f there inside (let z = least in omega (arith, ints)),
      λ less. first_stays (the_entries L) n place (the_entry e) f there (let z = least in omega (arith, ints)),
    )

pub greatest_of : (L : List Entry) (place least : ℕ) (f : IsFirstGreatest L (length L) place) → f.entry.bound.least ≡ pos least → IsGreatest L least
greatest_of L place least f is = record {
  place = place;
  entry = f.entry;
  there = f.there;
  is = is;
  upto = λ k e there. let u = f.upto k e (slice_get_within L k e there) there in let z = is in omega (arith, ints);
}

module _ (net : Network) (good : IsWellFormed net) (consistent : IsConsistent net) where
  -- no entry is later than its time-point's limit
  on_time : (k : ℕ) (e : Entry) → slice_get (log_of net) k ≡ Some e → e.bound.least ≤ℤ pos (limit net e.bound.node)
  on_time k e there =
      let none = (late_decides net net.deadline good (omega arith)).0 consistent in
      int_lt-false (pos (limit net e.bound.node)) e.bound.least (none_at net (log_of net) k e none there)

  module _ (least : ℕ) (g : IsGreatest (log_of net) least) where
    pub greatest_upto : least ≤ net.deadline
    greatest_upto =
        let u = on_time g.place g.entry g.there in
        let d = limit_upto net g.entry.bound.node in
        let is = g.is in
        omega (arith, ints)

    -- no entry is late at the greatest value
    all_early : AllEarly (at_deadline net least) (log_of net)
    all_early = early_from (at_deadline net least) (log_of net)
        (λ k e there. le-int_lt (pos (limit (at_deadline net least) e.bound.node)) e.bound.least
        (early e.bound.node e.bound.least (on_time k e there) (g.upto k e there)))
      where
        early : (x : ℕ) (z : ℤ) → z ≤ℤ pos (limit net x) → z ≤ℤ pos least → z ≤ℤ pos (limit (at_deadline net least) x)
        early zero z u v = u
        early (suc x) z u v = v

    pub greatest_same : log_of (at_deadline net least) ≡ log_of net
    greatest_same = log_upto net least good greatest_upto ∙ upto_early_list (at_deadline net least) (log_of net) all_early

    pub greatest_consistent : IsConsistent (at_deadline net least)
    greatest_consistent = (late_decides net least good greatest_upto).1 (none_late (at_deadline net least) (log_of net) all_early)

    -- the greatest entry isn't at the origin, unless its value is 0, and it is late at one tick less
    past_origin : (x : ℕ) → least ≤ limit net x → 0 < least → limit (at_deadline net (least - 1)) x ≡ least - 1
    past_origin zero upto some = absurd (omega arith)
    past_origin (suc x) upto some = refl

    late_before : (e : Entry) (k : ℕ) → slice_get (log_of net) k ≡ Some e → e.bound.least ≡ pos least → 0 < least → is_late (at_deadline net (least - 1)) e.bound ≡ true
    late_before e k there is some =
        let u = on_time k e there in
        let z = is in
        let l = past_origin e.bound.node (omega (arith, ints)) some in
        lt-int_lt (pos (limit (at_deadline net (least - 1)) e.bound.node)) e.bound.least (omega (arith, ints))

    pub greatest_refuted : 0 < least → IsConsistent (at_deadline net (least - 1)) → ⊥
    greatest_refuted some c =
        let upto = greatest_upto in
        let none = (late_decides net (least - 1) good (omega arith)).0 c in
        both_ways (is_late (at_deadline net (least - 1)) g.entry.bound) (none_at (at_deadline net (least - 1)) (log_of net) g.place g.entry none g.there)
        (late_before g.entry g.place g.there g.is some)

    pub greatest_least : IsLeastDeadline net least
    greatest_least = record {
      consistent = greatest_consistent;
      least = elim (cases_eq least 0) [
        | inl none ↦ inl none
        | inr some ↦ inr (greatest_refuted (omega arith))
      ];
    }

    -- one tick below, the log is what comes up to the first entry with the greatest value
    pub front_before : (place : ℕ) (f : IsFirstGreatest (log_of net) (load_of net) place) → f.entry.bound.least ≡ pos least → 0 < least →
        log_of (at_deadline net (least - 1)) ≡ take (place + 1) (log_of net)
    front_before place f is some =
        let upto = greatest_upto in
        let low = at_deadline net (least - 1) in
        let u = on_time place f.entry f.there in
        let z = is in
        let l = past_origin f.entry.bound.node (omega (arith, ints)) some in
        let next : limit low f.entry.bound.node + 1 ≡ least = omega arith in
        let cut : past_limit low f.entry ≡ f.entry = ap (λ (n : ℤ). of_least f.entry n) (ap (λ n. pos n) next ∙ sym is) in
        log_upto net (least - 1) good (omega arith)
        ∙ upto_front low (log_of net) place f.entry f.there (late_before f.entry place f.there is some) cut
        (λ k e before there. le-int_lt (pos (limit low e.bound.node)) e.bound.least
        (below e.bound.node e.bound.least (on_time k e there) (let b = f.first k e before there in omega (arith, ints))))
        ∙ ap (λ n. take n (log_of net)) (let e : suc place ≡ place + 1 = omega arith in e)
      where
        of_least : Entry → ℤ → Entry
        of_least e n = record { bound = record { node = e.bound.node; least = n; label = e.bound.label }; why = e.why }

        below : (x : ℕ) (z : ℤ) → z ≤ℤ pos (limit net x) → z <ℤ pos least → z ≤ℤ pos (limit (at_deadline net (least - 1)) x)
        below zero z u v = u
        below (suc x) z u v = omega (arith, ints)

-- a list that isn't empty has a first greatest entry among its first n
some_greatest : (L : List Entry) (n : ℕ) → 1 ≤ n → n ≤ length L → (place : ℕ) × ((place < n) × IsFirstGreatest L n place)
some_greatest L zero some upto = absurd (omega arith)
some_greatest L (suc zero) some upto = let e = entry_there L 0 (omega arith) in (0, (omega arith, first_start L e.0 e.1))
some_greatest L (suc (suc n)) some upto =
    let r = some_greatest L (suc n) (omega arith) (omega arith) in
    let e = entry_there L (suc n) (omega arith) in
    let next : suc n + 1 ≡ suc (suc n) = omega arith in
    let inside = r.1.0 in
    by_lt_z r.1.1.entry.bound.least e.0.bound.least
    (λ more. (suc n, (omega arith, subst (λ k. IsFirstGreatest L k (suc n)) next (first_here L (suc n) r.0 e.0 r.1.1 e.1 inside more))))
    (λ less. (r.0, (omega arith, subst (λ k. IsFirstGreatest L k r.0) next (first_stays L (suc n) r.0 e.0 r.1.1 e.1 less))))

pub least_greatest : (net : Network) (h : ℕ) → IsWellFormed net → IsConsistent net → IsLeastDeadline net h ↔ IsGreatest (log_of net) h
least_greatest net h good consistent = (
  λ least.
      let above = load_above net good in
      let origin = good.network.origin in
      let p = some_greatest (log_of net) (load_of net) (omega arith) (omega arith) in
      let kept = log_kept net good.network good.letters in
      let m = moment (p.1.1.entry.bound.least) (kept.ranged p.0 p.1.1.entry p.1.1.there).low in
      let g = greatest_of (log_of net) p.0 m.0 p.1.1 m.1 in
      subst (IsGreatest (log_of net)) (one_least net m.0 h (greatest_least net good consistent m.0 g) least) g,
  λ g. greatest_least net good consistent h g,
)
  where
    moment : (z : ℤ) → pos 0 ≤ℤ z → (n : ℕ) × (z ≡ pos n)
    moment (pos n) low = (n, refl)
    moment (negsuc n) low = absurd (omega (arith, ints))
