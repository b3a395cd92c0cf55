-- What growth came to, in the terms of its list.
use Rattle.std.proofs.Common.{ℕ, ◌≡◌, ◌+◌, ◌-◌, ◌<◌, ◌≤◌, Bool, true, false, List, [], ◌∷◌, ◌++◌, length, take, Some, arith, refl, sym, subst, ap, ◌∙◌, length-append}
use Rattle.std.specs.Prelude.{slice_get, ◌↔◌}
use Rattle.std.proofs.lemmas.Bool.{false≢true}
use Rattle.std.proofs.lemmas.List.{length-map}
use Rattle.std.proofs.Math.Seq.{take-append_seam}
use Rattle.cstn_label.specs.Read.{the_bound}
use Rattle.cstn_net.specs.Limits.{most_load}
use Rattle.cstn_net.specs.Networks.{Network, IsWellFormed}
use Rattle.cstn_rules.specs.declared.entries.Entry.{Entry as DeclaredEntry}
use Rattle.cstn_rules.specs.Rules.{Refutes}
use Rattle.cstn_rules.specs.Derivations.{Entry, IsDerivation}
use Rattle.cstn_rules.specs.Read.{the_entry}
use Rattle.cstn_log.specs.Entries.{State, the_entries}
use Rattle.cstn_check.specs.Growth.{is_refuted, grow, most_entries}
use Rattle.cstn_check.specs.Kept.{IsKeptList}
use Rattle.cstn_check.specs.Turns.{IsOpen, HasBecome, IsCutShort, IsLongerLog, IsGrowable, IsOutcome, IsGrown, IsRefutedLast, LastRefutes}
use Rattle.cstn_check.specs.declared.growth.Grown.{Grown}
use Rattle.cstn_check.specs.declared.growth.Grown.TheVariants.{Closed, Refuted, Full}
use Rattle.cstn_check.proofs.Decided.{refutes_true}
use Rattle.cstn_check.proofs.Derives.{grown_derived}
use Rattle.cstn_check.proofs.Last.{refuted_from_last, last_refuted}
use Rattle.cstn_check.proofs.Decides.{refuted_by_last, unrefuted, grown_refuted_last}
use Rattle.cstn_check.proofs.Reading.{entries_small}
use Rattle.cstn_check.proofs.TurnLemmas.{longer_itself}
use Rattle.cstn_check.proofs.Ends.{grow_at_refuted}
use Rattle.cstn_log.proofs.StepLemmas.{entry_read}

-- a list whose last entry refutes doesn't grow
pub refuted_itself : (net : Network) (s : State) (k : ℕ) (e : DeclaredEntry) → IsWellFormed net → IsKeptList net (the_entries s.entries) →
    length s.entries ≤ s.cap → slice_get s.entries k ≡ Some e → Refutes net (the_bound e.bound) →
    HasBecome net s s (grow net (the_entries s.entries)) true
refuted_itself net s k e good kept short there refutes =
    let L = the_entries s.entries in
    let over = refuted_from_last net L k (the_entry e) (entry_read s.entries k e there) (refutes_true net (the_bound e.bound) refutes) in
    let same = grow_at_refuted net good.network good.letters L kept 0 over in
    record { entries = sym same; refuted_is = sym (ap (is_refuted net) same ∙ over); longer = longer_itself s short }

-- a log in which no entry but perhaps the last refutes, and the last doesn't, is open
pub open_from : (net : Network) (s : State) (e : DeclaredEntry) → IsGrowable net s → IsKeptList net (the_entries s.entries) →
    length s.entries ≤ s.cap → s.cap ≤ most_load → slice_get s.entries (length s.entries - 1) ≡ Some e →
    ¬ Refutes net (the_bound e.bound) → IsOpen net s
open_from net s e growable kept short few there not =
    let L = the_entries s.entries in
    let most = growable.births in
    let long : length L ≡ length s.entries = length-map s.entries the_entry in
    record {
      nodes = growable.nodes;
      derivation = growable.derivation;
      kept = kept;
      unrefuted = unrefuted net L (the_entry e) (entries_small s.entries) growable.last
          (subst (λ n. slice_get L (n - 1) ≡ Some (the_entry e)) (sym long) (entry_read s.entries (length s.entries - 1) e there)) not;
      short = short;
      births = omega arith;
    }

-- an empty log is open
pub open_empty : (net : Network) (s : State) → IsGrowable net s → IsKeptList net (the_entries s.entries) → s.cap ≤ most_load → length s.entries ≡ 0 → IsOpen net s
open_empty net s growable kept few none = record {
  nodes = growable.nodes;
  derivation = growable.derivation;
  kept = kept;
  unrefuted = none_refutes s.entries none;
  short = omega (arith, none);
  births = let most = growable.births in omega (arith, most, few, none);
}
  where
    none_refutes : (entries : List DeclaredEntry) → length entries ≡ 0 → is_refuted net (the_entries entries) ≡ false
    none_refutes [] is = refl
    none_refutes (e ∷ entries) is = absurd (omega (arith, is))

module _ (net : Network) (old new : State) where
  longer_of : (r : Grown) → IsOutcome net old new r → IsLongerLog old new
  longer_of Closed o = (o.closed refl).longer
  longer_of Refuted o = (o.refuted refl).longer
  longer_of Full o = (o.full refl).longer

  entries_long : length (the_entries new.entries) ≡ length new.entries
  entries_long = length-map new.entries the_entry

  taken_short : (list : List Entry) (r : Bool) → HasBecome net old new list r → length list ≤ old.cap
  taken_short list r t =
      let long = entries_long in
      let same = ap length t.entries in
      let short = t.longer.short in
      omega arith

  cut_long : (list : List Entry) → IsCutShort old new list → old.cap < length list
  cut_long list k =
      let long = entries_long in
      let full = k.full in
      let is = ap length k.front.is in
      let sum = length-append (the_entries new.entries) (k.front.next ∷ k.front.rest) in
      omega arith

  cut_take : (list : List Entry) → IsCutShort old new list → the_entries new.entries ≡ take old.cap list
  cut_take list k =
      let long : length (the_entries new.entries) ≡ old.cap = entries_long ∙ k.full in
      sym (ap (take old.cap) (sym k.front.is)
      ∙ ap (λ n. take n (the_entries new.entries ++ k.front.next ∷ k.front.rest)) (sym long)
      ∙ take-append_seam (the_entries new.entries) (k.front.next ∷ k.front.rest))

  full_is : (r : Grown) → IsOutcome net old new r → (r ≡ Full ↔ (old.cap < length (grow net (the_entries old.entries))))
  full_is Closed o = (λ e. cc, λ more. let s = taken_short (grow net (the_entries old.entries)) false (o.closed refl) in absurd (omega arith))
  full_is Refuted o = (λ e. cc, λ more. let s = taken_short (grow net (the_entries old.entries)) true (o.refuted refl) in absurd (omega arith))
  full_is Full o = (λ e. cut_long (grow net (the_entries old.entries)) (o.full refl), λ more. refl)

  cut_is : (r : Grown) → IsOutcome net old new r → r ≡ Full → the_entries new.entries ≡ take old.cap (grow net (the_entries old.entries))
  cut_is r o e = cut_take (grow net (the_entries old.entries)) (o.full e)

  grown_is : (r : Grown) → IsOutcome net old new r → (r ≡ Full → ⊥) → the_entries new.entries ≡ grow net (the_entries old.entries)
  grown_is Closed o not = (o.closed refl).entries
  grown_is Refuted o not = (o.refuted refl).entries
  grown_is Full o not = absurd (not refl)

  refutes_last : IsRefutedLast net (the_entries old.entries) → HasBecome net old new (grow net (the_entries old.entries)) true →
      LastRefutes net (the_entries new.entries)
  refutes_last last t =
      refuted_by_last net (the_entries new.entries) (entries_small new.entries)
      (subst (λ l. IsRefutedLast net l) (sym t.entries)
      (grown_refuted_last net (the_entries old.entries) (length (the_entries old.entries) + most_entries net) (entries_small old.entries) last))
      (ap (is_refuted net) t.entries ∙ sym t.refuted_is)

  stands : HasBecome net old new (grow net (the_entries old.entries)) false → LastRefutes net (the_entries new.entries) → ⊥
  stands t l =
      false≢true (t.refuted_is ∙ ap (is_refuted net) (sym t.entries) ∙ last_refuted net (the_entries new.entries) l)

  refuted_is : (r : Grown) → IsRefutedLast net (the_entries old.entries) → IsOutcome net old new r →
      (r ≡ Refuted ↔ ((r ≡ Full → ⊥) × LastRefutes net (the_entries new.entries)))
  refuted_is Closed last o = (λ e. cc, λ p. absurd (stands (o.closed refl) p.1))
  refuted_is Refuted last o = (λ e. (λ f. cc, refutes_last last (o.refuted refl)), λ p. refl)
  refuted_is Full last o = (λ e. cc, λ p. absurd (p.0 refl))

  births_most : (r : Grown) → IsOutcome net old new r → new.births ≤ old.births + old.cap
  births_most r o =
      let l = longer_of r o in
      let births = l.births in
      let short = l.short in
      omega arith

-- the first entries of a derivation are a derivation
abbrev pub FirstDerive : Type 0
FirstDerive = (net : Network) (steps more : List Entry) → IsDerivation net (steps ++ more) → IsDerivation net steps

-- after growth, however it ended, the list of the log is a derivation
derived_after : FirstDerive → (net : Network) (old new : State) (r : Grown) → IsWellFormed net → IsDerivation net (the_entries old.entries) →
    IsKeptList net (the_entries old.entries) → IsOutcome net old new r → IsDerivation net (the_entries new.entries)
derived_after first net old new r good derivation kept o = by_answer r o
  where
    whole : IsDerivation net (grow net (the_entries old.entries))
    whole = grown_derived net good.network good.letters (the_entries old.entries)
        (length (the_entries old.entries) + most_entries net) kept.good derivation

    by_answer : (r : Grown) → IsOutcome net old new r → IsDerivation net (the_entries new.entries)
    by_answer Closed o = subst (λ l. IsDerivation net l) (sym (o.closed refl).entries) whole
    by_answer Refuted o = subst (λ l. IsDerivation net l) (sym (o.refuted refl).entries) whole
    by_answer Full o =
        let f = (o.full refl).front in
        first net (the_entries new.entries) (f.next ∷ f.rest) (subst (λ l. IsDerivation net l) (sym f.is) whole)

-- and it is what the answer says
pub is_grown : FirstDerive → (net : Network) (old new : State) (r : Grown) → IsWellFormed net → IsGrowable net old →
    IsKeptList net (the_entries old.entries) → IsOutcome net old new r → IsGrown net old new r
is_grown first net old new r good growable kept o =
    let longer = longer_of net old new r o in
    record {
      full = full_is net old new r o;
      cut = cut_is net old new r o;
      whole = grown_is net old new r o;
      refuted = refuted_is net old new r growable.last o;
      derivation = derived_after first net old new r good growable.derivation kept o;
      ids = longer.ids;
      births = births_most net old new r o;
      cap = longer.cap;
      nodes = longer.nodes;
    }
