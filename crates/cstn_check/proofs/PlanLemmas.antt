-- The bounds of the live entries, one after the other.
use Rattle.std.proofs.Common.{ℕ, zero, suc, ◌≡◌, ◌+◌, ◌<◌, ◌≤◌, Bool, true, false, not, List, [], ◌∷◌, ◌++◌, length, drop, map, Some, arith, refl, sym, subst, ap, ◌∙◌, append_assoc, length-append}
use Rattle.std.specs.Prelude.{slice_get}
use Rattle.std.proofs.lemmas.Bool.{not-true, cond-true, cond-false}
use Rattle.std.proofs.lemmas.List.{length-map, map-append, append-nil, drop_all}
use Rattle.std.proofs.lemmas.Option.{slice_get_within}
use Rattle.cstn_label.specs.declared.bounds.Bound.{Bound as DeclaredBound}
use Rattle.cstn_label.specs.Read.{the_bound}
use Rattle.cstn_rules.specs.declared.entries.Entry.{Entry as DeclaredEntry}
use Rattle.cstn_rules.specs.Derivations.{Entry}
use Rattle.cstn_rules.specs.Read.{the_entry}
use Rattle.cstn_log.specs.Entries.{the_entries, IsLive}
use Rattle.cstn_check.specs.Growth.{is_covered, is_live, live_bounds}
use Rattle.cstn_check.proofs.Reading.{live_true, dead_false}
use Rattle.cstn_log.proofs.StepLemmas.{entry_read}

-- of a live entry the bound is listed before those of the later ones
pub live_listed_next : (L : List Entry) (k : ℕ) (e : Entry) → slice_get L k ≡ Some e → is_live L k ≡ true →
    live_bounds (drop k L) ≡ e.bound ∷ live_bounds (drop (suc k) L)
live_listed_next [] k e there live = let f : ⊥ = cc in absurd f
live_listed_next (x ∷ xs) zero e there live =
    let same : x ≡ e = cc in
    cond-false (is_covered xs x.bound) (live_bounds xs) (x.bound ∷ live_bounds xs) (not-true (is_covered xs x.bound) live)
    ∙ ap (λ (y : Entry). y.bound ∷ live_bounds xs) same
live_listed_next (x ∷ xs) (suc k) e there live = live_listed_next xs k e there live

-- the bound of a dead entry isn't listed
pub dead_left_out : (L : List Entry) (k : ℕ) → k < length L → is_live L k ≡ false →
    live_bounds (drop k L) ≡ live_bounds (drop (suc k) L)
dead_left_out [] k inside dead = absurd (omega arith)
dead_left_out (x ∷ xs) zero inside dead =
    cond-true (is_covered xs x.bound) (live_bounds xs) (x.bound ∷ live_bounds xs) (not_false (is_covered xs x.bound) dead)
  where
    not_false : (b : Bool) → not b ≡ false → b ≡ true
    not_false b h = grind arith
dead_left_out (x ∷ xs) (suc k) inside dead = dead_left_out xs k (omega arith) dead

-- the bounds, with those of the live entries from the place k on, are those of all live entries of the list
pub record IsListedUpto (bounds : List DeclaredBound) (L : List Entry) (k : ℕ) : Type 0 where
  pub all : map the_bound bounds ++ live_bounds (drop k L) ≡ live_bounds L
  pub short : length bounds ≤ k

pub listed_from_none : (L : List Entry) → IsListedUpto [] L 0
listed_from_none L = record { all = refl; short = omega arith }

listed_next : (bounds : List DeclaredBound) (L : List Entry) (k : ℕ) → IsListedUpto bounds L (suc k) → IsListedUpto bounds L (k + 1)
listed_next bounds L k upto = let e : suc k ≡ k + 1 = omega arith in subst (λ n. IsListedUpto bounds L n) e upto

pub listed_with : (entries : List DeclaredEntry) (bounds more : List DeclaredBound) (k : ℕ) (e : DeclaredEntry) →
    slice_get entries k ≡ Some e → IsLive entries k → more ≡ bounds ++ e.bound ∷ [] → IsListedUpto bounds (the_entries entries) k →
    IsListedUpto more (the_entries entries) (k + 1)
listed_with entries bounds more k e there live pushed upto =
    let L = the_entries entries in
    let rest = live_bounds (drop (suc k) L) in
    let inside = slice_get_within entries k e there in
    let here = live_listed_next L k (the_entry e) (entry_read entries k e there) (live_true entries k inside live) in
    listed_next more L k (record {
      all = ap (λ l. map the_bound l ++ rest) pushed
          ∙ ap (λ l. l ++ rest) (map-append the_bound bounds (e.bound ∷ []))
          ∙ append_assoc (map the_bound bounds) (the_bound e.bound ∷ []) rest
          ∙ ap (λ l. map the_bound bounds ++ l) (sym here) ∙ upto.all;
      short = let size = ap length pushed in let long = length-append bounds (e.bound ∷ []) in let few = upto.short in omega arith;
    })

pub listed_without : (entries : List DeclaredEntry) (bounds more : List DeclaredBound) (k : ℕ) → k < length entries → ¬ IsLive entries k →
    more ≡ bounds → IsListedUpto bounds (the_entries entries) k → IsListedUpto more (the_entries entries) (k + 1)
listed_without entries bounds more k inside dead same upto =
    let L = the_entries entries in
    let long : length L ≡ length entries = length-map entries the_entry in
    listed_next more L k (record {
      all = ap (λ l. map the_bound l ++ live_bounds (drop (suc k) L)) same
          ∙ ap (λ l. map the_bound bounds ++ l) (sym (dead_left_out L k (omega arith) (dead_false entries k dead))) ∙ upto.all;
      short = let size = ap length same in let few = upto.short in omega arith;
    })

pub listed_all : (bounds : List DeclaredBound) (L : List Entry) (k : ℕ) → length L ≤ k → IsListedUpto bounds L k →
    map the_bound bounds ≡ live_bounds L
listed_all bounds L k end upto =
    sym (append-nil (map the_bound bounds)) ∙ ap (λ l. map the_bound bounds ++ live_bounds l) (sym (drop_all k L end)) ∙ upto.all
