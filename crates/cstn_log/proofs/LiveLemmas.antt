-- Which entries of a list with one more are live.
use Rattle.std.proofs.Common.{◌≡◌, inl, inr, ℕ, List, [], ◌∷◌, ◌++◌, length, sym, subst, arith, length-append}
use Rattle.std.specs.Prelude.{Some, slice_get}
use Rattle.std.proofs.lemmas.Option.{slice_get_within}
use Rattle.cstn_rules.specs.declared.entries.Entry.{Entry}
use Rattle.cstn_minset.specs.Sets.{IsBoundOver}
use Rattle.cstn_log.specs.Entries.{IsCoveredBy, IsLive, AllNew}
use Rattle.cstn_facts.proofs.Places.{get_left, get_last, get_more, one_there}

pub live_more : (L : List Entry) (x : Entry) (k : ℕ) (e : Entry) → slice_get L k ≡ Some e → IsLive L k → ¬ IsBoundOver x.bound e.bound → IsLive (L ++ x ∷ []) k
live_more L x k e there live not = record {
  none_over = λ j a f less p q over.
      let same : a ≡ e = one_there (L ++ x ∷ []) k a e p (get_left L x k e there) in
      let over_e : IsBoundOver f.bound e.bound = subst (λ (z : Entry). IsBoundOver f.bound z.bound) same over in
      elim (get_more L x j f q) [
        | inl old ↦ live.none_over j e f less there old over_e
        | inr new ↦ not (subst (λ (z : Entry). IsBoundOver z.bound e.bound) (sym new.1) over_e)
      ];
}

pub live_less : (L : List Entry) (x : Entry) (k : ℕ) (e : Entry) → slice_get L k ≡ Some e → IsLive (L ++ x ∷ []) k → IsLive L k
live_less L x k e there live = record {
  none_over = λ j a f less p q over. live.none_over j a f less (get_left L x k a p) (get_left L x j f q) over;
}

pub last_not_over : (L : List Entry) (x : Entry) (k : ℕ) (e : Entry) → slice_get L k ≡ Some e → IsLive (L ++ x ∷ []) k → ¬ IsBoundOver x.bound e.bound
last_not_over L x k e there live over = live.none_over (length L) e x (slice_get_within L k e there) (get_left L x k e there) (get_last L x) over

pub live_last : (L : List Entry) (x : Entry) → IsLive (L ++ x ∷ []) (length L)
live_last L x = record {
  none_over = λ j e f less p q over.
      absurd (omega (arith, slice_get_within (L ++ x ∷ []) j f q, length-append L (x ∷ [])));
}

-- where no entry dominates an appended one, again none of the list is dominated by an earlier one
pub new_more : (L : List Entry) (x : Entry) → AllNew L → ¬ IsCoveredBy L x.bound → AllNew (L ++ x ∷ [])
new_more L x all uncovered = record {
  none_over = λ j k e f less p q over. elim (get_more L x k f q) [
    | inl old ↦ elim (get_more L x j e p) [
      | inl also ↦ all.none_over j k e f less also old over
      | inr last ↦ omega (arith, slice_get_within L k f old, last.0, less)
    ]
    | inr new ↦ elim (get_more L x j e p) [
      | inl old ↦ uncovered (j, e, old, subst (λ (z : Entry). IsBoundOver e.bound z.bound) (sym new.1) over)
      | inr last ↦ omega (arith, last.0, new.0, less)
    ]
  ];
}
