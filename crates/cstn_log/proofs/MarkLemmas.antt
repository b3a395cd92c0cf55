-- Marks that are closed under premises: the last entry with its ancestors, and what a constraint didn't give.
use Rattle.std.proofs.Common.{ℕ, zero, suc, ◌≡◌, inl, inr, ◌+◌, ◌-◌, ◌≤◌, Bool, true, false, Option, Some, None, List, [], ◌∷◌, ◌++◌, length, set, replicate, arith, refl, sym, subst, ◌∙◌, ap, length-append, length-set, append-nil, append_assoc}
use Rattle.std.specs.Prelude.{slice_get, ◌&&◌, not, nat_eq}
use Rattle.std.specs.List.{Contains}
use Rattle.std.proofs.lemmas.Bool.{cases_eq, cases_lt}
use Rattle.std.proofs.lemmas.List.{get_or-set_same, get_or-set_other, get_or_append_left, length-replicate}
use Rattle.std.proofs.Math.Seq.{get_or-append_seam}
use Rattle.std.proofs.lemmas.Option.{none-some, same_Some, slice_get_within, slice_get-map}
use Rattle.cstn_label.specs.Bounds.{Bound}
use Rattle.cstn_net.specs.Networks.{Network, Constraint}
use Rattle.cstn_rules.specs.declared.entries.Why.{Why}
use Rattle.cstn_rules.specs.declared.entries.Why.TheVariants.{Base, Chain, Wait}
use Rattle.cstn_rules.specs.Rules.{Refutes}
use Rattle.cstn_rules.specs.Derivations.{Entry, Follows, IsDerivation, IsRefutation}
use Rattle.cstn_rules.specs.declared.entries.Entry.{Entry as DeclaredEntry}
use Rattle.cstn_rules.specs.Read.{the_entry}
use Rattle.cstn_log.specs.Entries.{the_entries}
use Rattle.cstn_facts.proofs.Places.{get_map, get_more}
use Rattle.cstn_rules.proofs.Derived.{with_constraints, derivation_elsewhere}
use Rattle.cstn_log.specs.Cuts.{PremisesBelow, AllEarlier, is_place_marked, rank, renumbered, moved_premises, PremisesMarked, IsClosedUnder, with_premises, with_premises_of, with_ancestors, last_marked, last_with_ancestors, stays, marked_staying, dropped}
use Rattle.cstn_log.proofs.ChoiceLemmas.{rank_marked}
use Rattle.cstn_log.proofs.CutLemmas.{comes, goes, length_cut, cut_derivation}

pub follows_below : (net : Network) (steps : List Entry) (k : ℕ) (why : Why) (r : Bound) → Follows net steps k why r → PremisesBelow k why
follows_below net steps k Base r f = tt
follows_below net steps k (Chain id i) r f = f.4.before
follows_below net steps k (Wait i j) r f = (f.3.before, f.4.before)

pub below_more : (why : Why) (k n : ℕ) → PremisesBelow k why → k ≤ n → PremisesBelow n why
below_more Base k n low over = tt
below_more (Chain id i) k n low over = omega (arith, low, over)
below_more (Wait i j) k n low over = (omega (arith, low.0, over), omega (arith, low.1, over))

-- premises are earlier in a list with one more entry
pub more_earlier : (L : List DeclaredEntry) (x : DeclaredEntry) → AllEarlier (the_entries L) → PremisesBelow (length L) x.why → AllEarlier (the_entries (L ++ x ∷ []))
more_earlier L x all low = record {
  below = λ k e there.
      let got = get_map the_entry (L ++ x ∷ []) k e there in
      let rule : got.0.why ≡ e.why = ap (λ y. y.why) got.2 in
      subst (λ w. PremisesBelow k w) rule (elim (get_more L x k got.0 got.1) [
        | inl old ↦ all.below k (the_entry got.0) (slice_get-map the_entry L k ∙ rw old refl)
        | inr new ↦ subst (λ n. PremisesBelow n got.0.why) (sym new.0) (subst (λ y. PremisesBelow (length L) y.why) new.1 low)
      ]);
}

pub all_below : (net : Network) (steps : List Entry) → IsDerivation net steps → (k : ℕ) (e : Entry) → slice_get steps k ≡ Some e → PremisesBelow k e.why
all_below net steps derivation k e there = follows_below net steps k e.why e.bound (derivation k e there)

marked_set : (marks : List Bool) (i j : ℕ) → is_place_marked marks i ≡ true → is_place_marked (set marks j true) i ≡ true
marked_set marks i j h = elim (cases_eq i j) [
  | inl same ↦ elim (cases_lt i (length marks)) [
    | inl inside ↦ subst (λ n. is_place_marked (set marks n true) i ≡ true) same (get_or-set_same marks i true false inside)
    | inr past ↦ absurd (past_none marks i past h)
  ]
  | inr other ↦ get_or-set_other marks j i true false other ∙ h
]
  where
    past_none : (marks : List Bool) (i : ℕ) → length marks ≤ i → is_place_marked marks i ≡ true → ⊥
    past_none [] i past h = cc
    past_none (m ∷ ms) zero past h = omega arith
    past_none (m ∷ ms) (suc i) past h = past_none ms i (omega arith) h

marked_more : (why : Why) (marks : List Bool) (i : ℕ) → is_place_marked marks i ≡ true → is_place_marked (with_premises why marks) i ≡ true
marked_more Base marks i h = h
marked_more (Chain id j) marks i h = marked_set marks i j h
marked_more (Wait j k) marks i h = marked_set (set marks j true) i k (marked_set marks i j h)

premises_marked : (why : Why) (marks : List Bool) → PremisesBelow (length marks) why → PremisesMarked (with_premises why marks) why
premises_marked Base marks below = tt
premises_marked (Chain id i) marks below = get_or-set_same marks i true false below
premises_marked (Wait i j) marks below = (
  marked_set (set marks i true) i j (get_or-set_same marks i true false below.0),
  get_or-set_same (set marks i true) j true false (omega (arith, below.1, length-set marks i true)),
)

marked_above : (why : Why) (marks : List Bool) (k j : ℕ) → PremisesBelow k why → k ≤ j → is_place_marked (with_premises why marks) j ≡ true → is_place_marked marks j ≡ true
marked_above Base marks k j below over h = h
marked_above (Chain id i) marks k j below over h = sym (get_or-set_other marks i j true false (λ e. omega (arith, e, below, over))) ∙ h
marked_above (Wait i m) marks k j below over h =
    sym (get_or-set_other marks i j true false (λ e. omega (arith, e, below.0, over)))
    ∙ sym (get_or-set_other (set marks i true) m j true false (λ e. omega (arith, e, below.1, over))) ∙ h

pub length_premises : (why : Why) (marks : List Bool) → length (with_premises why marks) ≡ length marks
length_premises Base marks = refl
length_premises (Chain id i) marks = length-set marks i true
length_premises (Wait i j) marks = length-set (set marks i true) j true ∙ length-set marks i true

more_marked : (why : Why) (marks more : List Bool) → ((i : ℕ) → is_place_marked marks i ≡ true → is_place_marked more i ≡ true) → PremisesMarked marks why → PremisesMarked more why
more_marked Base marks more grows h = tt
more_marked (Chain id i) marks more grows h = grows i h
more_marked (Wait i j) marks more grows h = (grows i h.0, grows j h.1)

-- with each marked entry from the place k on its premises are marked
abbrev ClosedFrom : List Bool → List Entry → ℕ → Type 0
ClosedFrom marks steps k = (j : ℕ) (e : Entry) → k ≤ j → slice_get steps j ≡ Some e → is_place_marked marks j ≡ true → PremisesMarked marks e.why

pub ancestors_marked : (steps : List Entry) (k : ℕ) (marks : List Bool) (i : ℕ) → is_place_marked marks i ≡ true → is_place_marked (with_ancestors steps k marks) i ≡ true
ancestors_marked steps zero marks i h = h
ancestors_marked steps (suc k) marks i h = ancestors_marked steps k (with_premises_of (slice_get steps k) (is_place_marked marks k) marks) i (step (slice_get steps k) (is_place_marked marks k))
  where
    step : (o : Option Entry) (b : Bool) → is_place_marked (with_premises_of o b marks) i ≡ true
    step None b = h
    step (Some e) true = marked_more e.why marks i h
    step (Some e) false = h

module _ (steps : List Entry) (below : (k : ℕ) (e : Entry) → slice_get steps k ≡ Some e → PremisesBelow k e.why) where
  closed_step : (k : ℕ) (marks : List Bool) (o : Option Entry) (b : Bool) → slice_get steps k ≡ o → is_place_marked marks k ≡ b →
      length marks ≡ length steps → ClosedFrom marks steps (suc k) → ClosedFrom (with_premises_of o b marks) steps k
  closed_step k marks None b at here long closed j e over there marked =
      elim (cases_eq j k) [
        | inl same ↦ absurd (none-some e (sym at ∙ subst (λ n. slice_get steps n ≡ Some e) same there))
        | inr other ↦ closed j e (omega (arith, over, other)) there marked
      ]
  closed_step k marks (Some x) false at here long closed j e over there marked =
      elim (cases_eq j k) [
        | inl same ↦ cc
        | inr other ↦ closed j e (omega (arith, over, other)) there marked
      ]
  closed_step k marks (Some x) true at here long closed j e over there marked =
      let low = below k x at in
      elim (cases_eq j k) [
        | inl same ↦
            let this : x ≡ e = same_Some x e (sym at ∙ subst (λ n. slice_get steps n ≡ Some e) same there) in
            subst (λ y. PremisesMarked (with_premises x.why marks) y.why) this
            (premises_marked x.why marks (below_more x.why k (length marks) low (omega (arith, long, slice_get_within steps k x at))))
        | inr other ↦
            more_marked e.why marks (with_premises x.why marks) (marked_more x.why marks)
            (closed j e (omega (arith, over, other)) there (marked_above x.why marks k j low over marked))
      ]

  length_step : (marks : List Bool) (o : Option Entry) (b : Bool) → length (with_premises_of o b marks) ≡ length marks
  length_step marks None b = refl
  length_step marks (Some e) true = length_premises e.why marks
  length_step marks (Some e) false = refl

  pub ancestors_closed : (k : ℕ) (marks : List Bool) → length marks ≡ length steps → ClosedFrom marks steps k →
      IsClosedUnder (with_ancestors steps k marks) steps
  ancestors_closed zero marks long closed = λ j e there marked. closed j e (omega arith) there marked
  ancestors_closed (suc k) marks long closed =
      ancestors_closed k (with_premises_of (slice_get steps k) (is_place_marked marks k) marks)
      (length_step marks (slice_get steps k) (is_place_marked marks k) ∙ long)
      (closed_step k marks (slice_get steps k) (is_place_marked marks k) refl refl long closed)

pub length_last : (n : ℕ) → length (last_marked n) ≡ n
length_last n = length-set (replicate n false) (n - 1) true ∙ length-replicate n false

-- the last entry of a derivation with its ancestors is closed under premises
pub part_closed : (net : Network) (steps : List Entry) → IsDerivation net steps →
    IsClosedUnder (with_ancestors steps (length steps) (last_marked (length steps))) steps
part_closed net steps derivation =
    ancestors_closed steps (all_below net steps derivation) (length steps) (last_marked (length steps))
    (length_last (length steps)) (λ j e over there marked. absurd (omega (arith, over, slice_get_within steps j e there)))

pub part_derivation : (net : Network) (steps : List Entry) → IsDerivation net steps → IsDerivation net (last_with_ancestors steps)
part_derivation net steps derivation =
    cut_derivation net (with_ancestors steps (length steps) (last_marked (length steps))) steps derivation
    (part_closed net steps derivation)

-- the part ends in the bound in which the list ends
pub part_last : (steps : List Entry) (last : Entry) → slice_get steps (length steps - 1) ≡ Some last →
    (e : Entry) × (slice_get (last_with_ancestors steps) (length (last_with_ancestors steps) - 1) ≡ Some e) × (e.bound ≡ last.bound)
part_last steps last there =
    let n = length steps in
    let inside = slice_get_within steps (n - 1) last there in
    let marks = with_ancestors steps n (last_marked n) in
    let start : is_place_marked (last_marked n) (n - 1) ≡ true = get_or-set_same (replicate n false) (n - 1) true false (omega (arith, inside, length-replicate n false)) in
    let marked = ancestors_marked steps n (last_marked n) (n - 1) start in
    let up = rank_marked marks (n - 1) marked in
    let next : suc (n - 1) ≡ n = omega arith in
    let long = length_cut marks steps in
    let full : rank marks n ≡ rank marks (n - 1) + 1 = subst (λ k. rank marks k ≡ rank marks (n - 1) + 1) next up in
    let at : length (last_with_ancestors steps) - 1 ≡ rank marks (n - 1) = omega (arith, long, full) in
    (moved_premises marks last, subst (λ k. slice_get (last_with_ancestors steps) k ≡ Some (moved_premises marks last)) (sym at) (goes marks steps (n - 1) last there marked), refl)

-- the part of a refutation is a refutation
pub part_refutation : (net : Network) (steps : List Entry) → IsRefutation net steps → IsRefutation net (last_with_ancestors steps)
part_refutation net steps refutation =
    let end = part_last steps refutation.last refutation.is_last in
    record {
      derivation = part_derivation net steps refutation.derivation;
      last = end.0;
      is_last = end.1;
      refutes = subst (λ b. Refutes net b) (sym end.2) refutation.refutes;
    }

both_true : (a b : Bool) → (a && b) ≡ true → (a ≡ true) × (b ≡ true)
both_true true true h = (refl, refl)
both_true true false h = cc
both_true false b h = cc

-- the first marks decide whether an entry stays
same_stay : (id : ℕ) (marks more : List Bool) (why : Why) → PremisesBelow (length marks) why → stays id (marks ++ more) why ≡ stays id marks why
same_stay id marks more Base low = refl
same_stay id marks more (Chain c i) low = ap (λ b. not (nat_eq c id) && b) (get_or_append_left marks more false i low)
same_stay id marks more (Wait i j) low = rw (get_or_append_left marks more false i low.0, get_or_append_left marks more false j low.1) refl

-- marking further entries keeps the marks that there are
pub staying_more : (id : ℕ) (marks : List Bool) (es : List Entry) → (more : List Bool) × (marked_staying id marks es ≡ marks ++ more)
staying_more id marks [] = ([], sym (append-nil marks))
staying_more id marks (e ∷ es) =
    let rest = staying_more id (marks ++ stays id marks e.why ∷ []) es in
    (stays id marks e.why ∷ rest.0, rest.1 ∙ append_assoc marks (stays id marks e.why ∷ []) rest.0)

-- an entry is marked where it stays
pub stays_marked : (id : ℕ) (marks : List Bool) (es : List Entry) (i : ℕ) (e : Entry) →
    ((j : ℕ) (d : Entry) → slice_get es j ≡ Some d → PremisesBelow (length marks + j) d.why) → slice_get es i ≡ Some e →
    is_place_marked (marked_staying id marks es) (length marks + i) ≡ stays id (marked_staying id marks es) e.why
stays_marked id marks [] i e low there = absurd (none-some e there)
stays_marked id marks (x ∷ xs) zero e low there =
    let this : x ≡ e = same_Some x e there in
    let rest = staying_more id (marks ++ stays id marks x.why ∷ []) xs in
    let all : marked_staying id marks (x ∷ xs) ≡ marks ++ stays id marks x.why ∷ rest.0 = rest.1 ∙ append_assoc marks (stays id marks x.why ∷ []) rest.0 in
    let first : length marks + 0 ≡ length marks = omega arith in
    let below : PremisesBelow (length marks) x.why = subst (λ n. PremisesBelow n x.why) first (low 0 x refl) in
    subst (λ y. is_place_marked (marked_staying id marks (x ∷ xs)) (length marks + 0) ≡ stays id (marked_staying id marks (x ∷ xs)) y.why) this
    (rw (all, first) (get_or-append_seam marks (stays id marks x.why) rest.0 false ∙ sym (same_stay id marks (stays id marks x.why ∷ rest.0) x.why below)))
stays_marked id marks (x ∷ xs) (suc i) e low there =
    let next : length marks + suc i ≡ length (marks ++ stays id marks x.why ∷ []) + i = omega (arith, length-append marks (stays id marks x.why ∷ [])) in
    rw next (stays_marked id (marks ++ stays id marks x.why ∷ []) xs i e (λ j d at. shift j d (low (suc j) d at)) there)
  where
    shift : (j : ℕ) (d : Entry) → PremisesBelow (length marks + suc j) d.why → PremisesBelow (length (marks ++ stays id marks x.why ∷ []) + j) d.why
    shift j d low =
        let here : length marks + suc j ≡ length (marks ++ stays id marks x.why ∷ []) + j = omega (arith, length-append marks (stays id marks x.why ∷ [])) in
        subst (λ n. PremisesBelow n d.why) here low

marked_stays : (id : ℕ) (steps : List Entry) → ((k : ℕ) (e : Entry) → slice_get steps k ≡ Some e → PremisesBelow k e.why) → (k : ℕ) (e : Entry) →
    slice_get steps k ≡ Some e → is_place_marked (marked_staying id [] steps) k ≡ true → stays id (marked_staying id [] steps) e.why ≡ true
marked_stays id steps below k e there marked =
    let at : (n : ℕ) → 0 + n ≡ n = λ n. omega arith in
    let low : (j : ℕ) (d : Entry) → slice_get steps j ≡ Some d → PremisesBelow (0 + j) d.why = λ j d here. subst (λ n. PremisesBelow n d.why) (sym (at j)) (below j d here) in
    let all = marked_staying id [] steps in
    sym (subst (λ n. is_place_marked all n ≡ stays id all e.why) (at k) (stays_marked id [] steps k e low there)) ∙ marked

stays_closed : (id : ℕ) (marks : List Bool) (why : Why) → stays id marks why ≡ true → PremisesMarked marks why
stays_closed id marks Base h = tt
stays_closed id marks (Chain c i) h = (both_true (not (nat_eq c id)) (is_place_marked marks i) h).1
stays_closed id marks (Wait i j) h = both_true (is_place_marked marks i) (is_place_marked marks j) h

-- the entries that stay without a constraint are closed under premises
pub staying_closed : (steps : List Entry) (id : ℕ) → AllEarlier steps → IsClosedUnder (marked_staying id [] steps) steps
staying_closed steps id all k e there marked =
    stays_closed id (marked_staying id [] steps) e.why (marked_stays id steps all.below k e there marked)

pub other_constraint : (id c i : ℕ) (marks : List Bool) → stays id marks (Chain c i) ≡ true → c ≡ id → ⊥
other_constraint id c i marks h same =
    let differs = (both_true (not (nat_eq c id)) (is_place_marked marks i) h).0 in
    absurd (not_same id (subst (λ n. not (nat_eq n id) ≡ true) same differs))
  where
    not_same : (n : ℕ) → not (nat_eq n n) ≡ true → ⊥
    not_same n h = grind arith

renumbered_chain : (marks : List Bool) (why : Why) (c i : ℕ) → renumbered marks why ≡ Chain c i → (j : ℕ) × (why ≡ Chain c j)
renumbered_chain marks Base c i h = cc
renumbered_chain marks (Chain d j) c i h = (j, cc)
renumbered_chain marks (Wait j m) c i h = cc

-- what is left without a constraint's entries is a derivation of each network that has the other constraints
pub dropped_derivation : (net : Network) (cs : List Constraint) (steps : List Entry) (id : ℕ) →
    ((c : Constraint) → Contains net.constraints c → (c.id ≡ id → ⊥) → Contains cs c) → IsDerivation net steps →
    IsDerivation (with_constraints net cs) (dropped steps id)
dropped_derivation net cs steps id others derivation =
    let marks = marked_staying id [] steps in
    derivation_elsewhere net cs (dropped steps id)
    (λ c b k i has there. others c has (differs c b k i there))
    (cut_derivation net marks steps derivation (staying_closed steps id (record { below = all_below net steps derivation })))
  where
    differs : (c : Constraint) (b : Bound) (k i : ℕ) → slice_get (dropped steps id) k ≡ Some (record { bound = b; why = Chain c.id i }) → c.id ≡ id → ⊥
    differs c b k i there =
        let marks = marked_staying id [] steps in
        let from = comes marks steps k (record { bound = b; why = Chain c.id i }) there in
        let rule : renumbered marks from.1.why ≡ Chain c.id i = sym (ap (λ e. e.why) from.5) in
        let chain = renumbered_chain marks from.1.why c.id i rule in
        let stay = marked_stays id steps (all_below net steps derivation) from.0 from.1 from.2 from.3 in
        other_constraint id c.id chain.0 marks (subst (λ w. stays id marks w ≡ true) chain.1 stay)
