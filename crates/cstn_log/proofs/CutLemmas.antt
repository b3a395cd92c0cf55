-- A derivation, cut down to entries whose premises are kept, is a derivation.
use Rattle.std.proofs.Common.{ℕ, suc, ◌≡◌, inl, inr, ◌≤◌, Bool, true, false, Some, List, [], ◌∷◌, length, map, arith, refl, sym, subst, ap, ◌∙◌}
use Rattle.std.specs.Prelude.{slice_get}
use Rattle.std.proofs.lemmas.Bool.{cases_Bool}
use Rattle.std.proofs.lemmas.List.{length-map}
use Rattle.std.proofs.lemmas.Option.{slice_get-map, slice_get_within}
use Rattle.cstn_label.specs.Bounds.{Bound}
use Rattle.cstn_net.specs.Networks.{Network}
use Rattle.cstn_rules.specs.declared.entries.Why.{Why}
use Rattle.cstn_rules.specs.declared.entries.Why.TheVariants.{Base, Chain, Wait}
use Rattle.cstn_rules.specs.Derivations.{Entry, IsEarlier, Follows, IsDerivation}
use Rattle.cstn_log.specs.Cuts.{is_place_marked, rank, renumbered, moved_premises, chosen_from, chosen, cut_from, cut, PremisesBelow, PremisesMarked, AllEarlier, IsClosedUnder}
use Rattle.cstn_facts.proofs.Places.{get_map}
use Rattle.cstn_log.proofs.ChoiceLemmas.{rank_less, rank_same, chosen_marked, chosen_unmarked, length_chosen, chosen_comes, chosen_goes, chosen_all}

pub cut_marked : (marks : List Bool) (k : ℕ) (x : Entry) (xs : List Entry) → is_place_marked marks k ≡ true →
    cut_from marks k (x ∷ xs) ≡ moved_premises marks x ∷ cut_from marks (suc k) xs
cut_marked marks k x xs h = rw h refl

pub cut_unmarked : (marks : List Bool) (k : ℕ) (x : Entry) (xs : List Entry) → is_place_marked marks k ≡ false →
    cut_from marks k (x ∷ xs) ≡ cut_from marks (suc k) xs
cut_unmarked marks k x xs h = rw h refl

-- a cut list has the chosen entries, moved
pub cut_chosen : (marks : List Bool) (k : ℕ) (es : List Entry) → cut_from marks k es ≡ map (moved_premises marks) (chosen_from marks k es)
cut_chosen marks k [] = refl
cut_chosen marks k (x ∷ xs) = elim (cases_Bool (is_place_marked marks k)) [
  | inl t ↦ rw (cut_marked marks k x xs t, chosen_marked marks k x xs t, cut_chosen marks (suc k) xs) refl
  | inr f ↦ rw (cut_unmarked marks k x xs f, chosen_unmarked marks k x xs f, cut_chosen marks (suc k) xs) refl
]

-- a cut list has as many entries as places are marked
pub length_cut : (marks : List Bool) (steps : List Entry) → length (cut marks steps) ≡ rank marks (length steps)
length_cut marks steps = ap length (cut_chosen marks 0 steps) ∙ length-map (chosen marks steps) (moved_premises marks) ∙ length_chosen marks steps

-- what stands at a place of the cut list
pub comes : (marks : List Bool) (steps : List Entry) (d : ℕ) (f : Entry) → slice_get (cut marks steps) d ≡ Some f →
    (i : ℕ) × (e : Entry) × (slice_get steps i ≡ Some e) × (is_place_marked marks i ≡ true) × (rank marks i ≡ d) × (f ≡ moved_premises marks e)
comes marks steps d f at =
    let got = get_map (moved_premises marks) (chosen marks steps) d f (rw (cut_chosen marks 0 steps) at at) in
    let c = chosen_comes marks steps d got.0 got.1 in
    (c.0, got.0, c.1, c.2, c.3, sym got.2)

-- where a marked entry goes
pub goes : (marks : List Bool) (steps : List Entry) (i : ℕ) (e : Entry) → slice_get steps i ≡ Some e →
    is_place_marked marks i ≡ true → slice_get (cut marks steps) (rank marks i) ≡ Some (moved_premises marks e)
goes marks steps i e there h =
    rw (cut_chosen marks 0 steps) (slice_get-map (moved_premises marks) (chosen marks steps) (rank marks i) ∙ rw (chosen_goes marks steps i e there h) refl)

-- a list of which all entries are marked is cut to itself
pub cut_all : (marks : List Bool) (steps : List Entry) → AllEarlier steps → rank marks (length steps) ≡ length steps → cut marks steps ≡ steps
cut_all marks steps all whole =
    cut_chosen marks 0 steps ∙ ap (map (moved_premises marks)) (chosen_all marks steps whole) ∙ unmoved steps (λ k e there. moved_same e k (all.below k e there) (omega (arith, slice_get_within steps k e there)))
  where
    of_rule : Bound → Why → Entry
    of_rule b w = record { bound = b; why = w }

    renumbered_same : (why : Why) (k : ℕ) → PremisesBelow k why → k ≤ length steps → renumbered marks why ≡ why
    renumbered_same Base k low upto = refl
    renumbered_same (Chain id i) k low upto = ap (Chain id) (rank_same marks (length steps) i whole (omega (arith, low, upto)))
    renumbered_same (Wait i j) k low upto = rw (rank_same marks (length steps) i whole (omega (arith, low.0, upto)), rank_same marks (length steps) j whole (omega (arith, low.1, upto))) refl

    moved_same : (e : Entry) (k : ℕ) → PremisesBelow k e.why → k ≤ length steps → moved_premises marks e ≡ e
    moved_same e k low upto = ap (of_rule e.bound) (renumbered_same e.why k low upto)

    unmoved : (es : List Entry) → ((k : ℕ) (e : Entry) → slice_get es k ≡ Some e → moved_premises marks e ≡ e) → map (moved_premises marks) es ≡ es
    unmoved [] same = refl
    unmoved (e ∷ es) same = rw (same 0 e refl, unmoved es (λ k f there. same (suc k) f there)) refl

module _ (net : Network) (marks : List Bool) (steps : List Entry) (derivation : IsDerivation net steps)
    (closed : IsClosedUnder marks steps) where
  earlier_cut : (k i : ℕ) (b : Bound) → is_place_marked marks i ≡ true → IsEarlier steps k i b →
      IsEarlier (cut marks steps) (rank marks k) (rank marks i) b
  earlier_cut k i b h e = record {
    before = rank_less marks i k h e.before;
    entry = moved_premises marks e.entry;
    there = goes marks steps i e.entry e.there h;
    bound = e.bound;
  }

  follows_cut : (k : ℕ) (why : Why) (r : Bound) → PremisesMarked marks why → Follows net steps k why r →
      Follows net (cut marks steps) (rank marks k) (renumbered marks why) r
  follows_cut k Base r premises f = f
  follows_cut k (Chain id i) r premises f = (f.0, f.1, f.2, f.3, earlier_cut k i f.1 premises f.4, f.5)
  follows_cut k (Wait i j) r premises f =
      (f.0, f.1, f.2, earlier_cut k i f.1 premises.0 f.3, earlier_cut k j f.2 premises.1 f.4, f.5)

  pub cut_derivation : IsDerivation net (cut marks steps)
  cut_derivation d f at =
      let c = comes marks steps d f at in
      let e = c.1 in
      let made = follows_cut c.0 e.why e.bound (closed c.0 e c.2 c.3) (derivation c.0 e c.2) in
      let here = subst (λ m. Follows net (cut marks steps) m (renumbered marks e.why) e.bound) c.4 made in
      subst (λ y. Follows net (cut marks steps) d y.why y.bound) (sym c.5) here
