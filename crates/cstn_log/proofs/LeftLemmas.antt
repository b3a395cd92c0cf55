-- What is left of a log of which some entries are taken out.
use Rattle.std.proofs.Common.{◌≡◌, ◌≢◌, inl, inr, ℕ, suc, ◌+◌, ◌<◌, Bool, true, false, cond, List, [], ◌∷◌, length, map, get_or, set, refl, ap, sym, ◌∙◌, subst, arith}
use Rattle.std.specs.Prelude.{Option, None, Some, is_some, slice_get}
use Rattle.std.proofs.lemmas.List.{get_or-set_other, get_or-set_same, length-set, length-map}
use Rattle.std.proofs.lemmas.List.Sums.{sum_by-set}
use Rattle.std.proofs.lemmas.Bool.{cases_Bool, cases_eq, cases_lt}
use Rattle.std.proofs.lemmas.Option.{none-some, slice_get-map, slice_get_within}
use Rattle.cstn_rules.specs.declared.entries.Entry.{Entry}
use Rattle.cstn_pool.specs.declared.slot_id.SlotId.{SlotId}
use Rattle.cstn_pool.specs.Slots.{live_of}
use Rattle.cstn_log.specs.Entries.{HasId, the_entries}
use Rattle.cstn_log.specs.Kept.{AreLeft, IsPooled, renewed}
use Rattle.cstn_log.specs.Cuts.{is_place_marked, rank, chosen_from, chosen, cut_from, cut}
use Rattle.cstn_facts.proofs.Places.{one_there}
use Rattle.cstn_log.proofs.KeptLemmas.{same_place, same_slot, slot_inside}
use Rattle.cstn_log.proofs.ChoiceLemmas.{rank_marked, rank_unmarked, rank_grows, length_chosen, chosen_comes, chosen_goes}

pub clash : {t : Bool} → t ≡ true → t ≡ false → ⊥
clash y n = let e = rw y at n in cc

-- emptying a used slot leaves one slot less in use
count_emptied : (slots : List (Option (ℕ × Entry))) (slot : ℕ) → slot < length slots → is_some (get_or slots slot None) ≡ true → live_of (set slots slot None) + 1 ≡ live_of slots
count_emptied slots slot inside live =
    let one : live_of (set slots slot None) + cond (is_some (get_or slots slot None)) 1 0 ≡ live_of slots + 0 = sum_by-set (λ x. cond (is_some x) 1 0) slots slot None None inside in
    let two = rw live at one in omega arith

-- nothing was given back yet
pub left_all : (marks : List Bool) (ids : List SlotId) (slots : List (Option (ℕ × Entry))) → AreLeft marks ids 0 slots slots
left_all marks ids slots = record {
  size = refl;
  was = λ s e there. there;
  stays = λ k id there why. refl;
  gone = λ k id low there unmarked. absurd (omega (arith, low));
  count = refl;
}

-- the id at a marked place stays
pub left_kept : (marks : List Bool) (ids : List SlotId) (k : ℕ) (old new : List (Option (ℕ × Entry))) → is_place_marked marks k ≡ true → AreLeft marks ids k old new → AreLeft marks ids (suc k) old new
left_kept marks ids k old new h left = record {
  size = left.size;
  was = left.was;
  stays = λ j id there why. elim why [ inl m ↦ left.stays j id there (inl m) | inr le ↦ left.stays j id there (inr (omega (arith, le))) ];
  gone = λ j id low there unmarked. elim (cases_eq j k) [
    | inl same ↦ absurd (clash h (rw same at unmarked))
    | inr other ↦ left.gone j id (omega (arith, low, other)) there unmarked
  ];
  count = omega (arith, left.count, rank_marked marks k h);
}

-- the id at a place that isn't marked is given back
pub left_given : (marks : List Bool) (births : ℕ) (entries : List Entry) (ids : List SlotId) (k : ℕ) (id : SlotId) (old new : List (Option (ℕ × Entry))) → IsPooled old births entries ids → slice_get ids k ≡ Some id → is_place_marked marks k ≡ false → AreLeft marks ids k old new → AreLeft marks ids (suc k) old (set new id.slot None)
left_given marks births entries ids k id old new is there h left =
    let held = is.held k id there in
    let now : get_or new id.slot None ≡ Some (id.birth, held.1) = left.stays k id there (inr (omega arith)) ∙ held.3 in
    let inside : id.slot < length new = slot_inside new id.slot (id.birth, held.1) now in
    let full : is_some (get_or new id.slot None) ≡ true = rw now refl in
    record {
      size = length-set new id.slot None ∙ left.size;
      was = λ s e at. elim (cases_eq s id.slot) [
        | inl same ↦ absurd (none-some e (sym (get_or-set_same new id.slot None None inside) ∙ rw same at at))
        | inr other ↦ left.was s e (sym (get_or-set_other new id.slot s None None other) ∙ at)
      ];
      stays = λ j jd at why.
          let apart : j ≢ k = λ e. elim why [ inl m ↦ clash (rw e at m) h | inr le ↦ absurd (omega (arith, le, e)) ] in
          let elsewhere : jd.slot ≢ id.slot = λ e. apart (same_slot old births entries ids j k jd id is at there e) in
          get_or-set_other new id.slot jd.slot None None elsewhere ∙ left.stays j jd at (elim why [ inl m ↦ inl m | inr le ↦ inr (omega (arith, le)) ]);
      gone = λ j jd low at unmarked. elim (cases_eq jd.slot id.slot) [
        | inl same ↦ rw same (get_or-set_same new id.slot None None inside)
        | inr other ↦
            let apart : j ≢ k = λ e. other (ap (λ (y : SlotId). y.slot) (one_there ids k jd id (rw e at at) there)) in
            get_or-set_other new id.slot jd.slot None None other ∙ left.gone j jd (omega (arith, low, apart)) at unmarked
      ];
      count = omega (arith, count_emptied new id.slot inside full, left.count, rank_unmarked marks k h);
    }

-- the id at a place that isn't marked is none of the chosen ids
pub none_gone : (marks : List Bool) (slots : List (Option (ℕ × Entry))) (births : ℕ) (entries : List Entry) (ids : List SlotId) (k : ℕ) (id : SlotId) → IsPooled slots births entries ids → slice_get ids k ≡ Some id → is_place_marked marks k ≡ false → ¬ HasId (chosen marks ids) id
none_gone marks slots births entries ids k id is there h has =
    let c = chosen_comes marks ids has.0 id has.1 in
    clash c.2 (rw (same_place slots births entries ids c.0 k id id is c.1 there refl) h)

module _ (marks : List Bool) (births : ℕ) (entries : List Entry) (ids : List SlotId) (old new : List (Option (ℕ × Entry))) (is : IsPooled old births entries ids) (size : length entries ≡ length ids) (left : AreLeft marks ids (length ids) old new) where
  pub left_pooled : IsPooled new births (chosen marks (map (renewed marks) entries)) (chosen marks ids)
  left_pooled = record {
    held = λ d id at.
        let c = chosen_comes marks ids d id at in
        let h = is.held c.0 id c.1 in
        let moved_there : slice_get (map (renewed marks) entries) c.0 ≡ Some (renewed marks h.0) = slice_get-map (renewed marks) entries c.0 ∙ rw h.2 refl in
        let goes = chosen_goes marks (map (renewed marks) entries) c.0 (renewed marks h.0) moved_there c.2 in
        (renewed marks h.0, h.1, subst (λ (n : ℕ). slice_get (chosen marks (map (renewed marks) entries)) n ≡ Some (renewed marks h.0)) c.3 goes, left.stays c.0 id c.1 (inl c.2) ∙ h.3, h.4);
    used = omega (arith, left.count, is.used, length_chosen marks ids);
    found = λ s e at.
        let f = is.found s e (left.was s e at) in
        let id : SlotId = record { slot = s; birth = e.0 } in
        elim (cases_Bool (is_place_marked marks f.0)) [
          | inl m ↦ (rank marks f.0, record { there = chosen_goes marks ids f.0 id f.1.there m })
          | inr u ↦ absurd (none-some e (sym (left.gone f.0 id (slice_get_within ids f.0 id f.1.there) f.1.there u) ∙ at))
        ];
    ascending = λ d g id jd less p q.
        let a = chosen_comes marks ids d id p in
        let b = chosen_comes marks ids g jd q in
        elim (cases_lt a.0 b.0) [
          | inl below ↦ is.ascending a.0 b.0 id jd below a.1 b.1
          | inr above ↦ absurd (omega (arith, rank_grows marks b.0 a.0 above, a.3, b.3, less))
        ];
    before = λ d id at. let c = chosen_comes marks ids d id at in is.before c.0 id c.1;
  }

-- the chosen entries, renewed, are the cut list
pub renewed_cut : (marks : List Bool) (entries : List Entry) → the_entries (chosen marks (map (renewed marks) entries)) ≡ cut marks (the_entries entries)
renewed_cut marks entries = go 0 entries
  where
    go : (k : ℕ) (es : List Entry) → the_entries (chosen_from marks k (map (renewed marks) es)) ≡ cut_from marks k (the_entries es)
    go k [] = refl
    go k (e ∷ es) = elim (cases_Bool (is_place_marked marks k)) [
      | inl t ↦ rw (t, go (suc k) es) refl
      | inr f ↦ rw (f, go (suc k) es) refl
    ]

-- as many entries are left as places are marked
pub length_left : (marks : List Bool) (entries : List Entry) → length (chosen marks (map (renewed marks) entries)) ≡ rank marks (length entries)
length_left marks entries = length_chosen marks (map (renewed marks) entries) ∙ ap (rank marks) (length-map entries (renewed marks))
