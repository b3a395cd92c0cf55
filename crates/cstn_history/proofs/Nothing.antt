-- While nothing has happened, the rest is the network itself.
use Rattle.std.proofs.Common.{ℕ, zero, suc, ◌≡◌, ◌<◌, ◌≤◌, Bool, true, false, [], ◌++◌, length, get_or, Option, Some, None, arith, refl, sym, ap, ◌∙◌}
use Rattle.std.specs.Prelude.{map, slice_index_or, if◌then◌else◌, not, ◌&&◌, ◌==◌, ℤ, pos, ◌+ℤ◌, ◌-ℤ◌, int_lt}
use Rattle.std.specs.Option.{is_some, unwrap_or}
use Rattle.std.specs.List.{filter_map, range_with_len}
use Rattle.std.proofs.Math.Path.{fun_ext}
use Rattle.std.proofs.lemmas.Int.{ints, clamps}
use Rattle.std.proofs.lemmas.List.{append-nil}
use Rattle.std.proofs.lemmas.List.Elements.{All-weaker}
use Rattle.std.proofs.lemmas.List.FromFn.{length-range_with_len, fill_by_all}
use Rattle.cstn_facts.proofs.Members.{filter_map_whole, flat_map_none}
use Rattle.cstn_facts.proofs.Filters.{filter_whole}
use Rattle.cstn_label.specs.declared.marks.Mark.TheVariants.{Absent}
use Rattle.cstn_label.specs.Labels.{Label, IsWithin, empty}
use Rattle.cstn_net.specs.Networks.{Constraint, IsValue, count}
use Rattle.cstn_lift.specs.Labelled.{Labelled, label_of}
use Rattle.cstn_lift.specs.Completion.{completed, completed_label, full_label}
use Rattle.cstn_lift.specs.Lowered.{observer_of, numbered}
use Rattle.cstn_lift.specs.WellFormed.{IsLabelled}
use Rattle.cstn_label.proofs.MarkLemmas.{mark_within_absent}
use Rattle.cstn_label.proofs.LabelLemmas.{within_itself}
use Rattle.cstn_lift.proofs.CompletionLemmas.{completed_least}
use Rattle.cstn_history.specs.Histories.{History, IsHistory, Settles, nothing_yet, origin_alone, allows, label_left}
use Rattle.cstn_history.specs.Rest.{untold, sight_left, is_left, left, left_upto, end_left, moment_done, value_left, value_cut, moved, is_over, constraint_left, late_one, watched_one, coming_one, watched, coming, added, reaction_by, rest}
use Rattle.cstn_history.proofs.Settled.{allows_true}

untold_whole : (o : Option ℕ) → untold nothing_yet o ≡ o
untold_whole None = refl
untold_whole (Some p) = refl

not_over : (from to : ℕ) (b : Bool) →
    (is_some (origin_alone from) && is_some (origin_alone to) && not (from == 0 && to == 0) && b) ≡ false
not_over zero zero b = refl
not_over zero (suc to) b = refl
not_over (suc from) zero b = refl
not_over (suc from) (suc to) b = refl

moment_none : (x : ℕ) → unwrap_or (origin_alone x) 0 ≡ 0
moment_none zero = refl
moment_none (suc x) = refl

value_whole : (most : ℤ) (a b : ℕ) → IsValue most → a ≡ 0 → b ≡ 0 → value_cut ((most +ℤ pos a) -ℤ pos b) ≡ most
value_whole most a b range e f = let low = range.0 in let high = range.1 in omega (arith, ints, clamps)

module _ (m : Labelled) (fresh : ℕ) (good : IsLabelled m) where
  abbrev h : History
  h = nothing_yet

  all_allowed : (a : Label) → allows nothing_yet a ≡ true
  all_allowed a = allows_true nothing_yet a (λ p v e. absurd (cc))

  all_left : (x : ℕ) → is_left m nothing_yet x ≡ true
  all_left zero = refl
  all_left (suc x) = all_allowed (completed_label m (suc x))

  left_whole : (n : ℕ) → left_upto m nothing_yet n ≡ range_with_len 0 n
  left_whole n = filter_whole (is_left m nothing_yet) (range_with_len 0 n) all_left

  observes_whole : map (sight_left m nothing_yet) (left m nothing_yet) ≡ m.base.observes
  observes_whole = ap (map (sight_left m nothing_yet)) (left_whole (count m.base))
      ∙ sym (fill_by_all (sight_left m nothing_yet) m.base.observes (count m.base) None refl
      (λ k inside. sym (untold_whole (slice_index_or m.base.observes k None))))

  labels_whole : map (λ x. label_left nothing_yet (label_of m x)) (left m nothing_yet) ≡ m.labels
  labels_whole = ap (map (λ x. label_left nothing_yet (label_of m x))) (left_whole (count m.base))
      ∙ sym (fill_by_all (λ x. label_left nothing_yet (label_of m x)) m.labels (count m.base) empty good.one_each (λ k inside. refl))

  reaction_whole : (p : ℕ) (o : Option ℕ) → reaction_by m nothing_yet p o ≡ m.base.reaction p
  reaction_whole p None = refl
  reaction_whole p (Some zero) = omega arith
  reaction_whole p (Some (suc x)) = ap (λ b. if not b then 1 else m.base.reaction p) (all_left (suc x))

  end_whole : (x : ℕ) → end_left m nothing_yet x ≡ x
  end_whole zero = refl
  end_whole (suc x) = ap length (left_whole (suc x)) ∙ length-range_with_len 0 (suc x)

  moved_whole : (c : Constraint) → IsValue c.most → moved m nothing_yet c ≡ c
  moved_whole c range =
      ap (λ x. record (moved m nothing_yet c) { from = x }) (end_whole c.from)
      ∙ ap (λ x. record (moved m nothing_yet c) { from = c.from; to = x }) (end_whole c.to)
      ∙ ap (λ v. record c { most = v }) (value_whole c.most (moment_done nothing_yet c.from) (moment_done nothing_yet c.to) range (moment_none c.from) (moment_none c.to))

  constraint_whole : (c : Constraint) → IsValue c.most → constraint_left m nothing_yet c ≡ Some c
  constraint_whole c range =
      ap (λ b. if b && not (is_over nothing_yet c) then Some (moved m nothing_yet c) else None) (all_allowed (full_label m c))
      ∙ ap (λ b. if not b then Some (moved m nothing_yet c) else None) (not_over c.from c.to (not_below_value c))
      ∙ ap Some (moved_whole c range)
    where
      not_below_value : Constraint → Bool
      not_below_value d = not (int_lt (value_left nothing_yet d) (pos 0))

  late_none : (x : ℕ) → late_one m x (origin_alone x) ≡ []
  late_none zero = refl
  late_none (suc x) = refl

  watched_none : (x : ℕ) → watched_one m nothing_yet x (origin_alone x) (sight_left m nothing_yet x) ≡ []
  watched_none zero = refl
  watched_none (suc x) = refl

  added_none : added m nothing_yet ≡ []
  added_none =
      let range = range_with_len 0 (count m.base) in
      ap (λ l. l ++ (watched m nothing_yet ++ coming m nothing_yet)) (flat_map_none (λ x. late_one m x (origin_alone x)) range (λ k d inside. late_none (get_or range k d)))
      ∙ ap (λ l. l ++ coming m nothing_yet) (flat_map_none (λ x. watched_one m nothing_yet x (origin_alone x) (sight_left m nothing_yet x)) range (λ k d inside. watched_none (get_or range k d)))
      ∙ flat_map_none (coming_one m nothing_yet) range (λ k d inside. refl)

  constraints_whole : filter_map (constraint_left m nothing_yet) m.base.constraints ++ numbered fresh (added m nothing_yet) ≡ m.base.constraints
  constraints_whole =
      ap (λ l. filter_map (constraint_left m nothing_yet) m.base.constraints ++ numbered fresh l) added_none
      ∙ append-nil (filter_map (constraint_left m nothing_yet) m.base.constraints)
      ∙ filter_map_whole (constraint_left m nothing_yet) m.base.constraints
      (All-weaker (λ c. IsValue c.most) (λ c. constraint_left m nothing_yet c ≡ Some c) constraint_whole m.base.constraints good.base.values)

  pub rest_whole : rest m nothing_yet fresh ≡ m
  rest_whole =
      ap (λ o. record { base = record { deadline = m.base.deadline; observes = o; reaction = (rest m nothing_yet fresh).base.reaction; constraints = (rest m nothing_yet fresh).base.constraints }; labels = (rest m nothing_yet fresh).labels }) observes_whole
      ∙ ap (λ f. record { base = record { deadline = m.base.deadline; observes = m.base.observes; reaction = f; constraints = (rest m nothing_yet fresh).base.constraints }; labels = (rest m nothing_yet fresh).labels }) (fun_ext (λ p. reaction_whole p (observer_of m.base p)))
      ∙ ap (λ cs. record { base = record m.base { constraints = cs }; labels = (rest m nothing_yet fresh).labels }) constraints_whole
      ∙ ap (λ ls. record m { labels = ls }) labels_whole

origin_inside : (n x t : ℕ) → 0 < n → origin_alone x ≡ Some t → (x < n) × (t ≤ 0)
origin_inside n zero t few e = let at : 0 ≡ t = cc in (few, omega arith)
origin_inside n (suc x) t few e = absurd (cc)

-- that nothing has happened is a history of each labelled network
pub nothing_history : (m : Labelled) → IsLabelled m → IsHistory m nothing_yet
nothing_history m good = record {
  origin = refl;
  inside = λ x t e. (origin_inside (count m.base) x t good.base.network.origin e).0;
  past = λ x t e. (origin_inside (count m.base) x t good.base.network.origin e).1;
  told = λ p v e. absurd (cc);
  expected = λ p t e. absurd (cc);
  settled = settled_at;
  ready = λ x past. refl;
}
  where
    settled_at : (x t : ℕ) → origin_alone x ≡ Some t → Settles nothing_yet (completed_label m x)
    settled_at (suc x) t e = absurd (cc)
    settled_at zero t e = λ p.
        let upto : IsWithin (completed m empty) empty = completed_least m empty empty (within_itself empty) (λ y q o marked. absurd (marked refl)) in
        let at : completed_label m 0 ≡ completed m empty = ap (completed m) good.origin in
        ap (λ l. l p) at ∙ mark_within_absent (completed m empty p) Absent (upto p) refl
