-- `IsSession` still holds after a constraint is taken out or changed, and its entries are dropped from the log.
use Rattle.std.proofs.Common.{ℕ, zero, suc, ◌≡◌, ◌+◌, ◌<◌, ◌≤◌, inl, inr, Bool, true, false, List, [], ◌∷◌, ◌++◌, length, map, Option, Some, None, arith, refl}
use Rattle.std.proofs.Common.{sym, subst, ap, ◌∙◌, length-append}
use Rattle.std.specs.Option.{is_some}
use Rattle.std.specs.Prelude.{IfSome, IsNone, ◌↔◌, ℤ, slice_get, slice_index_or, nat_lt, if◌then◌else◌}
use Rattle.std.specs.List.{All, AllPairs, Contains}
use Rattle.std.proofs.lemmas.Bool.{cases_Bool, cases_lt, false≢true, cond-true, cond-false, eqb-true, ne_eqb}
use Rattle.std.proofs.lemmas.List.{append-nil, get_or_append_left}
use Rattle.std.proofs.Math.Seq.{get_or-append_seam}
use Rattle.std.proofs.lemmas.List.Elements.{All-map, All-weaker}
use Rattle.std.proofs.lemmas.Option.{slice_get_within, none-some}
use Rattle.cstn_net.specs.Limits.{most_load, most_edits}
use Rattle.cstn_net.specs.declared.constraints.Constraint.{Constraint}
use Rattle.cstn_net.specs.Networks.{Network, Constraint as TheConstraint, IsWellFormed, count}
use Rattle.cstn_net.specs.Read.{NetworkParts, the_network, the_constraint, has_id, without_id, with_most}
use Rattle.cstn_net.proofs.ChangeLemmas.{kept_in, none_taken, same_id}
use Rattle.cstn_rules.specs.declared.entries.Why.{Why}
use Rattle.cstn_rules.specs.declared.entries.Why.TheVariants.{Base}
use Rattle.cstn_rules.specs.Rules.{base, Refutes}
use Rattle.cstn_rules.specs.Derivations.{Entry, IsDerivation}
use Rattle.cstn_rules.proofs.Derived.{with_constraints}
use Rattle.cstn_log.specs.Entries.{State, the_entries, bases}
use Rattle.cstn_log.specs.Cuts.{is_place_marked, rank, renumbered, moved_premises, cut_from, stays, marked_staying, dropped}
use Rattle.cstn_facts.proofs.Places.{get_more}
use Rattle.cstn_log.proofs.ChoiceLemmas.{rank_marked}
use Rattle.cstn_log.proofs.CutLemmas.{cut_marked, length_cut, comes}
use Rattle.cstn_log.proofs.MarkLemmas.{staying_more, dropped_derivation}
use Rattle.cstn_check.specs.Turns.{IsRefutedLast}
use Rattle.cstn_edit.specs.declared.outcomes.Outcome.{Outcome}
use Rattle.cstn_edit.specs.Sessions.{IsKeptLog, IsEditSession, kept_list, most_births}

-- each entry is a base bound
abbrev pub AllBase : List Entry → Type 0
AllBase xs = (k : ℕ) (e : Entry) → slice_get xs k ≡ Some e → e.why ≡ Base

bases_base : (n : ℕ) → AllBase (bases n)
bases_base zero k e there = absurd (none-some e there)
bases_base (suc n) k e there = elim (get_more (bases n) (record { bound = base n; why = Base }) k e there) [
  | inl old ↦ bases_base n k e old
  | inr new ↦ ap (λ (x : Entry). x.why) (sym new.1)
]

-- the first n places are marked
abbrev pub FirstMarked : List Bool → ℕ → Type 0
FirstMarked marks n = (k : ℕ) → k < n → is_place_marked marks k ≡ true

first_more : (marks more : List Bool) → FirstMarked marks (length marks) → FirstMarked (marks ++ more) (length marks)
first_more marks more first k inside = get_or_append_left marks more false k inside ∙ first k inside

first_next : (marks : List Bool) (b : Bool) → b ≡ true → FirstMarked marks (length marks) →
    FirstMarked (marks ++ b ∷ []) (length (marks ++ b ∷ []))
first_next marks b is first k inside = elim (cases_lt k (length marks)) [
  | inl before ↦ get_or_append_left marks (b ∷ []) false k before ∙ first k before
  | inr past ↦
      let long = length-append marks (b ∷ []) in
      let last : k ≡ length marks = omega arith in
      subst (λ j. is_place_marked (marks ++ b ∷ []) j ≡ true) (sym last) (get_or-append_seam marks b [] false ∙ is)
]

stays_base : (id : ℕ) (marks : List Bool) (why : Why) → why ≡ Base → stays id marks why ≡ true
stays_base id marks why is = ap (stays id marks) is

-- base bounds at the front of a list are marked as staying
front_marked : (id : ℕ) (marks : List Bool) (xs ys : List Entry) → AllBase xs → FirstMarked marks (length marks) →
    FirstMarked (marked_staying id marks (xs ++ ys)) (length marks + length xs)
front_marked id marks [] ys all first k inside =
    let more = staying_more id marks ys in
    subst (λ ms. is_place_marked ms k ≡ true) (sym more.1) (first_more marks more.0 first k (omega arith))
front_marked id marks (x ∷ xs) ys all first k inside =
    let b = stays id marks x.why in
    let long = length-append marks (b ∷ []) in
    front_marked id (marks ++ b ∷ []) xs ys (λ j e there. all (suc j) e there)
    (first_next marks b (stays_base id marks x.why (all 0 x refl)) first) k (omega arith)

moved_base : (marks : List Bool) (e : Entry) → e.why ≡ Base → moved_premises marks e ≡ e
moved_base marks e is = ap (λ w. record { bound = e.bound; why = w }) (ap (renumbered marks) is ∙ sym is)

cut_front : (marks : List Bool) (k : ℕ) (xs ys : List Entry) → AllBase xs → FirstMarked marks (k + length xs) →
    cut_from marks k (xs ++ ys) ≡ xs ++ cut_from marks (k + length xs) ys
cut_front marks k [] ys all first = ap (λ n. cut_from marks n ys) (let e : k ≡ k + 0 = omega arith in e)
cut_front marks k (x ∷ xs) ys all first =
    let e : suc k + length xs ≡ k + suc (length xs) = omega arith in
    cut_marked marks k x (xs ++ ys) (first k (omega arith))
    ∙ ap (λ h. h ∷ cut_from marks (suc k) (xs ++ ys)) (moved_base marks x (all 0 x refl))
    ∙ ap (λ t. x ∷ t) (cut_front marks (suc k) xs ys (λ j d there. all (suc j) d there) (λ j inside. first j (omega arith))
    ∙ ap (λ n. xs ++ cut_from marks n ys) e)

-- the base bounds at the front of a list stay when the entries of a constraint are dropped
pub dropped_front : (n id : ℕ) (more : List Entry) → (left : List Entry) × (bases n ++ left ≡ dropped (bases n ++ more) id)
dropped_front n id more =
    let marks = marked_staying id [] (bases n ++ more) in (
      cut_from marks (0 + length (bases n)) more,
      sym (cut_front marks 0 (bases n) more (bases_base n)
          (front_marked id [] (bases n) more (bases_base n) (λ k inside. absurd (omega arith)))),
    )

pub dropped_bases : (n id : ℕ) → dropped (bases n) id ≡ bases n
dropped_bases n id =
    let marks = marked_staying id [] (bases n ++ []) in
    ap (λ l. dropped l id) (sym (append-nil (bases n)))
    ∙ cut_front marks 0 (bases n) [] (bases_base n)
    (front_marked id [] (bases n) [] (bases_base n) (λ k inside. absurd (omega arith)))
    ∙ append-nil (bases n)

-- where no entry but perhaps the last refutes, none but perhaps the last does so in the list that is left, since an entry
-- that isn't the last there wasn't the last before
pub dropped_last : (net : Network) (cs : List TheConstraint) (steps : List Entry) (id : ℕ) → IsRefutedLast net steps →
    IsRefutedLast (with_constraints net cs) (dropped steps id)
dropped_last net cs steps id last = record { before = before }
  where
    marks : List Bool
    marks = marked_staying id [] steps

    before : (k : ℕ) (e : Entry) → slice_get (dropped steps id) k ≡ Some e → k + 1 < length (dropped steps id) →
        ¬ Refutes (with_constraints net cs) e.bound
    before k e there inside r =
        let c = comes (marked_staying id [] steps) steps k e there in
        let here = slice_get_within steps c.0 c.1 c.2 in
        let same : e.bound ≡ c.1.bound = ap (λ (x : Entry). x.bound) c.5 in
        elim (cases_lt (c.0 + 1) (length steps)) [
          | inl early ↦
              last.before c.0 c.1 c.2 early
              (subst (λ b. Refutes net b) same (record { node = r.node; plain = r.plain; above = r.above }))
          | inr late ↦
              let place : length steps ≡ suc c.0 = omega arith in
              let up = rank_marked (marked_staying id [] steps) c.0 c.3 in
              let long = length_cut (marked_staying id [] steps) steps in
              let whole : rank (marked_staying id [] steps) (length steps) ≡ rank (marked_staying id [] steps) (suc c.0) =
              ap (rank (marked_staying id [] steps)) place in
              let at = c.4 in
              absurd (omega arith)
        ]

-- a kept log without the entries of a constraint is a kept log of the network with these constraints, if all other ones are
-- among them
pub cut_log : (net : Network) (cs : List TheConstraint) (old new : State) (id : ℕ) → IsKeptLog net old →
    ((c : TheConstraint) → Contains net.constraints c → (c.id ≡ id → ⊥) → Contains cs c) →
    the_entries new.entries ≡ dropped (the_entries old.entries) id → new.cap ≡ old.cap → new.nodes ≡ old.nodes →
    IsKeptLog (with_constraints net cs) new
cut_log net cs old new id kept others is cap nodes =
    let some = kept.some in
    let most = kept.most in
    record {
      nodes = nodes ∙ kept.nodes;
      derivation = subst (λ l. IsDerivation (with_constraints net cs) l) (sym is)
          (dropped_derivation net cs (the_entries old.entries) id others kept.derivation);
      based = λ room.
          let b = kept.based (omega arith) in
          let left = dropped_front (count net) id b.0 in
          (left.0, left.1 ∙ ap (λ l. dropped l id) b.1 ∙ sym is);
      empty = λ small. is ∙ ap (λ l. dropped l id) (kept.empty (omega arith));
      refuted = subst (λ l. IsRefutedLast (with_constraints net cs) l) (sym is)
          (dropped_last net cs (the_entries old.entries) id kept.refuted);
      some = omega arith;
      most = omega arith;
    }

-- the kept list is the earlier one without the constraint's entries, also where the log has no room for the base bounds
pub kept_dropped : (net left : Network) (old new : State) (id : ℕ) → count left ≡ count net → new.cap ≡ old.cap →
    the_entries new.entries ≡ dropped (the_entries old.entries) id →
    kept_list left new.cap (the_entries new.entries) ≡ dropped (kept_list net old.cap (the_entries old.entries)) id
kept_dropped net left old new id points cap is =
    let of : ℕ → ℕ → List Entry → List Entry = λ n k l. if nat_lt k n then bases n else l in
    ap (λ n. of n new.cap (the_entries new.entries)) points ∙ ap (λ k. of (count net) k (the_entries new.entries)) cap
    ∙ ap (of (count net) old.cap) is
    ∙ elim (cases_Bool (nat_lt old.cap (count net))) [
      | inl small ↦
          cond-true _ _ _ small ∙ sym (ap (λ l. dropped l id) (cond-true _ _ _ small) ∙ dropped_bases (count net) id)
      | inr room ↦ cond-false _ _ _ room ∙ sym (ap (λ l. dropped l id) (cond-false _ _ _ room))
    ]

-- the births after an edit are within the most that a session allows
births_after : (before left entries cap edits : ℕ) (last : Option Outcome) → before ≤ most_births edits last → left ≤ before + entries →
    entries ≤ cap → cap ≤ most_load → left ≤ most_births (edits + 1) None
births_after before left entries cap edits None few more short most = omega arith
births_after before left entries cap edits (Some o) few more short most = omega arith

-- a session is still one after the constraint with this id was taken out or changed, and its entries were dropped
pub cut_session : (old new : NetworkParts) (log left : State) (room edits id next : ℕ) (last : Option Outcome) →
    IsEditSession old log room edits next last → edits < most_edits → length log.entries ≤ log.cap →
    the_network new ≡ with_constraints (the_network old) (map the_constraint new.constraints) →
    ((c : TheConstraint) → Contains (map the_constraint old.constraints) c → (c.id ≡ id → ⊥) → Contains (map the_constraint new.constraints) c) →
    length new.constraints ≤ length old.constraints → room ≤ length new.constraints + new.spare →
    All (λ c. c.id < next) new.constraints →
    the_entries left.entries ≡ dropped (the_entries log.entries) id → left.births ≤ log.births + length log.entries →
    left.cap ≡ log.cap → left.nodes ≡ log.nodes → IsEditSession new left room (edits + 1) next None
cut_session old new log left room edits id next last s few short is others fewer spare below list births cap nodes =
    let most = s.kept.most in
    let fits = s.fits in
    let small = s.small in
    record {
      kept = subst (λ n. IsKeptLog n left) (sym is)
          (cut_log (the_network old) (map the_constraint new.constraints) log left id s.kept others list cap nodes);
      births = births_after log.births left.births (length log.entries) log.cap edits last s.births births short s.kept.most;
      few_edits = omega arith;
      fits = omega arith;
      most_room = s.most_room;
      spare = spare;
      below = below;
      small = omega arith;
      refuted = tt;
      consistent = tt;
    }

-- an option that has none only where a fact holds has a value where the fact doesn't
pub some_where : {A P : Type 0} (o : Option A) → IsNone o ↔ P → (P → ⊥) → is_some o ≡ true
some_where None is never = absurd (never (is.0 refl))
some_where (Some x) is never = refl

-- what holds if an option has a value, where it does
pub where_some : {A : Type 0} (P : Type 0) (o : Option A) → is_some o ≡ true → IfSome o (λ x. P) → P
where_some P (Some x) is h = h
where_some P None is h = absurd (false≢true is)

other_id : (id : ℕ) (x : Constraint) (c : TheConstraint) → the_constraint x ≡ c → (c.id ≡ id → ⊥) → has_id id x ≡ false
other_id id x c is other = ne_eqb x.id id (λ same. other (ap (λ (d : TheConstraint). d.id) (sym is) ∙ same))

contains_more : (x c : TheConstraint) (cs : List TheConstraint) → Contains cs c → Contains (x ∷ cs) c
contains_more x c cs has = (suc has.0, (let inside = has.1 in omega arith), has.2)

-- a constraint with another id is still there after the one with this id is taken out
pub others_left : (id : ℕ) (cs : List Constraint) (c : TheConstraint) → Contains (map the_constraint cs) c → (c.id ≡ id → ⊥) →
    Contains (map the_constraint (without_id id cs)) c
others_left id cs c has other = go cs has.0 has.1 has.2
  where
    go : (cs : List Constraint) (k : ℕ) → k < length (map the_constraint cs) → slice_index_or (map the_constraint cs) k c ≡ c →
        Contains (map the_constraint (without_id id cs)) c
    go [] k inside at = absurd (omega arith)
    go (x ∷ xs) zero inside at = rw (other_id id x c at other) (0, omega arith, at)
    go (x ∷ xs) (suc k) inside at = elim (cases_Bool (has_id id x)) [
      | inl t ↦ rw t (go xs k (omega arith) at)
      | inr f ↦ rw f (contains_more (the_constraint x) c (map the_constraint (without_id id xs)) (go xs k (omega arith) at))
    ]

-- a constraint with another id is still there after the one with this id gets another value
pub others_with : (id : ℕ) (most : ℤ) (cs : List Constraint) (c : TheConstraint) → Contains (map the_constraint cs) c → (c.id ≡ id → ⊥) →
    Contains (map the_constraint (map (with_most id most) cs)) c
others_with id most cs c has other = go cs has.0 has.1 has.2
  where
    go : (cs : List Constraint) (k : ℕ) → k < length (map the_constraint cs) → slice_index_or (map the_constraint cs) k c ≡ c →
        Contains (map the_constraint (map (with_most id most) cs)) c
    go [] k inside at = absurd (omega arith)
    go (x ∷ xs) zero inside at =
        let same : with_most id most x ≡ x = cond-false _ _ _ (other_id id x c at other) in
        (0, omega arith, ap the_constraint same ∙ at)
    go (x ∷ xs) (suc k) inside at =
        contains_more (the_constraint (with_most id most x)) c (map the_constraint (map (with_most id most) xs)) (go xs k (omega arith) at)

-- where the ids ascend, at most one constraint has the id, so at most one is taken out
one_left : (id : ℕ) (cs : List Constraint) → AllPairs (λ b c. b.id < c.id) cs → length cs ≤ length (without_id id cs) + 1
one_left id [] ascending = omega arith
one_left id (x ∷ xs) ascending = elim (cases_Bool (has_id id x)) [
  | inl t ↦
      let it = eqb-true x.id id t in
      let same = ap length (none_taken id xs (λ k d inside is. let above = ascending 0 (suc k) d (omega arith) (omega arith) in omega arith)) in
      rw t (omega (arith, same))
  | inr f ↦
      let rest = one_left id xs (λ i j d before inside. ascending (suc i) (suc j) d (omega arith) (omega arith)) in
      rw f (omega (arith, rest))
]

pub without_many : (net : NetworkParts) (id : ℕ) → IsWellFormed (the_network net) →
    length net.constraints ≤ length (without_id id net.constraints) + 1
without_many net id good = one_left id net.constraints (kept_in (the_network net) net.constraints refl good).ascending

pub without_few : (id : ℕ) (cs : List Constraint) → length (without_id id cs) ≤ length cs
without_few id [] = omega arith
without_few id (x ∷ xs) =
    let rest = without_few id xs in
    elim (cases_Bool (has_id id x)) [ inl t ↦ rw t (omega (arith, rest)) | inr f ↦ rw f (omega (arith, rest)) ]

pub with_below : (id n : ℕ) (most : ℤ) (cs : List Constraint) → All (λ c. c.id < n) cs → All (λ c. c.id < n) (map (with_most id most) cs)
with_below id n most cs below =
    All-map (λ c. c.id < n) (with_most id most) cs
    (All-weaker (λ c. c.id < n) (λ c. (with_most id most c).id < n) (λ c h. (let same = same_id id most c in omega arith)) cs below)
