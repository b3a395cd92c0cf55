-- Sessions stay sound, and their verdicts are true.
use Rattle.std.proofs.Common.{ℕ, ◌≡◌, ◌+◌, ◌<◌, ◌≤◌, inl, inr, Bool, true, false, not, List, [], ◌∷◌, ◌++◌, length, map, get_or, Option, Some, None, arith}
use Rattle.std.proofs.Common.{refl, sym, subst, ap, ◌∙◌, length-append}
use Rattle.std.specs.Prelude.{ℤ, ◌↔◌, ◌==◌, nat_lt, nat_le, if◌then◌else◌}
use Rattle.std.specs.List.{All, Contains}
use Rattle.std.specs.Option.{unwrap_or}
use Rattle.std.proofs.lemmas.Bool.{cases_Bool, cases_lt, not-false, leb-false, lt-ltb, ltb-true, ltb-false, cond-true, cond-false, false≢true, ne_eqb}
use Rattle.std.proofs.lemmas.List.{append-nil, length-map}
use Rattle.std.proofs.lemmas.List.Elements.{All-map, All-push, All-filter, All-weaker, Contains-append_left}
use Rattle.std.proofs.lemmas.List.Filters.{length-filter_both}
use Rattle.std.proofs.lemmas.List.Kept.{AllPairs-filter}
use Rattle.std.proofs.lemmas.List.Quantifiers.{all_pairs_push}
use Rattle.cstn_facts.proofs.Filters.{filter_contains}
use Rattle.cstn_facts.proofs.Pairs.{pairs_map}
use Rattle.cstn_label.specs.Marks.{is_plain}
use Rattle.cstn_label.specs.Labels.{Label}
use Rattle.cstn_label.specs.Bounds.{Dominates}
use Rattle.cstn_net.specs.Limits.{most_constraints, most_edits}
use Rattle.cstn_net.specs.Networks.{Network, Constraint, IsConstraint, IsValue, IsWellFormed, count}
use Rattle.cstn_net.specs.Strategies.{IsConsistent}
use Rattle.cstn_net.proofs.WellFormed.{well_formed_with}
use Rattle.cstn_rules.specs.Derivations.{Entry}
use Rattle.cstn_rules.proofs.Derived.{with_constraints, derivation_elsewhere}
use Rattle.cstn_log.specs.Entries.{bases}
use Rattle.cstn_log.specs.Cuts.{marked_staying, dropped}
use Rattle.cstn_facts.proofs.Members.{contains_map}
use Rattle.cstn_log.proofs.ChoiceLemmas.{rank_grows}
use Rattle.cstn_log.proofs.CutLemmas.{comes}
use Rattle.cstn_log.proofs.MarkLemmas.{dropped_derivation}
use Rattle.cstn_check.specs.declared.verdicts.Verdict.TheVariants.{Yes, No, Full}
use Rattle.cstn_check.specs.Checks.{IsPrefix}
use Rattle.cstn_check.specs.Growth.{is_refuted, grow, load_of, most_entries}
use Rattle.cstn_check.specs.Kept.{IsKeptList}
use Rattle.cstn_check.specs.Turns.{IsRefutedLast}
use Rattle.cstn_label.proofs.PlainLabels.{true_plain}
use Rattle.cstn_check.proofs.Lists.{extends_through}
use Rattle.cstn_check.proofs.Derives.{grown_keeps}
use Rattle.cstn_check.proofs.Bounded.{kept_more}
use Rattle.cstn_check.proofs.Decides.{grown_derivation, grown_by_last, grown_decides}
use Rattle.cstn_check.proofs.Ends.{grow_from}
use Rattle.cstn_check.proofs.Starts.{GoesOn, bases_go_on, kept_from}
use Rattle.cstn_edit.specs.declared.outcomes.Outcome.{Outcome}
use Rattle.cstn_change.specs.Changes.{ChangeRefusal, NotObserved, adds, removes, revalues, is_value, least_unobserved, has_constraint, refusal, constraints_without, with_value}
use Rattle.cstn_change.proofs.IdLemmas.{above_each, value_id}
use Rattle.cstn_change.proofs.Values.{one_with, value_with}
use Rattle.cstn_change.proofs.RefusalLemmas.{true_value, on_observed, none_mapped}
use Rattle.cstn_edit.specs.Sessions.{kept_after, new_outcome, verdict_by}
use Rattle.cstn_edit.specs.Edits.{Session, begun_session, edited_of, with_edited, with_change, outcome_at, kept_at, with_verdict}
use Rattle.cstn_edit.specs.Sound.{NoneDominated, IsTrueOf, IsLastTrue, IsSoundSession}
use Rattle.cstn_edit.proofs.CutLemmas.{dropped_front, dropped_last}
use Rattle.cstn_edit.proofs.VerdictLemmas.{outcome_when, after_grown, after_log, after_bases}
use Rattle.cstn_label.specs.OnLetters.{IsOnLetters}

-- a session starts soundly
pub begun_is_sound : (net : Network) → IsWellFormed net → IsSoundSession (begun_session net)
begun_is_sound net good =
    let on = bases_go_on net good.network good.letters in
    record {
      well_formed = good;
      below = above_each net.constraints;
      derivation = on.derivation;
      based = record { rest = []; is = append-nil (bases (count net)) };
      refuted = on.last;
      apart = record { apart = on.kept.apart };
      last = tt;
    }

-- where a first test and the rest refuse nothing, each of them passes
none_refused : (b : Bool) (r : ChangeRefusal) (o : Option ChangeRefusal) → (if b then Some r else o) ≡ None → (b ≡ false) × (o ≡ None)
none_refused true r o e = cc
none_refused false r o e = (refl, e)

refused_unless : (b : Bool) (r : ChangeRefusal) → (if b then None else Some r) ≡ None → b ≡ true
refused_unless true r e = refl
refused_unless false r e = cc

-- in a network with other constraints the same entries refute
refuted_with : (net : Network) (cs : List Constraint) (list : List Entry) → IsRefutedLast net list →
    IsRefutedLast (with_constraints net cs) list
refuted_with net cs list last = record {
  before = λ k e there inside r. last.before k e there inside (record { node = r.node; plain = r.plain; above = r.above });
}

-- what holds of a constraint that a session adds
record IsAccepted (net : Network) (room : ℕ) (most : ℤ) (a : Label) : Type 0 where
  few : length net.constraints < room
  value : is_value most ≡ true
  plain : is_plain a ≡ true
  observed : least_unobserved net a ≡ None

accepted : (room : ℕ) (s : Session) (x y : ℕ) (most : ℤ) (a : Label) → refusal room (edited_of s) (adds x y most a) ≡ None → IsAccepted s.net room most a
accepted room s x y most a none =
    let one = none_refused (nat_le most_edits s.edits) _ _ none in
    let two = none_refused (nat_le room (length s.net.constraints)) _ _ one.1 in
    let three = none_refused (not (is_value most)) _ _ two.1 in
    let four = none_refused (not (is_plain a)) _ _ three.1 in
    record {
      few = leb-false room (length s.net.constraints) two.0;
      value = not-false (is_value most) three.0;
      plain = not-false (is_plain a) four.0;
      observed = none_mapped NotObserved (least_unobserved s.net a) four.1;
    }

-- a session is sound after a constraint is added
pub added_is_sound : (room : ℕ) (s : Session) (x y : ℕ) (most : ℤ) (a : Label) → room ≤ most_constraints → IsOnLetters a → x < count s.net → y < count s.net →
    refusal room (edited_of s) (adds x y most a) ≡ None → IsSoundSession s → IsSoundSession (with_change s (adds x y most a))
added_is_sound room s x y most a few small from to none sound =
    let cs = s.net.constraints in
    let c : Constraint = record { id = s.next; from = x; to = y; most = most; label = a } in
    let good = sound.well_formed in
    let ok = accepted room s x y most a none in
    record {
      well_formed = well_formed_with s.net (cs ++ c ∷ []) good
          (let long = length-append cs (c ∷ []) in let less = ok.few in omega arith)
          (All-push (IsConstraint s.net) cs c good.network.constraints
          (record { from = from; to = to; plain = true_plain a small ok.plain; observed = on_observed s.net a small ok.observed }))
          (all_pairs_push (λ b d. b.id < d.id) cs c good.ascending sound.below)
          (All-push (λ d. IsValue d.most) cs c good.values (true_value most ok.value));
      below = All-push (λ d. d.id < s.next + 1) cs c
          (All-weaker (λ d. d.id < s.next) (λ d. d.id < s.next + 1) (λ d below. omega arith) cs sound.below)
          (omega arith);
      derivation = derivation_elsewhere s.net (cs ++ c ∷ []) s.kept (λ d b k i has there. Contains-append_left cs (c ∷ []) d has) sound.derivation;
      based = sound.based;
      refuted = refuted_with s.net (cs ++ c ∷ []) s.kept sound.refuted;
      apart = sound.apart;
      last = tt;
    }

-- where no entry is dominated by an earlier one, this holds of the entries that stay as well
dropped_apart : (list : List Entry) (id : ℕ) → NoneDominated list → NoneDominated (dropped list id)
dropped_apart list id a = record {
  apart = λ i j e f before at_i at_j over.
      let marks = marked_staying id [] list in
      let one = comes marks list i e at_i in
      let two = comes marks list j f at_j in
      elim (cases_lt one.0 two.0) [
        | inl less ↦
            a.apart one.0 two.0 one.1 two.1 less one.2 two.2
            (subst (λ b. Dominates b two.1.bound) (ap (λ (x : Entry). x.bound) one.5)
            (subst (λ b. Dominates e.bound b) (ap (λ (x : Entry). x.bound) two.5) over))
        | inr upto ↦
            let grows = rank_grows marks two.0 one.0 upto in
            let here = one.4 in
            let there = two.4 in
            absurd (omega arith)
      ];
}

-- a sound session stays sound when one constraint is taken out or changed, and the entries that it gave are dropped
others_sound : (s : Session) (id : ℕ) (cs : List Constraint) → IsSoundSession s → IsWellFormed (with_constraints s.net cs) →
    ((c : Constraint) → Contains s.net.constraints c → (c.id ≡ id → ⊥) → Contains cs c) → All (λ c. c.id < s.next) cs →
    IsSoundSession (with_edited (record { net = with_constraints s.net cs; fresh = s.next; edits = s.edits + 1 }) (dropped s.kept id))
others_sound s id cs sound good others below =
    let left = dropped_front (count s.net) id sound.based.rest in
    record {
      well_formed = good;
      below = below;
      derivation = dropped_derivation s.net cs s.kept id others sound.derivation;
      based = record { rest = left.0; is = left.1 ∙ ap (λ l. dropped l id) sound.based.is };
      refuted = dropped_last s.net cs s.kept id sound.refuted;
      apart = dropped_apart s.kept id sound.apart;
      last = tt;
    }

-- a session is sound after a constraint is taken out
pub removed_is_sound : (s : Session) (id : ℕ) → IsSoundSession s → IsSoundSession (with_change s (removes id))
removed_is_sound s id sound =
    let cs = s.net.constraints in
    let good = sound.well_formed in
    let test : Constraint → Bool = λ c. not (c.id == id) in
    others_sound s id (constraints_without id cs) sound
    (well_formed_with s.net (constraints_without id cs) good
    (let both = length-filter_both (λ (c : Constraint). c.id == id) test (λ c. refl) cs in let few = good.few_constraints in omega arith)
    (All-filter test (IsConstraint s.net) cs good.network.constraints)
    (AllPairs-filter (λ b c. b.id < c.id) test cs good.ascending)
    (All-filter test (λ c. IsValue c.most) cs good.values))
    (λ c has other. filter_contains test cs c has (ap not (ne_eqb c.id id other)))
    (All-filter test (λ c. c.id < s.next) cs sound.below)

-- a session is sound after a constraint gets another value
value_is_sound : (s : Session) (id : ℕ) (most : ℤ) → IsValue most → IsSoundSession s → IsSoundSession (with_change s (revalues id most))
value_is_sound s id most value sound =
    let cs = s.net.constraints in
    let good = sound.well_formed in
    let f : Constraint → Constraint = with_value id most in
    others_sound s id (map f cs) sound
    (well_formed_with s.net (map f cs) good
    (let same = length-map cs f in let few = good.few_constraints in omega arith)
    (All-map (IsConstraint s.net) f cs (All-weaker _ _ (one_with s.net id most) cs good.network.constraints))
    (pairs_map (λ b c. b.id < c.id) f cs (λ i j d before inside.
    let ordered = good.ascending i j d before inside in
    let one = value_id id most (get_or cs i d) in
    let other = value_id id most (get_or cs j d) in
    omega arith))
    (All-map (λ c. IsValue c.most) f cs (All-weaker _ _ (λ c. value_with id most c value) cs good.values)))
    (λ c has other. subst (Contains (map f cs)) (cond-false _ _ _ (ne_eqb c.id id other)) (contains_map f cs c has))
    (All-map (λ c. c.id < s.next) f cs
    (All-weaker (λ c. c.id < s.next) (λ c. (f c).id < s.next)
    (λ c below. (let same = value_id id most c in omega arith)) cs sound.below))

pub changed_is_sound : (room : ℕ) (s : Session) (id : ℕ) (most : ℤ) → refusal room (edited_of s) (revalues id most) ≡ None → IsSoundSession s → IsSoundSession (with_change s (revalues id most))
changed_is_sound room s id most none sound =
    let one = none_refused (nat_le most_edits s.edits) _ _ none in
    let two = none_refused (not (has_constraint s.net id)) _ _ one.1 in
    value_is_sound s id most (true_value most (refused_unless (is_value most) _ two.1)) sound

-- growth goes on from the kept list of a sound session
pub sound_goes_on : (s : Session) → IsSoundSession s → GoesOn s.net s.kept
sound_goes_on s sound = record {
  kept = kept_from s.net sound.well_formed s.kept sound.derivation (record { more = sound.based.rest; is = sound.based.is }) sound.apart.apart;
  derivation = sound.derivation;
  last = sound.refuted;
}

-- a list that a session on the network may keep: growth may go on from it, and it begins with the base bounds
record IsKeptOf (net : Network) (list : List Entry) : Type 0 where
  on : GoesOn net list
  based : IsPrefix (bases (count net)) list

bases_kept_of : (net : Network) → IsWellFormed net → IsKeptOf net (bases (count net))
bases_kept_of net good = record { on = bases_go_on net good.network good.letters; based = record { rest = []; is = append-nil (bases (count net)) } }

grown_kept_of : (net : Network) (list : List Entry) → IsWellFormed net → IsKeptOf net list → IsKeptOf net (grow net list)
grown_kept_of net list good k =
    let on = k.on in
    let all = extends_through (bases (count net)) list (grow net list) (record { more = k.based.rest; is = k.based.is }) (grow_from net good.network good.letters list on.kept 0) in
    record {
      on = record {
        kept = grown_keeps net (IsKeptList net) (kept_more net good.network good.letters) list (length list + most_entries net) on.kept;
        derivation = grown_derivation net list good.network good.letters on;
        last = grown_by_last net list good.network good.letters on;
      };
      based = record { rest = all.more; is = all.is };
    }

after_kept_of : (net : Network) (cap : ℕ) (list : List Entry) → IsWellFormed net → IsKeptOf net list → IsKeptOf net (kept_after net cap list)
after_kept_of net cap list good k = elim (cases_lt cap (length (grow net list))) [
  | inr room ↦ subst (IsKeptOf net) (sym (after_grown net cap list room)) (grown_kept_of net list good k)
  | inl long ↦ elim (cases_lt cap (load_of net)) [
    | inr room ↦ subst (IsKeptOf net) (sym (after_log net cap list long room)) (grown_kept_of net (bases (count net)) good (bases_kept_of net good))
    | inl full ↦ subst (IsKeptOf net) (sym (after_bases net cap list long full)) (bases_kept_of net good)
  ]
]

-- the verdict by a grown list is true
by_is_true : (net : Network) (list : List Entry) → IsWellFormed net → GoesOn net list → IsTrueOf net (verdict_by net (grow net list))
by_is_true net list good on =
    let decides = grown_decides net list good.network good.letters on in
    elim (cases_Bool (is_refuted net (grow net list))) [
      | inl over ↦ subst (IsTrueOf net) (sym (cond-true _ _ _ over)) (λ c. false≢true (sym (decides.0 c) ∙ over))
      | inr stands ↦ subst (IsTrueOf net) (sym (cond-false _ _ _ stands)) (decides.1 stands)
    ]

-- the verdict of a new outcome is true
pub new_is_true : (net : Network) (cap : ℕ) (list : List Entry) → IsWellFormed net → GoesOn net list → IsTrueOf net (new_outcome net cap list).verdict
new_is_true net cap list good on = elim (cases_Bool (nat_lt cap (length (grow net list)))) [
  | inr short ↦
      let room = ltb-false cap (length (grow net list)) short in
      subst (λ (o : Outcome). IsTrueOf net o.verdict) (sym (outcome_when net cap list false (nat_lt cap (load_of net)) short refl))
      (subst (λ l. IsTrueOf net (verdict_by net l)) (sym (after_grown net cap list room)) (by_is_true net list good on))
  | inl long ↦ elim (cases_Bool (nat_lt cap (load_of net))) [
    | inl full ↦ subst (λ (o : Outcome). IsTrueOf net o.verdict) (sym (outcome_when net cap list true true long full)) tt
    | inr short ↦
        let above = ltb-true cap (length (grow net list)) long in
        let room = ltb-false cap (load_of net) short in
        subst (λ (o : Outcome). IsTrueOf net o.verdict) (sym (outcome_when net cap list true false long short))
        (subst (λ l. IsTrueOf net (verdict_by net l)) (sym (after_log net cap list above room))
        (by_is_true net (bases (count net)) good (bases_go_on net good.network good.letters)))
  ]
]

-- the outcome of a sound session is true
pub outcome_is_true : (cap : ℕ) (s : Session) → IsSoundSession s → IsTrueOf s.net (outcome_at cap s).verdict
outcome_is_true cap s sound = told s.last sound.last
  where
    told : (last : Option Outcome) → IsLastTrue s.net last → IsTrueOf s.net (outcome_at cap (record s { last = last })).verdict
    told None none = new_is_true s.net cap s.kept sound.well_formed (sound_goes_on s sound)
    told (Some o) is = is

pub yes_is_true : (cap load : ℕ) (s : Session) → IsSoundSession s → (outcome_at cap s).verdict ≡ Yes load → IsConsistent s.net
yes_is_true cap load s sound said = subst (IsTrueOf s.net) said (outcome_is_true cap s sound)

pub no_is_true : (cap load : ℕ) (s : Session) → IsSoundSession s → (outcome_at cap s).verdict ≡ No load → IsConsistent s.net → ⊥
no_is_true cap load s sound said = subst (IsTrueOf s.net) said (outcome_is_true cap s sound)

-- a new outcome is full exactly where both the kept list and the log of the network grow longer than the cap
never_full : (net : Network) (list : List Entry) → verdict_by net list ≡ Full → ⊥
never_full net list full = elim (cases_Bool (is_refuted net list)) [
  | inl over ↦ (let clash : No (length list) ≡ Full = sym (cond-true _ _ _ over) ∙ full in cc)
  | inr stands ↦ (let clash : Yes (length list) ≡ Full = sym (cond-false _ _ _ stands) ∙ full in cc)
]

pub new_is_full : (net : Network) (cap : ℕ) (list : List Entry) →
    (new_outcome net cap list).verdict ≡ Full ↔ ((cap < length (grow net list)) × (cap < load_of net))
new_is_full net cap list = (
  λ full. elim (cases_Bool (nat_lt cap (length (grow net list)))) [
    | inr short ↦ absurd (never_full net (kept_after net cap list)
        (sym (ap (λ (o : Outcome). o.verdict) (outcome_when net cap list false (nat_lt cap (load_of net)) short refl)) ∙ full))
    | inl long ↦ elim (cases_Bool (nat_lt cap (load_of net))) [
      | inl over ↦ (ltb-true cap (length (grow net list)) long, ltb-true cap (load_of net) over)
      | inr short ↦ absurd (never_full net (kept_after net cap list)
          (sym (ap (λ (o : Outcome). o.verdict) (outcome_when net cap list true false long short)) ∙ full))
    ]
  ],
  λ h. ap (λ (o : Outcome). o.verdict)
      (outcome_when net cap list true true (lt-ltb cap (length (grow net list)) h.0) (lt-ltb cap (load_of net) h.1)),
)

pub full_is_exact : (cap : ℕ) (s : Session) → s.last ≡ None →
    (outcome_at cap s).verdict ≡ Full ↔ ((cap < length (grow s.net s.kept)) × (cap < load_of s.net))
full_is_exact cap s none =
    let fresh = new_outcome s.net cap s.kept in
    subst (λ (o : Outcome). o.verdict ≡ Full ↔ ((cap < length (grow s.net s.kept)) × (cap < load_of s.net)))
    (sym (ap (λ l. unwrap_or l fresh) none)) (new_is_full s.net cap s.kept)

-- a session stays sound after a verdict
pub verdict_is_sound : (cap : ℕ) (s : Session) → IsSoundSession s → IsSoundSession (with_verdict cap s)
verdict_is_sound cap s sound =
    let k = kept s.last in
    record {
      well_formed = sound.well_formed;
      below = sound.below;
      derivation = k.on.derivation;
      based = k.based;
      refuted = k.on.last;
      apart = record { apart = k.on.kept.apart };
      last = outcome_is_true cap s sound;
    }
  where
    kept : (last : Option Outcome) → IsKeptOf s.net (kept_at cap s last)
    kept None = after_kept_of s.net cap s.kept sound.well_formed (record { on = sound_goes_on s sound; based = sound.based })
    kept (Some o) = record { on = sound_goes_on s sound; based = sound.based }
