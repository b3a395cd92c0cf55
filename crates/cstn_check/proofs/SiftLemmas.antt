-- The agenda of a turn: what sifting puts on it, and what is ahead of the turn by it.
use Rattle.std.proofs.Common.{ℕ, arith, ◌≡◌, ◌⊎◌, inl, inr, ◌+◌, ◌<◌, ◌≤◌, true, false, length, Option, Some, None, refl, sym, subst, ap, ◌∙◌}
use Rattle.std.specs.Prelude.{ℤ, pos, ◌+ℤ◌, ◌-ℤ◌, ◌≤ℤ◌, slice_get, slice_index_or}
use Rattle.std.proofs.lemmas.Int.{ints}
use Rattle.std.proofs.lemmas.Bool.{cases_Bool, cases_eq, cases_lt, false≢true}
use Rattle.std.proofs.lemmas.List.{length-map}
use Rattle.cstn_label.specs.declared.bounds.Bound.{Bound as DeclaredBound}
use Rattle.cstn_label.specs.declared.marks.Mark.TheVariants.{Absent}
use Rattle.cstn_label.specs.declared.props.Prop.{Prop}
use Rattle.cstn_label.specs.Labels.{Label, IsMarked, without}
use Rattle.cstn_label.specs.Bounds.{Bound as TheBound}
use Rattle.cstn_label.specs.Read.{marks}
use Rattle.cstn_net.specs.Networks.{Network, Observes, count}
use Rattle.cstn_rules.specs.declared.entries.Entry.{Entry}
use Rattle.cstn_rules.specs.Read.{the_entry}
use Rattle.cstn_log.specs.Agendas.{has_place}
use Rattle.cstn_minset.specs.Sets.{IsSoughtAbove}
use Rattle.cstn_log.specs.Entries.{State, the_entries, IsBoundAt, IsLive}
use Rattle.cstn_check.specs.Growth.{is_live, tried, waits_below}
use Rattle.cstn_check.specs.Growth.Instance.{wait_at}
use Rattle.cstn_check.specs.Floors.{IsFloor}
use Rattle.cstn_check.specs.Turns.{IsOpen, HasBecome}
use Rattle.cstn_check.specs.Waits.{HasBound, IsSpentWait, AreSeen, AreSeenOf, AreMarking, AreMarkingAt, IsSifted, IsAhead, IsNextOnAgenda}
use Rattle.cstn_check.proofs.Lists.{Extends}
use Rattle.cstn_check.proofs.Grows.{spent_kept}
use Rattle.cstn_check.proofs.Reading.{true_live, dead_false}
use Rattle.cstn_check.proofs.SpentLemmas.{waits_to}
use Rattle.cstn_check.proofs.TurnLemmas.{idle, bound_of, entry_there}
use Rattle.cstn_check.proofs.FloorLemmas.{dead_spent, unmarked_spent, seen_spent, marking_spent, cases_above, cases_marked}

-- ---- another agenda

-- the log can be grown with any agenda
pub open_on : (net : Network) (old new : State) → new ≡ record old { agenda = new.agenda } → IsOpen net old → IsOpen net new
open_on net old new is r = subst (λ (s : State). IsOpen net s) (sym is) (record {
  nodes = r.nodes;
  derivation = r.derivation;
  kept = r.kept;
  unrefuted = r.unrefuted;
  short = r.short;
  births = r.births;
})

-- a step ends at the same list with any agenda
pub past : (net : Network) (old mid new : State) (is : new ≡ record mid { agenda = new.agenda }) (n j : ℕ) →
    HasBecome net old mid (tried net (the_entries old.entries) (waits_below n j)) false → HasBecome net old new (tried net (the_entries old.entries) (waits_below n j)) false
past net old mid new is n j t = subst (λ (s : State). HasBecome net old s (tried net (the_entries old.entries) (waits_below n j)) false) (sym is) (record {
  entries = t.entries;
  refuted_is = t.refuted_is;
  longer = record {
    cap = t.longer.cap;
    nodes = t.longer.nodes;
    ids = t.longer.ids;
    births = t.longer.births;
    short = t.longer.short;
    longer = t.longer.longer;
  };
})

-- an entry has its bound with any agenda
pub had_on : (old new : State) (k : ℕ) (b : TheBound) → new ≡ record old { agenda = new.agenda } → HasBound old.entries k b → HasBound new.entries k b
had_on old new k b is has = subst (λ (s : State). HasBound s.entries k b) (sym is) has

pub sifted_itself : (s : State) (j : ℕ) → IsSifted s s j
sifted_itself s j = record { stays = refl; kept = λ k has. has; upto = λ k has. inl has }

pub stays_through : (a b c : State) → b ≡ record a { agenda = b.agenda } → c ≡ record b { agenda = c.agenda } → c ≡ record a { agenda = c.agenda }
stays_through a b c one two = two ∙ ap (λ (s : State). record s { agenda = c.agenda }) one

pub sifted_through : (a b c : State) (j : ℕ) → IsSifted a b j → IsSifted b c j → IsSifted a c j
sifted_through a b c j one two = record {
  stays = stays_through a b c one.stays two.stays;
  kept = λ k has. two.kept k (one.kept k has);
  upto = λ k has. elim (two.upto k has) [
    | inl mid ↦ one.upto k mid
    | inr low ↦ inr low
  ];
}

-- a place of the list is one with any agenda
pub inside_past : (old new : State) (j : ℕ) → new ≡ record old { agenda = new.agenda } → j < length old.entries → j < length new.entries
inside_past old new j is inside = subst (λ (z : State). j < length z.entries) (sym is) inside

pub inside_on : (old new : State) (j : ℕ) → IsSifted old new j → j < length old.entries → j < length new.entries
inside_on old new j s inside = inside_past old new j s.stays inside

module _ (net : Network) (old new : State) (j : ℕ) (s : IsSifted old new j) where
  entries_same : new.entries ≡ old.entries
  entries_same = ap (λ (z : State). z.entries) s.stays

  pub bound_at_on : (own : DeclaredBound) → IsBoundAt old.entries j own → IsBoundAt new.entries j own
  bound_at_on own at = subst (λ es. IsBoundAt es j own) (sym entries_same) at

  pub floor_on : (x : ℕ) (label : Label) (floor : ℤ) → IsFloor old.entries x label floor → IsFloor new.entries x label floor
  floor_on x label floor is = subst (λ es. IsFloor es x label floor) (sym entries_same) is

  spent_on : (a b : ℕ) → IsSpentWait net old a b → IsSpentWait net new a b
  spent_on a b h = subst (λ (z : State). IsSpentWait net z a b) (sym s.stays) h

  pub seen_of_on : (p : ℕ) → AreSeenOf net old j p → AreSeenOf net new j p
  seen_of_on p was k e at upto observes = elim (was k e (ap (λ es. slice_get es k) (sym entries_same) ∙ at) upto observes) [
    | inl has ↦ inl (s.kept k has)
    | inr spent ↦ inr (spent_on k j spent)
  ]

  pub seen_on : AreSeen net old j → AreSeen net new j
  seen_on was k upto = elim (was k upto) [
    | inl has ↦ inl (s.kept k has)
    | inr spent ↦ inr (spent_on k j spent)
  ]

  pub marking_at_on : (x : ℕ) → AreMarkingAt net old j x → AreMarkingAt net new j x
  marking_at_on x was k e at upto node = elim (was k e (ap (λ es. slice_get es k) (sym entries_same) ∙ at) upto node) [
    | inl has ↦ inl (s.kept k has)
    | inr spent ↦ inr (spent_on j k spent)
  ]

-- ---- the entries at an observer

-- a place at the observer of what the label doesn't mark has nothing to add
pub unmarked_seen : (net : Network) (s : State) (j p : ℕ) (own : DeclaredBound) → IsBoundAt s.entries j own → marks own.label p ≡ Absent → AreSeenOf net s j p
unmarked_seen net s j p own at none k e there upto observes =
    inr (unmarked_spent net s k j e at.entry there at.there (λ q other.
    let same : q ≡ p = (let a = other.what in let b = observes.what in cc) in
    subst (λ (z : DeclaredBound). marks z.label q ≡ Absent) (sym at.is) (subst (λ n. marks own.label n ≡ Absent) (sym same) none)))

-- the places at the observer are put on the agenda, where the least value and the reaction are above the floor
pub observer_sifted : (net : Network) (old new : State) (j p x : ℕ) (own : DeclaredBound) (floor low : ℤ) → IsOpen net old → IsBoundAt old.entries j own →
    ((y : ℕ) → Observes net y p → y ≡ x) → IsFloor old.entries own.node.0 (without (marks own.label) p) floor → new ≡ record old { agenda = new.agenda } →
    ((k : ℕ) (e : Entry) → slice_get old.entries k ≡ Some e → IsLive old.entries k → k ≤ j → IsSoughtAbove x low None e.bound → has_place new.agenda k ≡ true) →
    low ≡ floor -ℤ pos (net.reaction p) → AreSeenOf net new j p
observer_sifted net old new j p x own floor low ready at one is stays added lower =
    subst (λ (s : State). AreSeenOf net s j p) (sym stays) (λ k e there upto observes. elim (cases_Bool (is_live (the_entries old.entries) k)) [
      | inr dead ↦ inr (dead_spent net old k j (inl dead))
      | inl live ↦ elim (cases_above low e.bound.least) [
        | inl above ↦ inl (added k e there (true_live old.entries k live) upto (one e.bound.node.0 observes, above, tt))
        | inr upto_floor ↦
            inr (seen_spent net old k j p e at.entry floor ready (bound_of net old j at.entry ready at.there).node there at.there observes
            (subst (λ (z : DeclaredBound). IsFloor old.entries z.node.0 (without (marks z.label) p) floor) (sym at.is) is)
            (omega (arith, ints, lower, upto_floor)))
      ]
    ])

-- each place has been looked at, where those at the observer of each proposition have
pub seen_all : (net : Network) (s : State) (j : ℕ) (own : DeclaredBound) → j < length s.entries → IsBoundAt s.entries j own → ((p : ℕ) → AreSeenOf net s j p) → AreSeen net s j
seen_all net s j own inside at each k upto =
    let e = entry_there s.entries k (omega (arith, upto, inside)) in
    go e.0 e.1 (slice_index_or net.observes e.0.bound.node.0 None) refl
  where
    go : (e : Entry) → slice_get s.entries k ≡ Some e → (o : Option ℕ) → slice_index_or net.observes e.bound.node.0 None ≡ o →
        (has_place s.agenda k ≡ true) ⊎ IsSpentWait net s k j
    go e there None none = inr (unmarked_spent net s k j e at.entry there at.there (λ q other. absurd (let a = other.what in cc)))
    go e there (Some p) some = each p k e there upto (record { what = some })

-- ---- the entries that mark what the time-point observes

-- nothing marks what a time-point observes that observes nothing
pub nothing_marking : (net : Network) (s : State) (j : ℕ) (own : DeclaredBound) → j < length s.entries → IsBoundAt s.entries j own →
    slice_index_or net.observes own.node.0 None ≡ None → AreMarking net s j
nothing_marking net s j own inside at none k upto =
    let f = entry_there s.entries k (omega (arith, upto, inside)) in
    inr (unmarked_spent net s j k at.entry f.0 at.there f.1 (λ q other.
    let o = subst (λ (z : DeclaredBound). Observes net z.node.0 q) at.is other in
    absurd (let a = o.what in cc)))

module _ (net : Network) (s : State) (j p x : ℕ) (own : DeclaredBound) (ready : IsOpen net s) (at : IsBoundAt s.entries j own) (observes : Observes net own.node.0 p) where
  seen : Observes net at.entry.bound.node.0 p
  seen = subst (λ (z : DeclaredBound). Observes net z.node.0 p) (sym at.is) observes

  unmarked : (k : ℕ) (e : Entry) → slice_get s.entries k ≡ Some e → marks e.bound.label p ≡ Absent → IsSpentWait net s j k
  unmarked k e there none = unmarked_spent net s j k at.entry e at.there there (λ q other.
      let same : q ≡ p = (let a = other.what in let b = seen.what in cc) in
      subst (λ n. marks e.bound.label n ≡ Absent) (sym same) none)

  -- no entry at x marks p
  pub none_at : ((k : ℕ) (e : Entry) → slice_get s.entries k ≡ Some e → IsLive s.entries k → e.bound.node.0 ≡ x → ¬ IsMarked (marks e.bound.label) p) → AreMarkingAt net s j x
  none_at none k e there upto node = elim (cases_Bool (is_live (the_entries s.entries) k)) [
    | inr dead ↦ inr (dead_spent net s j k (inr dead))
    | inl live ↦ elim (cases_marked (marks e.bound.label p)) [
      | inl marked ↦ absurd (none k e there (true_live s.entries k live) node marked)
      | inr off ↦ inr (unmarked k e there off)
    ]
  ]

  module _ (floor : ℤ) (is : IsFloor s.entries x (marks own.label) floor) where
    up_to : (k : ℕ) (e : Entry) → slice_get s.entries k ≡ Some e → e.bound.node.0 ≡ x →
        ((own.least +ℤ pos (net.reaction p)) ≤ℤ floor) ⊎ (e.bound.least ≤ℤ floor) → IsSpentWait net s j k
    up_to k e there node low =
        marking_spent net s j k p at.entry e floor ready (bound_of net s k e ready there).node at.there there seen
        (subst (λ (z : DeclaredBound). IsFloor s.entries e.bound.node.0 (marks z.label) floor) (sym at.is) (subst (λ n. IsFloor s.entries n (marks own.label) floor) (sym node) is))
        (subst (λ (z : DeclaredBound). ((z.least +ℤ pos (net.reaction p)) ≤ℤ floor) ⊎ (e.bound.least ≤ℤ floor)) (sym at.is) low)

    -- all entries at x are up to the floor
    pub all_below : (own.least +ℤ pos (net.reaction p)) ≤ℤ floor → AreMarkingAt net s j x
    all_below low k e there upto node = inr (up_to k e there node (inl low))

    -- the places at x are put on the agenda, where the label marks p and the least value is above the floor
    pub node_sifted : (new : State) (q : Prop) → q.index ≡ p → new ≡ record s { agenda = new.agenda } →
        ((k : ℕ) (e : Entry) → slice_get s.entries k ≡ Some e → IsLive s.entries k → k ≤ j → IsSoughtAbove x floor (Some q) e.bound → has_place new.agenda k ≡ true) →
        AreMarkingAt net new j x
    node_sifted new q same stays added =
        subst (λ (z : State). AreMarkingAt net z j x) (sym stays) (λ k e there upto node. elim (cases_Bool (is_live (the_entries s.entries) k)) [
          | inr dead ↦ inr (dead_spent net s j k (inr dead))
          | inl live ↦ elim (cases_above floor e.bound.least) [
            | inr low ↦ inr (up_to k e there node (inr low))
            | inl above ↦ elim (cases_marked (marks e.bound.label p)) [
              | inr off ↦ inr (unmarked k e there off)
              | inl marked ↦
                  inl (added k e there (true_live s.entries k live) upto
                  (node, above, subst (λ n. IsMarked (marks e.bound.label) n) (sym same) marked))
            ]
          ]
        ])

-- each place has been looked at, where those at each time-point have
pub marking_all : (net : Network) (s : State) (j : ℕ) → IsOpen net s → j < length s.entries → ((x : ℕ) → x < count net → AreMarkingAt net s j x) → AreMarking net s j
marking_all net s j ready inside each k upto =
    let e = entry_there s.entries k (omega (arith, upto, inside)) in
    each e.0.bound.node.0 (bound_of net s k e.0 ready e.1).node k e.0 e.1 upto refl

-- the waits of a dead entry add nothing
pub waits_dead : (net : Network) (s : State) (j : ℕ) → IsOpen net s → ¬ IsLive s.entries j →
    HasBecome net s s (tried net (the_entries s.entries) (waits_below (j + 1) j)) false
waits_dead net s j ready dead =
    let off = dead_false s.entries j dead in
    waits_to net s s j 0 (j + 1) (omega arith) (λ k low high. (dead_spent net s k j (inr off), dead_spent net s j k (inl off))) (idle net s _ ready refl)

-- ---- what is ahead

-- what is on an agenda that was empty, or adds nothing, is all that is ahead
pub ahead_of_all : (net : Network) (empty mid new : State) (j : ℕ) → ((k : ℕ) → has_place empty.agenda k ≡ false) → IsSifted empty mid j → IsSifted mid new j →
    AreSeen net mid j → AreMarking net new j → IsAhead net new j 0
ahead_of_all net empty mid new j none one two seen marking = record {
  low = λ k has. omega arith;
  high = λ k has. elim ((sifted_through empty mid new j one two).upto k has) [
    | inl was ↦ absurd (false≢true (sym (none k) ∙ was))
    | inr low ↦ low
  ];
  has = λ k from upto. elim (seen_on net mid new j two seen k upto) [
    | inl here ↦ inl here
    | inr first ↦ elim (marking k upto) [
      | inl here ↦ inl here
      | inr second ↦ inr (first, second)
    ]
  ];
}

-- what is ahead stays ahead while the list grows
pub ahead_on : (net : Network) (s t : State) (j from : ℕ) → Extends (the_entries s.entries) (the_entries t.entries) → t.agenda ≡ s.agenda → j < length s.entries →
    IsAhead net s j from → IsAhead net t j from
ahead_on net s t j from more same inside a =
    let L = the_entries s.entries in
    let size : length L ≡ length s.entries = length-map s.entries the_entry in
    record {
      low = λ k has. a.low k (subst (λ g. has_place g k ≡ true) same has);
      high = λ k has. a.high k (subst (λ g. has_place g k ≡ true) same has);
      has = λ k low upto. elim (a.has k low upto) [
        | inl here ↦ inl (subst (λ g. has_place g k ≡ true) (sym same) here)
        | inr spent ↦ inr (
          spent_kept net L (the_entries t.entries) (wait_at k j) more (omega (arith, size, inside, upto), omega (arith, size, inside)) spent.0,
          spent_kept net L (the_entries t.entries) (wait_at j k) more (omega (arith, size, inside), omega (arith, size, inside, upto)) spent.1,
        )
      ];
    }

-- the next place is the least on the agenda
module _ (net : Network) (old new : State) (j from : ℕ) (stays : new ≡ record old { agenda = new.agenda }) (a : IsAhead net old j from) where
  move : (k : ℕ) → IsSpentWait net old k j × IsSpentWait net old j k → IsSpentWait net new k j × IsSpentWait net new j k
  move k both = subst (λ (z : State). IsSpentWait net z k j × IsSpentWait net z j k) (sym stays) both

  rest : (k : ℕ) → from ≤ k → k ≤ j → has_place old.agenda k ≡ false → IsSpentWait net new k j × IsSpentWait net new j k
  rest k low upto off = elim (a.has k low upto) [
    | inl on ↦ absurd (false≢true (sym off ∙ on))
    | inr spent ↦ move k spent
  ]

  pub next_taken : (i : ℕ) → has_place old.agenda i ≡ true → ((m : ℕ) → m < i → has_place old.agenda m ≡ false) → has_place new.agenda i ≡ false →
      ((m : ℕ) → (m ≡ i → ⊥) → has_place new.agenda m ≡ has_place old.agenda m) → IsNextOnAgenda net old new j from i
  next_taken i here least gone others = record {
    stays = stays;
    low = a.low i here;
    high = let h = a.high i here in omega (arith, h);
    spent = λ k low below. rest k low (let h = a.high i here in omega (arith, below, h)) (least k below);
    ahead = λ upto. record {
      low = λ k has. elim (cases_eq k i) [
        | inl same ↦ absurd (false≢true (sym gone ∙ subst (λ n. has_place new.agenda n ≡ true) same has))
        | inr ne ↦ elim (cases_lt k i) [
          | inl below ↦ absurd (false≢true (sym (least k below) ∙ sym (others k ne) ∙ has))
          | inr above ↦ omega (arith, above, ne)
        ]
      ];
      high = λ k has. elim (cases_eq k i) [
        | inl same ↦ absurd (false≢true (sym gone ∙ subst (λ n. has_place new.agenda n ≡ true) same has))
        | inr ne ↦ a.high k (sym (others k ne) ∙ has)
      ];
      has = λ k low high. elim (a.has k (let h = a.low i here in omega (arith, low, h)) high) [
        | inl on ↦ inl (others k (λ e. let f : ⊥ = omega (arith, e, low) in f) ∙ on)
        | inr spent ↦ inr (move k spent)
      ];
    };
  }

  pub next_none : from ≤ j + 1 → ((m : ℕ) → has_place old.agenda m ≡ false) → IsNextOnAgenda net old new j from (j + 1)
  next_none upto none = record {
    stays = stays;
    low = upto;
    high = omega arith;
    spent = λ k low below. rest k low (omega (arith, below)) (none k);
    ahead = λ past. absurd (omega (arith, past));
  }

  pub next_dead : from ≤ j + 1 → ¬ IsLive old.entries j → IsNextOnAgenda net old new j from (j + 1)
  next_dead upto dead =
      let off = dead_false old.entries j dead in
      record {
        stays = stays;
        low = upto;
        high = omega arith;
        spent = λ k low below. move k (dead_spent net old k j (inr off), dead_spent net old j k (inl off));
        ahead = λ past. absurd (omega (arith, past));
      }
