-- Turn after turn.
use Rattle.std.proofs.Common.{ℕ, suc, ◌≡◌, ◌+◌, ◌≤◌, Bool, true, false, List, ◌∷◌, ◌++◌, length, arith, sym, subst, ap, ◌∙◌, append_assoc}
use Rattle.std.proofs.lemmas.List.{length-map}
use Rattle.cstn_net.specs.Networks.{Network, IsWellFormed}
use Rattle.cstn_rules.specs.Derivations.{Entry}
use Rattle.cstn_rules.specs.Read.{the_entry}
use Rattle.cstn_log.specs.Entries.{State, the_entries}
use Rattle.cstn_check.specs.Growth.{is_refuted, tried, turn, grown, grow}
use Rattle.cstn_check.specs.Turns.{IsOpen, HasBecome, IsFront, IsCutShort}
use Rattle.cstn_check.proofs.Sequences.{longer_through}
use Rattle.cstn_check.proofs.Ends.{grow_at, grow_at_refuted, grow_from}

turn_more : (net : Network) (L M : List Entry) (j : ℕ) → M ≡ grown net L j → tried net M (turn net j) ≡ grown net L (j + 1)
turn_more net L M j is =
    let e : suc j ≡ j + 1 = omega arith in
    ap (λ l. tried net l (turn net j)) is ∙ ap (grown net L) e

pub turn_on : (net : Network) (old mid new : State) (j : ℕ) (r b : Bool) →
    HasBecome net old mid (grown net (the_entries old.entries) j) false →
    HasBecome net mid new (tried net (the_entries mid.entries) (turn net j)) r → r ≡ b →
    HasBecome net old new (grown net (the_entries old.entries) (j + 1)) b
turn_on net old mid new j r b t u e =
    let same = turn_more net (the_entries old.entries) (the_entries mid.entries) j t.entries in
    record {
      entries = u.entries ∙ same;
      refuted_is = sym e ∙ u.refuted_is ∙ ap (is_refuted net) same;
      longer = longer_through old mid new t.longer u.longer;
    }

turn_cut : (net : Network) (old mid new : State) (j : ℕ) →
    HasBecome net old mid (grown net (the_entries old.entries) j) false →
    IsCutShort mid new (tried net (the_entries mid.entries) (turn net j)) →
    IsCutShort old new (grown net (the_entries old.entries) (j + 1))
turn_cut net old mid new j t k =
    let same = turn_more net (the_entries old.entries) (the_entries mid.entries) j t.entries in
    record {
      full = k.full ∙ t.longer.cap;
      front = subst (λ l. IsFront (the_entries new.entries) l) same k.front;
      longer = longer_through old mid new t.longer k.longer;
    }

taken_to : (net : Network) (old new : State) (L G : List Entry) (r : Bool) → G ≡ L → HasBecome net old new L r → HasBecome net old new G r
taken_to net old new L G r e t = subst (λ l. HasBecome net old new l r) (sym e) t

module _ (net : Network) (old : State) (good : IsWellFormed net) (ready : IsOpen net old) where
  pub end_closed : (new : State) (j : ℕ) → HasBecome net old new (grown net (the_entries old.entries) j) false →
      length new.entries ≤ j → HasBecome net old new (grow net (the_entries old.entries)) false
  end_closed new j t done =
      let long : length (the_entries new.entries) ≡ length new.entries = length-map new.entries the_entry in
      let same = ap length t.entries in
      taken_to net old new (grown net (the_entries old.entries) j) (grow net (the_entries old.entries)) false
      (grow_at net good.network good.letters (the_entries old.entries) ready.kept j (omega arith)) t

  pub end_refuted : (new : State) (j : ℕ) → HasBecome net old new (grown net (the_entries old.entries) j) true →
      HasBecome net old new (grow net (the_entries old.entries)) true
  end_refuted new j t =
      taken_to net old new (grown net (the_entries old.entries) j) (grow net (the_entries old.entries)) true
      (grow_at_refuted net good.network good.letters (the_entries old.entries) ready.kept j (sym t.refuted_is)) t

  pub end_cut : (mid new : State) (j : ℕ) → HasBecome net old mid (grown net (the_entries old.entries) j) false →
      IsCutShort mid new (tried net (the_entries mid.entries) (turn net j)) → IsCutShort old new (grow net (the_entries old.entries))
  end_cut mid new j t k =
      let cut = turn_cut net old mid new j t k in
      let f = cut.front in
      let ext = grow_from net good.network good.letters (the_entries old.entries) ready.kept (j + 1) in
      record {
        full = cut.full;
        front = record {
          next = f.next;
          rest = f.rest ++ ext.more;
          is = sym (append_assoc (the_entries new.entries) (f.next ∷ f.rest) ext.more) ∙ ap (λ l. l ++ ext.more) f.is ∙ ext.is;
        };
        longer = cut.longer;
      }
