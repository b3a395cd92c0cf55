-- Instances that are tried one after the other.
use Rattle.std.proofs.Common.{ℕ, zero, suc, ◌≡◌, ◌+◌, ◌<◌, ◌≤◌, inl, inr, Bool, true, false, List, [], ◌∷◌, ◌++◌, length, map, get_or, take, drop, arith, refl, sym, subst, ap, ◌∙◌, append_assoc}
use Rattle.std.proofs.lemmas.Bool.{cases_lt, false≢true}
use Rattle.std.proofs.lemmas.List.{map-append, take_more, take-append-drop, append-nil}
use Rattle.std.specs.Prelude.{Result, Ok, Err, IfOk, IsErr}
use Rattle.cstn_net.specs.declared.constraints.Constraint.{Constraint as DeclaredConstraint}
use Rattle.cstn_net.specs.Networks.{Network, Constraint, IsWellFormed}
use Rattle.cstn_net.specs.Read.{NetworkParts, the_network, the_constraint}
use Rattle.cstn_rules.specs.Derivations.{Entry, IsDerivation}
use Rattle.cstn_pool.specs.declared.pool.Full.{Full}
use Rattle.cstn_log.specs.Entries.{State, the_entries}
use Rattle.cstn_check.specs.Growth.{Instance, is_refuted, step, tried, chains_at, waits_below, turn}
use Rattle.cstn_check.specs.Growth.Instance.{chain_at, wait_at}
use Rattle.cstn_check.specs.Kept.{IsKeptList}
use Rattle.cstn_check.specs.Turns.{IsOpen, HasBecome, IsFront, IsCutShort, KeepIds, IsLongerLog}
use Rattle.cstn_check.specs.Steps.{is_refutation, IsStepTo}
use Rattle.cstn_check.specs.declared.steps.Step.{Step}
use Rattle.cstn_check.specs.declared.steps.Step.TheVariants.{Open, Refuted}
use Rattle.cstn_check.proofs.Grows.{Each, tried_extends}
use Rattle.cstn_check.proofs.Derives.{OfNetwork, tried_keeps, tried_derived}
use Rattle.cstn_check.proofs.Bounded.{kept_more}
use Rattle.cstn_check.proofs.Last.{refuted_idle}

pub tried_append : (net : Network) (xs ys : List Instance) (L : List Entry) → tried net L (xs ++ ys) ≡ tried net (tried net L xs) ys
tried_append net [] ys L = refl
tried_append net (x ∷ xs) ys L = tried_append net xs ys (step net L x)

-- growth goes on from a list that isn't refuted
pub open_after : (net : Network) (old new : State) (is : List Instance) → IsWellFormed net → Each (OfNetwork net) is →
    IsOpen net old → HasBecome net old new (tried net (the_entries old.entries) is) false → IsOpen net new
open_after net old new is good of ready t =
    let L = the_entries old.entries in
    let same = t.entries in
    let cap = t.longer.cap in
    let births = t.longer.births in
    let room = ready.births in
    let short = t.longer.short in
    let kept = tried_keeps net (IsKeptList net) (kept_more net good.network good.letters) is L ready.kept of in
    let derived = tried_derived net good.network good.letters is L ready.kept.good ready.derivation of in
    record {
      nodes = t.longer.nodes ∙ ready.nodes;
      derivation = subst (λ l. IsDerivation net l) (sym same) derived;
      kept = subst (λ l. IsKeptList net l) (sym same) kept;
      unrefuted = ap (is_refuted net) same ∙ sym t.refuted_is;
      short = omega arith;
      births = omega arith;
    }

pub longer_through : (a b c : State) → IsLongerLog a b → IsLongerLog b c → IsLongerLog a c
longer_through a b c h k =
    let one = h.cap in
    let first = h.births in
    let second = k.births in
    let short = k.short in
    let more = h.longer in
    let rest = k.longer in
    let ids : KeepIds a.ids c.ids = record {
      more = h.ids.more ++ k.ids.more;
      is = sym (append_assoc a.ids h.ids.more k.ids.more) ∙ ap (λ l. l ++ k.ids.more) h.ids.is ∙ k.ids.is;
    } in
    record { cap = k.cap ∙ h.cap; nodes = k.nodes ∙ h.nodes; ids = ids; births = omega arith; short = omega arith; longer = omega arith }

module _ (net : Network) (old : State) (xs ys : List Instance) where
  pub refuted_then : (new : State) → HasBecome net old new (tried net (the_entries old.entries) xs) true →
      HasBecome net old new (tried net (the_entries old.entries) (xs ++ ys)) true
  refuted_then new t =
      let L = the_entries old.entries in
      let same = tried_append net xs ys L ∙ refuted_idle net ys (tried net L xs) (sym t.refuted_is) in
      record { entries = t.entries ∙ sym same; refuted_is = t.refuted_is ∙ ap (is_refuted net) (sym same); longer = t.longer }

  pub taken_then : (mid new : State) (r : Bool) → HasBecome net old mid (tried net (the_entries old.entries) xs) false →
      HasBecome net mid new (tried net (the_entries mid.entries) ys) r →
      HasBecome net old new (tried net (the_entries old.entries) (xs ++ ys)) r
  taken_then mid new r t u =
      let L = the_entries old.entries in
      let same = ap (λ l. tried net l ys) t.entries ∙ sym (tried_append net xs ys L) in
      record {
        entries = u.entries ∙ same;
        refuted_is = u.refuted_is ∙ ap (is_refuted net) same;
        longer = longer_through old mid new t.longer u.longer;
      }

  front_more : (front L : List Entry) → IsFront front (tried net L xs) → IsFront front (tried net L (xs ++ ys))
  front_more front L f =
      let ext = tried_extends net ys (tried net L xs) in
      record {
        next = f.next;
        rest = f.rest ++ ext.more;
        is = sym (append_assoc front (f.next ∷ f.rest) ext.more) ∙ ap (λ l. l ++ ext.more) f.is ∙ ext.is ∙ sym (tried_append net xs ys L);
      }

  pub cut_first : (new : State) → IsCutShort old new (tried net (the_entries old.entries) xs) →
      IsCutShort old new (tried net (the_entries old.entries) (xs ++ ys))
  cut_first new k =
      record { full = k.full; front = front_more (the_entries new.entries) (the_entries old.entries) k.front; longer = k.longer }

  pub cut_then : (mid new : State) → HasBecome net old mid (tried net (the_entries old.entries) xs) false →
      IsCutShort mid new (tried net (the_entries mid.entries) ys) → IsCutShort old new (tried net (the_entries old.entries) (xs ++ ys))
  cut_then mid new t k =
      let L = the_entries old.entries in
      let same = ap (λ l. tried net l ys) t.entries ∙ sym (tried_append net xs ys L) in
      let full = k.full in
      let cap = t.longer.cap in
      record {
        full = full ∙ cap;
        front = subst (λ l. IsFront (the_entries new.entries) l) same k.front;
        longer = longer_through old mid new t.longer k.longer;
      }

module _ (net : Network) (old mid new : State) (xs ys : List Instance)
    (t : HasBecome net old mid (tried net (the_entries old.entries) xs) false) where
  pub go_on : (zs : List Instance) (r : Bool) → xs ++ ys ≡ zs →
      HasBecome net mid new (tried net (the_entries mid.entries) ys) r → HasBecome net old new (tried net (the_entries old.entries) zs) r
  go_on zs r is u = subst (λ l. HasBecome net old new (tried net (the_entries old.entries) l) r) is (taken_then net old xs ys mid new r t u)

  pub go_true : (zs rest : List Instance) (r : Bool) → (xs ++ ys) ++ rest ≡ zs →
      HasBecome net mid new (tried net (the_entries mid.entries) ys) r → r ≡ true →
      HasBecome net old new (tried net (the_entries old.entries) zs) true
  go_true zs rest r is u e =
      subst (λ l. HasBecome net old new (tried net (the_entries old.entries) l) true) is
      (refuted_then net old (xs ++ ys) rest new
      (taken_then net old xs ys mid new true t (subst (λ b. HasBecome net mid new (tried net (the_entries mid.entries) ys) b) e u)))

  pub go_cut : (zs rest : List Instance) → (xs ++ ys) ++ rest ≡ zs → IsCutShort mid new (tried net (the_entries mid.entries) ys) →
      IsCutShort old new (tried net (the_entries old.entries) zs)
  go_cut zs rest is k =
      subst (λ l. IsCutShort old new (tried net (the_entries old.entries) l)) is
      (cut_first net old (xs ++ ys) rest new (cut_then net old xs ys mid new t k))

-- ---- what steps answer

module _ (net : Network) (old new : State) (list : List Entry) where
  pub open_step : HasBecome net old new list false → IsOpen net new → IsStepTo net old new list (Ok Open)
  open_step t ready = record { taken = t; cut = λ is. absurd (false≢true is); ready = λ e. ready }

  pub refuted_step : HasBecome net old new list true → IsStepTo net old new list (Ok Refuted)
  refuted_step t = record { taken = t; cut = λ is. absurd (false≢true is); ready = λ e. cc }

  pub step_open : (s : Step) → s ≡ Open → IsStepTo net old new list (Ok s) → HasBecome net old new list false
  step_open s e told = subst (λ (x : Step). HasBecome net old new list (is_refutation x)) e told.taken

  pub step_refuted : (s : Step) → s ≡ Refuted → IsStepTo net old new list (Ok s) → HasBecome net old new list true
  step_refuted s e told = subst (λ (x : Step). HasBecome net old new list (is_refutation x)) e told.taken

ready_then : (net : Network) (old new : State) (is : List Instance) (o : Result Step Full) → IsWellFormed net →
    Each (OfNetwork net) is → IsOpen net old → IfOk o (λ s. HasBecome net old new (tried net (the_entries old.entries) is) (is_refutation s)) →
    IfOk o (λ s. s ≡ Open → IsOpen net new)
ready_then net old new is (Ok s) good of ready t = λ e.
    open_after net old new is good of ready
    (subst (λ (x : Step). HasBecome net old new (tried net (the_entries old.entries) is) (is_refutation x)) e t)
ready_then net old new is (Err e) good of ready t = tt

-- a conclusion that is put at the end of the list makes the step of its instance
pub put_stepped : (net : Network) (old new : State) (i : Instance) (list : List Entry) (o : Result Step Full) → IsWellFormed net → OfNetwork net i →
    IsOpen net old → list ≡ step net (the_entries old.entries) i → IfOk o (λ s. HasBecome net old new list (is_refutation s)) →
    (IsErr o → IsCutShort old new list) → IsStepTo net old new (step net (the_entries old.entries) i) o
put_stepped net old new i list o good of ready is taken cut =
    let told = subst (λ (l : List Entry). IfOk o (λ s. HasBecome net old new l (is_refutation s))) is taken in
    record {
      taken = told;
      cut = subst (λ (l : List Entry). IsErr o → IsCutShort old new l) is cut;
      ready = ready_then net old new (i ∷ []) o good (of, tt) ready told;
    }

-- a step goes on from one after which growth can go on
pub step_then : (net : Network) (old mid new : State) (xs ys zs : List Instance) (o : Result Step Full) → xs ++ ys ≡ zs →
    HasBecome net old mid (tried net (the_entries old.entries) xs) false →
    IsStepTo net mid new (tried net (the_entries mid.entries) ys) o → IsStepTo net old new (tried net (the_entries old.entries) zs) o
step_then net old mid new xs ys zs (Ok s) is t u = record {
  taken = go_on net old mid new xs ys t zs (is_refutation s) is u.taken;
  cut = λ e. absurd (false≢true e);
  ready = u.ready;
}
step_then net old mid new xs ys zs (Err e) is t u = record {
  taken = tt;
  cut = λ h. subst (λ (l : List Instance). IsCutShort old new (tried net (the_entries old.entries) l)) is (cut_then net old xs ys mid new t (u.cut h));
  ready = tt;
}

pub chains_next : (cs : List DeclaredConstraint) (j k : ℕ) (x : DeclaredConstraint) → x ≡ get_or cs k x → k < length cs →
    chains_at (map the_constraint (take k cs)) j ++ chain_at (the_constraint x) j ∷ []
    ≡ chains_at (map the_constraint (take (k + 1) cs)) j
chains_next cs j k x is inside =
    ap (λ (d : DeclaredConstraint). chains_at (map the_constraint (take k cs)) j ++ chain_at (the_constraint d) j ∷ []) is
    ∙ sym (ap (λ (l : List DeclaredConstraint). chains_at (map the_constraint l) j) (take_more cs k x inside)
    ∙ ap (λ (l : List Constraint). chains_at l j) (map-append the_constraint (take k cs) (get_or cs k x ∷ []))
    ∙ map-append (λ c. chain_at c j) (map the_constraint (take k cs)) (the_constraint (get_or cs k x) ∷ []))

pub chains_whole : (cs : List DeclaredConstraint) (j k : ℕ) (x : DeclaredConstraint) → x ≡ get_or cs k x → k < length cs →
    (chains_at (map the_constraint (take k cs)) j ++ chain_at (the_constraint x) j ∷ [])
    ++ chains_at (map the_constraint (drop (k + 1) cs)) j ≡ chains_at (map the_constraint cs) j
chains_whole cs j k x is inside =
    ap (λ l. l ++ chains_at (map the_constraint (drop (k + 1) cs)) j) (chains_next cs j k x is inside)
    ∙ sym (map-append (λ c. chain_at c j) (map the_constraint (take (k + 1) cs)) (map the_constraint (drop (k + 1) cs)))
    ∙ ap (λ (l : List Constraint). chains_at l j) (sym (map-append the_constraint (take (k + 1) cs) (drop (k + 1) cs)))
    ∙ ap (λ (l : List DeclaredConstraint). chains_at (map the_constraint l) j) (take-append-drop (k + 1) cs)

-- the waits below n are those below m and the rest
pub record WaitsAfter (n m j : ℕ) : Type 0 where
  pub rest : List Instance
  pub is : waits_below n j ≡ waits_below m j ++ rest

pub waits_split : (n m j : ℕ) → m ≤ n → WaitsAfter n m j
waits_split zero m j h = let e : 0 ≡ m = omega arith in record { rest = []; is = ap (λ k. waits_below k j) e ∙ sym (append-nil _) }
waits_split (suc n) m j h = elim (cases_lt n m) [
  | inl last ↦
      let e : suc n ≡ m = omega arith in
      record { rest = []; is = ap (λ k. waits_below k j) e ∙ sym (append-nil _) }
  | inr before ↦
      let w = waits_split n m j before in
      record {
        rest = w.rest ++ (wait_at n j ∷ (wait_at j n ∷ []));
        is = ap (λ l. l ++ (wait_at n j ∷ (wait_at j n ∷ []))) w.is ∙ append_assoc (waits_below m j) w.rest _;
      }
]

pub waits_next : (n j : ℕ) → waits_below (n + 1) j ≡ waits_below n j ++ (wait_at n j ∷ (wait_at j n ∷ []))
waits_next n j = let e : n + 1 ≡ suc n = omega arith in ap (λ k. waits_below k j) e

pub waits_whole : (n i j : ℕ) → i < n → (rest : List Instance) × ((waits_below i j ++ (wait_at i j ∷ (wait_at j i ∷ []))) ++ rest ≡ waits_below n j)
waits_whole n i j inside =
    let w = waits_split n (i + 1) j (omega arith) in
    (w.rest, ap (λ l. l ++ w.rest) (sym (waits_next i j)) ∙ sym w.is)

pub turn_is : (n : NetworkParts) (cs : List DeclaredConstraint) (j : ℕ) → cs ≡ n.constraints →
    chains_at (map the_constraint cs) j ++ waits_below (j + 1) j ≡ turn (the_network n) j
turn_is n cs j is =
    let e : j + 1 ≡ suc j = omega arith in
    ap (λ (l : List DeclaredConstraint). chains_at (map the_constraint l) j ++ waits_below (j + 1) j) is
    ∙ ap (λ k. chains_at (map the_constraint n.constraints) j ++ waits_below k j) e
