-- The network that is read back is the one that was written, but for ids and the reactions of what nothing observes.
use Rattle.std.proofs.Common.{◌≡◌, ℕ, zero, suc, ◌+◌, ◌<◌, ◌≤◌, List, [], ◌∷◌, length, refl, ap, sym, ◌∙◌, arith, Bool, true, false, subst, map, Ok, Result}
use Rattle.std.specs.Prelude.{Option, Some, None, ◌==◌, slice_index_or, if◌then◌else◌}
use Rattle.std.specs.List.{All}
use Rattle.std.proofs.Math.Path.{fun_ext}
use Rattle.std.proofs.lemmas.Bool.{eqb-true}
use Rattle.std.proofs.lemmas.List.{length-map}
use Rattle.std.proofs.lemmas.List.Elements.{All-tail, All-head, All-cons, All-nil, All-weaker}
use Rattle.cstn_net.specs.Limits.{most_reaction}
use Rattle.cstn_net.specs.Networks.{Network, Constraint, count, Observes, IsConstraint, IsWellFormed, IsValue}
use Rattle.cstn_net.specs.declared.errors.NetError.{NetError}
use Rattle.cstn_net.specs.Read.{first_reaction}
use Rattle.cstn_graphml.specs.DrawnGraph.{DrawnConstraint}
use Rattle.cstn_graphml.specs.Document.{Parts, document}
use Rattle.cstn_element.specs.Results.{Refusal}
use Rattle.cstn_graphml.specs.Networks.{numbered_drawn, observed_prop, network_of, labelled_of, IsUnfit, observed_reaction}
use Rattle.cstn_lift.specs.Labelled.{Labelled}
use Rattle.cstn_lift.specs.WellFormed.{IsLabelled}
use Rattle.cstn_graphml.proofs.Built.{numbered_length, same_network}
use Rattle.cstn_graphml.proofs.Fits.{fits}
use Rattle.cstn_save.specs.Canonical.{canonical, observation_by, timed_observations}
use Rattle.cstn_save.specs.ReadBack.{without_its_id, parts, AreNumbered, AreSameButIds}
use Rattle.cstn_save.specs.Names.{AreNamesOf}
use Rattle.cstn_save.proofs.LawLemmas.{document_back}

observed_back : (reaction : ℕ → ℕ) (o : Option ℕ) → observed_prop (observation_by reaction o) ≡ o
observed_back reaction None = refl
observed_back reaction (Some p) = refl

pub props_back : (reaction : ℕ → ℕ) (os : List (Option ℕ)) → map observed_prop (map (observation_by reaction) os) ≡ os
props_back reaction [] = refl
props_back reaction (o ∷ os) = rw (observed_back reaction o, props_back reaction os) refl

differs : (q p : ℕ) → (q == p) ≡ false → Some q ≡ Some p → ⊥
differs q p e same = let is : q ≡ p = cc in grind arith

here_or_later : (reaction : ℕ → ℕ) (q p later : ℕ) (b : Bool) → (q == p) ≡ b → (b ≡ false → later ≡ reaction p) → (if q == p then reaction q else later) ≡ reaction p
here_or_later reaction q p later true e next = rw e (ap reaction (eqb-true q p e))
here_or_later reaction q p later false e next = rw e (next refl)

-- the reaction of an observed proposition is read back
reaction_found : (reaction : ℕ → ℕ) (os : List (Option ℕ)) (x p : ℕ) → slice_index_or os x None ≡ Some p → first_reaction observed_prop observed_reaction (map (observation_by reaction) os) p ≡ reaction p
reaction_found reaction [] x p e = absurd (cc)
reaction_found reaction (None ∷ os) zero p e = absurd (cc)
reaction_found reaction (None ∷ os) (suc x) p e = reaction_found reaction os x p e
reaction_found reaction (Some q ∷ os) zero p e = here_or_later reaction q p (first_reaction observed_prop observed_reaction (map (observation_by reaction) os) p) (q == p) refl (λ other. absurd (differs q p other e))
reaction_found reaction (Some q ∷ os) (suc x) p e = here_or_later reaction q p (first_reaction observed_prop observed_reaction (map (observation_by reaction) os) p) (q == p) refl (λ other. reaction_found reaction os x p e)

nowhere : (o : Option ℕ) (os : List (Option ℕ)) (p : ℕ) → (o ≡ Some p → ⊥) → ((x : ℕ) → slice_index_or os x None ≡ Some p → ⊥) → (x : ℕ) → slice_index_or (o ∷ os) x None ≡ Some p → ⊥
nowhere o os p first later zero e = first e
nowhere o os p first later (suc x) e = later x e

-- the reaction of each proposition is read back, where it is 1 tick for those that nothing observes
reaction_all : (reaction : ℕ → ℕ) (os : List (Option ℕ)) (p : ℕ) → (((x : ℕ) → slice_index_or os x None ≡ Some p → ⊥) → reaction p ≡ 1) → first_reaction observed_prop observed_reaction (map (observation_by reaction) os) p ≡ reaction p
reaction_all reaction [] p tick = sym (tick (λ x e. absurd (cc)))
reaction_all reaction (None ∷ os) p tick = reaction_all reaction os p (λ none. tick (nowhere None os p (λ e. absurd (cc)) none))
reaction_all reaction (Some q ∷ os) p tick =
    here_or_later reaction q p (first_reaction observed_prop observed_reaction (map (observation_by reaction) os) p) (q == p) refl
    (λ other. reaction_all reaction os p (λ none. tick (nowhere (Some q) os p (differs q p other) none)))

drawn_numbered : (j : ℕ) (ds : List DrawnConstraint) → map without_its_id (numbered_drawn j ds) ≡ ds
drawn_numbered j [] = refl
drawn_numbered j (d ∷ ds) = ap (λ (es : List DrawnConstraint). d ∷ es) (drawn_numbered (j + 1) ds)

-- the network that is read is the one that was written, but for ids and the reactions of what nothing observes
pub same_but_ids : (m : Labelled) (names : List (List ℕ)) → AreSameButIds (network_of (parts m names)) m.base
same_but_ids m names = let net : Network = m.base in record {
  deadline = refl;
  observes = props_back net.reaction net.observes;
  reaction = λ x p o. reaction_found net.reaction net.observes x p o.what;
  constraints = drawn_numbered 0 (map without_its_id net.constraints);
}

renumbered : (j : ℕ) (cs : List Constraint) → ((k : ℕ) (d : Constraint) → k < length cs → (slice_index_or cs k d).id ≡ j + k) → numbered_drawn j (map without_its_id cs) ≡ cs
renumbered j [] h = refl
renumbered j (c ∷ cs) h =
    let here : j ≡ c.id = omega (arith, h 0 c (omega arith)) in
    ap (λ i. record { id = i; from = c.from; to = c.to; most = c.most; label = c.label } ∷ numbered_drawn (j + 1) (map without_its_id cs)) here
    ∙ ap (λ (ds : List Constraint). c ∷ ds) (renumbered (j + 1) cs (λ k d i. omega (arith, h (suc k) d (omega (arith, i)))))

-- it is the very same, where ids have no gap and what nothing observes has a reaction of 1 tick
network_back : (m : Labelled) (names : List (List ℕ)) → ((p : ℕ) → ((x : ℕ) → Observes m.base x p → ⊥) → m.base.reaction p ≡ 1) → AreNumbered m.base.constraints → network_of (parts m names) ≡ m.base
network_back m names ticks ids =
    let net : Network = m.base in
    same_network refl (props_back net.reaction net.observes)
    (fun_ext (λ p. reaction_all net.reaction net.observes p (λ none. ticks p (λ x o. none x o.what))))
    (renumbered 0 net.constraints (λ k d i. omega (arith, ids k d i)))

pub labelled_back : (m : Labelled) (names : List (List ℕ)) → ((p : ℕ) → ((x : ℕ) → Observes m.base x p → ⊥) → m.base.reaction p ≡ 1) → AreNumbered m.base.constraints → labelled_of (parts m names) ≡ m
labelled_back m names ticks ids = ap (λ (n : Network). record m { base = n }) (network_back m names ticks ids)

-- what holds of constraints whatever their ids holds of them with other ids
all_numbered : (P : Constraint → Type 0) → ((i : ℕ) (c : Constraint) → P c → P (record { id = i; from = c.from; to = c.to; most = c.most; label = c.label }))
    → (j : ℕ) (cs : List Constraint) → All P cs → All P (numbered_drawn j (map without_its_id cs))
all_numbered P keeps j [] all = All-nil P
all_numbered P keeps j (c ∷ cs) all = All-cons P _ _ (keeps j c (All-head P c cs all)) (all_numbered P keeps (j + 1) cs (All-tail P c cs all))

numbered_id : (j : ℕ) (ds : List DrawnConstraint) (k : ℕ) (c : Constraint) → k < length (numbered_drawn j ds) → (slice_index_or (numbered_drawn j ds) k c).id ≡ j + k
numbered_id j [] k c h = absurd (omega arith)
numbered_id j (d ∷ ds) zero c h = omega arith
numbered_id j (d ∷ ds) (suc k) c h = omega (arith, numbered_id (j + 1) ds k c (omega arith))

-- the network that is read is well-formed, as the one that was written
pub well_formed_back : (m : Labelled) (names : List (List ℕ)) → IsWellFormed m.base → IsWellFormed (network_of (parts m names))
well_formed_back m names wf =
    let net : Network = m.base in
    let read : Network = network_of (parts m names) in
    let same : read.observes ≡ net.observes = props_back net.reaction net.observes in
    let size : count read ≡ count net = ap length same in
    let back : (x p : ℕ) → Observes read x p → Observes net x p = λ x p o. record { what = sym (ap (λ os. slice_index_or os x None) same) ∙ o.what } in
    let forth : (x p : ℕ) → Observes net x p → Observes read x p = λ x p o. record { what = ap (λ os. slice_index_or os x None) same ∙ o.what } in
    let reacts : (x p : ℕ) → Observes read x p → net.reaction p ≡ read.reaction p = λ x p o. sym (reaction_found net.reaction net.observes x p (back x p o).what) in
    record {
      network = record {
        origin = subst (λ n. 0 < n) (sym size) wf.network.origin;
        one_observer = λ x y p a b. wf.network.one_observer x y p (back x p a) (back y p b);
        reacts = λ x p o. subst (λ n. 0 < n) (reacts x p o) (wf.network.reacts x p (back x p o));
        constraints = all_numbered (IsConstraint read) (λ i c h. record { from = h.from; to = h.to; plain = h.plain; observed = h.observed }) 0 net.constraints
            (All-weaker (IsConstraint net) (IsConstraint read)
            (λ c h. record { from = subst (λ n. c.from < n) (sym size) h.from; to = subst (λ n. c.to < n) (sym size) h.to; plain = h.plain; observed = λ p marked. let o = h.observed p marked in (o.0, forth o.0 p o.1) })
            net.constraints wf.network.constraints);
      };
      few_points = omega (arith, size, wf.few_points);
      letters = λ x p o. wf.letters x p (back x p o);
      soon = λ x p o. subst (λ n. n ≤ most_reaction) (reacts x p o) (wf.soon x p (back x p o));
      few_constraints = omega (arith, numbered_length 0 (map without_its_id net.constraints), length-map net.constraints without_its_id, wf.few_constraints);
      ascending = λ i j d below inside. omega (arith, below, numbered_id 0 (map without_its_id net.constraints) i d (omega (arith, below, inside)), numbered_id 0 (map without_its_id net.constraints) j d inside);
      values = all_numbered (λ c. IsValue c.most) (λ i c h. h) 0 net.constraints wf.values;
      in_time = wf.in_time;
    }

-- the parts of a canonical document have no fault
pub accepted : (m : Labelled) (names : List (List ℕ)) (error : NetError) → IsWellFormed m.base → IsUnfit (parts m names) error → ⊥
accepted m names error wf unfit = fits (parts m names) error (well_formed_back m names wf) unfit

parts_are : (a b : Parts) → ◌≡◌ {A = Result Parts Refusal} (Ok a) (Ok b) → a ≡ b
parts_are a b e = cc

-- Equal canonical texts are of equal names, of equal labels, and of networks that are the same but for ids and the reactions of
-- what nothing observes.
pub told_apart : (m other : Labelled) (names more : List (List ℕ)) → IsLabelled m → AreNamesOf m.base names → IsLabelled other → AreNamesOf other.base more
    → canonical m names ≡ canonical other more → (names ≡ more) × (m.labels ≡ other.labels) × AreSameButIds m.base other.base
told_apart m other names more wf is good are same =
    let read : parts m names ≡ parts other more = parts_are _ _ (sym (document_back m names wf is) ∙ ap (λ text. document text None) same ∙ document_back other more good are) in
    let seen : timed_observations m.base ≡ timed_observations other.base = ap (λ (p : Parts). p.observes) read in
    let props : m.base.observes ≡ other.base.observes = sym (props_back m.base.reaction m.base.observes) ∙ ap (map observed_prop) seen ∙ props_back other.base.reaction other.base.observes in (
      ap (λ (p : Parts). p.names) read,
      ap (λ (p : Parts). p.labels) read,
      record {
        deadline = ap (λ (p : Parts). p.deadline) read;
        observes = props;
        reaction = λ x p o.
            sym (reaction_found m.base.reaction m.base.observes x p (ap (λ os. slice_index_or os x None) props ∙ o.what))
            ∙ ap (λ os. first_reaction observed_prop observed_reaction os p) seen ∙ reaction_found other.base.reaction other.base.observes x p o.what;
        constraints = ap (λ (p : Parts). p.constraints) read;
      },
    )
