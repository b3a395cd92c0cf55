use Rattle.std.proofs.Common.{ℕ, ◌≡◌, ◌<◌, Bool, true, false, not, None, List, [], ◌∷◌, ◌++◌, length, map, take, arith, refl, sym, subst, ap, ◌∙◌, length-append}
use Rattle.std.specs.Prelude.{slice_index_or, slice_set}
use Rattle.std.specs.List.{filter}
use Rattle.std.proofs.lemmas.List.{length-map, map-append, take_all}
use Rattle.cstn_facts.proofs.Filters.{filter_with, filter_without}
use Rattle.cstn_label.specs.Read.{known_value}
use Rattle.cstn_net.specs.Networks.{Observes, count}
use Rattle.cstn_net.specs.Read.{the_network}
use Rattle.cstn_lift.specs.Completion.{completed_label}
use Rattle.cstn_lift.specs.Read.{the_labelled}
use Rattle.cstn_exec.specs.Runs.{Run}
use Rattle.cstn_exec.specs.Moves.{outcome_refusal}
use Rattle.cstn_exec.specs.Read.{ExecParts}
use Rattle.cstn_exec.specs.Guides.{holds_by, denied, all_denied, with_left}
use Rattle.cstn_exec.proofs.Denying.{next_open, all_push, left_push, left_size}
use Rattle.cstn_exec.proofs.Sorting.{name_at, place_below}
use Rattle.cstn_exec.proofs.guides.sorting.sort_out.Goals as goal
use Rattle.cstn_exec.proofs.guides.sorting.sort_out.Goals.{then-holds_by, else-holds_by}

pub loop-k-init : goal.loop-k-init
loop-k-init c = record {
  executive = refl;
  left = refl;
  named = ap (map (λ x. x.0)) c.clear.ensures.items;
  room = let none = ap length c.clear.ensures.items in omega arith;
  capacity = c.clear.ensures.capacity;
}

pub bounds-named-k : goal.bounds-named-k
bounds-named-k c =
    let long = length-map c.named.result.now (λ x. x.0) in
    let size = ap length (c.named.ensures.named ∙ ap (λ (e : ExecParts). e.named) c.loop-k.invariant.executive) in
    let long_end = length-map c.named-k-end.result.now (λ x. x.0) in
    let size_end = ap length c.named-k-end.ensures.named in
    let inside = c.loop-k-test.true in
    omega arith

pub get-requires : goal.get-requires
get-requires c =
    let names = c.args.executive.now.named in
    let long_end = length-map c.named-k-end.result.now (λ x. x.0) in
    let size_end = ap length c.named-k-end.ensures.named in
    let inside = c.loop-k-test.true in
    let here : c.loop-k.k < length names = omega arith in
    let at = (name_at c.named.result.now names c.loop-k.k (record { 0 = 0 })
    (c.named.ensures.named ∙ ap (λ (e : ExecParts). e.named) c.loop-k.invariant.executive) here).1 in
    let within = c.requires.fresh.inside c.loop-k.k (slice_index_or c.named.result.now c.loop-k.k (record { 0 = 0 })).0 here in
    let same = c.requires.same in
    omega arith

pub push_reserved-requires : goal.push_reserved-requires
push_reserved-requires c =
    let names = c.args.executive.now.named in
    let long_end = length-map c.named-k-end.result.now (λ x. x.0) in
    let size_end = ap length c.named-k-end.ensures.named in
    let inside = c.loop-k-test.true in
    let here : c.loop-k.k < length names = omega arith in
    let within = c.requires.fresh.inside c.loop-k.k 0 here in
    let below = place_below names c.requires.fresh.ascending c.loop-k.k 0 here in
    let room = c.loop-k.invariant.room in
    let capacity = c.loop-k.invariant.capacity in
    let enough = c.requires.room in
    (omega arith, omega arith)

pub leave_out-requires-clause-inside : goal.leave_out-requires-clause-inside
leave_out-requires-clause-inside c =
    let names = c.args.executive.now.named in
    let long_end = length-map c.named-k-end.result.now (λ x. x.0) in
    let size_end = ap length c.named-k-end.ensures.named in
    let inside = c.loop-k-test.true in
    let here : c.loop-k.k < length names = omega arith in
    let at = (name_at c.named.result.now names c.loop-k.k (record { 0 = 0 })
    (c.named.ensures.named ∙ ap (λ (e : ExecParts). e.named) c.loop-k.invariant.executive) here).1 in
    let within = c.requires.fresh.inside c.loop-k.k (slice_index_or c.named.result.now c.loop-k.k (record { 0 = 0 })).0 here in
    let net = ap (λ (e : ExecParts). count (the_network e.net)) c.loop-k.invariant.executive in
    omega arith

pub leave_out-requires-clause-size : goal.leave_out-requires-clause-size
leave_out-requires-clause-size c =
    let net = ap (λ (e : ExecParts). count (the_network e.net)) c.loop-k.invariant.executive in
    let fails : ℕ → Bool = λ y. not (holds_by (known_value c.args.known.now) (completed_label (the_labelled c.args.labels.now) y)) in
    let same = ap length c.loop-k.invariant.left ∙ left_size (filter fails (take c.loop-k.k c.args.executive.now.named)) c.args.left.now.items in
    let size = c.requires.size in
    omega arith

pub leave_out-requires-clause-unseen : goal.leave_out-requires-clause-unseen
leave_out-requires-clause-unseen c =
    let names = c.args.executive.now.named in
    let long_end = length-map c.named-k-end.result.now (λ x. x.0) in
    let size_end = ap length c.named-k-end.ensures.named in
    let inside = c.loop-k-test.true in
    let here : c.loop-k.k < length names = omega arith in
    let x = (slice_index_or c.named.result.now c.loop-k.k (record { 0 = 0 })).0 in
    let at = (name_at c.named.result.now names c.loop-k.k (record { 0 = 0 })
    (c.named.ensures.named ∙ ap (λ (e : ExecParts). e.named) c.loop-k.invariant.executive) here).1 in
    subst (λ (e : ExecParts). (p : ℕ) → Observes (the_network e.net) x p → outcome_refusal (the_network e.net) e.run p ≡ None) (sym c.loop-k.invariant.executive)
    (next_open (the_network c.args.executive.now.net) c.requires.well_formed
    (λ y. not (holds_by (known_value c.args.known.now) (completed_label (the_labelled c.args.labels.now) y)))
    c.args.executive.now.run names c.loop-k.k x c.requires.fresh here at)

pub loop-k-preserved : goal.loop-k-preserved
loop-k-preserved c =
    let m = the_labelled c.args.labels.now in
    let net = the_network c.args.executive.now.net in
    let old = c.args.executive.now in
    let names = c.args.executive.now.named in
    let k = c.loop-k.k in
    let test : ℕ → Bool = λ y. holds_by (known_value c.args.known.now) (completed_label m y) in
    let fails : ℕ → Bool = λ y. not (holds_by (known_value c.args.known.now) (completed_label m y)) in
    let long_end = length-map c.named-k-end.result.now (λ x. x.0) in
    let size_end = ap length c.named-k-end.ensures.named in
    let inside = c.loop-k-test.true in
    let here : k < length names = omega arith in
    let x = slice_index_or c.named.result.now k (record { 0 = 0 }) in
    let at = (name_at c.named.result.now names k (record { 0 = 0 })
    (c.named.ensures.named ∙ ap (λ (e : ExecParts). e.named) c.loop-k.invariant.executive) here).1 in
    let tested = sym (c.holds_by.ensures ∙ ap (holds_by (known_value c.args.known.now)) c.get.ensures.completed) in
    let before = c.loop-k.invariant.room in
    elim c.if-holds_by.branch [
      | then-holds_by w ↦
          let holds : test x.0 ≡ true = tested ∙ w.if-holds_by.true in
          let same = filter_without fails names k x.0 here at (ap not holds) in
          let items = ap (λ v. v.items) w.named-is ∙ w.push_reserved.ensures.items in
          record {
            executive = w.executive-is ∙ c.loop-k.invariant.executive
                ∙ ap (λ (ys : List ℕ). record old { run = all_denied net ys old.run }) (sym same);
            left = ap (λ v. v.items) w.left-is ∙ c.loop-k.invariant.left ∙ ap (λ (ys : List ℕ). with_left ys c.args.left.now.items) (sym same);
            named = ap (map (λ y. y.0)) items ∙ map-append (λ y. y.0) c.loop-k.named.items (x ∷ [])
                ∙ ap (λ (l : List ℕ). l ++ x.0 ∷ []) c.loop-k.invariant.named
                ∙ sym (filter_with test names k x.0 here at holds);
            room = let longer = ap length items ∙ length-append c.loop-k.named.items (x ∷ []) in omega arith;
            capacity = ap (λ v. v.capacity) w.named-is ∙ w.push_reserved.ensures.capacity ∙ c.loop-k.invariant.capacity;
          }
      | else-holds_by w ↦
          let fail : test x.0 ≡ false = tested ∙ w.if-holds_by.false in
          let more = filter_with fails names k x.0 here at (ap not fail) in
          let ys = filter fails (take k names) in
          record {
            executive = w.executive-is ∙ w.leave_out.ensures.executive
                ∙ ap (λ (e : ExecParts). record e { run = denied (slice_index_or (the_network e.net).observes x.0 None) e.run }) c.loop-k.invariant.executive
                ∙ ap (λ (r : Run). record old { run = r }) (sym (all_push net ys x.0 old.run))
                ∙ ap (λ (zs : List ℕ). record old { run = all_denied net zs old.run }) (sym more);
            left = ap (λ v. v.items) w.left-is ∙ w.leave_out.ensures.left ∙ ap (λ (l : List Bool). slice_set l x.0 true) c.loop-k.invariant.left
                ∙ sym (left_push ys x.0 c.args.left.now.items) ∙ ap (λ (zs : List ℕ). with_left zs c.args.left.now.items) (sym more);
            named = ap (λ v. map (λ y. y.0) v.items) w.named-is ∙ c.loop-k.invariant.named ∙ sym (filter_without test names k x.0 here at fail);
            room = let same = ap (λ v. length v.items) w.named-is in omega arith;
            capacity = ap (λ v. v.capacity) w.named-is ∙ c.loop-k.invariant.capacity;
          }
    ]

pub returns-clause-executive : goal.returns-clause-executive
returns-clause-executive c =
    let old = c.args.executive.now in
    let fails : ℕ → Bool = λ y. not (holds_by (known_value c.args.known.now) (completed_label (the_labelled c.args.labels.now) y)) in
    let long_end = length-map c.named-k-end.result.now (λ x. x.0) in
    let size_end = ap length c.named-k-end.ensures.named in
    let past = c.loop-k-test.false in
    c.loop-k.invariant.executive
    ∙ ap (λ (l : List ℕ). record old { run = all_denied (the_network old.net) (filter fails l) old.run }) (take_all c.loop-k.k old.named (omega arith))

pub returns-clause-left : goal.returns-clause-left
returns-clause-left c =
    let fails : ℕ → Bool = λ y. not (holds_by (known_value c.args.known.now) (completed_label (the_labelled c.args.labels.now) y)) in
    let long_end = length-map c.named-k-end.result.now (λ x. x.0) in
    let size_end = ap length c.named-k-end.ensures.named in
    let past = c.loop-k-test.false in
    c.loop-k.invariant.left
    ∙ ap (λ (l : List ℕ). with_left (filter fails l) c.args.left.now.items) (take_all c.loop-k.k c.args.executive.now.named (omega arith))

pub returns-clause-named : goal.returns-clause-named
returns-clause-named c =
    let test : ℕ → Bool = λ y. holds_by (known_value c.args.known.now) (completed_label (the_labelled c.args.labels.now) y) in
    let long_end = length-map c.named-k-end.result.now (λ x. x.0) in
    let size_end = ap length c.named-k-end.ensures.named in
    let past = c.loop-k-test.false in
    c.loop-k.invariant.named
    ∙ ap (λ (l : List ℕ). filter test l) (take_all c.loop-k.k c.args.executive.now.named (omega arith))

pub returns-clause-capacity : goal.returns-clause-capacity
returns-clause-capacity c = c.loop-k.invariant.capacity
