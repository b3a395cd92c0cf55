-- What the program keeps while it makes a tree.
use Rattle.std.proofs.Common.{ℕ, ◌≡◌, ◌⊎◌, inl, inr, true, false, List, [], ◌∷◌, ◌++◌, Option, Some, None, map, refl, sym, subst, ap, ◌∙◌}
use Rattle.std.specs.List.{All}
use Rattle.std.specs.Option.{option_map}
use Rattle.std.proofs.lemmas.List.{map-append, reverse-append}
use Rattle.std.proofs.lemmas.List.Elements.{All-nil, All-push, All-pop}
use Rattle.cstn_label.specs.declared.props.Prop.{Prop}
use Rattle.cstn_label.specs.Bounds.{Bound}
use Rattle.cstn_net.specs.Networks.{Network, count}
use Rattle.cstn_net.specs.Read.{the_network}
use Rattle.cstn_plan.specs.Plans.{the_bounds}
use Rattle.cstn_exec.specs.Runs.{Run, start_of_run, due, called}
use Rattle.cstn_exec.specs.Moves.{EventRefusal, Awaiting, moment_refusal, run_moved, handed, outcome_refusal}
use Rattle.cstn_exec.specs.Read.{ExecParts, IsRunOf}
use Rattle.cstn_tree.specs.declared.making.OpenAsk.{OpenAsk}
use Rattle.cstn_tree.specs.declared.making.Making.{Making}
use Rattle.cstn_outline.specs.declared.trees.Line.{Line as ProgramLine}
use Rattle.cstn_outline.specs.declared.trees.Line.TheVariants.{At, Ask, Done}
use Rattle.cstn_outline.specs.Trees.TreeLine.{AtLine, DoneLine}
use Rattle.cstn_outline.specs.Read.{the_tree_line}
use Rattle.cstn_tree.specs.Made.{IsGrownTree}
use Rattle.cstn_tree.specs.Making.{second_run, the_pending, IsOpenAsk, IsMaking, IsMovedTo}
use Rattle.cstn_tree.proofs.MakeLemmas.{grown_first, grown_done, grown_at, grown_ask}

pending_more : (asks : List OpenAsk) (a : OpenAsk) → the_pending (asks ++ a ∷ []) ≡ second_run a ∷ the_pending asks
pending_more asks a = ap (map second_run) (reverse-append asks (a ∷ []))

module _ (net : Network) (bounds : List Bound) where
  lines_more : (m new : Making) (l : ProgramLine) → new.lines.items ≡ m.lines.items ++ l ∷ [] → map the_tree_line m.lines.items ++ the_tree_line l ∷ [] ≡ map the_tree_line new.lines.items
  lines_more m new l items = sym (ap (map the_tree_line) items ∙ map-append the_tree_line m.lines.items (l ∷ []))

  pub making_ask : (run after : Run) (m new : Making) (prop : Prop) (t : ℕ) → due net bounds run ≡ Some t →
      moment_refusal net bounds run t ≡ Some (Awaiting prop.index) → outcome_refusal net run prop.index ≡ None → IsRunOf net run → IsMaking net bounds run m →
      new.asks.items ≡ m.asks.items ++ record { before = run; prop = prop } ∷ [] → new.lines.items ≡ m.lines.items ++ Ask prop ∷ [] →
      after ≡ handed run prop.index true → IsMaking net bounds after new
  making_ask run after m new prop t is waits free kept making asks lines told =
      let here : OpenAsk = record { before = run; prop = prop } in
      let grown = grown_ask net bounds (map the_tree_line m.lines.items) run (the_pending m.asks.items) t prop.index is waits making.grown in
      let runs : handed run prop.index true ∷ (handed run prop.index false ∷ the_pending m.asks.items) ≡ after ∷ the_pending new.asks.items =
      ap (λ r. r ∷ (handed run prop.index false ∷ the_pending m.asks.items)) (sym told)
      ∙ ap (λ rs. after ∷ rs) (sym (ap the_pending asks ∙ pending_more m.asks.items here)) in
      record {
        grown = subst (IsGrownTree net bounds (map the_tree_line new.lines.items)) runs
            (subst (λ ls. IsGrownTree net bounds ls (handed run prop.index true ∷ (handed run prop.index false ∷ the_pending m.asks.items))) (lines_more m new (Ask prop) lines) grown);
        asks = subst (All (IsOpenAsk net)) (sym asks) (All-push (IsOpenAsk net) m.asks.items here making.asks (record { run = kept; accepted = free }));
      }

  pub making_at : (run after : Run) (m new : Making) (t : ℕ) (xs : List ℕ) → due net bounds run ≡ Some t → moment_refusal net bounds run t ≡ None →
      IsMaking net bounds run m → xs ≡ called net bounds run t → new.asks.items ≡ m.asks.items → new.lines.items ≡ m.lines.items ++ At t xs ∷ [] →
      after ≡ run_moved net bounds run t → IsMaking net bounds after new
  making_at run after m new t xs is accepted making names asks lines told =
      let grown = grown_at net bounds (map the_tree_line m.lines.items) run (the_pending m.asks.items) t is accepted making.grown in
      let runs : run_moved net bounds run t ∷ the_pending m.asks.items ≡ after ∷ the_pending new.asks.items =
      ap (λ r. r ∷ the_pending m.asks.items) (sym told) ∙ ap (λ (others : List OpenAsk). after ∷ the_pending others) (sym asks) in
      record {
        grown = subst (IsGrownTree net bounds (map the_tree_line new.lines.items)) runs
            (subst (λ ls. IsGrownTree net bounds ls (run_moved net bounds run t ∷ the_pending m.asks.items))
            (ap (λ ys. map the_tree_line m.lines.items ++ AtLine t ys ∷ []) (sym names) ∙ lines_more m new (At t xs) lines) grown);
        asks = subst (All (IsOpenAsk net)) (sym asks) making.asks;
      }

  pub making_turn : (run after : Run) (m new : Making) (a : OpenAsk) → due net bounds run ≡ None → IsMaking net bounds run m →
      m.asks.items ≡ new.asks.items ++ a ∷ [] → new.lines.items ≡ m.lines.items ++ Done ∷ [] → after ≡ second_run a → IsMaking net bounds after new
  making_turn run after m new a over making asks lines told =
      let grown = grown_done net bounds (map the_tree_line m.lines.items) run (the_pending m.asks.items) over making.grown in
      let runs : the_pending m.asks.items ≡ after ∷ the_pending new.asks.items =
      ap the_pending asks ∙ pending_more new.asks.items a ∙ ap (λ r. r ∷ the_pending new.asks.items) (sym told) in
      record {
        grown = subst (IsGrownTree net bounds (map the_tree_line new.lines.items)) runs
            (subst (λ ls. IsGrownTree net bounds ls (the_pending m.asks.items)) (lines_more m new Done lines) grown);
        asks = (All-pop (IsOpenAsk net) m.asks.items new.asks.items (Some a) asks making.asks).0;
      }

  pub last_ask : (run : Run) (m : Making) (others : List OpenAsk) (a : OpenAsk) → IsMaking net bounds run m → m.asks.items ≡ others ++ a ∷ [] → IsOpenAsk net a
  last_ask run m others a making asks = (All-pop (IsOpenAsk net) m.asks.items others (Some a) asks making.asks).1

  pub making_end : (run : Run) (m : Making) (lines : List ProgramLine) → due net bounds run ≡ None → IsMaking net bounds run m →
      m.asks.items ≡ [] → lines ≡ m.lines.items ++ Done ∷ [] → IsGrownTree net bounds (map the_tree_line lines) []
  making_end run m lines over making none is =
      let grown = grown_done net bounds (map the_tree_line m.lines.items) run (the_pending m.asks.items) over making.grown in
      subst (λ ls. IsGrownTree net bounds ls []) (sym (ap (map the_tree_line) is ∙ map-append the_tree_line m.lines.items (Done ∷ [])))
      (subst (λ (asks : List OpenAsk). IsGrownTree net bounds (map the_tree_line m.lines.items ++ DoneLine ∷ []) (the_pending asks)) none grown)

  pub making_first : (run : Run) (m : Making) → run ≡ start_of_run (count net) → m.lines.items ≡ [] → m.asks.items ≡ [] → IsMaking net bounds run m
  making_first run m is lines asks = record {
    grown = subst (λ (others : List OpenAsk). IsGrownTree net bounds (map the_tree_line m.lines.items) (run ∷ the_pending others)) (sym asks)
        (subst (λ (ls : List ProgramLine). IsGrownTree net bounds (map the_tree_line ls) (run ∷ [])) (sym lines)
        (subst (λ r. IsGrownTree net bounds [] (r ∷ [])) (sym is) (grown_first net bounds)));
    asks = subst (All (IsOpenAsk net)) (sym asks) (All-nil (IsOpenAsk net));
  }

pub waits_for : (r : Option Prop) (o : Option EventRefusal) (w : EventRefusal) → o ≡ Some w → ((o ≡ None) ⊎ ((p : ℕ) × (o ≡ Some (Awaiting p)))) →
    ((p : ℕ) → w ≡ Awaiting p → option_map (λ (q : Prop). q.index) r ≡ Some p) → (q : Prop) × (r ≡ Some q) × (o ≡ Some (Awaiting q.index))
waits_for r o w is cases h = elim cases [
  | inl none ↦ let f : ⊥ = cc in absurd f
  | inr waits ↦ let same : w ≡ Awaiting waits.0 = cc in at r waits.0 (h waits.0 same) waits.1
]
  where
    at : (r : Option Prop) (p : ℕ) → option_map (λ (q : Prop). q.index) r ≡ Some p → o ≡ Some (Awaiting p) → (q : Prop) × (r ≡ Some q) × (o ≡ Some (Awaiting q.index))
    at None p e k = let f : ⊥ = cc in absurd f
    at (Some q) p e k = let same : q.index ≡ p = cc in (q, refl, k ∙ ap (λ n. Some (Awaiting n)) (sym same))

pub making_moved : (exec : ExecParts) (m new : Making) (t : ℕ) (xs : List ℕ) → IsMovedTo t exec m → xs ≡ exec.named → new.asks.items ≡ m.asks.items →
    new.lines.items ≡ m.lines.items ++ At t xs ∷ [] → IsMaking (the_network exec.net) (the_bounds exec.bounds) exec.run new
making_moved exec m new t xs has names asks lines =
    let before = has.before in
    subst (λ (e : ExecParts). IsMaking (the_network e.net) (the_bounds e.bounds) e.run new) (sym has.moved)
    (making_at (the_network before.net) (the_bounds before.bounds) before.run (run_moved (the_network before.net) (the_bounds before.bounds) before.run t) m new t xs
    has.due has.accepted has.making (names ∙ ap (λ (e : ExecParts). e.named) has.moved) asks lines refl)
