-- Facts are recorded one after another.
use Rattle.std.proofs.Common.{ℕ, ◌≡◌, ◌+◌, ◌<◌, List, [], ◌∷◌, ◌++◌, Option, Some, None, length, take, drop, sym, ap, ◌∙◌}
use Rattle.std.specs.Prelude.{slice_index_or, Err}
use Rattle.std.specs.List.{filter_map, cons_option}
use Rattle.std.proofs.lemmas.List.{take_more, drop_more}
use Rattle.std.proofs.lemmas.List.Elements.{filter_map-append}
use Rattle.cstn_label.specs.declared.nodes.NodeId.{NodeId}
use Rattle.cstn_lift.specs.Labelled.{Labelled}
use Rattle.cstn_history.specs.Histories.{History}
use Rattle.cstn_check.specs.declared.verdicts.Verdict.{Verdict}
use Rattle.cstn_history.specs.Facts.{FactRefusal, done_refusal, with_done}
use Rattle.cstn_follow.specs.Following.{Following, says, too_many, verdict_line, verdict_left, on_left_verdict}
use Rattle.cstn_follow.specs.FactLines.{records, all_done, unless_fact_refused}

-- the next name, where a time-point has it
pub nodes_turn : (f : List ℕ → Option NodeId) (given : List (List ℕ)) (nodes new : List NodeId) (i : ℕ) (name : List ℕ) → i < length given
    → name ≡ slice_index_or given i name → nodes ≡ filter_map f (take i given) → new ≡ nodes ++ cons_option (f name) [] → new ≡ filter_map f (take (i + 1) given)
nodes_turn f given nodes new i name inside is so_far news =
    news ∙ ap (λ l. l ++ cons_option (f name) []) so_far ∙ sym (filter_map-append f (take i given) (name ∷ []))
    ∙ ap (filter_map f) (ap (λ e. take i given ++ e ∷ []) is ∙ sym (take_more given i name inside))

-- the next time-point is done, or can't be
one_done : (m : Labelled) (t : ℕ) (h : History) (xs : List NodeId) (i : ℕ) (x : NodeId) → i < length xs → x ≡ slice_index_or xs i x
    → all_done m t h (drop i xs) ≡ unless_fact_refused (done_refusal m h t x.0) (all_done m t (with_done h t x.0) (drop (i + 1) xs))
one_done m t h xs i x inside is =
    ap (all_done m t h) (drop_more xs i x inside ∙ ap (λ y. y ∷ drop (i + 1) xs) (sym is))

pub done_turn : (m : Labelled) (t : ℕ) (h next : History) (xs : List NodeId) (i : ℕ) (x : NodeId) → i < length xs → x ≡ slice_index_or xs i x
    → done_refusal m h t x.0 ≡ None → next ≡ with_done h t x.0 → all_done m t h (drop i xs) ≡ all_done m t next (drop (i + 1) xs)
done_turn m t h next xs i x inside is accepted recorded =
    one_done m t h xs i x inside is
    ∙ ap (λ o. unless_fact_refused o (all_done m t (with_done h t x.0) (drop (i + 1) xs))) accepted
    ∙ ap (λ k. all_done m t k (drop (i + 1) xs)) (sym recorded)

pub done_stops : (m : Labelled) (t : ℕ) (h : History) (xs : List NodeId) (i : ℕ) (x : NodeId) (e : FactRefusal) → i < length xs → x ≡ slice_index_or xs i x
    → done_refusal m h t x.0 ≡ Some e → all_done m t h (drop i xs) ≡ Err e
done_stops m t h xs i x e inside is refused =
    one_done m t h xs i x inside is ∙ ap (λ o. unless_fact_refused o (all_done m t (with_done h t x.0) (drop (i + 1) xs))) refused

-- what has happened is recorded, unless there are too many constraints then
pub recorded_none : (s : Following) (h : History) (text : List ℕ) → verdict_left s.network h s.fresh s.cap ≡ None → text ≡ too_many → records s h ≡ says text s
recorded_none s h text none is =
    ap (on_left_verdict s (record s { history = h }) (verdict_line s.cap)) none ∙ ap (λ t. says t s) (sym is)

pub recorded_some : (s : Following) (h : History) (text : List ℕ) (v : Verdict) → verdict_left s.network h s.fresh s.cap ≡ Some v → text ≡ verdict_line s.cap v
    → records s h ≡ says text (record s { history = h })
recorded_some s h text v some is =
    ap (on_left_verdict s (record s { history = h }) (verdict_line s.cap)) some ∙ ap (λ t. says t (record s { history = h })) (sym is)
