use Rattle.std.proofs.Common.{◌≡◌, ℕ, ◌+◌, List, ◌∷◌, length, map, ap, sym, ◌∙◌, arith, Option, None}
use Rattle.std.specs.Prelude.{option_map, slice_index_or, replicate}
use Rattle.std.specs.Option.{option_or}
use Rattle.std.proofs.lemmas.List.{length-map}
use Rattle.cstn_graphml.specs.declared.drawn_graph.Observation.{Observation as Lent}
use Rattle.cstn_graphml.specs.DrawnGraph.{Observation}
use Rattle.cstn_graphml.specs.DrawnGraphSeen.{observed_seen}
use Rattle.cstn_graphml.specs.Document.{or_nothing}
use Rattle.cstn_sentences.specs.Observers.{with_observer}
use Rattle.cstn_sentences.specs.Meaning.{first_observer}
use Rattle.cstn_sentences.proofs.ObserverLemmas.{seen_more, same_length, seen_lettered, origin_seen}
use Rattle.cstn_sentences.proofs.observers.Observers.new.Goals as goal

pub loop-observed-init : goal.loop-observed-init
loop-observed-init c =
    let d = c.args.d.now in
    let o = c.at_origin.result in
    let left = c.as_slice-left.result.now in
    let put : c.put.new.self ≡ with_observer 0 (observed_seen o) (replicate 52 None) = c.put.ensures ∙ ap (with_observer 0 (observed_seen o)) c.in_ok-observers.ensures in
    record {
      known = λ p low.
          origin_seen c.put.new.self p o (map observed_seen left) put low
          ∙ ap (λ (x : Option Observation). first_observer p 0 (x ∷ map observed_seen left)) c.at_origin.ensures
          ∙ ap (λ (os : List (Option Lent)). first_observer p 0 (or_nothing (option_map observed_seen d.origin) ∷ map observed_seen os)) c.as_slice-left.ensures.value;
      long = ap (λ (t : List (Option (ℕ × ℕ))). length t) put ∙ same_length (replicate 52 None) 0 (observed_seen o);
      few = omega (arith, c.requires, length-map d.observes.items observed_seen, ap length c.as_slice-left.ensures.value);
    }

pub loop-observed-preserved : goal.loop-observed-preserved
loop-observed-preserved c =
    let is = c.in-Some.ensures.cases.0 in
    let kept = c.loop-observed.invariant in
    let table = c.loop-observed.observers in
    let x = c.loop-observed.x in
    let o = c.in-Some.observed.now in
    let later = map observed_seen c.in-Some.rest.now in
    record {
      known = λ p low.
          ap (λ (t : List (Option (ℕ × ℕ))). option_or (slice_index_or t p None) (first_observer p (x + 1) later)) c.put-in-Some.ensures
          ∙ seen_more table p x (observed_seen o) later kept.long (seen_lettered o)
          ∙ ap (λ (os : List (Option Lent)). option_or (slice_index_or table p None) (first_observer p x (map observed_seen os))) (sym is) ∙ kept.known p low;
      long = ap (λ (t : List (Option (ℕ × ℕ))). length t) c.put-in-Some.ensures ∙ same_length table x (observed_seen o) ∙ kept.long;
      few = omega (arith, kept.few, ap length is);
    }
