use Rattle.std.proofs.Common.{ℕ, List, Bool, [], ◌∷◌, ◌++◌, map, length, arith, sym, ap, ◌∙◌, length-append}
use Rattle.std.proofs.lemmas.List.{map-append}
use Rattle.cstn_facts.proofs.Ranges.{passing_with, passing_without}
use Rattle.cstn_exec.specs.Runs.{is_free_by}
use Rattle.cstn_exec.proofs.executive.naming.collect.Goals as goal
use Rattle.cstn_exec.proofs.executive.naming.collect.Goals.{then-is_free, else-is_free}

pub loop-x-preserved : goal.loop-x-preserved
loop-x-preserved c =
    let test : ℕ → Bool = is_free_by c.args.moments.now c.args.after.now c.args.t in
    elim c.if-is_free.branch [
      | then-is_free w ↦
          let is = ap (λ v. v.items) w.named-is ∙ w.push_reserved.ensures.items in
          record {
            named = ap (map (λ x. x.0)) is ∙ map-append (λ x. x.0) c.loop-x.named.items (record { 0 = c.loop-x.x } ∷ [])
                ∙ ap (λ (l : List ℕ). l ++ c.loop-x.x ∷ []) c.loop-x.invariant.named
                ∙ sym (passing_with test c.loop-x.x (sym c.is_free.ensures ∙ w.if-is_free.true));
            room = let longer = ap length is ∙ length-append c.loop-x.named.items (record { 0 = c.loop-x.x } ∷ []) in let before = c.loop-x.invariant.room in omega arith;
            capacity = ap (λ v. v.capacity) w.named-is ∙ w.push_reserved.ensures.capacity ∙ c.loop-x.invariant.capacity;
          }
      | else-is_free w ↦ record {
        named = ap (λ v. map (λ x. x.0) v.items) w.named-is ∙ c.loop-x.invariant.named
            ∙ sym (passing_without test c.loop-x.x (sym c.is_free.ensures ∙ w.if-is_free.false));
        room = let before = c.loop-x.invariant.room in let same = ap (λ v. length v.items) w.named-is in omega arith;
        capacity = ap (λ v. v.capacity) w.named-is ∙ c.loop-x.invariant.capacity;
      }
    ]
