use Rattle.std.proofs.Common.{ℕ, Option, List, None, ◌≡◌, ◌<◌, length, arith, subst, sym, ap, ◌∙◌}
use Rattle.std.specs.Prelude.{slice_index_or}
use Rattle.cstn_exec.specs.Read.{ExecParts}
use Rattle.cstn_exec.proofs.executive.Executive.first_free.Goals as goal

pub returns-clause-held : goal.returns-clause-held
returns-clause-held c x u inside none low high =
    let few = c.is_right.ensures.well_formed.few_points in
    let size = c.is_right.ensures.right.moments in
    let moments = c.deref.ensures.value ∙ ap (λ (v : ExecParts). v.run.moments) c.self.view_is in
    let there = ap (length {A = Option ℕ}) moments in
    let later = c.least_from.ensures.held x u (omega arith) (subst (λ (ms : List (Option ℕ)). slice_index_or ms x None ≡ None) (sym moments) none) low high in
    subst (λ (n : ℕ). u < n) (c.requires.asked x (omega arith)) later
