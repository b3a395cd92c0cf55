use Rattle.std.proofs.Common.{ℕ, List, [], ◌∷◌, ◌++◌, ap, sym, ◌∙◌}
use Rattle.cstn_text.specs.Names.{number_of}
use Rattle.cstn_sentences.specs.Declarations.{Declared, is_declared, end_name}
use Rattle.cstn_sentences.specs.SeenDeclared.{the_declared}
use Rattle.cstn_sentences.proofs.NamesLemmas.{undeclared, still_unknown, end_differs, end_is_no_origin}
use Rattle.cstn_sentences.proofs.declarations.declare_task.Goals as goal

pub put_point-requires-2-clause-new : goal.put_point-requires-2-clause-new
put_point-requires-2-clause-new c =
    let name = c.as_str-name.result.now in
    let names = c.args.d.now.names in
    let undeclared_end = ap (λ (t : List ℕ). is_declared t (the_declared c.args.d.now)) (sym (c.as_str.ensures.value ∙ c.in_ok-end.ensures)) ∙ c.in_ok-is_task.ensures.ends in
    ap (λ (d : Declared). number_of d.names c.as_str-2.result.now) c.in_ok-put_point.ensures
    ∙ ap (λ (t : List ℕ). number_of (names ++ (name ∷ [])) t) (c.as_str-2.ensures.value ∙ c.in_ok-end.ensures)
    ∙ still_unknown names (end_name name) name (undeclared (end_name name) (the_declared c.args.d.now) undeclared_end (end_is_no_origin name)) (end_differs name)
