use Rattle.std.proofs.Common.{ap, sym, ◌∙◌}
use Rattle.std.proofs.lemmas.Slice.Eq.{bytes_eq-Decides}
use Rattle.cstn_text.specs.Names.{number_of}
use Rattle.cstn_sentences.proofs.NamePlaces.{text_at}
use Rattle.cstn_sentences.proofs.meaning.is_named.Goals as goal

pub returns : goal.returns
returns c = λ is.
    let names = c.args.names.now in
    let at = c.in-Some.ensures.lookup in
    let same = sym c.as_str.ensures.value ∙ (bytes_eq-Decides c.as_str.result.now c.args.name.now).0 (sym c.eq.ensures ∙ is) in
    ap (number_of names) (sym same) ∙ text_at names c.as_slice.result.now c.args.x c.in-Some.text.now c.as_slice.ensures.names c.as_slice.ensures.each at.0 at.1
