use Rattle.std.proofs.Common.{◌≡◌, ◌+◌, ◌-◌, List, ℕ, length, take, drop, sym, ap, ◌∙◌}
use Rattle.std.specs.Prelude.{Some, Option}
use Rattle.std.specs.Option.{option_map}
use Rattle.std.proofs.lemmas.List.{take_rest}
use Rattle.cstn_text.proofs.SplitLemmas.{parts_cut, cut_shorter}
use Rattle.cstn_text.proofs.cuts.cut_at.Goals as goal

abbrev Cut : Type 0
Cut = List ℕ × List ℕ

cut_found : (bytes : List ℕ) (i : ℕ) (place : Option ℕ) → place ≡ Some i →
    option_map {U = Cut} (λ i. (take i bytes, drop (i + 1) bytes)) place ≡ Some (take i bytes, take (length bytes - (i + 1)) (drop (i + 1) bytes))
cut_found bytes i place is =
    ap (option_map {U = Cut} (λ i. (take i bytes, drop (i + 1) bytes))) is ∙ ap {B = Option Cut} (λ rest. Some (take i bytes, rest)) (sym (take_rest bytes (i + 1)))

pub returns-clause-parts : goal.returns-clause-parts
returns-clause-parts c =
    let bytes = c.args.bytes.now in
    let i = c.in-Some.i in
    parts_cut c.args.byte bytes (take i bytes) (take (length bytes - (i + 1)) (drop (i + 1) bytes)) (cut_found bytes i _ (sym c.in-Some.ensures.place))

pub returns-clause-shorter : goal.returns-clause-shorter
returns-clause-shorter c =
    let bytes = c.args.bytes.now in
    let i = c.in-Some.i in
    cut_shorter c.args.byte bytes (take i bytes) (take (length bytes - (i + 1)) (drop (i + 1) bytes)) (cut_found bytes i _ (sym c.in-Some.ensures.place))
