use Rattle.std.proofs.Common.{ℕ, ◌≡◌, length, arith, subst, ◌∙◌}
use Rattle.std.proofs.lemmas.Grind.{common_steps}
use Rattle.std.proofs.lemmas.List.{length-reverse}
use Rattle.cstn_outline.specs.Whole.{IsBegun}
use Rattle.cstn_outline.specs.Reading.{the_lines}
use Rattle.cstn_outline.proofs.TreeLemmas.{begun_end, among_whole}
use Rattle.cstn_outline.proofs.reading.Reader.finish.Goals as goal

pub invariant_of-result : goal.invariant_of-result
invariant_of-result c =
    let none : length c.args.self.ahead.items ≡ 0 = grind (arith, common_steps) in
    begun_end (the_lines c.args.self) (subst (λ (n : ℕ). IsBegun (the_lines c.args.self) n) (length-reverse c.args.self.ahead.items ∙ none) c.requires.reader.1.begun)

pub returns-clause-named : goal.returns-clause-named
returns-clause-named c = λ n is.
    let none : length c.args.self.ahead.items ≡ 0 = grind (arith, common_steps) in
    among_whole n (the_lines c.args.self) (begun_end (the_lines c.args.self) (subst (λ (n : ℕ). IsBegun (the_lines c.args.self) n) (length-reverse c.args.self.ahead.items ∙ none) is.begun)) is.named
