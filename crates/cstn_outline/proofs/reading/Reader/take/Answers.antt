use Rattle.std.proofs.Common.{ℕ, Option, [], ◌≡◌, ◌<◌, ◌+◌, length, reverse, sym, subst, ap, ◌∙◌}
use Rattle.std.specs.List.{All}
use Rattle.std.specs.Option.{option_map, IfSome}
use Rattle.std.proofs.lemmas.List.{nil_from_length}
use Rattle.cstn_outline.specs.declared.trees.Line.{Line as ProgramLine}
use Rattle.cstn_outline.specs.Trees.{names_on}
use Rattle.cstn_outline.specs.Read.{the_tree_line}
use Rattle.cstn_outline.specs.Texts.{wrong}
use Rattle.cstn_outline.proofs.ReadLemmas.{popped, reader_next, take_end, take_wrong, take_next}
use Rattle.cstn_outline.proofs.reading.Reader.take.Goals as goal

pub returns-in_default-clause-wrong : goal.returns-in_default-clause-wrong
returns-in_default-clause-wrong c = λ load texts tail.
    let none : reverse c.args.self.now.ahead.items ≡ [] = ap reverse (nil_from_length c.args.self.now.ahead.items (sym c.args.self.now.ahead.ok.0 ∙ c.in_default.ensures.cases.0)) in
    take_end c.args.names.now c.args.self.now c.requires.reader.ahead load c.args.text.now texts tail none ∙ ap (λ (n : ℕ). wrong (n + 2)) (sym (c.len.ensures ∙ c.args.self.now.lines.ok.0))

pub returns-in_default-read-clause-wrong : goal.returns-in_default-read-clause-wrong
returns-in_default-read-clause-wrong c = λ load texts tail.
    let first = popped c.args.self.now.ahead.items c.pop.new.self.items c.in-Some.depth c.in-Some.ensures.items in
    let read = sym c.in-Ok.ensures.read ∙ ap (λ (o : Option ProgramLine). option_map the_tree_line o) c.in_default-read.is in
    take_wrong c.args.names.now c.args.self.now c.requires.reader.ahead load c.args.text.now texts tail c.in-Some.depth (reverse c.pop.new.self.items) first read
    ∙ ap (λ (n : ℕ). wrong (n + 2)) (sym (c.len.ensures ∙ c.args.self.now.lines.ok.0))

pub returns-in-Ok-put-clause-next : goal.returns-in-Ok-put-clause-next
returns-in-Ok-put-clause-next c = λ load texts tail.
    let first = popped c.args.self.now.ahead.items c.pop.new.self.items c.in-Some.depth c.in-Some.ensures.items in
    let read = sym c.in-Ok.ensures.read ∙ ap (λ (o : Option ProgramLine). option_map the_tree_line o) c.in-Some-read.is in
    take_next c.args.names.now c.args.self.now c.requires.reader.ahead load c.args.text.now texts tail c.put.new.self c.in-Some.depth (reverse c.pop.new.self.items) c.in-Some-read.line first read
    c.in-Ok-put.ensures.lines

pub returns-in-Ok-put-clause-reader : goal.returns-in-Ok-put-clause-reader
returns-in-Ok-put-clause-reader c =
    let first = popped c.args.self.now.ahead.items c.pop.new.self.items c.in-Some.depth c.in-Some.ensures.items in
    let inside = subst (λ (o : Option ProgramLine). IfSome o (λ l. All (λ x. x < length c.args.names.now) (names_on (the_tree_line l)))) c.in-Some-read.is c.in-Ok.ensures.inside in
    reader_next (length c.args.names.now) c.args.self.now c.put.new.self c.in-Some.depth (reverse c.pop.new.self.items) c.in-Some-read.line first c.requires.reader
    c.in-Ok-put.ensures.ahead c.in-Ok-put.ensures.lines inside
