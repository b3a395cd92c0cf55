use Rattle.std.proofs.Common.{ℕ, ◌/◌, ◌%◌, ◌<◌, length, arith, sym, ap, ◌∙◌}
use Rattle.std.proofs.lemmas.Bool.{false≢true}
use Rattle.cstn_log.specs.Blocks.{has_number}
use Rattle.cstn_log.specs.Agendas.{has_place}
use Rattle.cstn_log.proofs.AgendaLemmas.{block_here, block_read, places_stay, used_on, split_place}
use Rattle.cstn_log.proofs.agenda.Agenda.insert.Goals as goal

pub invariant_of-self : goal.invariant_of-self
invariant_of-self c =
    let row : ℕ = c.args.k / 4096 in
    let inside : row < length c.self.inside.blocks.items = omega (arith, c.requires.room, ap length c.self.view_is) in
    used_on c.self.inside.blocks.items row c.insert.new.self inside c.self.inside.used c.insert-2.new.self c.self.invariant c.insert-2.ensures.others
    (λ on. (c.args.k % 4096, c.insert.ensures.here)) (λ k off. absurd (false≢true (sym off ∙ c.insert-2.ensures.here)))

pub returns-clause-here : goal.returns-clause-here
returns-clause-here c =
    let row : ℕ = c.args.k / 4096 in
    let inside : row < length c.self.inside.blocks.items = omega (arith, c.requires.room, ap length c.self.view_is) in
    ap (λ b. has_number b (c.args.k % 4096)) (block_here c.self.inside.blocks.items row c.insert.new.self inside) ∙ c.insert.ensures.here

pub returns-clause-others : goal.returns-clause-others
returns-clause-others c = λ m ne.
    let row : ℕ = c.args.k / 4096 in
    let items = c.self.inside.blocks.items in
    let inside : row < length items = omega (arith, c.requires.room, ap length c.self.view_is) in
    let was = block_read items row c.index_mut.result.now inside c.index_mut.ensures.value in
    places_stay items row c.insert.new.self inside (c.args.k % 4096) (λ n other. c.insert.ensures.others n other ∙ ap (λ b. has_number b n) (sym was))
    m (λ same. ne (same ∙ split_place c.args.k))
    ∙ ap (λ bs. has_place bs m) c.self.view_is
