use Rattle.std.proofs.Common.{ℕ, ◌≡◌, ◌+◌, ◌*◌, false, refl, sym, ap, ◌∙◌}
use Rattle.std.specs.Prelude.{slice_set}
use Rattle.std.proofs.lemmas.Bool.{false≢true}
use Rattle.cstn_log.specs.Blocks.{has_number}
use Rattle.cstn_log.specs.Agendas.{has_place}
use Rattle.cstn_log.proofs.AgendaLemmas.{block_here, block_read, block_reread, some_inside, place_of, places_stay, none_below, used_on}
use Rattle.cstn_log.proofs.agenda.Agenda.take_first.Goals.{in-None, in_default-first}
use Rattle.cstn_log.proofs.agenda.Agenda.take_first.Goals as goal

pub invariant_of-self-in-None : goal.invariant_of-self-in-None
invariant_of-self-in-None c =
    let items = c.self.inside.blocks.items in
    let row : ℕ = c.in-Some.row in
    let some = c.self.invariant.some row c.in-Some.ensures.here in
    let inside = some_inside items row some.0 some.1 in
    let same = block_reread items row c.take_first.new.self c.index.result.now inside c.index.ensures in
    used_on items row c.take_first.new.self inside c.self.inside.used c.remove.new.self c.self.invariant c.remove.ensures.others
    (λ on. absurd (false≢true (sym c.remove.ensures.gone ∙ on))) (λ k off. ap (λ b. has_number b k) (sym same) ∙ c.in-None.ensures.none k)

pub invariant_of-self-in_default-first : goal.invariant_of-self-in_default-first
invariant_of-self-in_default-first c =
    let items = c.self.inside.blocks.items in
    let row : ℕ = c.in-Some.row in
    let some = c.self.invariant.some row c.in-Some.ensures.here in
    let inside = some_inside items row some.0 some.1 in
    let same = block_reread items row c.take_first.new.self c.index.result.now inside c.index.ensures in
    used_on items row c.take_first.new.self inside c.self.inside.used c.self.inside.used c.self.invariant (λ r ne. refl)
    (λ on. (c.in_default-first.field-0, ap (λ b. has_number b c.in_default-first.field-0) (sym same) ∙ c.in_default-first.ensures.here))
    (λ k off. absurd (false≢true (sym off ∙ c.in-Some.ensures.here)))

pub returns-clause-here : goal.returns-clause-here
returns-clause-here c =
    let items = c.self.inside.blocks.items in
    let row : ℕ = c.in-Some.row in
    let n : ℕ = c.in-Some-take_first.number in
    let some = c.self.invariant.some row c.in-Some.ensures.here in
    let inside = some_inside items row some.0 some.1 in
    let was = block_read items row c.index_mut.result.now inside c.index_mut.ensures.value in
    ap (λ bs. has_place bs (row * 4096 + n)) (sym c.self.view_is) ∙ place_of items row n c.in-Some-take_first.ensures.small
    ∙ ap (λ b. has_number b n) was ∙ c.in-Some-take_first.ensures.here

pub returns-clause-least : goal.returns-clause-least
returns-clause-least c = λ m below.
    let items = c.self.inside.blocks.items in
    let row : ℕ = c.in-Some.row in
    let n : ℕ = c.in-Some-take_first.number in
    let some = c.self.invariant.some row c.in-Some.ensures.here in
    let inside = some_inside items row some.0 some.1 in
    let was = block_read items row c.index_mut.result.now inside c.index_mut.ensures.value in
    ap (λ bs. has_place bs m) (sym c.self.view_is)
    ∙ none_below c.self.inside.used items row n c.self.invariant c.in-Some-take_first.ensures.small c.in-Some.ensures.least
    (λ k low. ap (λ b. has_number b k) was ∙ c.in-Some-take_first.ensures.least k low) m below

pub returns-clause-gone : goal.returns-clause-gone
returns-clause-gone c =
    let items = c.self.inside.blocks.items in
    let row : ℕ = c.in-Some.row in
    let n : ℕ = c.in-Some-take_first.number in
    let some = c.self.invariant.some row c.in-Some.ensures.here in
    let inside = some_inside items row some.0 some.1 in
    let new = c.take_first.new.self in
    let gone : has_place (slice_set items row new) (row * 4096 + n) ≡ false =
    place_of (slice_set items row new) row n c.in-Some-take_first.ensures.small ∙ ap (λ b. has_number b n) (block_here items row new inside)
    ∙ c.in-Some-take_first.ensures.gone in
    elim c.match-first-2.branch [
      | in-None w ↦ rw w.self-is gone
      | in_default-first w ↦ rw w.self-is gone
    ]

pub returns-clause-others : goal.returns-clause-others
returns-clause-others c = λ m ne.
    let items = c.self.inside.blocks.items in
    let row : ℕ = c.in-Some.row in
    let n : ℕ = c.in-Some-take_first.number in
    let some = c.self.invariant.some row c.in-Some.ensures.here in
    let inside = some_inside items row some.0 some.1 in
    let was = block_read items row c.index_mut.result.now inside c.index_mut.ensures.value in
    let new = c.take_first.new.self in
    let stays : has_place (slice_set items row new) m ≡ has_place c.args.self.now m =
    places_stay items row new inside n (λ k other. c.in-Some-take_first.ensures.others k other ∙ ap (λ b. has_number b k) (sym was)) m ne
    ∙ ap (λ bs. has_place bs m) c.self.view_is in
    elim c.match-first-2.branch [
      | in-None w ↦ rw w.self-is stays
      | in_default-first w ↦ rw w.self-is stays
    ]
