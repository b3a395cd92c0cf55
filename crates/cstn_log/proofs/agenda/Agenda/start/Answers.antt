use Rattle.std.proofs.Common.{◌+◌, ◌*◌, arith, sym, ◌∙◌}
use Rattle.std.proofs.lemmas.Bool.{false≢true}
use Rattle.cstn_log.proofs.AgendaLemmas.{place_of}
use Rattle.cstn_log.proofs.agenda.Agenda.start.Goals as goal

pub invariant_of-result : goal.invariant_of-result
invariant_of-result c = record {
  few = omega (arith, c.in_ok-blocks.ensures.size, c.args.cap.most);
  some = λ row on. absurd (false≢true (sym (c.empty-used.ensures.empty row) ∙ on));
  none = λ row k small off.
      sym (place_of c.in_ok-blocks.blocks.items row k small) ∙ c.in_ok-blocks.ensures.none (row * 4096 + k);
}
