use Rattle.std.proofs.Common.{sym, arith}
use Rattle.std.proofs.lemmas.Option.{slice_get-get_or, slice_get_within}
use Rattle.std.proofs.lemmas.Bool.{eq-eqb, ne_eqb}
use Rattle.cstn_pool.proofs.JoinedLemmas.{value_there, value_of_another, value_of_none, value_past, got, past}
use Rattle.cstn_pool.proofs.pool.value_in.Goals.{in_default-via-in-Some+then-birth-id+else-birth, in_default-via-in-Some+else-birth-id, in_default-via-in_default}
use Rattle.cstn_pool.proofs.pool.value_in.Goals as goal

pub returns-in-Some : goal.returns-in-Some
returns-in-Some g c =
    let born = got c.args.born.now c.args.id.slot c.in-Some.birth.now c.in-Some.ensures.lookup.0 c.in-Some.ensures.lookup.1 in
    let value = slice_get-get_or c.args.values.now c.args.id.slot c.index-values-id.result (omega (arith, slice_get_within c.args.born.now c.args.id.slot c.in-Some.birth.now born, c.requires)) in
    sym (value_there c.args.born.now c.args.values.now c.args.id.slot c.args.id.birth c.in-Some.birth.now c.index-values-id.result born (rw (← c.index-values-id.is) at value) (eq-eqb _ _ c.if-birth-id.true) (ne_eqb _ _ c.if-birth.true))

pub returns-in_default : goal.returns-in_default
returns-in_default g c = elim c.in_default.branch [
  | in_default-via-in-Some+then-birth-id+else-birth w ↦
      let born = got c.args.born.now c.args.id.slot w.in-Some.birth.now w.in-Some.ensures.lookup.0 w.in-Some.ensures.lookup.1 in
      sym (value_of_none c.args.born.now c.args.values.now c.args.id.slot c.args.id.birth w.in-Some.birth.now born (eq-eqb _ _ w.if-birth.false))
  | in_default-via-in-Some+else-birth-id w ↦
      let born = got c.args.born.now c.args.id.slot w.in-Some.birth.now w.in-Some.ensures.lookup.0 w.in-Some.ensures.lookup.1 in
      sym (value_of_another c.args.born.now c.args.values.now c.args.id.slot c.args.id.birth w.in-Some.birth.now born (ne_eqb _ _ w.if-birth-id.false))
  | in_default-via-in_default w ↦ sym (value_past c.args.born.now c.args.values.now c.args.id.slot c.args.id.birth (past c.args.born.now c.args.id.slot w.in_default.ensures.lookup.0))
]
