use Rattle.std.proofs.Common.{sym}
use Rattle.cstn_check.proofs.Bounded.{bases_kept, grown_kept, grown_short}
use Rattle.cstn_check.proofs.Ends.{grow_after, grow_at_refuted, grow_from}
use Rattle.cstn_check.proofs.laws.kept_lists_grow_to_an_end.Goals as goal

pub returns-clause-bases : goal.returns-clause-bases
returns-clause-bases c net good = bases_kept net good.network good.letters

pub returns-clause-kept : goal.returns-clause-kept
returns-clause-kept c net list n good kept = grown_kept net good.network good.letters list n kept

pub returns-clause-most : goal.returns-clause-most
returns-clause-most c net list n good kept = grown_short net good.network good.letters list n kept

pub returns-clause-goes_on : goal.returns-clause-goes_on
returns-clause-goes_on c net list n good kept = let e = grow_from net good.network good.letters list kept n in (e.more, e.is)

pub returns-clause-done : goal.returns-clause-done
returns-clause-done c net list n good kept long = grow_after net good.network good.letters list kept n long

pub returns-clause-refuted : goal.returns-clause-refuted
returns-clause-refuted c net list n good kept over = sym (grow_at_refuted net good.network good.letters list kept n over)
