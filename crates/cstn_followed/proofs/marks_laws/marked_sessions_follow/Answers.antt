use Rattle.std.proofs.Common.{arith, refl}
use Rattle.cstn_follow.specs.Following.{begun_following}
use Rattle.cstn_follow.proofs.States.{begun_sound}
use Rattle.cstn_followed.specs.Marked.{lines_that_count}
use Rattle.cstn_followed.proofs.Counting.{counting_leads}
use Rattle.cstn_followed.proofs.Journals.{leads_back}
use Rattle.cstn_followed.proofs.Paired.{answered_as_is}
use Rattle.cstn_followed.proofs.marks_laws.marked_sessions_follow.Goals as goal

pub returns : goal.returns
returns c = record {
  state = λ cap names m lines t good few named leads. counting_leads names m good few named cap lines t leads;
  reached = λ cap names m lines t good few named leads. record {
    cap = t.now.cap;
    names = names;
    network = m;
    lines = lines_that_count lines;
    labelled = good;
    few = few;
    named = named;
    leads = counting_leads names m good few named cap lines t leads;
  };
  journal = λ cap names m lines t good few named leads.
      let back = leads_back (begun_following t.now.cap names m) t.now 0 0 0 (lines_that_count lines) (begun_sound t.now.cap names m good few named) (omega arith)
      (counting_leads names m good few named cap lines t leads) in
      (record t.now { lines = back.count }, back.leads, (back.count, refl));
  answers = answered_as_is;
}
