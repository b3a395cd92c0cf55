use Rattle.std.proofs.Common.{ℕ, List, ap, sym, map, Vec, Global, Ok, Bor}
use Rattle.cstn_element.specs.Elements.{data_of, read_by}
use Rattle.cstn_element.specs.DataElementSeen.{datum_seen}
use Rattle.cstn_element.specs.declared.data_element.Datum.{Datum as Lent}
use Rattle.cstn_element.proofs.Wholes.{closed_whole}
use Rattle.cstn_element.proofs.node_and_edge_data.read_element_data.Goals as goal

pub returns-then-start-clause-reads : goal.returns-then-start-clause-reads
unfolding read_by
returns-then-start-clause-reads c = λ names l.
    closed_whole (λ (v : Vec Lent Global). map datum_seen v.items) (data_of (map (λ (u : Bor (List ℕ)). u.now) c.args.used.now)) _ _ _ _ names _ c.if-start.true (ap (λ x. Ok (map datum_seen x)) (sym c.new.ensures.items))
