use Rattle.std.proofs.Common.{List, ℕ}
use Rattle.cstn_lift.specs.Read.{LabelledParts, the_labelled}
use Rattle.cstn_graphml.proofs.OfDocuments.{each_read, each_error, well_formed_read, named_read, origin_read, has_origin, has_plain_labels, has_timely_reactions, has_plain_node_labels}
use Rattle.cstn_graphml.proofs.reading.read.Goals as goal

pub returns-clause-well_formed : goal.returns-clause-well_formed
returns-clause-well_formed c = each_read _ _ c.answer.result (λ (x : LabelledParts × List (List ℕ)) h. well_formed_read c.args.bytes.now c.args.deadline (the_labelled x.0) x.1 h) c.answer.ensures.accepted

pub returns-clause-named : goal.returns-clause-named
returns-clause-named c = each_read _ _ c.answer.result (λ (x : LabelledParts × List (List ℕ)) h. named_read c.args.bytes.now c.args.deadline (the_labelled x.0) x.1 h) c.answer.ensures.accepted

pub returns-clause-origin : goal.returns-clause-origin
returns-clause-origin c = each_read _ _ c.answer.result (λ (x : LabelledParts × List (List ℕ)) h. origin_read c.args.bytes.now c.args.deadline (the_labelled x.0) x.1 h) c.answer.ensures.accepted

pub returns-clause-has_origin : goal.returns-clause-has_origin
returns-clause-has_origin c = each_error _ _ c.answer.result (has_origin c.args.bytes.now c.args.deadline) c.answer.ensures.refused

pub returns-clause-has_plain_labels : goal.returns-clause-has_plain_labels
returns-clause-has_plain_labels c = each_error _ _ c.answer.result (has_plain_labels c.args.bytes.now c.args.deadline) c.answer.ensures.refused

pub returns-clause-has_timely_reactions : goal.returns-clause-has_timely_reactions
returns-clause-has_timely_reactions c = each_error _ _ c.answer.result (has_timely_reactions c.args.bytes.now c.args.deadline) c.answer.ensures.refused

pub returns-clause-has_plain_node_labels : goal.returns-clause-has_plain_node_labels
returns-clause-has_plain_node_labels c = each_error _ _ c.answer.result (has_plain_node_labels c.args.bytes.now c.args.deadline) c.answer.ensures.refused
