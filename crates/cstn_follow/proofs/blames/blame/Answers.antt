use Rattle.std.proofs.Common.{ℕ, Vec, Global, sym, ap, ◌∙◌}
use Rattle.std.specs.Option.{option_map}
use Rattle.cstn_lift.specs.Read.{the_labelled}
use Rattle.cstn_history.specs.Histories.{IsTimelyHistory}
use Rattle.cstn_history.specs.Read.{the_history}
use Rattle.cstn_follow.proofs.blames.blame.Goals as goal

pub blamed-requires : goal.blamed-requires
blamed-requires c = record {
  tries = record {
    kept = c.requires.kept;
    above = c.requires.above;
    low = c.requires.low;
    room = c.requires.room;
  };
}

pub returns-in-Ok-Some-clause-cannot : goal.returns-in-Ok-Some-clause-cannot
returns-in-Ok-Some-clause-cannot c =
    let m = the_labelled c.args.network.now in
    let h = the_history c.args.history.now in
    let timely : IsTimelyHistory m h = record { history = c.requires.kept.history; in_time = c.requires.kept.in_time } in
    c.blame_is_found.ensures.cannot m h c.args.fresh c.args.cap.entries c.in-Ok-Some.ids.items c.base.ensures.labelled timely c.requires.above c.requires.room
    c.requires.cannot (sym c.in-Ok-Some.ensures ∙ ap (option_map (λ (v : Vec ℕ Global). v.items)) c.in-Ok-Some.field-0-is)

pub returns-in-Ok-Some-clause-needed : goal.returns-in-Ok-Some-clause-needed
returns-in-Ok-Some-clause-needed c id =
    let m = the_labelled c.args.network.now in
    let h = the_history c.args.history.now in
    let timely : IsTimelyHistory m h = record { history = c.requires.kept.history; in_time = c.requires.kept.in_time } in
    c.blame_is_found.ensures.needed m h c.args.fresh c.args.cap.entries id c.in-Ok-Some.ids.items c.base.ensures.labelled timely c.requires.above c.requires.room
    (sym c.in-Ok-Some.ensures ∙ ap (option_map (λ (v : Vec ℕ Global). v.items)) c.in-Ok-Some.field-0-is)

pub returns-in-Ok-Some-clause-ascending : goal.returns-in-Ok-Some-clause-ascending
returns-in-Ok-Some-clause-ascending c =
    c.blame_is_found.ensures.ascending (the_labelled c.args.network.now) (the_history c.args.history.now) c.args.fresh c.args.cap.entries c.in-Ok-Some.ids.items
    c.base.ensures.labelled (sym c.in-Ok-Some.ensures ∙ ap (option_map (λ (v : Vec ℕ Global). v.items)) c.in-Ok-Some.field-0-is)
