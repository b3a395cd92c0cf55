use Rattle.cstn_headline.proofs.EditSessions.{network_is, stays_well_formed, stays_small, check_is_true, last_is}
use Rattle.cstn_headline.proofs.laws.edit_sessions_are_true.Goals as goal

pub returns : goal.returns
returns c = record { edited = network_is; well_formed = stays_well_formed; ids = stays_small; checked = check_is_true c.texts_are_read_back.ensures.back; last = last_is }
