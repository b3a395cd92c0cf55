use Rattle.cstn_edit.proofs.SessionLaws.{begun_is_sound, added_is_sound, removed_is_sound, changed_is_sound, verdict_is_sound, sound_goes_on}
use Rattle.cstn_edit.proofs.laws.sessions_stay_sound.Goals as goal

pub returns-clause-begun : goal.returns-clause-begun
returns-clause-begun c = begun_is_sound

pub returns-clause-added : goal.returns-clause-added
returns-clause-added c = added_is_sound

pub returns-clause-removed : goal.returns-clause-removed
returns-clause-removed c = removed_is_sound

pub returns-clause-changed : goal.returns-clause-changed
returns-clause-changed c = changed_is_sound

pub returns-clause-verdict : goal.returns-clause-verdict
returns-clause-verdict c = verdict_is_sound

pub returns-clause-grows : goal.returns-clause-grows
returns-clause-grows c s sound = (sound_goes_on s sound).kept
