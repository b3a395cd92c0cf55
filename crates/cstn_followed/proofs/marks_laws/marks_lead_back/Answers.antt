use Rattle.cstn_followed.proofs.Paired.{back_leads_back}
use Rattle.cstn_followed.proofs.marks_laws.marks_lead_back.Goals as goal

pub returns : goal.returns
returns c = back_leads_back
