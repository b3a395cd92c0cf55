-- How a request ends.
use Rattle.std.specs.Prelude.{ℕ}
use Rattle.cstn_reply.specs.declared.status.Status.{Status}
use Rattle.cstn_reply.specs.declared.status.Status.TheVariants.{Good as IsGood, Bad as IsBad, Words as IsWords, Document as IsDocument, Full as IsFull, ReadFault, WriteFault, Memory, Unfinished as IsUnfinished, Script as IsScript, Wide as IsWide}
use Rattle.cstn_reply.specs.declared.output.Outcome.{Outcome}
use Rattle.cstn_reply.specs.declared.output.Outcome.TheVariants.{Good, Bad, Words, Document, Full, Unfinished, Script, Wide}

-- the status of an output
abbrev pub status_of : Outcome → Status
status_of Good = IsGood
status_of Bad = IsBad
status_of Words = IsWords
status_of Document = IsDocument
status_of Full = IsFull
status_of Unfinished = IsUnfinished
status_of Script = IsScript
status_of Wide = IsWide

-- the program's exit status
abbrev pub exit_status : Status → ℕ
exit_status IsGood = 0
exit_status IsBad = 1
exit_status IsWords = 2
exit_status IsDocument = 3
exit_status IsFull = 4
exit_status ReadFault = 5
exit_status WriteFault = 6
exit_status Memory = 7
exit_status IsUnfinished = 8
exit_status IsScript = 9
exit_status IsWide = 10
