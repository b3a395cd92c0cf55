-- How requests are answered.

-- how a request is answered: by a text, or by a session over the lines of the live source
pub data AnswerKind : Type 0 where
  a_text : AnswerKind
  a_run : AnswerKind
  an_edit : AnswerKind
  a_follow : AnswerKind
  a_host : AnswerKind

-- this holds, and a session is held
abbrev pub InSession : AnswerKind → Type 0 → Type 0
InSession a_text holds = ⊥
InSession a_run holds = holds
InSession an_edit holds = holds
InSession a_follow holds = holds
InSession a_host holds = holds
