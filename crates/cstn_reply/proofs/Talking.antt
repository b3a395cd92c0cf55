-- How a session goes on, line by line.
use Rattle.std.proofs.Common.{◌≡◌, ℕ, ◌+◌, ◌≤◌, List, [], ◌∷◌, ◌++◌, refl, ap, sym, ◌∙◌, subst, arith, append_assoc, length-append, inl, inr}
use Rattle.std.specs.Prelude.{◌⊎◌, Bool, true, false, length, IsTrue, IsSome, Option, None, Some, codes}
use Rattle.std.specs.Option.{option_map}
use Rattle.std.proofs.lemmas.Grind.{common_steps}
use Rattle.std.proofs.lemmas.List.{append-nil}
use Rattle.std.proofs.lemmas.Bool.{false≢true}
use Rattle.cstn_io.specs.Causes.{Rose}
use Rattle.cstn_io.specs.Contents.{after_bytes, IsAtEnd}
use Rattle.cstn_lines.specs.Pieces.{whole_lines, heard_lines, is_past}
use Rattle.cstn_lines.specs.Steps.{LinesState, heard_line, HandsOut, IsOver, HasWrongLine, IsBroken, ReadsOn}
use Rattle.cstn_reply.specs.Texts.{Said, after_text, line}
use Rattle.cstn_reply.specs.Statuses.{status_of}
use Rattle.cstn_reply.specs.Written.{LiveState, view, ReadsLeadOn, IsTaken, IsText, is_output, is_live_fault, is_stopped}
use Rattle.cstn_reply.specs.Sessions.{Turn, more, last, wrong, script, play, answers, session_says, the_turn}
use Rattle.cstn_reply.specs.Reached.{heard, session_heard, session_stops, Progress}
use Rattle.cstn_reply.specs.declared.status.Status.{Status}
use Rattle.cstn_reply.specs.declared.status.Status.TheVariants.{ReadFault, Memory}
use Rattle.cstn_reply.specs.declared.output.Outcome.{Outcome}
use Rattle.cstn_reply.specs.declared.output.Outcome.TheVariants.{Script}
use Rattle.cstn_reply.specs.declared.session.Answer.{Answer}
use Rattle.cstn_reply.proofs.Sessions.{after_both, zero_plus, play_split, answers_split, state_split, answers_more, state_more, play_last, play_wrong, play_past, heard_where}
use Rattle.cstn_reply.proofs.Contents.{given, all_given, given_end}
use Rattle.cstn_lines.proofs.PieceLemmas.{open_whole}
use Rattle.cstn_lines.proofs.StepLemmas.{no_bytes, more_bytes}

-- the answer of a session to a line, by its state
abbrev Turning : Type 0 → Type 0
Turning S = S → List ℕ → Turn S

-- the answer to a line, from what was answered to an equal line
pub turned : {S : Type 0} (turn : Turning S) (state next : S) (shown first text : List ℕ) (a b : Answer) → turn state shown ≡ the_turn a next text → shown ≡ first → a ≡ b → turn state first ≡ the_turn b next text
turned turn state next shown first text a b is same at = ap (turn state) (sym same) ∙ is ∙ ap (λ (x : Answer). the_turn x next text) at

-- a line may want memory, as an equal line does
pub asked : (kind : List ℕ → Bool) (shown first : List ℕ) → IsTrue (kind shown) → shown ≡ first → kind first ≡ true
asked kind shown first is same = sym (ap kind same) ∙ is

-- what is heard with an opening is heard where it is heard without one
opened : {S : Type 0} (turn : Turning S) (opening : List ℕ) (start : S) (taken : List ℕ) (before after : ℕ) → ReadsLeadOn (session_heard turn [] start) taken before after → ReadsLeadOn (session_heard turn opening start) taken before after
opened turn opening start taken before after reads = record {
  first = reads.first;
  last = reads.last;
  parts = reads.parts;
  leads = some_with (heard turn start (whole_lines reads.first)) reads.leads;
  few = reads.few;
}
  where
    some_with : (o : Option (List ℕ)) → IsSome (option_map (λ (said : List ℕ). [] ++ said) o) → IsSome (option_map (λ (said : List ℕ). opening ++ said) o)
    some_with None is = is
    some_with (Some said) is = refl

-- the progress of a session at its start
pub starts : {S : Type 0} (ends : Bool) (turn : Turning S) (start : S) (source : LiveState) (lines : LinesState) → lines.kept ≡ [] → lines.count ≡ 0 → Progress ends turn start source source lines start [] []
starts ends turn start source lines kept count = record {
  before = [];
  read = no_bytes source.left;
  lines_are = λ rest e. rw kept refl;
  whole_are = λ rest e. rw kept refl;
  counts = count;
  leads = refl;
  answered = refl;
  reads = record { first = []; last = []; parts = refl; leads = refl; few = omega arith };
  few = λ going. omega arith;
}

module _ {S : Type 0} (ends : Bool) (turn : Turning S) (start : S) (source now : LiveState) (lines : LinesState) (state : S) (taken said : List ℕ) (so_far : Progress ends turn start source now lines state taken said) where
  -- the number of lines that were answered
  count_is : 0 + length so_far.before ≡ lines.count
  count_is = zero_plus (length so_far.before) ∙ sym so_far.counts

  -- what a session says of the lines that were answered and of those to come
  play_on : (ending : S → Said) (later : List (List ℕ)) → play turn ending start 0 (so_far.before ++ later) ≡ after_text said (play turn ending state lines.count later)
  play_on ending later =
      play_split turn ending start state 0 so_far.before later so_far.leads
      ∙ ap (λ (xs : List ℕ). after_text xs (play turn ending state (0 + length so_far.before) later)) (sym so_far.answered)
      ∙ ap (λ (n : ℕ). after_text said (play turn ending state n later)) count_is

  -- and what was said is all that is heard so far
  heard_so_far : heard turn start so_far.before ≡ Some said
  heard_so_far = heard_where turn start state so_far.before so_far.leads ∙ ap (λ (xs : List ℕ). Some xs) (sym so_far.answered)

  -- no more was taken than by reads that go on
  pub taken_so_far : (opening : List ℕ) → IsTaken (session_heard turn opening start) source now
  taken_so_far opening = inr (taken, so_far.read, opened turn opening start taken source.reads now.reads so_far.reads)

-- what a session says of all lines, from the bytes kept on
pub played : {S : Type 0} (ends : Bool) (turn : Turning S) (ending : S → Said) (start : S) (source now : LiveState) (lines : LinesState) (state : S) (taken said : List ℕ) → Progress ends turn start source now lines state taken said → (rest : List ℕ) → (lines.ended ≡ true → rest ≡ []) → play turn ending start 0 (heard_lines ends (taken ++ rest)) ≡ after_text said (play turn ending state lines.count (heard_lines ends (lines.kept ++ rest)))
played ends turn ending start source now lines state taken said so_far rest end =
    ap (play turn ending start 0) (so_far.lines_are rest end) ∙ play_on ends turn start source now lines state taken said so_far ending (heard_lines ends (lines.kept ++ rest))

-- a session of this progress takes these bytes in a step through its lines
pub record Stepped {S : Type 0} (ends : Bool) (turn : Turning S) (start : S) (source mid now : LiveState) (lines after : LinesState) (state : S) (taken said bytes : List ℕ) : Type 0 where
  pub so_far : Progress ends turn start source mid lines state taken said
  pub reads : mid.left ≡ after_bytes bytes now.left
  pub idle : lines.ended ≡ true → (bytes ≡ []) × (now.reads ≡ mid.reads)
  pub goes : (now.reads ≡ mid.reads) ⊎ ReadsOn lines.kept lines.count bytes mid.reads now.reads
  pub stays : lines.ended ≡ true → after.ended ≡ true
  pub at_end : after.ended ≡ true → IsAtEnd now.left

was_going : (a b : Bool) → (a ≡ true → b ≡ true) → b ≡ false → a ≡ false
was_going true b stays going = absurd (let e : b ≡ true = stays refl in cc)
was_going false b stays going = refl

-- a line that had its LF is heard as it is
heard_whole : (ends : Bool) (after : LinesState) → after.whole ≡ true → heard_line ends after ≡ after.line
heard_whole false after had = refl
heard_whole true after had = rw had refl

longer : (n : ℕ) (before : List (List ℕ)) (line : List ℕ) → n ≡ length before → n + 1 ≡ length (before ++ line ∷ [])
longer n before line is = rw is grind (arith, common_steps)

-- a step takes the same bytes in all that it tells, and by how many reads it took them
stepping : {Src : Type 0} (left : Src → Option (List ℕ)) (reads : Src → ℕ) (old new : Src) (lines : LinesState) (Found : List ℕ → Type 0) → ((bytes : List ℕ) × (left old ≡ after_bytes bytes (left new)) × (lines.ended ≡ true → bytes ≡ []) × Found bytes) → (lines.ended ≡ true → new ≡ old) →
    ((new ≡ old) ⊎ ((bytes : List ℕ) × (left old ≡ after_bytes bytes (left new)) × ReadsOn lines.kept lines.count bytes (reads old) (reads new) × Found bytes)) →
    (bytes : List ℕ) × (left old ≡ after_bytes bytes (left new)) × (lines.ended ≡ true → (bytes ≡ []) × (reads new ≡ reads old)) × ((reads new ≡ reads old) ⊎ ReadsOn lines.kept lines.count bytes (reads old) (reads new)) × Found bytes
stepping {Src} left reads old new lines Found steps idle goes = by_end lines.ended refl goes
  where
    Goal : Type 0
    Goal = (bytes : List ℕ) × (left old ≡ after_bytes bytes (left new)) × (lines.ended ≡ true → (bytes ≡ []) × (reads new ≡ reads old)) × ((reads new ≡ reads old) ⊎ ReadsOn lines.kept lines.count bytes (reads old) (reads new)) × Found bytes

    still : new ≡ old → Goal
    still same = (steps.0, steps.1, (λ e. (steps.2 e, ap reads same)), inl (ap reads same), steps.3)

    by_end : (b : Bool) → lines.ended ≡ b → ((new ≡ old) ⊎ ((bytes : List ℕ) × (left old ≡ after_bytes bytes (left new)) × ReadsOn lines.kept lines.count bytes (reads old) (reads new) × Found bytes)) → Goal
    by_end true is moved = still (idle is)
    by_end false is (inl same) = still same
    by_end false is (inr read) = (read.0, read.1, (λ e. absurd (false≢true (sym is ∙ e))), inr read.2, read.3)

-- the step of a session through its lines, with what it found
pub steps_on : {S Src : Type 0} (ends : Bool) (turn : Turning S) (start : S) (source : LiveState) (left : Src → Option (List ℕ)) (faults reads : Src → ℕ) (old new : Src) (lines after : LinesState) (state : S) (taken said : List ℕ) (Found : List ℕ → Type 0) → Progress ends turn start source (view left faults reads old) lines state taken said →
    ((bytes : List ℕ) × (left old ≡ after_bytes bytes (left new)) × (lines.ended ≡ true → bytes ≡ []) × Found bytes) → (lines.ended ≡ true → new ≡ old) →
    ((new ≡ old) ⊎ ((bytes : List ℕ) × (left old ≡ after_bytes bytes (left new)) × ReadsOn lines.kept lines.count bytes (reads old) (reads new) × Found bytes)) → (lines.ended ≡ true → after.ended ≡ true) → (after.ended ≡ true → IsAtEnd (left new)) →
    (bytes : List ℕ) × Stepped ends turn start source (view left faults reads old) (view left faults reads new) lines after state taken said bytes × Found bytes
steps_on ends turn start source left faults reads old new lines after state taken said Found so_far steps idle goes stays at_end =
    let step = stepping left reads old new lines Found steps idle goes in
    (step.0, record { so_far = so_far; reads = step.1; idle = step.2; goes = step.3; stays = stays; at_end = at_end }, step.4)

module _ {S : Type 0} (ends : Bool) (turn : Turning S) (start : S) (source mid now : LiveState) (lines after : LinesState) (state : S) (taken said bytes : List ℕ) (stepped : Stepped ends turn start source mid now lines after state taken said bytes) where
  -- the bytes that this step took on as lines
  lines_on : (rest : List ℕ) → (after.ended ≡ true → rest ≡ []) → heard_lines ends ((taken ++ bytes) ++ rest) ≡ stepped.so_far.before ++ heard_lines ends ((lines.kept ++ bytes) ++ rest)
  lines_on rest end =
      let empty : lines.ended ≡ true → bytes ++ rest ≡ [] = λ h. ap (λ m. m ++ rest) (stepped.idle h).0 ∙ end (stepped.stays h) in
      rw (append_assoc taken bytes rest, append_assoc lines.kept bytes rest) (stepped.so_far.lines_are (bytes ++ rest) empty)

  whole_on : (rest : List ℕ) → after.ended ≡ false → whole_lines ((taken ++ bytes) ++ rest) ≡ stepped.so_far.before ++ whole_lines ((lines.kept ++ bytes) ++ rest)
  whole_on rest going =
      rw (append_assoc taken bytes rest, append_assoc lines.kept bytes rest) (stepped.so_far.whole_are (bytes ++ rest) (was_going lines.ended after.ended stepped.stays going))

  -- what a session says of all lines, from the bytes that this step took on
  goes_on : (ending : S → Said) (rest : List ℕ) → (after.ended ≡ true → rest ≡ []) → play turn ending start 0 (heard_lines ends ((taken ++ bytes) ++ rest)) ≡ after_text said (play turn ending state lines.count (heard_lines ends ((lines.kept ++ bytes) ++ rest)))
  goes_on ending rest end = ap (play turn ending start 0) (lines_on rest end) ∙ play_on ends turn start source mid lines state taken said stepped.so_far ending (heard_lines ends ((lines.kept ++ bytes) ++ rest))

  -- the bytes that this step took were taken of all that was there
  all_read : source.left ≡ after_bytes (taken ++ bytes) now.left
  all_read = more_bytes source.left mid.left now.left taken bytes stepped.so_far.read stepped.reads

  -- where the step reads, the lines before it are all that its reads but the last one brought
  reads_more : lines.ended ≡ false → ReadsOn lines.kept lines.count bytes mid.reads now.reads → ReadsLeadOn (session_heard turn [] start) (taken ++ bytes) source.reads now.reads
  reads_more going read = record {
    first = taken ++ read.first;
    last = read.last;
    parts = ap (λ (xs : List ℕ). taken ++ xs) read.parts ∙ sym (append_assoc taken read.first read.last);
    leads = subst (λ (ls : List (List ℕ)). IsSome (option_map (λ (xs : List ℕ). [] ++ xs) (heard turn start ls))) (sym before_is)
        (subst (λ (o : Option (List ℕ)). IsSome (option_map (λ (xs : List ℕ). [] ++ xs) o)) (sym (heard_so_far ends turn start source mid lines state taken said stepped.so_far)) refl);
    few = omega (arith, read.few, stepped.so_far.few going, length-append taken read.first);
  }
    where
      before_is : whole_lines (taken ++ read.first) ≡ stepped.so_far.before
      before_is = stepped.so_far.whole_are read.first going ∙ ap (λ (ls : List (List ℕ)). stepped.so_far.before ++ ls) (open_whole (lines.kept ++ read.first) read.open_line) ∙ append-nil stepped.so_far.before

  -- and where it doesn't, its reads are those before
  reads_same : now.reads ≡ mid.reads → ReadsLeadOn (session_heard turn [] start) (taken ++ bytes) source.reads now.reads
  reads_same same = record {
    first = stepped.so_far.reads.first;
    last = stepped.so_far.reads.last ++ bytes;
    parts = ap (λ (xs : List ℕ). xs ++ bytes) stepped.so_far.reads.parts ∙ append_assoc stepped.so_far.reads.first stepped.so_far.reads.last bytes;
    leads = stepped.so_far.reads.leads;
    few = omega (arith, same, stepped.so_far.reads.few);
  }

  reads_on : ReadsLeadOn (session_heard turn [] start) (taken ++ bytes) source.reads now.reads
  reads_on = by_end lines.ended refl stepped.goes
    where
      by_end : (b : Bool) → lines.ended ≡ b → ((now.reads ≡ mid.reads) ⊎ ReadsOn lines.kept lines.count bytes mid.reads now.reads) → ReadsLeadOn (session_heard turn [] start) (taken ++ bytes) source.reads now.reads
      by_end true is goes = reads_same (stepped.idle is).1
      by_end false is (inl same) = reads_same same
      by_end false is (inr read) = reads_more is read

  -- no more was taken than by reads that go on
  taken_on : (opening : List ℕ) → IsTaken (session_heard turn opening start) source now
  taken_on opening = inr (taken ++ bytes, all_read, opened turn opening start (taken ++ bytes) source.reads now.reads reads_on)

  module _ (number : ℕ) (out : HandsOut (lines.kept ++ bytes) lines.count after number) where
    -- the line that was handed out is neither too long nor too late
    short_line : is_past (lines.count + 1) (heard_line ends after) ≡ false
    short_line = subst (λ (n : ℕ). is_past n (heard_line ends after) ≡ false) out.is_number (out.short ends)

    -- where the source goes on, the last read brought the end of the line
    few_on : after.ended ≡ false → now.reads ≤ source.reads + length (taken ++ bytes)
    few_on going = by_reads stepped.goes
      where
        was : lines.ended ≡ false
        was = was_going lines.ended after.ended stepped.stays going

        some : (read : ReadsOn lines.kept lines.count bytes mid.reads now.reads) (tail : List ℕ) → read.last ≡ tail → 1 ≤ length tail
        some read [] is =
            let none : whole_lines (lines.kept ++ bytes) ≡ [] =
            ap (λ (xs : List ℕ). whole_lines (lines.kept ++ xs)) (read.parts ∙ ap (λ (xs : List ℕ). read.first ++ xs) is ∙ append-nil read.first) ∙ open_whole (lines.kept ++ read.first) read.open_line in
            let one : whole_lines (lines.kept ++ bytes) ≡ after.line ∷ whole_lines (after.kept ++ []) = ap whole_lines (sym (append-nil (lines.kept ++ bytes))) ∙ out.whole [] going in
            absurd (let f : ⊥ = cc in f)
        some read (b ∷ tail) is = omega arith

        by_reads : ((now.reads ≡ mid.reads) ⊎ ReadsOn lines.kept lines.count bytes mid.reads now.reads) → now.reads ≤ source.reads + length (taken ++ bytes)
        by_reads (inl same) = omega (arith, same, stepped.so_far.few was, length-append taken bytes)
        by_reads (inr read) = omega (arith, read.few, some read read.last refl, stepped.so_far.few was, length-append taken bytes, ap length read.parts, length-append read.first read.last)

    -- the progress after one more line and its answer
    pub one_more : (text : List ℕ) (next : S) → turn state (heard_line ends after) ≡ more text next → Progress ends turn start source now after next (taken ++ bytes) (said ++ text)
    one_more text next is =
        let short : is_past ((0 + length stepped.so_far.before) + 1) (heard_line ends after) ≡ false = subst (λ (n : ℕ). is_past (n + 1) (heard_line ends after) ≡ false) (sym (count_is ends turn start source mid lines state taken said stepped.so_far)) short_line in
        record {
          before = stepped.so_far.before ++ heard_line ends after ∷ [];
          read = all_read;
          lines_are = λ rest end.
              lines_on rest end ∙ ap (λ (ls : List (List ℕ)). stepped.so_far.before ++ ls) (out.lines ends rest end)
              ∙ sym (append_assoc stepped.so_far.before (heard_line ends after ∷ []) (heard_lines ends (after.kept ++ rest)));
          whole_are = λ rest going.
              whole_on rest going
              ∙ ap (λ (ls : List (List ℕ)). stepped.so_far.before ++ ls) (out.whole rest going ∙ ap (λ (line : List ℕ). line ∷ whole_lines (after.kept ++ rest)) (sym (heard_whole ends after (out.going going))))
              ∙ sym (append_assoc stepped.so_far.before (heard_line ends after ∷ []) (whole_lines (after.kept ++ rest)));
          counts = out.counts ∙ longer lines.count stepped.so_far.before (heard_line ends after) stepped.so_far.counts;
          leads = state_split turn start state 0 stepped.so_far.before (heard_line ends after ∷ []) stepped.so_far.leads ∙ state_more turn state (0 + length stepped.so_far.before) (heard_line ends after) [] short text next is;
          answered = sym
              (answers_split turn start state 0 stepped.so_far.before (heard_line ends after ∷ []) stepped.so_far.leads
              ∙ ap (λ (xs : List ℕ). answers turn start 0 stepped.so_far.before ++ xs) (answers_more turn state (0 + length stepped.so_far.before) (heard_line ends after) [] short text next is ∙ append-nil text)
              ∙ ap (λ (xs : List ℕ). xs ++ text) (sym stepped.so_far.answered));
          reads = reads_on;
          few = few_on;
        }

    -- what was said before this line, to which the session came, where its answer may want memory
    pub stops_here : (kind : List ℕ → Bool) (opening : List ℕ) → kind (heard_line ends after) ≡ true → session_stops ends turn kind opening start source.left (opening ++ said)
    stops_here kind opening is = (
      (taken ++ bytes) ++ given now.left,
      all_given source.left now.left (taken ++ bytes) all_read,
      record {
        before = stepped.so_far.before;
        next = heard_line ends after;
        later = heard_lines ends (after.kept ++ given now.left);
        said = said;
        lines_are = lines_on (given now.left) (λ h. given_end now.left (stepped.at_end h)) ∙ ap (λ (ls : List (List ℕ)). stepped.so_far.before ++ ls) (out.lines ends (given now.left) (λ h. given_end now.left (stepped.at_end h)));
        answered = heard_so_far ends turn start source mid lines state taken said stepped.so_far;
        within = subst (λ (n : ℕ). is_past (n + 1) (heard_line ends after) ≡ false) stepped.so_far.counts short_line;
        is_kind = is;
      },
      refl,
    )

scripts : (n m : ℕ) (text : List ℕ) → n ≡ m → text ≡ (script m).text → script n ≡ record { outcome = Script; text = text }
scripts n m text same is = rw (same, is) refl

-- what is written for a session
abbrev Writes : {S : Type 0} → Bool → Turning S → (S → Said) → (List ℕ → Bool) → List ℕ → S → LiveState → LiveState → Status → List ℕ → Type 0
Writes ends turn ending kind opening start before now = IsText (session_says ends turn ending opening start) (session_heard turn opening start) (session_stops ends turn kind opening start) before now

module _ {S : Type 0} (ends : Bool) (turn : Turning S) (ending : S → Said) (kind : List ℕ → Bool) (opening : List ℕ) (start : S) (before mid now : LiveState) (lines after : LinesState) (state : S) (taken said bytes : List ℕ) (stepped : Stepped ends turn start before mid now lines after state taken said bytes) where
  -- what was said is followed by a last text in the whole output, where that text is what is said of the rest of the bytes
  rest_ends : (text : List ℕ) (outcome : Outcome) (status : Status) → ((after.ended ≡ true → given now.left ≡ []) → play turn ending state lines.count (heard_lines ends ((lines.kept ++ bytes) ++ given now.left)) ≡ record { outcome = outcome; text = text }) → status ≡ status_of outcome → Writes ends turn ending kind opening start before now status ((opening ++ said) ++ text)
  rest_ends text outcome status last_is at =
      let end : after.ended ≡ true → given now.left ≡ [] = λ h. given_end now.left (stepped.at_end h) in
      let live : List ℕ = (taken ++ bytes) ++ given now.left in
      let whole : Said = record { outcome = outcome; text = (opening ++ said) ++ text } in
      let is : play turn ending start 0 (heard_lines ends live) ≡ after_text said (record { outcome = outcome; text = text }) =
      goes_on ends turn start before mid now lines after state taken said bytes stepped ending (given now.left) end ∙ ap (after_text said) (last_is end) in
      let output : whole ≡ after_text opening (play turn ending start 0 (heard_lines ends live)) = sym (ap (after_text opening) is ∙ after_both opening said (record { outcome = outcome; text = text })) in
      subst (λ (s : Status). Writes ends turn ending kind opening start before now s ((opening ++ said) ++ text)) (sym at)
      (is_output live whole (all_given before.left now.left (taken ++ bytes) (all_read ends turn start before mid now lines after state taken said bytes stepped)) output
      (taken_on ends turn start before mid now lines after state taken said bytes stepped opening))

  -- the whole output, where the answer to a line is the last one
  pub last_line : (text : List ℕ) (number : ℕ) (outcome : Outcome) (status : Status) → HandsOut (lines.kept ++ bytes) lines.count after number → turn state (heard_line ends after) ≡ last (record { outcome = outcome; text = text }) → status ≡ status_of outcome → Writes ends turn ending kind opening start before now status ((opening ++ said) ++ text)
  last_line text number outcome status out is at =
      let short : is_past (lines.count + 1) (heard_line ends after) ≡ false = short_line ends turn start before mid now lines after state taken said bytes stepped number out in
      rest_ends text outcome status
      (λ end. ap (λ (ls : List (List ℕ)). play turn ending state lines.count ls) (out.lines ends (given now.left) end)
      ∙ play_last turn state lines.count (heard_line ends after) (heard_lines ends (after.kept ++ given now.left)) short ending (record { outcome = outcome; text = text }) is)
      at

  -- the whole output, where a line is of no grammar
  pub wrong_line : (text : List ℕ) (number : ℕ) (status : Status) → HandsOut (lines.kept ++ bytes) lines.count after number → turn state (heard_line ends after) ≡ wrong → text ≡ (script number).text → status ≡ status_of Script → Writes ends turn ending kind opening start before now status ((opening ++ said) ++ text)
  wrong_line text number status out is text_is at =
      let short : is_past (lines.count + 1) (heard_line ends after) ≡ false = short_line ends turn start before mid now lines after state taken said bytes stepped number out in
      rest_ends text Script status
      (λ end. ap (λ (ls : List (List ℕ)). play turn ending state lines.count ls) (out.lines ends (given now.left) end)
      ∙ play_wrong turn state lines.count (heard_line ends after) (heard_lines ends (after.kept ++ given now.left)) short ending is
      ∙ scripts (lines.count + 1) number text (sym out.is_number) text_is)
      at

  -- the whole output, where a line is too long or too late
  pub past_line : (text : List ℕ) (number : ℕ) (status : Status) → HasWrongLine (lines.kept ++ bytes) lines.count after number → text ≡ (script number).text → status ≡ status_of Script → Writes ends turn ending kind opening start before now status ((opening ++ said) ++ text)
  past_line text number status out text_is at =
      let found = out.next ends (given now.left) in
      let past : is_past (lines.count + 1) found.0 ≡ true = subst (λ (n : ℕ). is_past n found.0 ≡ true) out.is_number found.3 in
      rest_ends text Script status
      (λ end. ap (λ (ls : List (List ℕ)). play turn ending state lines.count ls) found.2
      ∙ play_past turn state lines.count found.0 found.1 past ending
      ∙ scripts (lines.count + 1) number text (sym out.is_number) text_is)
      at

  -- the whole output, where no line is left
  pub no_line : (text : List ℕ) (outcome : Outcome) (status : Status) → IsOver (lines.kept ++ bytes) lines.count after → ending state ≡ record { outcome = outcome; text = text } → status ≡ status_of outcome → Writes ends turn ending kind opening start before now status ((opening ++ said) ++ text)
  no_line text outcome status out is at =
      rest_ends text outcome status
      (λ end. ap (λ (bs : List ℕ). play turn ending state lines.count (heard_lines ends bs)) (ap (λ (xs : List ℕ). (lines.kept ++ bytes) ++ xs) (end out.ended) ∙ append-nil (lines.kept ++ bytes))
      ∙ ap (play turn ending state lines.count) (out.lines ends) ∙ is)
      at

  -- what is written where the live source fails
  pub fault_line : (text : List ℕ) (old : ℕ) (status : Status) → IsBroken (lines.kept ++ bytes) lines.count after → before.faults ≤ old → Rose old now.faults → text ≡ line (codes "read fault") → status ≡ ReadFault → Writes ends turn ending kind opening start before now status ((opening ++ said) ++ text)
  fault_line text old status out earlier rose text_is at =
      let before_is : whole_lines (taken ++ bytes) ≡ stepped.so_far.before =
      ap whole_lines (sym (append-nil (taken ++ bytes)))
      ∙ whole_on ends turn start before mid now lines after state taken said bytes stepped [] out.ended
      ∙ ap (λ (bs : List ℕ). stepped.so_far.before ++ whole_lines bs) (append-nil (lines.kept ++ bytes))
      ∙ ap (λ (ls : List (List ℕ)). stepped.so_far.before ++ ls) out.none
      ∙ append-nil stepped.so_far.before in
      let heard_is : session_heard turn opening start (taken ++ bytes) ≡ Some (opening ++ said) =
      ap (λ (ls : List (List ℕ)). option_map (λ (xs : List ℕ). opening ++ xs) (heard turn start ls)) before_is
      ∙ ap (option_map (λ (xs : List ℕ). opening ++ xs)) (heard_so_far ends turn start before mid lines state taken said stepped.so_far) in
      subst (λ (s : Status). Writes ends turn ending kind opening start before now s ((opening ++ said) ++ text)) (sym at)
      (subst (λ (x : List ℕ). Writes ends turn ending kind opening start before now ReadFault ((opening ++ said) ++ x)) (sym text_is)
      (is_live_fault (taken ++ bytes) (opening ++ said) (all_read ends turn start before mid now lines after state taken said bytes stepped) (later before.faults old now.faults earlier rose) heard_is
      (opened turn opening start (taken ++ bytes) before.reads now.reads (reads_on ends turn start before mid now lines after state taken said bytes stepped))))
    where
      later : (a b c : ℕ) → a ≤ b → Rose b c → Rose a c
      later a b c h r = omega (arith, r)

  -- what is written where memory for an answer is refused
  pub memory_line : (text : List ℕ) (number : ℕ) (status : Status) → HandsOut (lines.kept ++ bytes) lines.count after number → kind (heard_line ends after) ≡ true → text ≡ line (codes "memory") → status ≡ Memory → Writes ends turn ending kind opening start before now status ((opening ++ said) ++ text)
  memory_line text number status out wants text_is at =
      subst (λ (s : Status). Writes ends turn ending kind opening start before now s ((opening ++ said) ++ text)) (sym at)
      (subst (λ (x : List ℕ). Writes ends turn ending kind opening start before now Memory ((opening ++ said) ++ x)) (sym text_is)
      (is_stopped (opening ++ said) (stops_here ends turn start before mid now lines after state taken said bytes stepped number out kind opening wants)
      (taken_on ends turn start before mid now lines after state taken said bytes stepped opening)))
