-- What the lines declare: the deadline and the clock, the time-points with what they observe, and the words for letters.
use Rattle.std.specs.Prelude.{ℕ, ◌+◌, Bool, true, false, ◌&&◌, not, ◌==◌, nat_le, List, [], ◌∷◌, ◌++◌, length, Option, Some, None, is_some, is_none, option_map, option_and_then, Result, Ok, if◌then◌else◌, codes, bytes_eq, ℤ, nat_abs}
use Rattle.std.specs.List.{list_any, find}
use Rattle.cstn_label.specs.Letters.{prop_of}
use Rattle.cstn_text.specs.Names.{number_of}
use Rattle.cstn_graphml.specs.DrawnGraph.{Observation, origin_name}
use Rattle.cstn_sentences.specs.Limits.{most_task}
use Rattle.cstn_sentences.specs.Results.{◌>>?◌, holds_or}
use Rattle.cstn_sentences.specs.Refusals.{PlanRefusal, stands_twice, no_name}
use Rattle.cstn_sentences.specs.declared.lines.Span.{Span}
use Rattle.cstn_sentences.specs.declared.lines.Literal.{Literal}
use Rattle.cstn_sentences.specs.declared.lines.Observed.{Observed}
use Rattle.cstn_sentences.specs.declared.declarations.Meant.{Meant}
use Rattle.cstn_sentences.specs.Lines.{PlanStep, PlanLine, nothing, deadline, start, step, task, rule}
use Rattle.cstn_sentences.specs.Judged.{line_of_text}

-- `origin` is None until a step `Z` was declared. `names` begins with the origin; `begins_task` says of each time-point whether it is
-- the start of a task, whose end then has the next number; `observes` has what the time-points after the origin observe.
pub record Declared : Type 0 where
  pub deadline : Option Span
  pub start : Option ℤ
  pub words : List Meant
  pub origin : Option (Option Observation)
  pub names : List (List ℕ)
  pub begins_task : List Bool
  pub observes : List (Option Observation)

abbrev pub nothing_declared : Declared
nothing_declared = record {
  deadline = None;
  start = None;
  words = [];
  origin = None;
  names = origin_name ∷ [];
  begins_task = false ∷ [];
  observes = [];
}

abbrev pub is_origin : List ℕ → Bool
is_origin name = bytes_eq name origin_name

-- a step or a task of the name was declared, or a task whose end has it
abbrev pub is_declared : List ℕ → Declared → Bool
is_declared name d = if is_origin name then is_some d.origin else is_some (number_of d.names name)

-- the name of the end of a task
abbrev pub end_name : List ℕ → List ℕ
end_name name = name ++ codes ".end"

-- the observation of a proposition with its reaction
abbrev pub step_observation : Option Observed → Option Observation
step_observation observed = option_and_then (λ o. option_map (λ p. record { prop = p; reaction = nat_abs o.reaction.ticks }) (prop_of o.letter)) observed

-- ---- words for letters

-- the letter that a word stands for
abbrev pub letter_for : List ℕ → List Meant → Option ℕ
letter_for word words = option_map (λ m. m.letter) (find (λ m. bytes_eq m.word word) words)

-- some word stands for the letter
abbrev pub has_word : ℕ → List Meant → Bool
has_word letter words = list_any (λ m. m.letter == letter) words

-- the words with this one for the letter: it stands for no other letter, and the letter has no other word
abbrev pub with_word_for : ℕ → List ℕ → ℕ → List Meant → Option ℕ → Result (List Meant) PlanRefusal
with_word_for n word letter words (Some other) = holds_or (other == letter) (stands_twice n word) >>? λ same. Ok words
with_word_for n word letter words None =
    holds_or (not (has_word letter words)) (stands_twice n (letter ∷ [])) >>? λ free. Ok (words ++ (record { word = word; letter = letter } ∷ []))

abbrev pub with_word : ℕ → Option (List ℕ) → ℕ → List Meant → Result (List Meant) PlanRefusal
with_word n None letter words = Ok words
with_word n (Some word) letter words = with_word_for n word letter words (letter_for word words)

abbrev pub with_observed : ℕ → Option Observed → List Meant → Result (List Meant) PlanRefusal
with_observed n None words = Ok words
with_observed n (Some o) words = with_word n o.word o.letter words

-- no word stands twice in the literals, of which some were seen
abbrev pub are_new_literals : ℕ → List Literal → List Literal → Result (Unit {0}) PlanRefusal
are_new_literals n seen [] = Ok tt
are_new_literals n seen (l ∷ later) =
    holds_or (not (list_any (λ s. bytes_eq s.prop l.prop) seen)) (stands_twice n l.prop) >>? λ new. are_new_literals n (seen ++ (l ∷ [])) later

-- ---- steps and tasks

-- a time-point more
abbrev pub with_point : List ℕ → Bool → Option Observation → Declared → Declared
with_point name begins observed d =
    record d { names = d.names ++ (name ∷ []); begins_task = d.begins_task ++ (begins ∷ []); observes = d.observes ++ (observed ∷ []) }

abbrev pub with_step : List ℕ → Option Observation → Declared → Declared
with_step name observed d = if is_origin name then record d { origin = Some observed } else with_point name false observed d

-- the words of a step, whose label has no word twice
abbrev pub words_with : ℕ → PlanStep → List Meant → Result (List Meant) PlanRefusal
words_with n s words = with_observed n s.observed words >>? λ more. are_new_literals n [] s.label >>? λ new. Ok more

abbrev pub declare_step : ℕ → PlanStep → Declared → Result Declared PlanRefusal
declare_step n s d =
    holds_or (not (is_declared s.name d)) (stands_twice n s.name) >>? λ new.
    words_with n s d.words >>? λ words.
    Ok (with_step s.name (step_observation s.observed) (record d { words = words }))

-- neither the task nor its end was declared, it isn't the origin, and its name has at most 60 bytes
abbrev pub is_task : ℕ → List ℕ → Declared → Result (Unit {0}) PlanRefusal
is_task n name d =
    holds_or (not (is_declared name d)) (stands_twice n name) >>? λ new.
    holds_or (not (is_declared (end_name name) d)) (stands_twice n (end_name name)) >>? λ ends.
    holds_or (not (is_origin name) && nat_le (length name) most_task) (no_name n name)

abbrev pub declare_task : ℕ → PlanStep → Declared → Result Declared PlanRefusal
declare_task n s d =
    is_task n s.name d >>? λ named.
    words_with n s d.words >>? λ words.
    Ok (with_point (end_name s.name) false (step_observation s.observed) (with_point s.name true None (record d { words = words })))

-- ---- lines

abbrev pub declare : ℕ → Declared → PlanLine → Result Declared PlanRefusal
declare n d nothing = Ok d
declare n d (deadline t) = holds_or (is_none d.deadline) (stands_twice n (codes "deadline")) >>? λ first. Ok (record d { deadline = Some t })
declare n d (start t) = holds_or (is_none d.start) (stands_twice n (codes "start")) >>? λ first. Ok (record d { start = Some t.ticks })
declare n d (step s) = declare_step n s d
declare n d (task s r) = declare_task n s d
declare n d (rule r) = are_new_literals n [] r.label >>? λ new. Ok d

-- what is declared once the line of a text was read, which is number n
abbrev pub declared_line : ℕ → Declared → List ℕ → Result Declared PlanRefusal
declared_line n d text = line_of_text n text >>? declare n d

-- what the lines from number n on declare, after those before them
unfoldable pub declared_after : ℕ → Declared → List (List ℕ) → Result Declared PlanRefusal
declared_after n d [] = Ok d
declared_after n d (line ∷ lines) = declared_line n d line >>? λ more. declared_after (n + 1) more lines
