-- Why a plan is refused.
use Rattle.std.specs.Prelude.{ℕ, List}

-- Lines are counted from 1. The text is too long; the first `word` words of a line are the beginning of no line, or the line isn't
-- of words where that is 0; a number of a line is out of range; a text stands twice, in a line or in the lines so far; a name is
-- none of a step or of a task; a word stands for no letter, or nothing observes it; there is no deadline.
pub data PlanRefusal : Type 0 where
  too_long : PlanRefusal
  wrong_word : (line word : ℕ) → PlanRefusal
  out_of_range : (line : ℕ) → PlanRefusal
  stands_twice : (line : ℕ) → (text : List ℕ) → PlanRefusal
  no_name : (line : ℕ) → (name : List ℕ) → PlanRefusal
  no_letter : (line : ℕ) → (word : List ℕ) → PlanRefusal
  no_deadline : PlanRefusal
