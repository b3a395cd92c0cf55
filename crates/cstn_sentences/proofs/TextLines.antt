-- The sentences of a network are cut into its lines, and each line is read as what it says.
use Rattle.std.proofs.Common.{◌≡◌, ◌≢◌, ℕ, zero, suc, ◌<◌, ◌≤◌, Bool, true, false, List, [], ◌∷◌, ◌++◌, length, map, refl, ap, sym, ◌∙◌, arith, append_assoc}
use Rattle.std.specs.Prelude.{All, flat_map, slice_index_or, if◌then◌else◌, pos}
use Rattle.std.proofs.lemmas.Grind.{flat_map-append}
use Rattle.std.proofs.lemmas.List.Elements.{All-nil, All-cons, All-append, All-head, All-tail, All-get_or}
use Rattle.cstn_net.specs.Limits.{most_deadline}
use Rattle.cstn_net.specs.Networks.{Network, Constraint, IsConstraint, IsValue, IsWellFormed, count}
use Rattle.cstn_lift.specs.Labelled.{Labelled}
use Rattle.cstn_text.specs.Names.{IsName, AreNames}
use Rattle.cstn_text.specs.Parts.{SplitText, parts_at}
use Rattle.cstn_text.proofs.CutLemmas.{cut_back}
use Rattle.cstn_text.proofs.SplitLemmas.{parts_cut}
use Rattle.cstn_text.proofs.ReadingLemmas.{IsFree}
use Rattle.cstn_sentences.specs.Judged.{is_sized}
use Rattle.cstn_sentences.specs.Lines.{PlanStep, Rule, step, rule}
use Rattle.cstn_sentences.specs.Words.{plan_lines, cut_lines}
use Rattle.cstn_sentences.specs.Grammar.{Words}
use Rattle.cstn_sentences.specs.Printed.{spaced_words, line_text, deadline_words, step_words, rule_words}
use Rattle.cstn_sentences.specs.Sentences.{ticks, has_step, step_of, steps_below, is_pair, is_paired, pair_rule, alone_rule, next_rule, rules_after, step_lines_text, rules_text, sentences}
use Rattle.cstn_sentences.specs.WrittenWords.{IsWrittenWord, line_bytes, IsReadAsLine, network_lines}
use Rattle.cstn_sentences.proofs.WrittenSteps.{point_back, deadline_back}
use Rattle.cstn_sentences.proofs.WrittenForms.{alone_back, pair_back}

-- ---- a text of lines

spaced_lone : (words : Words) → All IsWrittenWord words → IsFree (spaced_words words)
spaced_lone [] all = All-nil (λ b. b ≢ 10)
spaced_lone (word ∷ words) all =
    All-cons (λ b. b ≢ 10) 32 (word ++ spaced_words words) (λ same. absurd (omega (arith, same)))
    (All-append (λ b. b ≢ 10) word (spaced_words words) (All-head IsWrittenWord word words all).lone
    (spaced_lone words (All-tail IsWrittenWord word words all)))

line_lone : (words : Words) → All IsWrittenWord words → IsFree (line_bytes words)
line_lone [] all = All-nil (λ b. b ≢ 10)
line_lone (word ∷ words) all =
    All-append (λ b. b ≢ 10) word (spaced_words words) (All-head IsWrittenWord word words all).lone (spaced_lone words (All-tail IsWrittenWord word words all))

text_of : (words : Words) → line_text words ≡ line_bytes words ++ (10 ∷ [])
text_of [] = refl
text_of (word ∷ words) = refl

line_cut : (line rest : List ℕ) → IsFree line → parts_at 10 ((line ++ (10 ∷ [])) ++ rest) ≡ (line ∷ (parts_at 10 rest).0, (parts_at 10 rest).1)
line_cut line rest free = ap (parts_at 10) (append_assoc line (10 ∷ []) rest) ∙ parts_cut 10 (line ++ (10 ∷ rest)) line rest (cut_back 10 line rest free)

no_text : parts_at 10 [] ≡ ([], [])
unfolding parts_at
no_text = refl

text_cut : (lines : List Words) → All (λ words. All IsWrittenWord words) lines → parts_at 10 (flat_map line_text lines) ≡ (map line_bytes lines, [])
text_cut [] all = no_text
text_cut (words ∷ lines) all =
    ap (λ (t : List ℕ). parts_at 10 (t ++ flat_map line_text lines)) (text_of words)
    ∙ line_cut (line_bytes words) (flat_map line_text lines) (line_lone words (All-head (λ ws. All IsWrittenWord ws) words lines all))
    ∙ ap {B = SplitText} (λ (p : SplitText). (line_bytes words ∷ p.0, p.1)) (text_cut lines (All-tail (λ ws. All IsWrittenWord ws) words lines all))

-- ---- steps

abbrev IsStepRead : PlanStep → Type 0
IsStepRead s = IsReadAsLine (step_words s) (step s)

-- the first n time-points have names
abbrev pub AreNamed : List (List ℕ) → ℕ → Type 0
AreNamed names n = (x : ℕ) → x < n → IsName (slice_index_or names x [])

step_at : (m : Labelled) (names : List (List ℕ)) (x : ℕ) (has : Bool) → IsWellFormed m.base → IsName (slice_index_or names x [])
    → All IsStepRead (if has then step_of m names x ∷ [] else [])
step_at m names x true well named = All-cons IsStepRead (step_of m names x) [] (point_back m names x well named) (All-nil IsStepRead)
step_at m names x false well named = All-nil IsStepRead

steps_are : (m : Labelled) (names : List (List ℕ)) (n : ℕ) → IsWellFormed m.base → AreNamed names n → All IsStepRead (steps_below m names n)
unfolding steps_below
steps_are m names zero well named = All-nil IsStepRead
steps_are m names (suc n) well named =
    All-append IsStepRead (steps_below m names n) (if has_step m.base n then step_of m names n ∷ [] else [])
    (steps_are m names n well (λ x h. named x (omega (arith, h)))) (step_at m names n (has_step m.base n) well (named n (omega arith)))

-- ---- rules

-- a rule is read from its line
abbrev pub IsRuleRead : Rule → Type 0
IsRuleRead r = IsReadAsLine (rule_words r) (rule r)

-- a constraint between time-points with names, with its value in range
pub record IsNamed (names : List (List ℕ)) (c : Constraint) : Type 0 where
  pub from : IsName (slice_index_or names c.from [])
  pub to : IsName (slice_index_or names c.to [])
  pub value : IsValue c.most

next_at : (names : List (List ℕ)) (c d : Constraint) (pair : Bool) → is_pair c d ≡ pair → IsNamed names c → IsNamed names d
    → IsRuleRead (if pair then pair_rule names c d else alone_rule names c)
next_at names c d true e one other = pair_back names c d one.from one.to one.value other.value e
next_at names c d false e one other = alone_back names c one.from one.to one.value

-- the rule of the next constraints is read from its line
pub next_is : (names : List (List ℕ)) (c : Constraint) (cs : List Constraint) → IsNamed names c → All (IsNamed names) cs → IsRuleRead (next_rule names c cs)
next_is names c [] one all = alone_back names c one.from one.to one.value
next_is names c (d ∷ cs) one all = next_at names c d (is_pair c d) refl one (All-head (IsNamed names) d cs all)

rules_are : (names : List (List ℕ)) (skip : ℕ) (cs : List Constraint) → All (IsNamed names) cs → All IsRuleRead (rules_after names skip cs)
unfolding rules_after
rules_are names skip [] all = All-nil IsRuleRead
rules_are names zero (c ∷ cs) all =
    All-cons IsRuleRead (next_rule names c cs) (rules_after names (if is_paired c cs then 1 else 0) cs)
    (next_is names c cs (All-head (IsNamed names) c cs all) (All-tail (IsNamed names) c cs all))
    (rules_are names (if is_paired c cs then 1 else 0) cs (All-tail (IsNamed names) c cs all))
rules_are names (suc skip) (c ∷ cs) all = rules_are names skip cs (All-tail (IsNamed names) c cs all)

pub named_constraints : (net : Network) (names : List (List ℕ)) (cs : List Constraint) → AreNamed names (count net) → All (IsConstraint net) cs → All (λ c. IsValue c.most) cs
    → All (IsNamed names) cs
named_constraints net names [] named ends values = All-nil (IsNamed names)
named_constraints net names (c ∷ cs) named ends values =
    let ok : IsConstraint net c = All-head (IsConstraint net) c cs ends in
    All-cons (IsNamed names) c cs
    (record { from = named c.from ok.from; to = named c.to ok.to; value = All-head (λ b. IsValue b.most) c cs values })
    (named_constraints net names cs named (All-tail (IsConstraint net) c cs ends) (All-tail (λ b. IsValue b.most) c cs values))

-- ---- the whole text

each_text : {X : Type 0} (words : X → Words) (xs : List X) → flat_map line_text (map words xs) ≡ flat_map (λ x. line_text (words x)) xs
each_text words [] = refl
each_text words (x ∷ xs) = ap (λ (t : List ℕ). line_text (words x) ++ t) (each_text words xs)

whole_text : (m : Labelled) (names : List (List ℕ)) → sentences m names ≡ flat_map line_text (network_lines m names)
whole_text m names =
    let first : List ℕ = line_text (deadline_words (ticks (pos m.base.deadline))) in
    let steps : List PlanStep = steps_below m names (count m.base) in
    let rules : List Rule = rules_after names 0 m.base.constraints in
    let later : flat_map line_text (map step_words steps ++ map rule_words rules)
    ≡ step_lines_text m names (count m.base) ++ rules_text names m.base.constraints =
    flat_map-append line_text (map step_words steps) (map rule_words rules)
    ∙ ap (λ (t : List ℕ). t ++ flat_map line_text (map rule_words rules)) (each_text step_words steps)
    ∙ ap (λ (t : List ℕ). step_lines_text m names (count m.base) ++ t) (each_text rule_words rules) in
    append_assoc first (step_lines_text m names (count m.base)) (rules_text names m.base.constraints) ∙ ap (λ (t : List ℕ). first ++ t) (sym later)

written_steps : (ss : List PlanStep) → All IsStepRead ss → All (λ ws. All IsWrittenWord ws) (map step_words ss)
written_steps [] all = All-nil (λ ws. All IsWrittenWord ws)
written_steps (s ∷ ss) all =
    All-cons (λ ws. All IsWrittenWord ws) (step_words s) (map step_words ss) (All-head IsStepRead s ss all).written (written_steps ss (All-tail IsStepRead s ss all))

written_rules : (rs : List Rule) → All IsRuleRead rs → All (λ ws. All IsWrittenWord ws) (map rule_words rs)
written_rules [] all = All-nil (λ ws. All IsWrittenWord ws)
written_rules (r ∷ rs) all =
    All-cons (λ ws. All IsWrittenWord ws) (rule_words r) (map rule_words rs) (All-head IsRuleRead r rs all).written (written_rules rs (All-tail IsRuleRead r rs all))

-- a deadline is sized
pub deadline_sized : (n : ℕ) → n ≤ most_deadline → is_sized (pos n) ≡ true
deadline_sized n h = grind arith

-- each time-point has a name
pub all_named : (m : Labelled) (names : List (List ℕ)) → AreNames names → length names ≡ count m.base → AreNamed names (count m.base)
all_named m names ok each x inside = All-get_or IsName names x [] (omega (arith, inside, each)) ok.each

-- the sentences of a network are cut into its lines; the last one, behind the last LF, is empty
pub sentences_cut : (m : Labelled) (names : List (List ℕ)) → IsWellFormed m.base → AreNames names → length names ≡ count m.base
    → plan_lines (sentences m names) ≡ map line_bytes (network_lines m names) ++ ([] ∷ [])
sentences_cut m names well ok each =
    let named : AreNamed names (count m.base) = all_named m names ok each in
    let first : List (List ℕ) = deadline_words (ticks (pos m.base.deadline)) in
    let steps : List Words = map step_words (steps_below m names (count m.base)) in
    let rules : List Words = map rule_words (rules_after names 0 m.base.constraints) in
    let written : All (λ ws. All IsWrittenWord ws) (network_lines m names) =
    All-cons (λ ws. All IsWrittenWord ws) first (steps ++ rules) (deadline_back m.base.deadline (deadline_sized m.base.deadline well.in_time)).written
    (All-append (λ ws. All IsWrittenWord ws) steps rules (written_steps (steps_below m names (count m.base)) (steps_are m names (count m.base) well named))
    (written_rules (rules_after names 0 m.base.constraints) (rules_are names 0 m.base.constraints (named_constraints m.base names m.base.constraints named well.network.constraints well.values)))) in
    ap (λ (t : List ℕ). cut_lines (parts_at 10 t)) (whole_text m names) ∙ ap cut_lines (text_cut (network_lines m names) written)
