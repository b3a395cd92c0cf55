-- The lines of constraints, one rule after the other.
use Rattle.std.proofs.Common.{ℕ, suc, ◌+◌, ◌≡◌, true, false, List, [], ◌∷◌, ◌++◌, refl, ap, sym, ◌∙◌, append-nil, append_assoc, add-one, arith, length, ◌<◌, map, Option}
use Rattle.std.specs.Prelude.{slice_index_or, flat_map}
use Rattle.std.proofs.lemmas.Grind.{flat_map-append}
use Rattle.cstn_label.specs.Labels.{Label}
use Rattle.cstn_lift.specs.Labelled.{Labelled}
use Rattle.cstn_sentences.specs.declared.lines.Says.{Says}
use Rattle.cstn_sentences.specs.Spelling.{spelling}
use Rattle.cstn_sentences.specs.Grammar.{Words}
use Rattle.cstn_sentences.proofs.WrittenLabels.{spaced_append}
use Rattle.cstn_net.specs.Networks.{Constraint}
use Rattle.cstn_net.specs.declared.constraints.Constraint.{Constraint as NetConstraint}
use Rattle.cstn_net.specs.Read.{the_constraint}
use Rattle.cstn_sentences.specs.Printed.{spaced_words, says_words, label_words, step_words, rule_words, line_text}
use Rattle.cstn_sentences.specs.Sentences.{since_words, literals_of_label, rule_of, step_of, has_step, steps_below, step_lines_text, is_pair, is_paired, pair_rule, alone_rule, rules_after, rules_text}

pub pair_text : (names : List (List ℕ)) (c d : Constraint) (cs : List Constraint) → is_pair c d ≡ true
    → rules_text names (c ∷ d ∷ cs) ≡ line_text (rule_words (pair_rule names c d)) ++ rules_text names cs
unfolding rules_after
pair_text names c d cs e = rw e refl

pub alone_text : (names : List (List ℕ)) (c : Constraint) (cs : List Constraint) → is_paired c cs ≡ false
    → rules_text names (c ∷ cs) ≡ line_text (rule_words (alone_rule names c)) ++ rules_text names cs
unfolding rules_after
alone_text names c [] e = refl
alone_text names c (d ∷ cs) e = rw e refl

-- what is put behind what was put
next : (old a b t new : List ℕ) → t ≡ old ++ a → new ≡ t ++ b → new ≡ old ++ (a ++ b)
next old a b t new so_far put = put ∙ ap (λ (x : List ℕ). x ++ b) so_far ∙ append_assoc old a b

-- more words behind those of a line that were put
words_put : (word : List ℕ) (words more : Words) (old t new : List ℕ) → t ≡ old ++ (word ++ spaced_words words) → new ≡ t ++ spaced_words more
    → new ≡ old ++ (word ++ spaced_words (words ++ more))
words_put word words more old t new so_far put =
    next old (word ++ spaced_words words) (spaced_words more) t new so_far put
    ∙ ap (λ (x : List ℕ). old ++ x) (append_assoc word (spaced_words words) (spaced_words more)
    ∙ ap (λ (x : List ℕ). word ++ x) (sym (spaced_append words more)))

pub rule_put : (names : List (List ℕ)) (x : ℕ) (says : Says) (y : Option ℕ) (a : Label) (old t1 t2 t3 t4 new : List ℕ)
    → t1 ≡ old ++ spelling (slice_index_or names x []) → t2 ≡ t1 ++ spaced_words (says_words says) → t3 ≡ t2 ++ spaced_words (since_words names y)
    → t4 ≡ t3 ++ spaced_words (label_words (literals_of_label a)) → new ≡ t4 ++ (10 ∷ []) → new ≡ old ++ line_text (rule_words (rule_of names x says y a))
rule_put names x says y a old t1 t2 t3 t4 new e1 e2 e3 e4 e5 =
    let name : List ℕ = spelling (slice_index_or names x []) in
    let s : Words = says_words says in
    let w : Words = since_words names y in
    let l : Words = label_words (literals_of_label a) in
    next old (name ++ spaced_words (s ++ w ++ l)) (10 ∷ []) t4 new
    (words_put name (s ++ w) l old t3 t4 (words_put name s w old t2 t3 (next old name (spaced_words s) t1 t2 e1 e2) e3) e4) e5

pub steps_none : (m : Labelled) (names : List (List ℕ)) (old : List ℕ) → old ≡ old ++ step_lines_text m names 0
unfolding steps_below
steps_none m names old = sym (append-nil old)

-- the line of one more time-point
pub steps_more : (m : Labelled) (names : List (List ℕ)) (n : ℕ) (old t new : List ℕ) → has_step m.base n ≡ true → t ≡ old ++ step_lines_text m names n
    → new ≡ t ++ line_text (step_words (step_of m names n)) → new ≡ old ++ step_lines_text m names (n + 1)
unfolding steps_below
steps_more m names n old t new has so_far put =
    let line : List ℕ = line_text (step_words (step_of m names n)) in
    let more : step_lines_text m names (suc n) ≡ step_lines_text m names n ++ line =
    rw has (flat_map-append (λ s. line_text (step_words s)) (steps_below m names n) (step_of m names n ∷ [])
    ∙ ap (λ (x : List ℕ). step_lines_text m names n ++ x) (append-nil line)) in
    rw add-one (next old (step_lines_text m names n) line t new so_far put ∙ ap (λ (x : List ℕ). old ++ x) (sym more))

-- a time-point that has no line
pub steps_same : (m : Labelled) (names : List (List ℕ)) (n : ℕ) (old t : List ℕ) → has_step m.base n ≡ false → t ≡ old ++ step_lines_text m names n
    → t ≡ old ++ step_lines_text m names (n + 1)
unfolding steps_below
steps_same m names n old t has so_far =
    let same : step_lines_text m names (suc n) ≡ step_lines_text m names n = rw has (ap (flat_map (λ s. line_text (step_words s))) (append-nil (steps_below m names n))) in
    rw add-one (so_far ∙ ap (λ (x : List ℕ). old ++ x) (sym same))

-- a rule that was put, and what is left
put_and_left : (old line left new all : List ℕ) → new ≡ old ++ line → all ≡ line ++ left → new ++ left ≡ old ++ all
put_and_left old line left new all put is = ap (λ (x : List ℕ). x ++ left) put ∙ append_assoc old line left ∙ ap (λ (x : List ℕ). old ++ x) (sym is)

pub pair_put : (names : List (List ℕ)) (c d : Constraint) (cs : List Constraint) (old new : List ℕ) → is_pair c d ≡ true
    → new ≡ old ++ line_text (rule_words (pair_rule names c d)) → new ++ rules_text names cs ≡ old ++ rules_text names (c ∷ d ∷ cs)
pair_put names c d cs old new e put =
    put_and_left old (line_text (rule_words (pair_rule names c d))) (rules_text names cs) new (rules_text names (c ∷ d ∷ cs)) put (pair_text names c d cs e)

pub alone_put : (names : List (List ℕ)) (c : Constraint) (cs : List Constraint) (old new : List ℕ) → is_paired c cs ≡ false
    → new ≡ old ++ line_text (rule_words (alone_rule names c)) → new ++ rules_text names cs ≡ old ++ rules_text names (c ∷ cs)
alone_put names c cs old new e put =
    put_and_left old (line_text (rule_words (alone_rule names c))) (rules_text names cs) new (rules_text names (c ∷ cs)) put (alone_text names c cs e)

-- where no constraint is left, all rules are put
pub rules_put : (names : List (List ℕ)) (left : List NetConstraint) (text all : List ℕ) → length left < 1 → text ++ rules_text names (map the_constraint left) ≡ all → text ≡ all
unfolding rules_after
rules_put names [] text all none e = sym (append-nil text) ∙ e
rules_put names (c ∷ left) text all none e = absurd (omega (arith, none))

pub pair_written : (names : List (List ℕ)) (c d : NetConstraint) (later last : List NetConstraint) (old new : List ℕ) → later ≡ d ∷ last
    → is_pair (the_constraint c) (the_constraint d) ≡ true → new ≡ old ++ line_text (rule_words (pair_rule names (the_constraint c) (the_constraint d)))
    → new ++ rules_text names (map the_constraint last) ≡ old ++ rules_text names (map the_constraint (c ∷ later))
pair_written names c d later last old new is pair put =
    pair_put names (the_constraint c) (the_constraint d) (map the_constraint last) old new pair put
    ∙ ap (λ (xs : List NetConstraint). old ++ rules_text names (map the_constraint (c ∷ xs))) (sym is)

pub last_written : (names : List (List ℕ)) (c : NetConstraint) (later : List NetConstraint) (old new : List ℕ) → length later ≡ 0
    → new ≡ old ++ line_text (rule_words (alone_rule names (the_constraint c)))
    → new ++ rules_text names (map the_constraint later) ≡ old ++ rules_text names (map the_constraint (c ∷ later))
last_written names c [] old new none put = alone_put names (the_constraint c) [] old new refl put
last_written names c (d ∷ later) old new none put = absurd (omega (arith, none))

pub alone_written : (names : List (List ℕ)) (c d : NetConstraint) (later last : List NetConstraint) (old new : List ℕ) → later ≡ d ∷ last
    → is_pair (the_constraint c) (the_constraint d) ≡ false → new ≡ old ++ line_text (rule_words (alone_rule names (the_constraint c)))
    → new ++ rules_text names (map the_constraint later) ≡ old ++ rules_text names (map the_constraint (c ∷ later))
alone_written names c d later last old new is other put =
    alone_put names (the_constraint c) (map the_constraint later) old new
    (ap (λ (xs : List NetConstraint). is_paired (the_constraint c) (map the_constraint xs)) is ∙ other) put
