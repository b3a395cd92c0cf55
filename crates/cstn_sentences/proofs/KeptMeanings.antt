-- What is kept of a meaning line by line is what is kept of all that the lines mean.
use Rattle.std.proofs.Common.{◌≡◌, ℕ, zero, suc, ◌+◌, Bool, true, false, List, [], ◌∷◌, ◌++◌, take, refl, ap, sym, ◌∙◌, subst, arith, None, Result, Ok, Err}
use Rattle.std.specs.Prelude.{flat_map, if◌then◌else◌, pos}
use Rattle.std.specs.List.{list_all}
use Rattle.std.proofs.lemmas.List.{take_all, length-take}
use Rattle.cstn_label.specs.Labels.{Label, empty}
use Rattle.cstn_text.specs.Names.{number_of}
use Rattle.cstn_graphml.specs.DrawnGraph.{DrawnConstraint}
use Rattle.cstn_sentences.specs.declared.bounds.Bounds.{Bounds}
use Rattle.cstn_sentences.specs.declared.lines.Range.{Range}
use Rattle.cstn_sentences.specs.declared.lines.Says.TheVariants.{Between}
use Rattle.cstn_sentences.specs.declared.errors.PlanError.{PlanError}
use Rattle.cstn_sentences.specs.declared.errors.PlanError.TheVariants.{Long, Wrong, Range as RangeError, Twice, NoName, NoLetter, NoDeadline, Net, Lift, Memory}
use Rattle.cstn_sentences.specs.Refusals.{PlanRefusal, out_of_range, no_name, too_long, wrong_word, stands_twice, no_letter, no_deadline}
use Rattle.cstn_sentences.specs.Results.{◌>>?◌, some_or, holds_or}
use Rattle.cstn_sentences.specs.Answers.{FailsPlan}
use Rattle.cstn_sentences.specs.Lines.{PlanStep, Rule, PlanLine, nothing, deadline, start, step, task, rule}
use Rattle.cstn_sentences.specs.Judged.{line_of_text}
use Rattle.cstn_sentences.specs.Declarations.{Declared, is_origin}
use Rattle.cstn_sentences.specs.Meaning.{Meaning, Moment_after, point_in, moments_in, label_meant, bounds_of, are_in_order, are_sized_from, since_origin, is_of_end, constraints_of}
use Rattle.cstn_sentences.specs.Meaning.{with_rule, with_label, with_task_labels, mean_rule, mean_step, mean_task, mean, meant_line, meant_after}
use Rattle.cstn_sentences.specs.Drawn.{kept_meaning, kept_meant, IsKeptOfMeant}
use Rattle.cstn_sentences.proofs.Accepted.{ok_is}
use Rattle.cstn_sentences.proofs.TellsLemmas.{fails_on}

-- ---- meanings

take_more : {X : Type 0} (n : ℕ) (xs ys : List X) → take n (take n xs ++ ys) ≡ take n (xs ++ ys)
take_more zero xs ys = refl
take_more (suc n) [] ys = refl
take_more (suc n) (x ∷ xs) ys = ap (λ zs. x ∷ zs) (take_more n xs ys)

pub meaning_twice : (m : Meaning) → kept_meaning (kept_meaning m) ≡ kept_meaning m
meaning_twice m =
    ap (λ (cs : List DrawnConstraint). record m { constraints = cs })
    (take_all 16385 (take 16385 m.constraints) (omega (arith, length-take 16385 m.constraints)))

with_rule_kept : (x : ℕ) (b : Bounds) (label : Label) (ms : List Moment_after) (m : Meaning) → kept_meaning (with_rule x b label ms (kept_meaning m)) ≡ kept_meaning (with_rule x b label ms m)
with_rule_kept x b label ms m =
    ap (λ (cs : List DrawnConstraint). record m { constraints = cs }) (take_more 16385 m.constraints (flat_map (constraints_of x b label) ms))

label_kept : (b : Bool) (label : Label) (m : Meaning)
    → kept_meaning (if b then record (kept_meaning m) { origin_label = label } else record (kept_meaning m) { labels = m.labels ++ (label ∷ []) })
    ≡ kept_meaning (if b then record m { origin_label = label } else record m { labels = m.labels ++ (label ∷ []) })
label_kept true label m = meaning_twice (record m { origin_label = label })
label_kept false label m = meaning_twice (record m { labels = m.labels ++ (label ∷ []) })

-- ---- lines: where the meaning is one that was kept, the same is kept of what they mean

bind_alike : {A : Type 0} (r : Result A PlanRefusal) (f g : A → Result Meaning PlanRefusal) → ((x : A) → kept_meant (f x) ≡ kept_meant (g x)) → kept_meant (r >>? f) ≡ kept_meant (r >>? g)
bind_alike (Ok x) f g h = h x
bind_alike (Err e) f g h = refl

rule_alike : (n : ℕ) (d : Declared) (r : Rule) (m : Meaning) → kept_meant (mean_rule n d r (kept_meaning m)) ≡ kept_meant (mean_rule n d r m)
rule_alike n d r m =
    bind_alike (point_in n d (is_of_end r.says) r.point) _ _ (λ x.
    bind_alike (holds_or (are_in_order (bounds_of d.start r.says).least (bounds_of d.start r.says).most) (out_of_range n)) _ _ (λ ordered.
    bind_alike (moments_in n d r.since) _ _ (λ moments.
    bind_alike (label_meant n d r.label) _ _ (λ label.
    bind_alike (holds_or (list_all (are_sized_from (bounds_of d.start r.says)) (since_origin r.says moments)) (out_of_range n)) _ _ (λ sized.
    ap (λ k. Ok k) (with_rule_kept x (bounds_of d.start r.says) label (since_origin r.says moments) m))))))

task_alike : (n : ℕ) (d : Declared) (s : PlanStep) (r : Range) (m : Meaning) → kept_meant (mean_task n d s r (kept_meaning m)) ≡ kept_meant (mean_task n d s r m)
task_alike n d s r m =
    bind_alike (label_meant n d s.label) _ _ (λ label.
    bind_alike (some_or (number_of d.names s.name) (no_name n s.name)) _ _ (λ x.
    bind_alike (holds_or (list_all (are_sized_from (bounds_of None (Between r))) ((x, pos 0) ∷ [])) (out_of_range n)) _ _ (λ sized.
    ap (λ k. Ok k) (with_rule_kept (x + 1) (bounds_of None (Between r)) empty ((x, pos 0) ∷ []) (with_task_labels label m)))))

line_alike : (n : ℕ) (d : Declared) (m : Meaning) (line : PlanLine) → kept_meant (mean n d (kept_meaning m) line) ≡ kept_meant (mean n d m line)
line_alike n d m nothing = ap (λ k. Ok k) (meaning_twice m)
line_alike n d m (deadline t) = ap (λ k. Ok k) (meaning_twice m)
line_alike n d m (start t) = ap (λ k. Ok k) (meaning_twice m)
line_alike n d m (step s) = bind_alike (label_meant n d s.label) _ _ (λ label. ap (λ k. Ok k) (label_kept (is_origin s.name) label m))
line_alike n d m (task s r) = task_alike n d s r m
line_alike n d m (rule r) = rule_alike n d r m

text_alike : (n : ℕ) (d : Declared) (m : Meaning) (text : List ℕ) → kept_meant (meant_line n d (kept_meaning m) text) ≡ kept_meant (meant_line n d m text)
text_alike n d m text = bind_alike (line_of_text n text) _ _ (line_alike n d m)

-- what is kept of later steps is the same, where it is the same for all meanings of which the same is kept
step_alike : (told : Result Meaning PlanRefusal) (f : Meaning → Result Meaning PlanRefusal) → ((m : Meaning) → kept_meant (f (kept_meaning m)) ≡ kept_meant (f m))
    → kept_meant (kept_meant told >>? f) ≡ kept_meant (told >>? f)
step_alike (Ok m) f alike = alike m
step_alike (Err e) f alike = refl

lines_alike : (n : ℕ) (d : Declared) (m : Meaning) (lines : List (List ℕ)) → kept_meant (meant_after n d (kept_meaning m) lines) ≡ kept_meant (meant_after n d m lines)
unfolding meant_after
lines_alike n d m [] = ap (λ k. Ok k) (meaning_twice m)
lines_alike n d m (line ∷ lines) =
    let later : Meaning → Result Meaning PlanRefusal = λ k. meant_after (n + 1) d k lines in
    let alike : (k : Meaning) → kept_meant (later (kept_meaning k)) ≡ kept_meant (later k) = λ k. lines_alike (n + 1) d k lines in
    sym (step_alike (meant_line n d (kept_meaning m) line) later alike)
    ∙ ap (λ r. kept_meant (r >>? later)) (text_alike n d m line)
    ∙ step_alike (meant_line n d m line) later alike

-- the first of the lines was read, and what is kept of its meaning is left with the others
pub lines_on : (n : ℕ) (d : Declared) (m more less : Meaning) (line : List ℕ) (lines : List (List ℕ)) → meant_line n d m line ≡ Ok more → less ≡ kept_meaning more
    → kept_meant (meant_after n d m (line ∷ lines)) ≡ kept_meant (meant_after (n + 1) d less lines)
unfolding meant_after
lines_on n d m more less line lines e is =
    ap (λ r. kept_meant (r >>? λ k. meant_after (n + 1) d k lines)) e
    ∙ sym (lines_alike (n + 1) d more lines)
    ∙ ap (λ k. kept_meant (meant_after (n + 1) d k lines)) (sym is)

-- ---- what is told of what is kept

pub whole_told : (told : Result Meaning PlanRefusal) (m : Meaning) → kept_meant told ≡ Ok (kept_meaning m) → IsKeptOfMeant told m
whole_told (Ok whole) m e = record { whole = whole; whole_is = refl; kept_is = sym (ok_is (kept_meaning whole) (kept_meaning m) e) }
whole_told (Err e) m told = absurd (cc)

error_told : (told : Result Meaning PlanRefusal) (e : PlanRefusal) → kept_meant told ≡ Err e → told ≡ Err e
error_told (Ok whole) e told = absurd (cc)
error_told (Err x) e told = told

pub fails_whole : (e : PlanError) (told : Result Meaning PlanRefusal) → FailsPlan e (kept_meant told) → FailsPlan e told
fails_whole Long told h = error_told told too_long h
fails_whole (Wrong line word) told h = error_told told (wrong_word line word) h
fails_whole (RangeError line) told h = error_told told (out_of_range line) h
fails_whole (Twice line text) told h = error_told told (stands_twice line text) h
fails_whole (NoName line name) told h = error_told told (no_name line name) h
fails_whole (NoLetter line word) told h = error_told told (no_letter line word) h
fails_whole NoDeadline told h = error_told told no_deadline h
fails_whole (Net error names) told h = h
fails_whole (Lift error names) told h = h
fails_whole (Memory e) told h = tt

pub fails_all : (e : PlanError) (all rest : Result Meaning PlanRefusal) → kept_meant all ≡ kept_meant rest → FailsPlan e rest → FailsPlan e all
fails_all e all rest same h = fails_whole e all (subst (FailsPlan e) (sym same) (fails_on e rest (λ m. Ok (kept_meaning m)) h))

pub ends_all : (all rest : Result Meaning PlanRefusal) (m : Meaning) → kept_meant all ≡ kept_meant rest → rest ≡ Ok m → IsKeptOfMeant all m
ends_all all rest m same e = whole_told all m (same ∙ ap kept_meant e)
