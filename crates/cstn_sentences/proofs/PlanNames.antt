-- The names of the time-points of a plan are names, all different.
use Rattle.std.proofs.Common.{◌≡◌, ◌≢◌, ℕ, zero, suc, ◌+◌, ◌≤◌, ◌<◌, ◌^◌, Bool, true, false, List, [], ◌∷◌, ◌++◌, length, refl, ap, sym, subst, arith, length-append, Option, Some, None, Result, Ok, Err}
use Rattle.std.specs.Prelude.{◌&&◌, not, nat_lt, nat_le, is_none, if◌then◌else◌, option_map, option_and_then, bytes_eq, codes, int_le, pos, Contains}
use Rattle.std.specs.List.{All, AllPairs}
use Rattle.std.specs.Str.{is_utf8, IsAscii}
use Rattle.std.proofs.lemmas.Bool.{and_parts, not-true}
use Rattle.std.proofs.lemmas.List.Elements.{All-nil, All-push, Contains-get_or}
use Rattle.std.proofs.lemmas.List.Quantifiers.{all_pairs_push}
use Rattle.std.proofs.lemmas.Str.{IsUtf8-append, IsUtf8-from_ascii, IsUtf8-from_is_utf8, is_utf8-from_IsUtf8}
use Rattle.cstn_markup.specs.Bytes.{when}
use Rattle.cstn_text.specs.Names.{IsName, is_name, AreNames, number_of}
use Rattle.cstn_text.specs.PrintedNames.{unprinted, printed_name}
use Rattle.cstn_graphml.specs.Document.{Parts, first_of_two}
use Rattle.cstn_graphml.specs.DrawnGraph.{Observation, origin_name}
use Rattle.cstn_sentences.specs.Limits.{most_task, most_plan}
use Rattle.cstn_sentences.specs.declared.lines.Point.{Point}
use Rattle.cstn_sentences.specs.declared.lines.Says.{Says}
use Rattle.cstn_sentences.specs.declared.lines.Says.TheVariants.{At, By, Between, ByAfter, Within, NotBefore, Together}
use Rattle.cstn_sentences.specs.declared.lines.Side.{Side}
use Rattle.cstn_sentences.specs.declared.lines.Side.TheVariants.{Alone, First, Last}
use Rattle.cstn_sentences.specs.declared.lines.Expects.{Expects}
use Rattle.cstn_sentences.specs.declared.lines.Expects.TheVariants.{Since, If}
use Rattle.cstn_sentences.specs.declared.declarations.Meant.{Meant}
use Rattle.cstn_sentences.specs.Results.{◌>>?◌, some_or, holds_or}
use Rattle.cstn_sentences.specs.Refusals.{PlanRefusal, wrong_word, out_of_range, stands_twice, no_name, too_long, no_deadline}
use Rattle.cstn_sentences.specs.Spelling.{needs_quotes, begins_with, between_quotes, is_quoted_as, quoted_as, quoted_name, bare_name, name_spelled}
use Rattle.cstn_sentences.specs.Spans.{time_read, span_read, range_read}
use Rattle.cstn_sentences.specs.Words.{words_of, is_of_words, plan_lines}
use Rattle.cstn_sentences.specs.Lines.{PlanStep, PlanLine, nothing, deadline, start, step, task, rule}
use Rattle.cstn_sentences.specs.Grammar.{Words, is, one, ended_line, begins_by, past_keyword, rest_begun, rest_read, observed_read, step_rest_read, side_read, rule_by, by_read, at_range_read, within_read, between_read, point_rule_read, sided_read, named_rule, clock_read, deadline_read, start_line_read, named_step, task_read, plan_line_read}
use Rattle.cstn_sentences.specs.Judged.{is_line_in_range, at_word, line_of_text}
use Rattle.cstn_sentences.specs.Declarations.{Declared, nothing_declared, is_origin, is_declared, end_name, step_observation, words_with, with_point, with_step, is_task, are_new_literals, declare, declared_line, declared_after}
use Rattle.cstn_sentences.specs.Meaning.{nothing_meant, meant_after}
use Rattle.cstn_sentences.specs.Plans.{plan, deadline_in, plan_parts}
use Rattle.cstn_sentences.proofs.Accepted.{bind_ok, ok_is, demanded}
use Rattle.cstn_sentences.proofs.NamesLemmas.{undeclared, unknown, still_unknown, end_differs, end_is_no_origin}

-- ---- words that are names

when_is : {A : Type 0} (b : Bool) (x y : A) → when b x ≡ Some y → (b ≡ true) × (x ≡ y)
when_is true x y e = (refl, cc)
when_is false x y e = absurd (cc)

some_bytes : (n : ℕ) → nat_lt 0 n ≡ true → 1 ≤ n
some_bytes n e = grind arith

few_bytes : (n m : ℕ) → nat_le n m ≡ true → n ≤ m
few_bytes n m e = grind arith

name_tested : (text : List ℕ) → is_name text ≡ true → IsName text
name_tested text e =
    let parts = and_parts (is_utf8 text) (nat_lt 0 (length text) && nat_le (length text) 64) e in
    let sizes = and_parts (nat_lt 0 (length text)) (nat_le (length text) 64) parts.1 in
    record { some = some_bytes (length text) sizes.0; few = few_bytes (length text) 64 sizes.1; utf8 = parts.0 }

quoted_is : (found word name : List ℕ) → quoted_as found word ≡ Some name → IsName name
quoted_is found word name e =
    let w = when_is (is_quoted_as found word) found name e in
    let tested = and_parts (is_name found && needs_quotes found) _ w.0 in
    subst IsName w.1 (name_tested found (and_parts (is_name found) (needs_quotes found) tested.0).0)

read_is : (b : Bool) (text name : List ℕ) → (b ≡ true → IsName text) → option_and_then (λ n. when (not (needs_quotes n)) n) (if b then Some text else None) ≡ Some name → IsName name
read_is true text name h e = subst IsName (when_is (not (needs_quotes text)) text name e).1 (h refl)
read_is false text name h e = absurd (cc)

bare_is : (word name : List ℕ) → bare_name word ≡ Some name → IsName name
bare_is word name e =
    read_is (is_name (unprinted word) && bytes_eq (printed_name (unprinted word)) word) (unprinted word) name
    (λ h. name_tested (unprinted word) (and_parts (is_name (unprinted word)) (bytes_eq (printed_name (unprinted word)) word) h).0) e

spelled_by : (b : Bool) (word name : List ℕ) → (if b then quoted_name word else bare_name word) ≡ Some name → IsName name
spelled_by true word name e = quoted_is (unprinted (between_quotes word)) word name e
spelled_by false word name e = bare_is word name e

spelled : (word name : List ℕ) → name_spelled word ≡ Some name → IsName name
spelled word name e = spelled_by (begins_with 34 word) word name e

first_by : (found : Option (List ℕ)) (words : Words) (n : ℕ) (r : List ℕ × Words) → ((name : List ℕ) → found ≡ Some name → IsName name) → some_or (option_map (λ x. (x, words)) found) n ≡ Ok r → IsName r.0
first_by None words n r h e = absurd (cc)
first_by (Some name) words n r h e = let same : (name, words) ≡ r = cc in subst (λ (p : List ℕ × Words). IsName p.0) same (h name refl)

first_is : (words : Words) (r : List ℕ × Words) → one name_spelled words ≡ Ok r → IsName r.0
first_is [] r e = absurd (cc)
first_is (word ∷ words) r e = first_by (name_spelled word) words (length (word ∷ words)) r (λ name is. spelled word name is) e

-- ---- lines

-- the name of a step or of a task is one
abbrev HasName : PlanLine → Type 0
HasName nothing = Unit {0}
HasName (deadline t) = Unit {0}
HasName (start t) = Unit {0}
HasName (step s) = IsName s.name
HasName (task s r) = IsName s.name
HasName (rule r) = Unit {0}

end_is : (l m : PlanLine) (words : Words) → HasName l → ended_line l words ≡ Ok m → HasName m
end_is l m [] h e = subst HasName (ok_is l m e) h
end_is l m (word ∷ words) h e = absurd (cc)

rest_is : (point : Point) (says : Says) (expects : Expects) (words : Words) (m : PlanLine) → rule_by point says expects words ≡ Ok m → HasName m
rest_is point says expects words m e =
    let b = bind_ok (rest_read (rest_begun expects) words) (λ rest. Ok (rule (record { point = point; says = says; since = rest.since; label = rest.label }))) m e in
    subst HasName (ok_is (rule (record { point = point; says = says; since = b.0.since; label = b.0.label })) m b.2) tt

picked : (b : Bool) (one other : Result PlanLine ℕ) (m : PlanLine) → (if b then one else other) ≡ Ok m → (one ≡ Ok m → HasName m) → (other ≡ Ok m → HasName m) → HasName m
picked true one other m e h k = h e
picked false one other m e h k = k e

by_is : (point : Point) (words : Words) (m : PlanLine) → by_read point words ≡ Ok m → HasName m
by_is point words m e =
    let r = bind_ok (one span_read words) _ m e in
    picked (begins_by (codes "after") r.0.1) (past_keyword (codes "after") r.0.1 >>? rule_by point (ByAfter r.0.0) Since)
    (holds_or (int_le (pos 0) r.0.0.ticks) (length r.0.1) >>? λ timely. rule_by point (By r.0.0) If r.0.1) m r.2
    (λ f. let w = bind_ok (past_keyword (codes "after") r.0.1) (rule_by point (ByAfter r.0.0) Since) m f in rest_is point (ByAfter r.0.0) Since w.0 m w.2)
    (λ f. let w = bind_ok (holds_or (int_le (pos 0) r.0.0.ticks) (length r.0.1)) (λ timely. rule_by point (By r.0.0) If r.0.1) m f in rest_is point (By r.0.0) If r.0.1 m w.2)

at_is : (point : Point) (words : Words) (m : PlanLine) → at_range_read point words ≡ Ok m → HasName m
at_is point words m e = let r = bind_ok (one range_read words) _ m e in rest_is point (At r.0.0) If r.0.1 m r.2

within_is : (point : Point) (words : Words) (m : PlanLine) → within_read point words ≡ Ok m → HasName m
within_is point words m e =
    let r = bind_ok (one time_read words) _ m e in
    let w = bind_ok (past_keyword (codes "after") r.0.1) (rule_by point (Within r.0.0) Since) m r.2 in
    rest_is point (Within r.0.0) Since w.0 m w.2

between_is : (point : Point) (words : Words) (m : PlanLine) → between_read point words ≡ Ok m → HasName m
between_is point words m e =
    let r = bind_ok (one range_read words) _ m e in
    let w = bind_ok (past_keyword (codes "after") r.0.1) (rule_by point (Between r.0.0) Since) m r.2 in
    rest_is point (Between r.0.0) Since w.0 m w.2

rule_is : (point : Point) (words : Words) (m : PlanLine) → point_rule_read point words ≡ Ok m → HasName m
rule_is point [] m e = absurd (cc)
rule_is point (word ∷ words) m e =
    picked (is (codes "at") word) (at_range_read point words) _ m e (at_is point words m)
    (λ f. picked (is (codes "by") word) (by_read point words) _ m f (by_is point words m)
    (λ g. picked (is (codes "within") word) (within_read point words) _ m g (within_is point words m)
    (λ h. picked (is (codes "after") word) (rule_by point NotBefore Since words) _ m h (rest_is point NotBefore Since words m)
    (λ k. picked (is (codes "with") word) (rule_by point Together Since words) _ m k (rest_is point Together Since words m) (between_is point (word ∷ words) m)))))

sided_is : (side : Side) (words : Words) (m : PlanLine) → sided_read side words ≡ Ok m → HasName m
sided_is side words m e = let r = bind_ok (side_read side words) _ m e in rule_is r.0.0 r.0.1 m r.2

named_is : (words : Words) (m : PlanLine) → named_rule words ≡ Ok m → HasName m
named_is words m e = let r = bind_ok (one name_spelled words) _ m e in rule_is (record { name = r.0.0; side = Alone }) r.0.1 m r.2

step_named : (name : List ℕ) (words : Words) (s : PlanStep) → step_rest_read name words ≡ Ok s → s.name ≡ name
step_named name words s e =
    let o = bind_ok (observed_read words) _ s e in
    let rest = bind_ok (rest_read (rest_begun If) o.0.1) (λ rest. Ok (record { name = name; observed = o.0.0; label = rest.label })) s o.2 in
    ap (λ (x : PlanStep). x.name) (sym (ok_is (record { name = name; observed = o.0.0; label = rest.0.label }) s rest.2))

step_is : (words : Words) (m : PlanLine) → named_step words ≡ Ok m → HasName m
step_is words m e =
    let r = bind_ok (one name_spelled words) _ m e in
    let s = bind_ok (step_rest_read r.0.0 r.0.1) (λ s. Ok (step s)) m r.2 in
    subst HasName (ok_is (step s.0) m s.2) (subst IsName (sym (step_named r.0.0 r.0.1 s.0 s.1)) (first_is words r.0 r.1))

task_is : (words : Words) (m : PlanLine) → task_read words ≡ Ok m → HasName m
task_is words m e =
    let r = bind_ok (one name_spelled words) _ m e in
    let l = bind_ok (one range_read r.0.1) (λ l. step_rest_read r.0.0 l.1 >>? λ s. Ok (task s l.0)) m r.2 in
    let s = bind_ok (step_rest_read r.0.0 l.0.1) (λ s. Ok (task s l.0.0)) m l.2 in
    subst HasName (ok_is (task s.0 l.0.0) m s.2) (subst IsName (sym (step_named r.0.0 l.0.1 s.0 s.1)) (first_is words r.0 r.1))

deadline_is : (words : Words) (m : PlanLine) → deadline_read words ≡ Ok m → HasName m
deadline_is words m e = let r = bind_ok (one time_read words) _ m e in end_is (deadline r.0.0) m r.0.1 tt r.2

start_is : (words : Words) (m : PlanLine) → start_line_read words ≡ Ok m → HasName m
start_is words m e =
    picked (begins_by (codes "of") words) (sided_read First words) _ m e (sided_is First words m)
    (λ f. let r = bind_ok (one clock_read words) (λ r. ended_line (start r.0) r.1) m f in end_is (start r.0.0) m r.0.1 tt r.2)

words_named : (words : Words) (m : PlanLine) → plan_line_read words ≡ Ok m → HasName m
words_named [] m e = subst HasName (ok_is nothing m e) tt
words_named (word ∷ words) m e =
    picked (is (codes "deadline") word) (deadline_read words) _ m e (deadline_is words m)
    (λ f. picked (is (codes "start") word) (start_line_read words) _ m f (start_is words m)
    (λ g. picked (is (codes "step") word) (named_step words) _ m g (step_is words m)
    (λ h. picked (is (codes "task") word) (task_read words) _ m h (task_is words m)
    (λ k. picked (is (codes "end") word) (sided_read Last words) _ m k (sided_is Last words m) (named_is (word ∷ words) m)))))

at_line : (n : ℕ) (words : Words) (r : Result PlanLine ℕ) (l : PlanLine) → at_word n words r ≡ Ok l → (r ≡ Ok l → HasName l) → HasName l
at_line n words (Ok x) l e h = h (ap Ok (ok_is x l e))
at_line n words (Err left) l e h = absurd (cc)

line_named : (n : ℕ) (text : List ℕ) (l : PlanLine) → line_of_text n text ≡ Ok l → HasName l
line_named n text l e =
    let judged : PlanLine → Result PlanLine PlanRefusal = λ line. holds_or (is_line_in_range line) (out_of_range n) >>? λ numbered. Ok line in
    let a = bind_ok (holds_or (is_of_words text) (wrong_word n 0)) (λ whole. at_word n (words_of text) (plan_line_read (words_of text)) >>? judged) l e in
    let b = bind_ok (at_word n (words_of text) (plan_line_read (words_of text))) judged l a.2 in
    let c = bind_ok (holds_or (is_line_in_range b.0) (out_of_range n)) (λ numbered. Ok b.0) l b.2 in
    subst HasName (ok_is b.0 l c.2) (at_line n (words_of text) (plan_line_read (words_of text)) b.0 b.1 (words_named (words_of text) b.0))

-- ---- declarations

pub record AreApart (names : List (List ℕ)) : Type 0 where
  pub each : All IsName names
  pub different : AllPairs (λ a b. a ≢ b) names

apart_more : (names : List (List ℕ)) (name : List ℕ) → AreApart names → IsName name → number_of names name ≡ None → AreApart (names ++ (name ∷ []))
apart_more names name h is new = record {
  each = All-push IsName names name h.each is;
  different = all_pairs_push (λ a b. a ≢ b) names name h.different
      (λ k d inside same. unknown names name new (subst (Contains names) same (Contains-get_or names k d inside)));
}

step_apart : (b : Bool) (d : Declared) (name : List ℕ) (observed : Option Observation) → AreApart d.names → IsName name → (b ≡ false → number_of d.names name ≡ None)
    → AreApart (if b then record d { origin = Some observed } else with_point name false observed d).names
step_apart true d name observed h is new = h
step_apart false d name observed h is new = apart_more d.names name h is (new refl)

end_ascii : IsAscii (codes ".end")
end_ascii zero = omega arith
end_ascii (suc zero) = omega arith
end_ascii (suc (suc zero)) = omega arith
end_ascii (suc (suc (suc zero))) = omega arith
end_ascii (suc (suc (suc (suc i)))) = omega arith

-- the name of the end of a task with at most 60 bytes is one
end_named : (name : List ℕ) → IsName name → length name ≤ most_task → IsName (end_name name)
end_named name is short = record {
  some = omega (arith, length-append name (codes ".end"), is.some);
  few = omega (arith, length-append name (codes ".end"), short);
  utf8 = is_utf8-from_IsUtf8 (end_name name) (IsUtf8-append name (codes ".end") (IsUtf8-from_is_utf8 name is.utf8)
      (IsUtf8-from_ascii (codes ".end") end_ascii));
}

line_apart : (n : ℕ) (l : PlanLine) (d e : Declared) → AreApart d.names → HasName l → declare n d l ≡ Ok e → AreApart e.names
line_apart n nothing d e h named k = subst (λ (x : Declared). AreApart x.names) (ok_is d e k) h
line_apart n (deadline t) d e h named k =
    let a = bind_ok (holds_or (is_none d.deadline) (stands_twice n (codes "deadline"))) (λ first. Ok (record d { deadline = Some t })) e k in
    subst (λ (x : Declared). AreApart x.names) (ok_is (record d { deadline = Some t }) e a.2) h
line_apart n (start t) d e h named k =
    let a = bind_ok (holds_or (is_none d.start) (stands_twice n (codes "start"))) (λ first. Ok (record d { start = Some t.ticks })) e k in
    subst (λ (x : Declared). AreApart x.names) (ok_is (record d { start = Some t.ticks }) e a.2) h
line_apart n (step s) d e h named k =
    let done : List Meant → Result Declared PlanRefusal = λ words. Ok (with_step s.name (step_observation s.observed) (record d { words = words })) in
    let a = bind_ok (holds_or (not (is_declared s.name d)) (stands_twice n s.name)) (λ new. words_with n s d.words >>? done) e k in
    let b = bind_ok (words_with n s d.words) done e a.2 in
    let new = not-true (is_declared s.name d) (demanded (not (is_declared s.name d)) (stands_twice n s.name) a.0 a.1) in
    subst (λ (x : Declared). AreApart x.names) (ok_is (with_step s.name (step_observation s.observed) (record d { words = b.0 })) e b.2)
    (step_apart (is_origin s.name) (record d { words = b.0 }) s.name (step_observation s.observed) h named (λ other. undeclared s.name d new other))
line_apart n (task s r) d e h named k =
    let done : List Meant → Result Declared PlanRefusal = λ words. Ok (with_point (end_name s.name) false (step_observation s.observed) (with_point s.name true None (record d { words = words }))) in
    let a = bind_ok (is_task n s.name d) (λ named. words_with n s d.words >>? done) e k in
    let b = bind_ok (words_with n s d.words) done e a.2 in
    let one = bind_ok (holds_or (not (is_declared s.name d)) (stands_twice n s.name)) _ a.0 a.1 in
    let two = bind_ok (holds_or (not (is_declared (end_name s.name) d)) (stands_twice n (end_name s.name))) _ a.0 one.2 in
    let new = not-true (is_declared s.name d) (demanded (not (is_declared s.name d)) (stands_twice n s.name) one.0 one.1) in
    let ends = not-true (is_declared (end_name s.name) d) (demanded (not (is_declared (end_name s.name) d)) (stands_twice n (end_name s.name)) two.0 two.1) in
    let sized = and_parts (not (is_origin s.name)) (nat_le (length s.name) most_task) (demanded (not (is_origin s.name) && nat_le (length s.name) most_task) (no_name n s.name) a.0 two.2) in
    let first = apart_more d.names s.name h named (undeclared s.name d new (not-true (is_origin s.name) sized.0)) in
    let last = apart_more (d.names ++ (s.name ∷ [])) (end_name s.name) first (end_named s.name named (few_bytes (length s.name) most_task sized.1))
    (still_unknown d.names (end_name s.name) s.name (undeclared (end_name s.name) d ends (end_is_no_origin s.name)) (end_differs s.name)) in
    subst (λ (x : Declared). AreApart x.names) (ok_is (with_point (end_name s.name) false (step_observation s.observed) (with_point s.name true None (record d { words = b.0 }))) e b.2) last
line_apart n (rule r) d e h named k =
    let a = bind_ok (are_new_literals n [] r.label) (λ new. Ok d) e k in
    subst (λ (x : Declared). AreApart x.names) (ok_is d e a.2) h

lines_apart : (n : ℕ) (lines : List (List ℕ)) (d e : Declared) → AreApart d.names → declared_after n d lines ≡ Ok e → AreApart e.names
unfolding declared_after
lines_apart n [] d e h k = subst (λ (x : Declared). AreApart x.names) (ok_is d e k) h
lines_apart n (line ∷ lines) d e h k =
    let a = bind_ok (declared_line n d line) (λ more. declared_after (n + 1) more lines) e k in
    let l = bind_ok (line_of_text n line) (declare n d) a.0 a.1 in
    lines_apart (n + 1) lines a.0 e (line_apart n l.0 d a.0 h (line_named n line l.0 l.1) l.2) a.2

origin_ascii : IsAscii origin_name
origin_ascii zero = omega arith
origin_ascii (suc i) = omega arith

origin_named : IsName origin_name
origin_named = record { some = omega arith; few = omega arith; utf8 = is_utf8-from_IsUtf8 origin_name (IsUtf8-from_ascii origin_name origin_ascii) }

nothing_apart : AreApart (origin_name ∷ [])
nothing_apart = record { each = All-push IsName [] origin_name (All-nil IsName) origin_named; different = λ i j d less inside. absurd (omega arith) }

-- the names of a plan, where they are fewer than 2^32
pub plan_names : (text : List ℕ) (handed : Option ℕ) (parts : Parts) → plan text handed ≡ Ok parts → length parts.names < 2 ^ 32 → AreNames parts.names
plan_names text handed parts told few =
    let short = bind_ok (holds_or (nat_le (length text) most_plan) too_long) _ parts told in
    let declared = bind_ok (declared_after 1 nothing_declared (plan_lines text)) _ parts short.2 in
    let meant = bind_ok (meant_after 1 declared.0 nothing_meant (plan_lines text)) _ parts declared.2 in
    let timed = bind_ok (some_or (first_of_two handed (deadline_in declared.0)) no_deadline) (λ n. Ok (plan_parts n declared.0 meant.0)) parts meant.2 in
    let apart : AreApart parts.names = subst (λ (p : Parts). AreApart p.names) (ok_is (plan_parts timed.0 declared.0 meant.0) parts timed.2)
    (lines_apart 1 (plan_lines text) nothing_declared declared.0 nothing_apart declared.1) in
    record { each = apart.each; different = apart.different; few = few }
