-- The rules of a network mean its constraints.
use Rattle.std.proofs.Common.{◌≡◌, ℕ, zero, suc, ◌<◌, Bool, true, false, List, [], ◌∷◌, ◌++◌, length, drop, map, refl, ap, sym, ◌∙◌, subst, arith, append_assoc, append-nil, Option, Some, None}
use Rattle.std.specs.Prelude.{◌==◌, ◌&&◌, All, Result, Ok, if◌then◌else◌, ℤ, pos, neg_ℤ, int_le}
use Rattle.std.proofs.lemmas.Bool.{and_parts, eqb-true}
use Rattle.std.proofs.lemmas.Int.{ints}
use Rattle.std.proofs.lemmas.List.Elements.{All-head, All-tail}
use Rattle.cstn_label.specs.Labels.{Label}
use Rattle.cstn_net.specs.Networks.{Constraint, IsValue}
use Rattle.cstn_graphml.specs.DrawnGraph.{DrawnConstraint}
use Rattle.cstn_save.specs.ReadBack.{without_its_id}
use Rattle.cstn_sentences.specs.Results.{◌>>?◌}
use Rattle.cstn_sentences.specs.Refusals.{PlanRefusal}
use Rattle.cstn_sentences.specs.Judged.{is_sized}
use Rattle.cstn_sentences.specs.declared.lines.Says.{Says}
use Rattle.cstn_sentences.specs.declared.lines.Says.TheVariants.{At, By, Between, ByAfter, Within, NotBefore, Together}
use Rattle.cstn_sentences.specs.Lines.{Rule, rule}
use Rattle.cstn_sentences.specs.Declarations.{Declared, declare, are_new_literals}
use Rattle.cstn_sentences.specs.Meaning.{Meaning, at_least, at_most, mean}
use Rattle.cstn_sentences.specs.Printed.{rule_words}
use Rattle.cstn_sentences.specs.Sentences.{ticks, from_to, from_on, literals_of_label, counted_from, range_says, least_says, is_same_label, is_range, are_turned, are_one_range, is_pair, is_paired, pair_rule, alone_rule, next_rule, rules_after}
use Rattle.cstn_restated.proofs.LabelsBack.{IsWritable, all_new, same_labels}
use Rattle.cstn_restated.proofs.LinesBack.{texts, Declares, declares_none, declares_line, declares_both, Means, means_none, means_line, means_both}
use Rattle.cstn_restated.proofs.RuleForms.{HasNames, IsInside, IsForm, rule_meant, both_form, least_form, most_form}
use Rattle.cstn_sentences.proofs.TextLines.{IsNamed, IsRuleRead, next_is}
use Rattle.cstn_sentences.proofs.WrittenForms.{value_sized, negated_sized, negated_up, alone_by}

-- ---- numbers

no_more : (a b : ℤ) → int_le b a ≡ true → int_le a (pos 0) ≡ true → int_le (pos 0) a ≡ true → int_le a b ≡ true → (a ≡ pos 0) × (b ≡ pos 0)
no_more a b h k l m = (grind (arith, ints), grind (arith, ints))

none : (a : ℤ) → int_le a (pos 0) ≡ true → int_le (pos 0) a ≡ true → a ≡ pos 0
none a h k = grind (arith, ints)

neg_twice : (a : ℤ) → neg_ℤ (neg_ℤ a) ≡ a
neg_twice a = grind (arith, ints)

-- ---- a range

abbrev IsRange : ℕ → ℕ → Option ℕ → Label → ℤ → ℤ → Says → Type 0
IsRange x y to label a b says = IsForm x says to label (at_least x y a label ∷ at_most x y b label ∷ [])

chosen_form : (x y : ℕ) (label : Label) (a b : ℤ) (same zero_least : Bool) → int_le b a ≡ same → int_le a (pos 0) ≡ zero_least
    → is_sized a ≡ true → is_sized b ≡ true → int_le (pos 0) a ≡ true → int_le a b ≡ true → IsRange x y (Some y) label a b
    (if same then (if zero_least then Together else Between (from_to a b)) else if zero_least then Within (ticks b) else Between (from_to a b))
chosen_form x y label a b true true e f first last above order =
    let zeros = no_more a b e f above order in
    both_form x y Together (Some y) label a b (rw (zeros.0, zeros.1) refl) refl first last order
chosen_form x y label a b true false e f first last above order = both_form x y (Between (from_to a b)) (Some y) label a b refl refl first last order
chosen_form x y label a b false true e f first last above order =
    both_form x y (Within (ticks b)) (Some y) label a b (rw (none a f above) refl) refl first last order
chosen_form x y label a b false false e f first last above order = both_form x y (Between (from_to a b)) (Some y) label a b refl refl first last order

range_form : (x y : ℕ) (label : Label) (a b : ℤ) → is_sized a ≡ true → is_sized b ≡ true → int_le (pos 0) a ≡ true → int_le a b ≡ true
    → IsRange x y (counted_from y) label a b (range_says (counted_from y) a b)
range_form x zero label a b first last above order = both_form x 0 (At (from_to a b)) None label a b refl refl first last order
range_form x (suc y) label a b first last above order = chosen_form x (suc y) label a b (int_le b a) (int_le a (pos 0)) refl refl first last above order

-- ---- a constraint alone

least_at : (x y : ℕ) (label : Label) (a : ℤ) (zero_least : Bool) → int_le a (pos 0) ≡ zero_least → is_sized a ≡ true → int_le (pos 0) a ≡ true
    → IsForm x (if zero_least then NotBefore else Between (from_on a)) (Some y) label (at_least x y a label ∷ [])
least_at x y label a true e first above = least_form x y NotBefore (Some y) label a (rw (none a e above) refl) refl first
least_at x y label a false e first above = least_form x y (Between (from_on a)) (Some y) label a refl refl first

since_form : (x y : ℕ) (label : Label) (a : ℤ) → is_sized a ≡ true → int_le (pos 0) a ≡ true
    → IsForm x (least_says (counted_from y) a) (counted_from y) label (at_least x y a label ∷ [])
since_form x zero label a first above = least_form x 0 (At (from_on a)) None label a refl refl first
since_form x (suc y) label a first above = least_at x (suc y) label a (int_le a (pos 0)) refl first above

-- ---- rules

-- a constraint between time-points, with its value in range and a label that can be written
pub record IsKnown (names : List (List ℕ)) (c : Constraint) : Type 0 where
  pub from : c.from < length names
  pub to : c.to < length names
  pub value : IsValue c.most
  pub label : IsWritable c.label

inside_from : (names : List (List ℕ)) (y : ℕ) → y < length names → IsInside names (counted_from y)
inside_from names zero inside = tt
inside_from names (suc y) inside = inside

abbrev IsMeant : Declared → Meaning → Rule → List DrawnConstraint → Type 0
IsMeant d m r cs = (n : ℕ) → mean n d m (rule r) ≡ Ok (record m { constraints = m.constraints ++ cs })

least_drawn : (c : Constraint) → at_least c.from c.to (neg_ℤ c.most) c.label ≡ without_its_id c
least_drawn c = ap (λ (v : ℤ). let e : DrawnConstraint = record { from = c.from; to = c.to; most = v; label = c.label } in e) (neg_twice c.most)

most_drawn : (c d : Constraint) → c.from ≡ d.to → c.to ≡ d.from → c.label ≡ d.label → at_most c.from c.to d.most c.label ≡ without_its_id d
most_drawn c d one other same = rw (one, other, same) refl

-- the rule of a pair means both
pair_meant : (names : List (List ℕ)) (d : Declared) (m : Meaning) (b c : Constraint) → HasNames names d → IsKnown names b → IsKnown names c → is_pair b c ≡ true
    → IsMeant d m (pair_rule names b c) (without_its_id b ∷ without_its_id c ∷ [])
pair_meant names d m b c has one other pair n =
    let parts = and_parts (are_turned b c) (are_one_range b c) pair in
    let turned = and_parts (b.from == c.to) (b.to == c.from) parts.0 in
    let range = and_parts (is_same_label b.label c.label) (is_range b.most c.most) parts.1 in
    let values = and_parts (int_le b.most (pos 0)) (int_le (neg_ℤ b.most) c.most) range.1 in
    let same : b.label ≡ c.label = same_labels b.label c.label one.label.letters other.label.letters range.0 in
    let form : IsForm b.from (range_says (counted_from b.to) (neg_ℤ b.most) c.most) (counted_from b.to) b.label
    (at_least b.from b.to (neg_ℤ b.most) b.label ∷ at_most b.from b.to c.most b.label ∷ []) =
    range_form b.from b.to b.label (neg_ℤ b.most) c.most (negated_sized b.most one.value) (value_sized c.most other.value)
    (negated_up b.most values.0) values.1 in
    rule_meant n d m names b.from (range_says (counted_from b.to) (neg_ℤ b.most) c.most) (counted_from b.to) b.label _ has one.from
    (inside_from names b.to one.to) one.label form
    ∙ ap (λ (e : DrawnConstraint). Ok (record m { constraints = m.constraints ++ (e ∷ at_most b.from b.to c.most b.label ∷ []) })) (least_drawn b)
    ∙ ap (λ (e : DrawnConstraint). Ok (record m { constraints = m.constraints ++ (without_its_id b ∷ e ∷ []) }))
    (most_drawn b c (eqb-true b.from c.to turned.0) (eqb-true b.to c.from turned.1) same)

-- the rule of a constraint alone means it
alone_meant : (names : List (List ℕ)) (d : Declared) (m : Meaning) (c : Constraint) → HasNames names d → IsKnown names c
    → IsMeant d m (alone_rule names c) (without_its_id c ∷ [])
alone_meant names d m c has known n = at (c.from == 0 && int_le (pos 0) c.most) (int_le c.most (pos 0)) refl refl
  where
    at : (by least : Bool) → (c.from == 0 && int_le (pos 0) c.most) ≡ by → int_le c.most (pos 0) ≡ least
        → mean n d m (rule (alone_by names c by least)) ≡ Ok (record m { constraints = m.constraints ++ (without_its_id c ∷ []) })
    at true least e f =
        let origin : 0 ≡ c.from = sym (eqb-true c.from 0 (and_parts (c.from == 0) (int_le (pos 0) c.most) e).0) in
        rule_meant n d m names c.to (By (ticks c.most)) None c.label _ has known.to tt known.label
        (most_form c.to 0 (By (ticks c.most)) None c.label c.most refl refl (value_sized c.most known.value))
        ∙ ap (λ (x : ℕ). Ok (record m { constraints = m.constraints ++ (at_most c.to x c.most c.label ∷ []) })) origin
    at false true e f =
        rule_meant n d m names c.from (least_says (counted_from c.to) (neg_ℤ c.most)) (counted_from c.to) c.label _ has known.from
        (inside_from names c.to known.to) known.label
        (since_form c.from c.to c.label (neg_ℤ c.most) (negated_sized c.most known.value) (negated_up c.most f))
        ∙ ap (λ (e : DrawnConstraint). Ok (record m { constraints = m.constraints ++ (e ∷ []) })) (least_drawn c)
    at false false e f =
        rule_meant n d m names c.to (ByAfter (ticks c.most)) (Some c.from) c.label _ has known.to known.from known.label
        (most_form c.to c.from (ByAfter (ticks c.most)) (Some c.from) c.label c.most refl refl (value_sized c.most known.value))

-- ---- all rules

alone_label : (names : List (List ℕ)) (c : Constraint) → (alone_rule names c).label ≡ literals_of_label c.label
alone_label names c = at (c.from == 0 && int_le (pos 0) c.most) (int_le c.most (pos 0))
  where
    at : (by least : Bool) → (alone_by names c by least).label ≡ literals_of_label c.label
    at true least = refl
    at false true = refl
    at false false = refl

next_label : (names : List (List ℕ)) (c : Constraint) (cs : List Constraint) → (next_rule names c cs).label ≡ literals_of_label c.label
next_label names c [] = alone_label names c
next_label names c (d ∷ cs) = at (is_pair c d)
  where
    at : (pair : Bool) → (if pair then pair_rule names c d else alone_rule names c).label ≡ literals_of_label c.label
    at true = refl
    at false = alone_label names c

-- a rule declares nothing
next_declared : (n : ℕ) (d : Declared) (names : List (List ℕ)) (c : Constraint) (cs : List Constraint) → declare n d (rule (next_rule names c cs)) ≡ Ok d
next_declared n d names c cs =
    ap (λ (r : Result (Unit {0}) PlanRefusal). r >>? λ new. Ok d) (ap (are_new_literals n []) (next_label names c cs) ∙ all_new n c.label)

pub rules_declared : (names : List (List ℕ)) (d : Declared) (skip : ℕ) (cs : List Constraint) → All (IsNamed names) cs
    → Declares d (texts rule_words (rules_after names skip cs)) d
unfolding rules_after
rules_declared names d skip [] all = declares_none d
rules_declared names d zero (c ∷ cs) all =
    let one : IsNamed names c = All-head (IsNamed names) c cs all in
    let others : All (IsNamed names) cs = All-tail (IsNamed names) c cs all in
    let later : List Rule = rules_after names (if is_paired c cs then 1 else 0) cs in
    declares_both d d d (texts rule_words (next_rule names c cs ∷ [])) (texts rule_words later)
    (declares_line d d (rule_words (next_rule names c cs)) (rule (next_rule names c cs)) (next_is names c cs one others) (λ n. next_declared n d names c cs))
    (rules_declared names d (if is_paired c cs then 1 else 0) cs others)
rules_declared names d (suc skip) (c ∷ cs) all = rules_declared names d skip cs (All-tail (IsNamed names) c cs all)

-- ---- what all rules mean

-- the meaning with these constraints behind its own
abbrev pub with_all : Meaning → List DrawnConstraint → Meaning
with_all m cs = record m { constraints = m.constraints ++ cs }

with_both : (m : Meaning) (cs more : List DrawnConstraint) → with_all (with_all m cs) more ≡ with_all m (cs ++ more)
with_both m cs more = ap (λ (all : List DrawnConstraint). let n : Meaning = record m { constraints = all } in n) (append_assoc m.constraints cs more)

none_dropped : (skip : ℕ) → drop skip (let cs : List Constraint = [] in cs) ≡ []
none_dropped zero = refl
none_dropped (suc skip) = refl

-- these rules mean the constraints but for the first `skip`
abbrev AreRules : List (List ℕ) → Declared → ℕ → List Constraint → Meaning → Type 0
AreRules names d skip cs m = Means d m (texts rule_words (rules_after names skip cs)) (with_all m (map without_its_id (drop skip cs)))

first_rule : (names : List (List ℕ)) (d : Declared) (m : Meaning) (skip : ℕ) (r : Rule) (cs : List Constraint) (one all : List DrawnConstraint) → IsRuleRead r
    → IsMeant d m r one
    → one ++ map without_its_id (drop skip cs) ≡ all → ((n : Meaning) → AreRules names d skip cs n)
    → Means d m (texts rule_words (r ∷ rules_after names skip cs)) (with_all m all)
first_rule names d m skip r cs one all read means same later =
    let more : Meaning = with_all m one in
    subst (λ (n : Meaning). Means d m (texts rule_words (r ∷ rules_after names skip cs)) n)
    (with_both m one (map without_its_id (drop skip cs)) ∙ ap (with_all m) same)
    (means_both d m more (with_all more (map without_its_id (drop skip cs))) (texts rule_words (r ∷ [])) (texts rule_words (rules_after names skip cs))
    (means_line d m more (rule_words r) (rule r) read means) (later more))

two_rules : (names : List (List ℕ)) (d : Declared) (m : Meaning) (b c : Constraint) (cs : List Constraint) (pair : Bool) → is_pair b c ≡ pair
    → HasNames names d → IsKnown names b → IsKnown names c
    → IsRuleRead (if pair then pair_rule names b c else alone_rule names b) → ((k : ℕ) (n : Meaning) → AreRules names d k (c ∷ cs) n)
    → Means d m (texts rule_words ((if pair then pair_rule names b c else alone_rule names b) ∷ rules_after names (if pair then 1 else 0) (c ∷ cs)))
    (with_all m (map without_its_id (b ∷ c ∷ cs)))
two_rules names d m b c cs true e has one other read later =
    first_rule names d m 1 (pair_rule names b c) (c ∷ cs) (without_its_id b ∷ without_its_id c ∷ []) (map without_its_id (b ∷ c ∷ cs)) read
    (pair_meant names d m b c has one other e) refl (later 1)
two_rules names d m b c cs false e has one other read later =
    first_rule names d m 0 (alone_rule names b) (c ∷ cs) (without_its_id b ∷ []) (map without_its_id (b ∷ c ∷ cs)) read (alone_meant names d m b has one) refl (later 0)

-- the rules of a network mean its constraints
pub rules_meant : (names : List (List ℕ)) (d : Declared) (m : Meaning) (skip : ℕ) (cs : List Constraint) → HasNames names d → All (IsNamed names) cs
    → All (IsKnown names) cs → AreRules names d skip cs m
unfolding rules_after
rules_meant names d m skip [] has named known =
    let same : m.constraints ≡ m.constraints ++ map without_its_id (drop skip []) =
    sym (append-nil m.constraints) ∙ ap (λ (cs : List Constraint). m.constraints ++ map without_its_id cs) (sym (none_dropped skip)) in
    subst (λ (cs : List DrawnConstraint). Means d m [] (record m { constraints = cs })) same (means_none d m)
rules_meant names d m zero (c ∷ []) has named known =
    means_line d m (with_all m (without_its_id c ∷ [])) (rule_words (alone_rule names c)) (rule (alone_rule names c))
    (next_is names c [] (All-head (IsNamed names) c [] named) (All-tail (IsNamed names) c [] named))
    (alone_meant names d m c has (All-head (IsKnown names) c [] known))
rules_meant names d m zero (b ∷ c ∷ cs) has named known =
    let others : All (IsNamed names) (c ∷ cs) = All-tail (IsNamed names) b (c ∷ cs) named in
    let more : All (IsKnown names) (c ∷ cs) = All-tail (IsKnown names) b (c ∷ cs) known in
    two_rules names d m b c cs (is_pair b c) refl has (All-head (IsKnown names) b (c ∷ cs) known) (All-head (IsKnown names) c cs more)
    (next_is names b (c ∷ cs) (All-head (IsNamed names) b (c ∷ cs) named) others) (λ k n. rules_meant names d n k (c ∷ cs) has others more)
rules_meant names d m (suc skip) (c ∷ cs) has named known =
    rules_meant names d m skip cs has (All-tail (IsNamed names) c cs named) (All-tail (IsKnown names) c cs known)
