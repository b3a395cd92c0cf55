-- A network is read back from its sentences.
use Rattle.std.proofs.Common.{◌≡◌, ℕ, suc, ◌-◌, ◌≤◌, Bool, true, List, [], ◌∷◌, ◌++◌, length, map, refl, ap, ◌∙◌, subst, arith, Option, Some, None}
use Rattle.std.specs.Prelude.{All, nat_le, Result, Ok, pos}
use Rattle.std.proofs.lemmas.List.{take_all, length-map, map-append}
use Rattle.cstn_label.specs.Labels.{Label}
use Rattle.cstn_net.specs.Networks.{Network, IsConstraint, count}
use Rattle.cstn_lift.specs.Labelled.{Labelled}
use Rattle.cstn_lift.specs.WellFormed.{IsLabelled}
use Rattle.cstn_graphml.specs.DrawnGraph.{Observation, DrawnConstraint}
use Rattle.cstn_graphml.specs.Document.{Parts, first_of_two}
use Rattle.cstn_save.specs.Names.{AreNamesOf}
use Rattle.cstn_save.specs.Canonical.{observation_by, timed_observations}
use Rattle.cstn_save.specs.ReadBack.{without_its_id, parts}
use Rattle.cstn_sentences.specs.Limits.{most_plan}
use Rattle.cstn_sentences.specs.Results.{◌>>?◌, some_or, holds_or}
use Rattle.cstn_sentences.specs.Refusals.{PlanRefusal, too_long, no_deadline}
use Rattle.cstn_sentences.specs.declared.lines.Span.{Span}
use Rattle.cstn_sentences.specs.Lines.{deadline}
use Rattle.cstn_sentences.specs.Words.{plan_lines}
use Rattle.cstn_sentences.specs.Declarations.{Declared, nothing_declared, declared_after}
use Rattle.cstn_sentences.specs.Meaning.{Meaning, nothing_meant, meant_after}
use Rattle.cstn_sentences.specs.Plans.{plan_parts, deadline_in, plan}
use Rattle.cstn_sentences.specs.Printed.{deadline_words, step_words, rule_words}
use Rattle.cstn_sentences.specs.Sentences.{ticks, steps_below, rules_after, sentences}
use Rattle.cstn_sentences.specs.WrittenWords.{line_bytes}
use Rattle.cstn_restated.proofs.LinesBack.{texts, Declares, declares_line, declares_both, declared_whole, Means, means_line, means_both, meant_whole}
use Rattle.cstn_restated.proofs.DeclaredBack.{IsDeclared, begun, first_declared}
use Rattle.cstn_restated.proofs.MeantBack.{on_letters, first_meant}
use Rattle.cstn_restated.proofs.RuleForms.{HasNames}
use Rattle.cstn_restated.proofs.RulesBack.{IsKnown, with_all, rules_declared, rules_meant}
use Rattle.cstn_sentences.proofs.TextLines.{IsNamed, named_constraints, all_named, deadline_sized, sentences_cut}
use Rattle.cstn_sentences.proofs.WrittenSteps.{deadline_back}

-- ---- the lines

abbrev steps_of : Labelled → List (List ℕ) → List (List ℕ)
steps_of m names = texts step_words (steps_below m names (count m.base))

abbrev rules_of : Labelled → List (List ℕ) → List (List ℕ)
rules_of m names = texts rule_words (rules_after names 0 m.base.constraints)

abbrev deadline_line : Labelled → List (List ℕ)
deadline_line m = line_bytes (deadline_words (ticks (pos m.base.deadline))) ∷ []

abbrev all_lines : Labelled → List (List ℕ) → List (List ℕ)
all_lines m names = deadline_line m ++ (steps_of m names ++ rules_of m names)

lines_are : (m : Labelled) (names : List (List ℕ)) → IsLabelled m → AreNamesOf m.base names → plan_lines (sentences m names) ≡ all_lines m names ++ ([] ∷ [])
lines_are m names good is =
    sentences_cut m names good.base is.named is.each
    ∙ ap (λ (ls : List (List ℕ)). (line_bytes (deadline_words (ticks (pos m.base.deadline))) ∷ ls) ++ ([] ∷ []))
    (map-append line_bytes (map step_words (steps_below m names (count m.base))) (map rule_words (rules_after names 0 m.base.constraints)))

-- ---- the constraints

all_known : (m : Labelled) (names : List (List ℕ)) → IsLabelled m → AreNamesOf m.base names → All (IsKnown names) m.base.constraints
all_known m names good is = λ k x h.
    let c : IsConstraint m.base _ = good.base.network.constraints k x h in
    record {
      from = omega (arith, c.from, is.each);
      to = omega (arith, c.to, is.each);
      value = good.base.values k x h;
      label = record { plain = c.plain; letters = on_letters m.base _ good.base c.observed };
    }

are_named : (m : Labelled) (names : List (List ℕ)) → IsLabelled m → AreNamesOf m.base names → All (IsNamed names) m.base.constraints
are_named m names good is =
    named_constraints m.base names m.base.constraints (all_named m names is.named is.each) good.base.network.constraints good.base.values

-- ---- what is declared and meant

-- the lines of a network declare its time-points
record AreDeclared (m : Labelled) (names : List (List ℕ)) : Type 0 where
  n : ℕ
  count_is : suc n ≡ count m.base
  all : Declared
  are : IsDeclared names (timed_observations m.base) m.base.deadline n all
  declares : Declares nothing_declared (all_lines m names) all

declared : (m : Labelled) (names : List (List ℕ)) → IsLabelled m → AreNamesOf m.base names → AreDeclared m names
declared m names good is =
    let net : Network = m.base in
    let n : ℕ = count net - 1 in
    let count_is : suc n ≡ count net = omega (arith, good.base.network.origin) in
    let first = first_declared m names n good.base is (omega (arith, count_is)) in
    let t : Span = ticks (pos net.deadline) in
    let d : Declared = first.all in
    let steps : Declares (begun net.deadline) (steps_of m names) d =
    subst (λ (k : ℕ). Declares (begun net.deadline) (texts step_words (steps_below m names k)) d) count_is first.declares in
    let line : Declares nothing_declared (deadline_line m) (begun net.deadline) =
    declares_line nothing_declared (begun net.deadline) (deadline_words t) (deadline t)
    (deadline_back net.deadline (deadline_sized net.deadline good.base.in_time)) (λ k. refl) in
    record {
      n = n;
      count_is = count_is;
      all = d;
      are = first.are;
      declares = declares_both nothing_declared (begun net.deadline) d (deadline_line m) (steps_of m names ++ rules_of m names) line
          (declares_both (begun net.deadline) d d (steps_of m names) (rules_of m names) steps
          (rules_declared names d 0 net.constraints (are_named m names good is)));
    }

has_names : (m : Labelled) (names : List (List ℕ)) → AreNamesOf m.base names → (so : AreDeclared m names) → HasNames names so.all
has_names m names is so = record {
  are = is.named;
  names_are = so.are.names_are ∙ take_all (suc so.n) names (omega (arith, so.count_is, is.each));
  start_is = so.are.start_is;
  no_tasks = so.are.no_tasks;
}

-- the lines of a network mean its labels and constraints
record IsAllMeant (m : Labelled) (names : List (List ℕ)) (so : AreDeclared m names) : Type 0 where
  all : Meaning
  labels_are : all.origin_label ∷ all.labels ≡ m.labels
  constraints_are : all.constraints ≡ map without_its_id m.base.constraints
  means : Means so.all nothing_meant (all_lines m names) all

meant : (m : Labelled) (names : List (List ℕ)) → IsLabelled m → AreNamesOf m.base names → (so : AreDeclared m names) → IsAllMeant m names so
meant m names good is so =
    let net : Network = m.base in
    let d : Declared = so.all in
    let t : Span = ticks (pos net.deadline) in
    let first = first_meant m names d so.n good is (omega (arith, so.count_is)) in
    let before : Meaning = first.all in
    let more : Meaning = with_all before (map without_its_id net.constraints) in
    let steps : Means d nothing_meant (steps_of m names) before =
    subst (λ (k : ℕ). Means d nothing_meant (texts step_words (steps_below m names k)) before) so.count_is first.means in
    let line : Means d nothing_meant (deadline_line m) nothing_meant =
    means_line d nothing_meant nothing_meant (deadline_words t) (deadline t) (deadline_back net.deadline (deadline_sized net.deadline good.base.in_time))
    (λ k. refl) in
    record {
      all = more;
      labels_are = first.are.labels_are ∙ take_all (suc so.n) m.labels (omega (arith, so.count_is, good.one_each));
      constraints_are = ap (λ (cs : List DrawnConstraint). cs ++ map without_its_id net.constraints) first.are.none;
      means = means_both d nothing_meant nothing_meant more (deadline_line m) (steps_of m names ++ rules_of m names) line
          (means_both d nothing_meant before more (steps_of m names) (rules_of m names) steps
          (rules_meant names d before 0 net.constraints (has_names m names is so) (are_named m names good is) (all_known m names good is)));
    }

-- ---- the plan

-- the deadline handed in, else that of the network
abbrev pub handed : Option ℕ → ℕ → ℕ
handed None n = n
handed (Some k) n = k

same_parts : (n : ℕ) (names ns : List (List ℕ)) (observes os : List (Option Observation)) (labels ls : List Label) (constraints cs : List DrawnConstraint)
    → ns ≡ names → os ≡ observes → ls ≡ labels
    → cs ≡ constraints → (let one : Parts = record { deadline = n; names = ns; observes = os; labels = ls; constraints = cs } in one)
    ≡ record { deadline = n; names = names; observes = observes; labels = labels; constraints = constraints }
same_parts n names ns observes os labels ls constraints cs e f g h = rw (e, f, g, h) refl

first_deadline : (word : Option ℕ) (d : Declared) (n : ℕ) → d.deadline ≡ Some (ticks (pos n)) → first_of_two word (deadline_in d) ≡ Some (handed word n)
first_deadline None d n e = rw e refl
first_deadline (Some k) d n e = refl

abbrev read_by : Option ℕ → List (List ℕ) → Result Parts PlanRefusal
read_by word lines =
    declared_after 1 nothing_declared lines >>? λ d.
    meant_after 1 d nothing_meant lines >>? λ m.
    some_or (first_of_two word (deadline_in d)) no_deadline >>? λ n.
    Ok (plan_parts n d m)

le_true : (n : ℕ) → n ≤ most_plan → nat_le n most_plan ≡ true
le_true n h = grind arith

-- the sentences of a network are the plan of that network, by the deadline handed in if there is one
pub there_and_back : (m : Labelled) (names : List (List ℕ)) (word : Option ℕ) → IsLabelled m → AreNamesOf m.base names → length (sentences m names) ≤ most_plan
    → plan (sentences m names) word ≡ Ok (record (parts m names) { deadline = handed word m.base.deadline })
there_and_back m names word good is short =
    let so = declared m names good is in
    let all = meant m names good is so in
    let d : Declared = so.all in
    let lines : List (List ℕ) = all_lines m names ++ ([] ∷ []) in
    let told : plan_parts (handed word m.base.deadline) d all.all ≡ record (parts m names) { deadline = handed word m.base.deadline } =
    same_parts (handed word m.base.deadline) names d.names (timed_observations m.base) _ m.labels _ (map without_its_id m.base.constraints) all.all.constraints
    (has_names m names is so).names_are
    (so.are.observes_are
    ∙ take_all (suc so.n) (timed_observations m.base) (omega (arith, so.count_is, length-map m.base.observes (observation_by m.base.reaction))))
    all.labels_are all.constraints_are in
    ap (λ (b : Bool). holds_or b too_long >>? λ fits. read_by word (plan_lines (sentences m names))) (le_true (length (sentences m names)) short)
    ∙ ap (read_by word) (lines_are m names good is)
    ∙ ap (λ (r : Result Declared PlanRefusal). r >>? λ e. meant_after 1 e nothing_meant lines
    >>? λ v. some_or (first_of_two word (deadline_in e)) no_deadline >>? λ n. Ok (plan_parts n e v))
    (declared_whole 1 nothing_declared d (all_lines m names) so.declares)
    ∙ ap (λ (r : Result Meaning PlanRefusal). r >>? λ v. some_or (first_of_two word (deadline_in d)) no_deadline >>? λ n. Ok (plan_parts n d v))
    (meant_whole 1 d nothing_meant all.all (all_lines m names) all.means)
    ∙ ap (λ (o : Option ℕ). some_or o no_deadline >>? λ n. Ok (plan_parts n d all.all)) (first_deadline word d m.base.deadline so.are.deadline_is)
    ∙ ap (λ (p : Parts). Ok p) told
