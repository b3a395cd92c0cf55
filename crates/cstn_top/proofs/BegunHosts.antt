-- Networks that were checked one after another.
use Rattle.std.proofs.Common.{◌≡◌, ◌≤◌, ◌<◌, ◌+◌, ℕ, List, [], ◌∷◌, ◌++◌, length, map, refl, ap, sym, subst, ◌∙◌, Bool, true, false, inl, inr, arith, append_assoc, Vec, Global}
use Rattle.std.specs.Prelude.{nat_lt, Option, Result, Ok, Err, IfOk, slice_index_or, codes, decimal}
use Rattle.std.specs.List.{All}
use Rattle.std.proofs.lemmas.List.{map-append, length-append, get_or_append_left}
use Rattle.std.proofs.Math.Seq.{get_or-append_seam}
use Rattle.std.proofs.lemmas.Grind.{flat_map-append, common_steps}
use Rattle.cstn_label.specs.Bounds.{Bound}
use Rattle.cstn_net.specs.Networks.{Network}
use Rattle.cstn_net.specs.Read.{NetworkParts, the_network}
use Rattle.cstn_text.specs.PrintedNames.{printed_name}
use Rattle.cstn_plan.specs.Plans.{PlanParts, the_bounds}
use Rattle.cstn_check.specs.Growth.{log_of, load_of, live_bounds}
use Rattle.cstn_check.specs.declared.verdicts.Verdict.{Verdict}
use Rattle.cstn_check.specs.declared.verdicts.Verdict.TheVariants.{Yes}
use Rattle.cstn_reply.specs.Texts.{Said, yes_line}
use Rattle.cstn_top.specs.Plans.{Plan, says, ComesTo, unless_said, wanting_session}
use Rattle.cstn_top.specs.Answers.{plan_on_verdict}
use Rattle.cstn_top.specs.commands.Host.{on_verdicts, attended}
use Rattle.cstn_top.specs.Prepared.{the_plan, FitsKind}
use Rattle.cstn_top.specs.Kinds.{a_host}
use Rattle.cstn_reply.specs.Written.{EndsLine}
use Rattle.cstn_reply.specs.Read.{the_said}
use Rattle.cstn_reply.specs.declared.output.Said.{Said as SaidText}
use Rattle.cstn_exec.specs.Running.{AreShort}
use Rattle.cstn_check.specs.Decisions.{verdict, TellsVerdict}
use Rattle.cstn_check.specs.declared.decisions.Judged.TheVariants.{Told}
use Rattle.cstn_run.specs.hosted.Hosts.{no_plan}
use Rattle.cstn_run.specs.hosted.Sessions.{File, HostSession, host_begun as begun_session, host_turn, host_wants, host_ending}
use Rattle.cstn_run.specs.hosted.Files.{Named, the_file, yes_lines}
use Rattle.cstn_run.specs.hosted.SessionRead.{the_planned, the_files, the_names, the_host_session, IsHostSession}
use Rattle.cstn_top.specs.Begun.{AreYes, HasBegun, the_named, IsBegin}
use Rattle.cstn_request.specs.Several.{IsSoundNetwork}
use Rattle.cstn_request.specs.declared.reading.NamedNetwork.{NamedNetwork}
use Rattle.cstn_top.specs.declared.commands.Prepared.{Prepared}
use Rattle.cstn_top.specs.declared.commands.Prepared.TheVariants.{Says, Runs, Edits, Follows, Hosts}
use Rattle.cstn_top.specs.declared.commands.host.Begun.{Begun}
use Rattle.cstn_run.proofs.hosts.PutLines.{nothing_after}

files_more : (plans : List PlanParts) (names : List (List (List ℕ))) (plan : PlanParts) (texts : List (List ℕ)) → length names ≡ length plans → the_files (plans ++ plan ∷ []) (names ++ texts ∷ []) ≡ the_files plans names ++ the_planned plan texts ∷ []
files_more [] [] plan texts same = refl
files_more [] (n ∷ ns) plan texts same = absurd (omega (arith, same))
files_more (p ∷ ps) [] plan texts same = absurd (omega (arith, same))
files_more (p ∷ ps) (n ∷ ns) plan texts same = ap (λ (fs : List File). the_planned p n ∷ fs) (files_more ps ns plan texts (omega (arith, same)))

-- plans with printed names, and one more plan with its printed names
hosted_more : (plans : List PlanParts) (names : List (List (List ℕ))) (plan : PlanParts) (texts : List (List ℕ)) → IsHostSession plans names → AreShort plan.net texts → IsHostSession (plans ++ plan ∷ []) (names ++ texts ∷ [])
hosted_more plans names plan texts is short =
    let many = is.as_many in
    let more = length-append plans (plan ∷ []) in
    let texts_more = length-append names (texts ∷ []) in
    record { as_many = omega (arith, many, more, texts_more); short = λ k inside. at k (omega (arith, inside, more)) }
  where
    at_last : (k : ℕ) → k ≡ length plans → AreShort (slice_index_or (plans ++ plan ∷ []) k no_plan).net (slice_index_or (names ++ texts ∷ []) k [])
    at_last k same =
        let there : slice_index_or (plans ++ plan ∷ []) k no_plan ≡ plan = ap (λ (i : ℕ). slice_index_or (plans ++ plan ∷ []) i no_plan) same ∙ get_or-append_seam plans plan [] no_plan in
        let text_there : slice_index_or (names ++ texts ∷ []) k [] ≡ texts = ap (λ (i : ℕ). slice_index_or (names ++ texts ∷ []) i []) (same ∙ sym is.as_many) ∙ get_or-append_seam names texts [] [] in
        subst (λ (p : PlanParts). AreShort p.net (slice_index_or (names ++ texts ∷ []) k [])) (sym there) (subst (λ (ts : List (List ℕ)). AreShort plan.net ts) (sym text_there) short)

    before : (k : ℕ) → k < length plans → AreShort (slice_index_or (plans ++ plan ∷ []) k no_plan).net (slice_index_or (names ++ texts ∷ []) k [])
    before k inside =
        let there = get_or_append_left plans (plan ∷ []) no_plan k inside in
        let many = is.as_many in
        let text_there = get_or_append_left names (texts ∷ []) [] k (omega (arith, inside, many)) in
        subst (λ (p : PlanParts). AreShort p.net (slice_index_or (names ++ texts ∷ []) k [])) (sym there) (subst (λ (ts : List (List ℕ)). AreShort (slice_index_or plans k no_plan).net ts) (sym text_there) (is.short k inside))

    at : (k : ℕ) → k < length plans + 1 → AreShort (slice_index_or (plans ++ plan ∷ []) k no_plan).net (slice_index_or (names ++ texts ∷ []) k [])
    at k inside = by_cases (nat_lt k (length plans)) refl
      where
        below : nat_lt k (length plans) ≡ true → k < length plans
        below is' = grind arith

        above : nat_lt k (length plans) ≡ false → length plans ≤ k
        above is' = grind arith

        by_cases : (b : Bool) → nat_lt k (length plans) ≡ b → AreShort (slice_index_or (plans ++ plan ∷ []) k no_plan).net (slice_index_or (names ++ texts ∷ []) k [])
        by_cases true is' = before k (below is')
        by_cases false is' = at_last k (let most = above is' in omega (arith, inside, most))

yes_more : (cap : ℕ) (all : List Named) (one : Named) → AreYes cap all → verdict cap one.net ≡ Yes (load_of one.net) → AreYes cap (all ++ one ∷ [])
yes_more cap [] one are yes' = (yes', tt)
yes_more cap (named ∷ rest) one are yes' = (are.0, yes_more cap rest one are.1 yes')

-- what is said of networks after others whose verdicts are yes is what is said of them alone
after_all : (cap : ℕ) (after_yes : Plan) (all rest : List Named) → AreYes cap all → on_verdicts cap after_yes (all ++ rest) ≡ on_verdicts cap after_yes rest
after_all cap after_yes [] rest are = refl
after_all cap after_yes (named ∷ all) rest are =
    ap (λ (v : Verdict). plan_on_verdict cap named.names named.net (on_verdicts cap after_yes (all ++ rest)) v) are.0 ∙ after_all cap after_yes all rest are.1

-- nothing was checked yet
pub begun_none : (cap : ℕ) (begun : Begun) → begun.opening.items ≡ [] → begun.plans.items ≡ [] → begun.names.items ≡ [] → HasBegun cap [] begun
begun_none cap begun opening plans names = record {
  opening = opening;
  files = ap (λ (ps : List PlanParts). the_files ps (the_names begun.names.items)) plans;
  many = ap length plans;
  hosted = record { as_many = ap (λ ns. length (the_names ns)) names ∙ sym (ap length plans); short = λ k inside. absurd (let none = ap length plans in omega (arith, inside, none)) };
  verdicts = tt;
}

-- one more network with the verdict yes
pub begun_more : (cap : ℕ) (all : List Named) (old new : Begun) (net check_net : NetworkParts) (names : List (List ℕ)) (load : ℕ) (plan : PlanParts) → HasBegun cap all old → verdict cap (the_network net) ≡ Yes (load_of (the_network net)) → load ≡ load_of (the_network net) → check_net ≡ net → plan.net ≡ check_net → the_bounds plan.bounds ≡ live_bounds (log_of (the_network check_net)) → new.opening.items ≡ old.opening.items ++ yes_line load → new.plans.items ≡ old.plans.items ++ plan ∷ [] → the_names new.names.items ≡ the_names old.names.items ++ map printed_name names ∷ [] → AreShort plan.net (map printed_name names) → HasBegun cap (all ++ record { names = names; net = the_network net } ∷ []) new
begun_more cap all old new net check_net names load plan so_far yes' load_is same plan_net live opening_is plans_are names_are short =
    let one : Named = record { names = names; net = the_network net } in
    let net_is : the_network plan.net ≡ the_network net = ap the_network (plan_net ∙ same) in
    let bounds_are : the_bounds plan.bounds ≡ live_bounds (log_of (the_network net)) = live ∙ ap (λ (n : NetworkParts). live_bounds (log_of (the_network n))) same in
    record {
      opening =
          opening_is ∙ ap (λ (xs : List ℕ). xs ++ yes_line load) so_far.opening
          ∙ ap (λ (n : ℕ). yes_lines all ++ yes_line n) load_is
          ∙ ap (λ (xs : List ℕ). yes_lines all ++ xs) (sym (nothing_after (yes_line (load_of (the_network net)))))
          ∙ sym (flat_map-append (λ (named : Named). yes_line (load_of named.net)) all (one ∷ []));
      files =
          ap (λ (ps : List PlanParts). the_files ps (the_names new.names.items)) plans_are
          ∙ ap (λ (ns : List (List (List ℕ))). the_files (old.plans.items ++ plan ∷ []) ns) names_are
          ∙ files_more old.plans.items (the_names old.names.items) plan (map printed_name names) so_far.hosted.as_many
          ∙ ap (λ (fs : List File). fs ++ the_planned plan (map printed_name names) ∷ []) so_far.files
          ∙ ap (λ (n : Network). map the_file all ++ record { names = map printed_name names; net = n; bounds = the_bounds plan.bounds } ∷ []) net_is
          ∙ ap (λ (bs : List Bound). map the_file all ++ record { names = map printed_name names; net = the_network net; bounds = bs } ∷ []) bounds_are
          ∙ sym (map-append the_file all (one ∷ []));
      many = let was = so_far.many in let more = length-append old.plans.items (plan ∷ []) in let all_more = length-append all (one ∷ []) in let is = ap length plans_are in omega (arith, was, more, all_more, is);
      hosted = subst (λ (ps : List PlanParts). IsHostSession ps (the_names new.names.items)) (sym plans_are) (subst (λ (ns : List (List (List ℕ))). IsHostSession (old.plans.items ++ plan ∷ []) ns) (sym names_are) (hosted_more old.plans.items (the_names old.names.items) plan (map printed_name names) so_far.hosted short));
      verdicts = yes_more cap all one so_far.verdicts yes';
    }

nothing_more : {A : Type 0} (xs : List A) → xs ++ [] ≡ xs
nothing_more xs = grind (arith, common_steps)

-- where no document is left, all were taken
pub all_taken : (all front left : List NamedNetwork) → all ≡ front ++ left → length left ≡ 0 → all ≡ front
all_taken all front [] is none = is ∙ nothing_more front
all_taken all front (d ∷ ds) is none = absurd (omega (arith, none))

-- where all documents are sound, each is
pub sound_at : (all front later : List NamedNetwork) (document : NamedNetwork) → All IsSoundNetwork all → all ≡ front ++ document ∷ later → IsSoundNetwork document
sound_at all front later document sound is =
    let more = length-append front (document ∷ later) in
    subst IsSoundNetwork (ap (λ (ds : List NamedNetwork). slice_index_or ds (length front) document) is ∙ get_or-append_seam front document later document)
    (sound (length front) document (omega (arith, more, ap length is)))

-- the session after yes of all networks
abbrev pub attending : List Named → Plan
attending all = wanting_session host_wants host_turn host_ending (yes_lines all) (begun_session (map the_file all))

-- a verdict that isn't yes
pub told_at : (cap : ℕ) (all front later : List NamedNetwork) (document : NamedNetwork) (begun : Begun) (said : SaidText) → all ≡ front ++ document ∷ later → HasBegun cap (map the_named front) begun → TellsVerdict cap document.names document.network (Told said) → ComesTo (attended cap (map the_named all)) (says (the_said said))
told_at cap all front later document begun said all_is so_far decided =
    let same : attended cap (map the_named all) ≡ says (the_said said) =
    ap (λ (ns : List Named). on_verdicts cap (attending (map the_named all)) ns) (ap (map the_named) all_is ∙ map-append the_named front (document ∷ later))
    ∙ after_all cap (attending (map the_named all)) (map the_named front) (the_named document ∷ map the_named later) so_far.verdicts
    ∙ ap (λ (o : Option Said). unless_said o (on_verdicts cap (attending (map the_named all)) (map the_named later))) decided in
    subst (λ (p : Plan). ComesTo p (says (the_said said))) (sym same) (record { output = λ live s is. is; talks = λ may. may; fault = λ may taken. refl; stops = λ source said is. is })

-- all verdicts were yes
pub all_begun : {E : Type 0} (cap : ℕ) (all front : List NamedNetwork) (begun : Begun) (r : Result Prepared E) → all ≡ front → HasBegun cap (map the_named front) begun → IfOk r (IsBegin begun) → IfOk r (λ prepared. ComesTo (attended cap (map the_named all)) (the_plan prepared))
all_begun cap all front begun (Err e) all_is so_far is = tt
all_begun cap all front begun (Ok (Says said)) all_is so_far is = absurd is
all_begun cap all front begun (Ok (Runs opening run)) all_is so_far is = absurd is
all_begun cap all front begun (Ok (Edits editing)) all_is so_far is = absurd is
all_begun cap all front begun (Ok (Follows opening session')) all_is so_far is = absurd is
all_begun cap all front begun (Ok (Hosts opening hosted)) all_is so_far is =
    let named : List Named = map the_named front in
    let same : attended cap (map the_named all) ≡ wanting_session host_wants host_turn host_ending opening.items (the_host_session hosted) =
    ap (λ (ds : List NamedNetwork). attended cap (map the_named ds)) all_is
    ∙ ap (λ (ns : List Named). on_verdicts cap (attending named) ns) (sym (nothing_more named))
    ∙ after_all cap (attending named) named [] so_far.verdicts
    ∙ ap (λ (o : List ℕ). wanting_session host_wants host_turn host_ending o (begun_session (map the_file named))) (sym (ap (λ (v : Vec ℕ Global). v.items) is.0 ∙ so_far.opening))
    ∙ ap (λ (w : HostSession). wanting_session host_wants host_turn host_ending opening.items w) (sym (is.1 ∙ ap begun_session so_far.files)) in
    subst (λ (p : Plan). ComesTo p (wanting_session host_wants host_turn host_ending opening.items (the_host_session hosted))) (sym same) (record { output = λ live s is. is; talks = λ may. may; fault = λ may taken. refl; stops = λ source said is. is })

-- the lines that say yes are whole lines
yes_ends : (all : List Named) → EndsLine (yes_lines all)
yes_ends [] = inl refl
yes_ends (first ∷ rest) = at (yes_ends rest)
  where
    at : EndsLine (yes_lines rest) → EndsLine (yes_line (load_of first.net) ++ yes_lines rest)
    at (inl none) = inr (codes "yes " ++ decimal (load_of first.net), ap (λ (xs : List ℕ). yes_line (load_of first.net) ++ xs) none ∙ nothing_after (yes_line (load_of first.net)))
    at (inr (front, is)) = inr (yes_line (load_of first.net) ++ front, ap (λ (xs : List ℕ). yes_line (load_of first.net) ++ xs) is ∙ sym (append_assoc (yes_line (load_of first.net)) front (10 ∷ [])))

pub opening_ends : {E : Type 0} (cap : ℕ) (all : List Named) (begun : Begun) (r : Result Prepared E) → HasBegun cap all begun → IfOk r (IsBegin begun) → IfOk r (FitsKind a_host)
opening_ends cap all begun (Err e) so_far is = tt
opening_ends cap all begun (Ok (Says said)) so_far is = absurd is
opening_ends cap all begun (Ok (Runs opening run)) so_far is = absurd is
opening_ends cap all begun (Ok (Edits editing)) so_far is = absurd is
opening_ends cap all begun (Ok (Follows opening session')) so_far is = absurd is
opening_ends cap all begun (Ok (Hosts opening hosted)) so_far is = (subst EndsLine (sym (ap (λ (v : Vec ℕ Global). v.items) is.0 ∙ so_far.opening)) (yes_ends all), refl)
