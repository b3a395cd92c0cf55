-- What is said where it is asked why, and the names of what is left.
use Rattle.std.proofs.Common.{ℕ, suc, ◌≡◌, ◌+◌, ◌≤◌, Bool, true, false, List, [], ◌∷◌, ◌++◌, Option, length, arith, refl, ap, sym, ◌∙◌}
use Rattle.std.specs.Prelude.{map, nat_lt, if◌then◌else◌, codes}
use Rattle.std.proofs.lemmas.List.{map-append, length-append, length-map}
use Rattle.cstn_net.specs.Networks.{Network, count}
use Rattle.cstn_rules.specs.Derivations.{Entry}
use Rattle.cstn_log.specs.Cuts.{last_with_ancestors}
use Rattle.cstn_refute.specs.Texts.{refutation_shown}
use Rattle.cstn_reply.specs.Texts.{line, full_line}
use Rattle.cstn_lift.specs.Labelled.{Labelled}
use Rattle.cstn_lift.specs.Lowered.{lowered}
use Rattle.cstn_check.specs.Growth.{is_refuted, log_of, load_of}
use Rattle.cstn_check.specs.Decisions.{verdict}
use Rattle.cstn_check.specs.declared.verdicts.Verdict.{Verdict}
use Rattle.cstn_check.specs.declared.verdicts.Verdict.TheVariants.{Yes, No, Full}
use Rattle.cstn_history.specs.Histories.{History}
use Rattle.cstn_history.specs.Rest.{is_left, left, left_upto, sight_left}
use Rattle.cstn_history.proofs.Lists.{passing_next}
use Rattle.cstn_follow.specs.Following.{Following, says, left_now, name_of_point, names_left, verdict_now, verdict_line}
use Rattle.cstn_follow.specs.Blame.{ids_to_blame}
use Rattle.cstn_follow.specs.Questions.{tells, tells_verdict, check_after, on_check}
use Rattle.cstn_follow.specs.Searches.{blame_line, blame_after, on_blame}

-- the name of the next time-point, where it is left
pub names_turn : (m : Labelled) (h : History) (names old new : List (List ℕ)) (x : ℕ) (b : Bool) → old ≡ map (name_of_point names) (left_upto m h x)
    → b ≡ is_left m h x → new ≡ old ++ (if b then name_of_point names x ∷ [] else []) → new ≡ map (name_of_point names) (left_upto m h (x + 1))
names_turn m h names old new x b so_far test is =
    let next : x + 1 ≡ suc x = omega arith in
    is ∙ ap (λ l. l ++ (if b then name_of_point names x ∷ [] else [])) so_far ∙ ap (λ l. map (name_of_point names) (left_upto m h x) ++ l) (one b)
    ∙ sym (map-append (name_of_point names) (left_upto m h x) (if b then x ∷ [] else []))
    ∙ ap (λ t. map (name_of_point names) (left_upto m h x ++ (if t then x ∷ [] else []))) test
    ∙ ap (map (name_of_point names)) (sym (passing_next (is_left m h) x) ∙ ap (left_upto m h) (sym next))
  where
    one : (t : Bool) → (if t then name_of_point names x ∷ [] else []) ≡ map (name_of_point names) (if t then x ∷ [] else [])
    one true = refl
    one false = refl

-- they are one more at most
pub names_few : (old new : List (List ℕ)) (name : List ℕ) (x : ℕ) (b : Bool) → length old ≤ x → new ≡ old ++ (if b then name ∷ [] else [])
    → length new ≤ x + 1
names_few old new name x b few is =
    let long = ap length is ∙ length-append old (if b then name ∷ [] else []) in
    let one = one_more b in
    omega arith
  where
    one_more : (t : Bool) → length (if t then name ∷ [] else []) ≤ 1
    one_more true = omega arith
    one_more false = omega arith

-- each time-point that is left has a name
pub names_long : (s : Following) → length (names_left s) ≡ count (left_now s).base
names_long s = length-map (left s.network s.history) (name_of_point s.names) ∙ sym (length-map (left s.network s.history) (sight_left s.network s.history))

-- after a no the load is that of the network
pub no_load : (cap load : ℕ) (net : Network) → verdict cap net ≡ No load → load ≡ load_of net
no_load cap load net is = by_tests (nat_lt cap (load_of net)) (is_refuted net (log_of net)) is
  where
    by_tests : (a b : Bool) → (if a then Full else if b then No (load_of net) else Yes (load_of net)) ≡ No load → load ≡ load_of net
    by_tests true b here = absurd (cc)
    by_tests false true here = cc
    by_tests false false here = absurd (cc)

-- the text of the refutation and `end` are what is said after a no
pub check_said : (s : Following) (load l : ℕ) (names : List (List ℕ)) (steps : List Entry) (text : List ℕ) → verdict_now s ≡ No load
    → names ≡ names_left s → l ≡ load_of (lowered (left_now s)) → steps ≡ last_with_ancestors (log_of (lowered (left_now s)))
    → text ≡ refutation_shown names l steps ++ line (codes "end") → on_check s ≡ says text s
check_said s load l names steps text refuted named long taken is =
    let same : load ≡ l = no_load s.cap load (lowered (left_now s)) refuted ∙ sym long in
    ap (check_after s) refuted
    ∙ ap (λ t. says t s) (ap (λ n. refutation_shown (names_left s) n (last_with_ancestors (log_of (lowered (left_now s)))) ++ line (codes "end")) same
    ∙ ap (λ n. refutation_shown n l (last_with_ancestors (log_of (lowered (left_now s)))) ++ line (codes "end")) (sym named)
    ∙ ap (λ es. refutation_shown names l es ++ line (codes "end")) (sym taken) ∙ sym is)

-- without a no the line of the verdict is said
pub other_said : (s : Following) (text : List ℕ) (v : Verdict) → verdict_now s ≡ v → ((load : ℕ) → v ≡ No load → ⊥) → tells_verdict s ≡ says text s
    → on_check s ≡ says text s
other_said s text (Yes load) is never told = ap (check_after s) is ∙ told
other_said s text (No load) is never told = absurd (never load refl)
other_said s text Full is never told = ap (check_after s) is ∙ told

-- after a no it is told which constraints are to blame, or a log that was tried is full
pub blame_told : (s : Following) (text : List ℕ) (load : ℕ) (o : Option (List ℕ)) → verdict_now s ≡ No load → ids_to_blame s.network s.history s.fresh s.cap ≡ o
    → text ≡ blame_line s.cap o → on_blame s ≡ says text s
blame_told s text load o bad found said = ap (blame_after s) bad ∙ ap (λ p. tells s (blame_line s.cap p)) found ∙ ap (λ l. says l s) (sym said)

-- and the line of the verdict else
pub blame_other : (s : Following) (text : List ℕ) (load : ℕ) → verdict_now s ≡ Yes load → tells_verdict s ≡ says text s → on_blame s ≡ says text s
blame_other s text load is told = ap (blame_after s) is ∙ told

pub blame_full : (s : Following) (text : List ℕ) → verdict_now s ≡ Full → text ≡ full_line s.cap → on_blame s ≡ says text s
blame_full s text is said = ap (blame_after s) is ∙ ap (λ v. tells s (verdict_line s.cap v)) is ∙ ap (λ t. says t s) (sym said)
