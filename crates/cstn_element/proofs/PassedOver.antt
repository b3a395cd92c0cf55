-- Passing over, one token at a time.
use Rattle.std.proofs.Common.{◌≡◌, ℕ, List, [], ◌∷◌, ◌++◌, refl, ap, sym, ◌∙◌, Ok, Err, Result, true, false, ◌<◌, length, Bool, arith, subst}
use Rattle.std.specs.Prelude.{◌==◌}
use Rattle.cstn_markup.specs.Bytes.{is_same}
use Rattle.cstn_markup.specs.Tokens.{Attribute, Token}
use Rattle.cstn_markup.specs.Tokens.Kind.{start_tag, end_tag, text_run, finish}
use Rattle.cstn_markup.specs.Steps.{StepsBy}
use Rattle.cstn_element.specs.Results.{Refusal, ◌>>=◌}
use Rattle.cstn_element.specs.Contents.{Content, contents, inner, outer, all_cut}
use Rattle.cstn_element.specs.Elements.{passed}
use Rattle.cstn_element.specs.Passing.{all_passed, around_all, Passes}
use Rattle.cstn_element.specs.Reads.{Reads, Fails}
use Rattle.cstn_element.specs.declared.errors.DocError.{DocError}
use Rattle.cstn_element.specs.declared.errors.DocError.TheVariants.{NotUtf8, Shape, NameTwice, UnknownNode, Value, LabelText, Contingent, EdgeType, NoDeadline, Net, Lift, Memory}
use Rattle.cstn_element.proofs.Places.{run_is, closed_is, open_is, ended_is, misnamed_is, unfinished_is}

then_nothing : (r : Result (Unit {0}) Refusal) → r ≡ (r >>= λ done_inside. Ok tt)
then_nothing (Ok u) = refl
then_nothing (Err e) = refl

regroup : (a b c : Result (Unit {0}) Refusal) → ((a >>= λ x. b) >>= λ y. c) ≡ (a >>= λ x. (b >>= λ y. c))
regroup (Ok u) b c = refl
regroup (Err e) b c = refl

-- at the start, only the element itself is open
pub passes_from : (name : List ℕ) (open_names others : List (List ℕ)) (start : List Token) → open_names ≡ name ∷ [] → Passes name open_names others start start
unfolding all_passed around_all
passes_from name open_names others start e = rw e (record { told = then_nothing (passed (inner (contents (name ∷ others) start))); left = refl })

-- a token that isn't allowed has the element refused at its place
pub passes_cut : (name : List ℕ) (open_names others : List (List ℕ)) (at : ℕ) (start before after : List Token) → 0 < length open_names → Passes name open_names others start before
    → contents (open_names ++ others) before ≡ all_cut (open_names ++ others) at → Reads {A = Unit {0}} (λ u. u) passed name others start after (Err (Shape at))
unfolding passed all_passed
passes_cut name [] others at start before after some c e = absurd (omega arith)
passes_cut name (last ∷ names) others at start before after some c e = record { told = c.told ∙ ap (all_passed (last ∷ names)) e; left = tt }

pub passes_unfinished : (name : List ℕ) (open_names others : List (List ℕ)) (at : ℕ) (start before after : List Token) → 0 < length open_names → Passes name open_names others start before
    → StepsBy finish (record { at = at; kind = finish }) before after → Reads {A = Unit {0}} (λ u. u) passed name others start after (Err (Shape at))
passes_unfinished name [] others at start before after some c h = absurd (omega arith)
passes_unfinished name (last ∷ names) others at start before after some c h = passes_cut name (last ∷ names) others at start before after some c (unfinished_is last (names ++ others) at before after h)

-- an end tag closes the innermost element where it has that one's name, and is refused otherwise
pub passes_end : (name last tag : List ℕ) (open_names names others : List (List ℕ)) (at : ℕ) (start before after : List Token) → open_names ≡ last ∷ names → Passes name open_names others start before
    → StepsBy (end_tag tag) (record { at = at; kind = end_tag tag }) before after → true ≡ is_same tag last → Passes name names others start after
unfolding passed all_passed around_all
passes_end name last tag open_names names others at start before after is c h same =
    let p : Passes name (last ∷ names) others start before = subst (λ ns. Passes name ns others start before) is c in
    let e = ended_is last tag (names ++ others) at before after h same in
    record { told = p.told ∙ ap (all_passed (last ∷ names)) e; left = p.left ∙ ap (around_all (last ∷ names)) e }

pub passes_misnamed : (name last tag : List ℕ) (open_names names others : List (List ℕ)) (at : ℕ) (start before after : List Token) → open_names ≡ last ∷ names → Passes name open_names others start before
    → StepsBy (end_tag tag) (record { at = at; kind = end_tag tag }) before after → false ≡ is_same tag last → Reads {A = Unit {0}} (λ u. u) passed name others start after (Err (Shape at))
passes_misnamed name last tag open_names names others at start before after is c h other =
    passes_cut name (last ∷ names) others at start before after (omega arith) (subst (λ ns. Passes name ns others start before) is c) (misnamed_is last tag (names ++ others) at before after h other)

pub passes_run : (name : List ℕ) (open_names others : List (List ℕ)) (at : ℕ) (raw : List ℕ) (start before after : List Token) → 0 < length open_names → Passes name open_names others start before
    → StepsBy (text_run raw) (record { at = at; kind = text_run raw }) before after → Passes name open_names others start after
unfolding passed all_passed around_all
passes_run name [] others at raw start before after some c h = absurd (omega arith)
passes_run name (last ∷ names) others at raw start before after some c h =
    let e = run_is (last ∷ (names ++ others)) at raw before after h in
    record { told = c.told ∙ ap (all_passed (last ∷ names)) e; left = c.left ∙ ap (around_all (last ∷ names)) e }

pub passes_closed : (name : List ℕ) (open_names others : List (List ℕ)) (at : ℕ) (child : List ℕ) (attributes : List Attribute) (closed : Bool) (start before after : List Token) → 0 < length open_names → Passes name open_names others start before
    → StepsBy (start_tag child attributes closed) (record { at = at; kind = start_tag child attributes closed }) before after → length (open_names ++ others) < 32 → closed ≡ true → Passes name open_names others start after
unfolding passed all_passed around_all
passes_closed name [] others at child attributes closed start before after some c h d t = absurd (omega arith)
passes_closed name (last ∷ names) others at child attributes closed start before after some c h d t =
    let e = closed_is (last ∷ (names ++ others)) at child attributes closed before after h d t in
    record { told = c.told ∙ ap (all_passed (last ∷ names)) e; left = c.left ∙ ap (around_all (last ∷ names)) e }

pub passes_open : (name : List ℕ) (open_names new others : List (List ℕ)) (at : ℕ) (child : List ℕ) (attributes : List Attribute) (closed : Bool) (start before after : List Token) → 0 < length open_names → Passes name open_names others start before
    → StepsBy (start_tag child attributes closed) (record { at = at; kind = start_tag child attributes closed }) before after → length (open_names ++ others) < 32 → closed ≡ false → new ≡ child ∷ open_names → Passes name new others start after
unfolding passed all_passed around_all
passes_open name [] new others at child attributes closed start before after some c h d t is = absurd (omega arith)
passes_open name (last ∷ names) new others at child attributes closed start before after some c h d t is =
    let later : List Content = contents (child ∷ (last ∷ (names ++ others))) after in
    let e = open_is (last ∷ (names ++ others)) at child attributes closed before after h d t in
    subst (λ ns. Passes name ns others start after) (sym is) (record {
      told = c.told ∙ ap (all_passed (last ∷ names)) e ∙ regroup (passed (inner later)) (passed (inner (outer later))) (all_passed names (outer (outer later)));
      left = c.left ∙ ap (around_all (last ∷ names)) e;
    })

-- where no element is open any more, the element was passed over to its end
pub passes_all : (name : List ℕ) (open_names others : List (List ℕ)) (start after : List Token) → length open_names ≡ 0 → Passes name open_names others start after → Reads {A = Unit {0}} (λ u. u) passed name others start after (Ok tt)
unfolding all_passed around_all
passes_all name [] others start after none c = record { told = c.told; left = c.left }
passes_all name (last ∷ names) others start after none c = absurd (omega arith)

pub some_open : (n : ℕ) (none : Bool) → none ≡ (n == 0) → none ≡ false → 0 < n
some_open n none is h = grind arith

pub none_open : (n : ℕ) (none : Bool) → none ≡ (n == 0) → none ≡ true → n ≡ 0
none_open n none is h = grind arith

pub fails_through : {A B : Type 0} (e : DocError) (told : Result A Refusal) (f : A → Result B Refusal) → Fails e told → Fails e (told >>= f)
fails_through (NotUtf8 at) told f h = rw h refl
fails_through (Shape at) told f h = rw h refl
fails_through (NameTwice at) told f h = rw h refl
fails_through (UnknownNode at) told f h = rw h refl
fails_through (Value at) told f h = rw h refl
fails_through (LabelText at) told f h = rw h refl
fails_through (Contingent at) told f h = rw h refl
fails_through (EdgeType at) told f h = rw h refl
fails_through NoDeadline told f h = rw h refl
fails_through (Net error names) told f h = absurd h
fails_through (Lift error names) told f h = absurd h
fails_through (Memory e) told f h = tt
