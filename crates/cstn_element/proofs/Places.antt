-- The contents left at a token, by its kind.
use Rattle.std.proofs.Common.{◌≡◌, ℕ, ◌<◌, ◌≤◌, Bool, true, false, List, [], ◌∷◌, length, refl, ap, sym, ◌∙◌, subst, le-ltb, lt-ltb}
use Rattle.std.specs.Prelude.{nat_lt}
use Rattle.cstn_markup.specs.Bytes.{is_same}
use Rattle.cstn_markup.specs.Tokens.{Attribute, Token}
use Rattle.cstn_markup.specs.Tokens.Kind.{start_tag, end_tag, text_run, wrong, finish}
use Rattle.cstn_markup.specs.Steps.{Steps, StepsBy}
use Rattle.cstn_markup.specs.Seen.{token_kind, token_of}
use Rattle.cstn_markup.specs.declared.token.Token.{Token as LentToken}
use Rattle.cstn_markup.specs.declared.token.Kind.{Kind as Lent}
use Rattle.cstn_element.specs.Contents.{tag_of, contents, contents_by, all_cut, with_run, with_closed, with_element, opened, closed_by}
use Rattle.cstn_element.specs.Contents.Content.{done}

-- what a step left, by the kind of the token that it gave
pub step_of : (t : LentToken) (k : Lent) (before after : List Token) → Steps (token_of t) before after → t.kind ≡ k → StepsBy (token_kind k) (record { at = t.at; kind = token_kind k }) before after
step_of t k before after h e = subst (λ q. StepsBy (token_kind q) (record { at = t.at; kind = token_kind q }) before after) e h

pub first_is : (names : List (List ℕ)) (t : Token) (before after : List Token) → before ≡ t ∷ after → contents names before ≡ contents_by names t.at t.kind (λ others. contents others after)
unfolding contents
first_is names t before after e = rw e refl

pub run_is : (names : List (List ℕ)) (at : ℕ) (raw : List ℕ) (before after : List Token) → StepsBy (text_run raw) (record { at = at; kind = text_run raw }) before after → contents names before ≡ with_run at raw (contents names after)
run_is [] at raw before after h = first_is [] _ before after h
run_is (n ∷ names) at raw before after h = first_is (n ∷ names) _ before after h

pub ended_is : (name last : List ℕ) (others : List (List ℕ)) (at : ℕ) (before after : List Token) → StepsBy (end_tag last) (record { at = at; kind = end_tag last }) before after → true ≡ is_same last name
    → contents (name ∷ others) before ≡ done at ∷ contents others after
ended_is name last others at before after h e = first_is (name ∷ others) _ before after h ∙ ap (λ b. closed_by b others name at (λ o. contents o after)) (sym e)

pub misnamed_is : (name last : List ℕ) (others : List (List ℕ)) (at : ℕ) (before after : List Token) → StepsBy (end_tag last) (record { at = at; kind = end_tag last }) before after → false ≡ is_same last name
    → contents (name ∷ others) before ≡ all_cut (name ∷ others) at
misnamed_is name last others at before after h e = first_is (name ∷ others) _ before after h ∙ ap (λ b. closed_by b others name at (λ o. contents o after)) (sym e)

pub wrong_is : (names : List (List ℕ)) (at : ℕ) (before after : List Token) → StepsBy wrong (record { at = at; kind = wrong }) before after → contents names before ≡ all_cut names at
wrong_is [] at before after h = first_is [] _ before [] h.0
wrong_is (n ∷ names) at before after h = first_is (n ∷ names) _ before [] h.0

pub unfinished_is : (name : List ℕ) (others : List (List ℕ)) (at : ℕ) (before after : List Token) → StepsBy finish (record { at = at; kind = finish }) before after → contents (name ∷ others) before ≡ all_cut (name ∷ others) at
unfinished_is name others at before after h = first_is (name ∷ others) _ before [] h.0

pub opens_by : (names : List (List ℕ)) (at : ℕ) (name : List ℕ) (attributes : List Attribute) (closed : Bool) (before after : List Token) → StepsBy (start_tag name attributes closed) (record { at = at; kind = start_tag name attributes closed }) before after
    → contents names before ≡ opened (nat_lt (length names) 32) closed names (tag_of at name attributes) (λ others. contents others after)
opens_by [] at name attributes closed before after h = first_is [] _ before after h
opens_by (n ∷ names) at name attributes closed before after h = first_is (n ∷ names) _ before after h

pub deep_is : (names : List (List ℕ)) (at : ℕ) (name : List ℕ) (attributes : List Attribute) (closed : Bool) (before after : List Token) → StepsBy (start_tag name attributes closed) (record { at = at; kind = start_tag name attributes closed }) before after
    → 32 ≤ length names → contents names before ≡ all_cut names at
deep_is names at name attributes closed before after h d = opens_by names at name attributes closed before after h ∙ ap (λ b. opened b closed names (tag_of at name attributes) (λ o. contents o after)) (le-ltb (length names) 32 d)

pub closed_is : (names : List (List ℕ)) (at : ℕ) (name : List ℕ) (attributes : List Attribute) (closed : Bool) (before after : List Token) → StepsBy (start_tag name attributes closed) (record { at = at; kind = start_tag name attributes closed }) before after
    → length names < 32 → closed ≡ true → contents names before ≡ with_closed (tag_of at name attributes) (contents names after)
closed_is names at name attributes closed before after h d c = opens_by names at name attributes closed before after h ∙ ap (λ b. opened b closed names (tag_of at name attributes) (λ o. contents o after)) (lt-ltb (length names) 32 d)
    ∙ ap (λ b. opened true b names (tag_of at name attributes) (λ o. contents o after)) c

pub open_is : (names : List (List ℕ)) (at : ℕ) (name : List ℕ) (attributes : List Attribute) (closed : Bool) (before after : List Token) → StepsBy (start_tag name attributes closed) (record { at = at; kind = start_tag name attributes closed }) before after
    → length names < 32 → closed ≡ false → contents names before ≡ with_element (tag_of at name attributes) (contents (name ∷ names) after)
open_is names at name attributes closed before after h d c = opens_by names at name attributes closed before after h ∙ ap (λ b. opened b closed names (tag_of at name attributes) (λ o. contents o after)) (lt-ltb (length names) 32 d)
    ∙ ap (λ b. opened true b names (tag_of at name attributes) (λ o. contents o after)) c
