-- Reading the rest of an element from the left, one token at a time.
use Rattle.std.proofs.Common.{◌≡◌, ℕ, List, ◌∷◌, refl, ap, sym, ◌∙◌, Ok, Err, true, false, ◌<◌, length, Bool, subst, lt-ltb}
use Rattle.cstn_markup.specs.Tokens.{Attribute, Token}
use Rattle.cstn_markup.specs.Tokens.Kind.{start_tag, text_run}
use Rattle.cstn_markup.specs.Steps.{StepsBy}
use Rattle.cstn_element.specs.Results.{◌>>=◌}
use Rattle.cstn_element.specs.Results.Refusal.{shape}
use Rattle.cstn_element.specs.Contents.{Tag, Content, contents, inner, outer, all_cut, opened, tag_of}
use Rattle.std.specs.Prelude.{nat_lt}
use Rattle.cstn_element.specs.Contents.Content.{done}
use Rattle.cstn_element.specs.Elements.{Reading, read_by}
use Rattle.cstn_element.specs.Reads.{Reads, ReadsFurther, Fails, inside, behind}
use Rattle.cstn_element.specs.declared.errors.DocError.{DocError}
use Rattle.cstn_element.specs.declared.errors.DocError.TheVariants.{Shape}
use Rattle.cstn_element.proofs.Places.{run_is, closed_is, open_is, opens_by}
use Rattle.cstn_element.proofs.PassedOver.{fails_through}

module _ {S A X : Type 0} (r : Reading S A) (start : S) (view : X → A) where
  -- a token that isn't allowed has the element refused at its place
  pub fold_cut : (s : S) (name : List ℕ) (others : List (List ℕ)) (at : ℕ) (first before after : List Token) → ReadsFurther (read_by r start) (read_by r s) (name ∷ others) first before
      → contents (name ∷ others) before ≡ all_cut (name ∷ others) at → Reads view (read_by r start) name others first after (Err (Shape at))
  unfolding read_by
  fold_cut s name others at first before after c e = record { told = c.told ∙ ap (λ cs. read_by r s (inner cs)) e; left = tt }

  -- at the end, the answer for the element is what its end makes of the state
  pub fold_end : (s : S) (x : X) (name : List ℕ) (others : List (List ℕ)) (at : ℕ) (first before after : List Token) → ReadsFurther (read_by r start) (read_by r s) (name ∷ others) first before
      → contents (name ∷ others) before ≡ done at ∷ contents others after → r.ends s at ≡ Ok (view x) → Reads view (read_by r start) name others first after (Ok x)
  unfolding read_by
  fold_end s x name others at first before after c e d = record { told = c.told ∙ ap (λ cs. read_by r s (inner cs)) e ∙ d; left = c.left ∙ ap outer e }

  pub fold_run : (s t : S) (names : List (List ℕ)) (at : ℕ) (raw : List ℕ) (first before after : List Token) → ReadsFurther (read_by r start) (read_by r s) names first before
      → StepsBy (text_run raw) (record { at = at; kind = text_run raw }) before after → r.runs s at raw ≡ Ok t → ReadsFurther (read_by r start) (read_by r t) names first after
  unfolding read_by
  fold_run s t names at raw first before after c h d =
      let e = run_is names at raw before after h in
      record { told = c.told ∙ ap (λ cs. read_by r s (inner cs)) e ∙ ap (λ o. o >>= λ u. read_by r u (inner (contents names after))) d; left = c.left ∙ ap outer e }

  pub fold_run_fails : (s : S) (e : DocError) (name : List ℕ) (others : List (List ℕ)) (at : ℕ) (raw : List ℕ) (first before after : List Token) → ReadsFurther (read_by r start) (read_by r s) (name ∷ others) first before
      → StepsBy (text_run raw) (record { at = at; kind = text_run raw }) before after → Fails e (r.runs s at raw) → Reads view (read_by r start) name others first after (Err e)
  unfolding read_by
  fold_run_fails s e name others at raw first before after c h d =
      let is = run_is (name ∷ others) at raw before after h in
      record { told = subst (Fails e) (sym (c.told ∙ ap (λ cs. read_by r s (inner cs)) is)) (fails_through e (r.runs s at raw) (λ u. read_by r u (inner (contents (name ∷ others) after))) d); left = tt }

  -- behind an element that is closed at once, the reading goes on in the state that the element made
  pub fold_closed : (s t : S) (names : List (List ℕ)) (at : ℕ) (name : List ℕ) (attributes : List Attribute) (closed : Bool) (first before after : List Token) → ReadsFurther (read_by r start) (read_by r s) names first before
      → StepsBy (start_tag name attributes closed) (record { at = at; kind = start_tag name attributes closed }) before after → length names < 32 → closed ≡ true
      → r.elements s (tag_of at name attributes) (done at) ≡ Ok t → ReadsFurther (read_by r start) (read_by r t) names first after
  unfolding read_by
  fold_closed s t names at name attributes closed first before after c h d q m =
      let e = closed_is names at name attributes closed before after h d q in
      record { told = c.told ∙ ap (λ cs. read_by r s (inner cs)) e ∙ ap (λ o. o >>= λ u. read_by r u (inner (contents names after))) m; left = c.left ∙ ap outer e }

  -- behind an element that was read to its end, the reading goes on in the state that the element made
  pub fold_open : (s t : S) (names : List (List ℕ)) (at : ℕ) (name : List ℕ) (attributes : List Attribute) (closed : Bool) (first before after later : List Token) → ReadsFurther (read_by r start) (read_by r s) names first before
      → StepsBy (start_tag name attributes closed) (record { at = at; kind = start_tag name attributes closed }) before after → length names < 32 → closed ≡ false
      → r.elements s (tag_of at name attributes) (inner (contents (name ∷ names) after)) ≡ Ok t → outer (contents (name ∷ names) after) ≡ contents names later → ReadsFurther (read_by r start) (read_by r t) names first later
  unfolding read_by
  fold_open s t names at name attributes closed first before after later c h d q m l =
      let e = open_is names at name attributes closed before after h d q in
      record {
        told = c.told ∙ ap (λ cs. read_by r s (inner cs)) e ∙ ap (λ o. o >>= λ u. read_by r u (inner (outer (contents (name ∷ names) after)))) m ∙ ap (λ cs. read_by r t (inner cs)) l;
        left = c.left ∙ ap outer e ∙ ap outer l;
      }

  pub fold_open_fails : (s : S) (e : DocError) (name child : List ℕ) (others : List (List ℕ)) (at : ℕ) (attributes : List Attribute) (closed : Bool) (first before after later : List Token) → ReadsFurther (read_by r start) (read_by r s) (name ∷ others) first before
      → StepsBy (start_tag child attributes closed) (record { at = at; kind = start_tag child attributes closed }) before after → length (name ∷ others) < 32 → closed ≡ false
      → Fails e (r.elements s (tag_of at child attributes) (inner (contents (child ∷ (name ∷ others)) after))) → Reads view (read_by r start) name others first later (Err e)
  unfolding read_by
  fold_open_fails s e name child others at attributes closed first before after later c h d q m =
      let is = open_is (name ∷ others) at child attributes closed before after h d q in
      record { told = subst (Fails e) (sym (c.told ∙ ap (λ cs. read_by r s (inner cs)) is)) (fails_through e _ (λ u. read_by r u (inner (outer (contents (child ∷ (name ∷ others)) after)))) m); left = tt }

-- an element is refused where none may stand
module _ {S A X : Type 0} (r : Reading S A) (start : S) (view : X → A) where
  refused_by : (b q : Bool) (s : S) (names : List (List ℕ)) (tag : Tag) (later : List (List ℕ) → List Content) → ((inside : Content) → r.elements s tag inside ≡ Err (shape tag.at)) → read_by r s (inner (opened b q names tag later)) ≡ Err (shape tag.at)
  unfolding read_by
  refused_by true true s names tag later h = ap (λ o. o >>= λ u. read_by r u (inner (later names))) (h (done tag.at))
  refused_by true false s names tag later h = ap (λ o. o >>= λ u. read_by r u (inner (outer (later (tag.name ∷ names))))) (h (inner (later (tag.name ∷ names))))
  refused_by false q s names tag later h = refl

  pub fold_refused : (s : S) (name child : List ℕ) (others : List (List ℕ)) (at : ℕ) (attributes : List Attribute) (closed : Bool) (first before after : List Token) → ReadsFurther (read_by r start) (read_by r s) (name ∷ others) first before
      → StepsBy (start_tag child attributes closed) (record { at = at; kind = start_tag child attributes closed }) before after
      → ((inside : Content) → r.elements s (tag_of at child attributes) inside ≡ Err (shape at)) → Reads view (read_by r start) name others first after (Err (Shape at))
  fold_refused s name child others at attributes closed first before after c h m = record {
    told = c.told ∙ ap (λ cs. read_by r s (inner cs)) (opens_by (name ∷ others) at child attributes closed before after h) ∙ refused_by (nat_lt (length (name ∷ others)) 32) closed s (name ∷ others) (tag_of at child attributes) (λ o. contents o after) m;
    left = tt;
  }

-- the reading goes on behind an element, closed at once or not
module _ {S A : Type 0} (r : Reading S A) (start : S) where
  whole_by : (q : Bool) (s t : S) (names : List (List ℕ)) (at : ℕ) (name : List ℕ) (attributes : List Attribute) (closed : Bool) (first before after later : List Token) → closed ≡ q → ReadsFurther (read_by r start) (read_by r s) names first before
      → StepsBy (start_tag name attributes closed) (record { at = at; kind = start_tag name attributes closed }) before after → length names < 32
      → r.elements s (tag_of at name attributes) (inside q at name names after) ≡ Ok t → behind q name names after ≡ contents names later → ReadsFurther (read_by r start) (read_by r t) names first later
  whole_by true s t names at name attributes closed first before after later e c h d m l =
      let k = fold_closed r start (λ (a : A). a) s t names at name attributes closed first before after c h d e m in
      record { told = k.told ∙ ap (λ cs. read_by r t (inner cs)) l; left = k.left ∙ ap outer l }
  whole_by false s t names at name attributes closed first before after later e c h d m l = fold_open r start (λ (a : A). a) s t names at name attributes closed first before after later c h d e m l

  pub fold_whole : (s t : S) (names : List (List ℕ)) (at : ℕ) (name : List ℕ) (attributes : List Attribute) (closed : Bool) (first before after later : List Token) → ReadsFurther (read_by r start) (read_by r s) names first before
      → StepsBy (start_tag name attributes closed) (record { at = at; kind = start_tag name attributes closed }) before after → length names < 32
      → r.elements s (tag_of at name attributes) (inside closed at name names after) ≡ Ok t → behind closed name names after ≡ contents names later → ReadsFurther (read_by r start) (read_by r t) names first later
  fold_whole s t names at name attributes closed first before after later c h d m l = whole_by closed s t names at name attributes closed first before after later refl c h d m l

-- an element that was refused, closed at once or not, has the element around it refused
module _ {S A X : Type 0} (r : Reading S A) (start : S) (view : X → A) where
  pub element_fails : (q : Bool) (s : S) (e : DocError) (names : List (List ℕ)) (at : ℕ) (name : List ℕ) (attributes : List Attribute) (after : List Token) → Fails e (r.elements s (tag_of at name attributes) (inside q at name names after))
      → Fails e (read_by r s (inner (opened true q names (tag_of at name attributes) (λ o. contents o after))))
  unfolding read_by
  element_fails true s e names at name attributes after f = fails_through e _ (λ u. read_by r u (inner (contents names after))) f
  element_fails false s e names at name attributes after f = fails_through e _ (λ u. read_by r u (inner (outer (contents (name ∷ names) after)))) f

  pub fold_whole_fails : (s : S) (e : DocError) (name child : List ℕ) (others : List (List ℕ)) (at : ℕ) (attributes : List Attribute) (closed : Bool) (first before after later : List Token) → ReadsFurther (read_by r start) (read_by r s) (name ∷ others) first before
      → StepsBy (start_tag child attributes closed) (record { at = at; kind = start_tag child attributes closed }) before after → length (name ∷ others) < 32
      → Fails e (r.elements s (tag_of at child attributes) (inside closed at child (name ∷ others) after)) → Reads view (read_by r start) name others first later (Err e)
  fold_whole_fails s e name child others at attributes closed first before after later c h d f =
      let is = c.told ∙ ap (λ cs. read_by r s (inner cs)) (opens_by (name ∷ others) at child attributes closed before after h ∙ ap (λ b. opened b closed (name ∷ others) (tag_of at child attributes) (λ o. contents o after)) (lt-ltb (length (name ∷ others)) 32 d)) in
      record { told = subst (Fails e) (sym is) (element_fails closed s e (name ∷ others) at child attributes after f); left = tt }
