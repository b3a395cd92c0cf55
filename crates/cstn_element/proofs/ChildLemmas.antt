-- Reading what stands in an element, one element at a time.
use Rattle.std.proofs.Common.{◌≡◌, ℕ, List, ◌∷◌, refl, ap, sym, ◌∙◌, Ok, Err, true, false, ◌<◌, length, Bool, subst, lt-ltb}
use Rattle.std.specs.Prelude.{if◌then◌else◌}
use Rattle.std.specs.List.{list_all}
use Rattle.cstn_markup.specs.Bytes.{is_white}
use Rattle.cstn_markup.specs.Tokens.{Attribute, Token}
use Rattle.cstn_markup.specs.Tokens.Kind.{start_tag, text_run}
use Rattle.cstn_markup.specs.Steps.{StepsBy}
use Rattle.cstn_element.specs.Results.{◌>>=◌, demand}
use Rattle.cstn_element.specs.Results.Refusal.{shape}
use Rattle.cstn_element.specs.Contents.{Tag, Content, contents, inner, outer, all_cut, opened, tag_of}
use Rattle.cstn_element.specs.Contents.Content.{done, cut, run, element}
use Rattle.cstn_element.specs.Elements.{Reading, read_by, blank}
use Rattle.cstn_element.specs.Children.{past_blanks, Reaches, BeginsWithPart, TakesTokens}
use Rattle.cstn_element.specs.Reads.{Reads, ReadsFurther, Fails, inside, behind}
use Rattle.cstn_element.specs.declared.children.Start.{Start}
use Rattle.cstn_element.specs.declared.children.Next.{Next}
use Rattle.cstn_element.specs.declared.children.Next.TheVariants.{Child}
use Rattle.cstn_element.specs.declared.errors.DocError.{DocError}
use Rattle.cstn_element.specs.declared.errors.DocError.TheVariants.{Shape}
use Rattle.cstn_element.proofs.Places.{run_is, opens_by}
use Rattle.cstn_element.proofs.PassedOver.{fails_through}

-- behind white space, the same stands next at the tokens `first` and at the tokens `before`
abbrev pub AreSame : List (List ℕ) → List Token → List Token → Type 0
AreSame names first before = (past_blanks (inner (contents names first)) ≡ past_blanks (inner (contents names before))) × (outer (contents names first) ≡ outer (contents names before))

module _ (names : List (List ℕ)) (first before after : List Token) (c : AreSame names first before) where
  pub same_run : (at : ℕ) (raw : List ℕ) → StepsBy (text_run raw) (record { at = at; kind = text_run raw }) before after → list_all is_white raw ≡ true → AreSame names first after
  unfolding past_blanks
  same_run at raw h w =
      let e = run_is names at raw before after h in
      (c.0 ∙ ap (λ cs. past_blanks (inner cs)) e ∙ ap (λ b. if b then past_blanks (inner (contents names after)) else cut at) w, c.1 ∙ ap outer e)

  pub run_cuts : (at : ℕ) (raw : List ℕ) → StepsBy (text_run raw) (record { at = at; kind = text_run raw }) before after → list_all is_white raw ≡ false → past_blanks (inner (contents names first)) ≡ cut at
  unfolding past_blanks
  run_cuts at raw h w = c.0 ∙ ap (λ cs. past_blanks (inner cs)) (run_is names at raw before after h) ∙ ap (λ b. if b then past_blanks (inner (contents names after)) else cut at) w

  pub cuts : (at : ℕ) → contents names before ≡ all_cut names at → past_blanks (inner (contents names first)) ≡ cut at
  unfolding past_blanks
  cuts at e = c.0 ∙ ap (λ cs. past_blanks (inner cs)) e

  pub ends : (at : ℕ) (around : List Content) → contents names before ≡ done at ∷ around → Reaches names first (done at) around
  unfolding past_blanks
  ends at around e = record { told = c.0 ∙ ap (λ cs. past_blanks (inner cs)) e; left = c.1 ∙ ap outer e }

child_by : (q : Bool) (names : List (List ℕ)) (tag : Tag) (after : List Token)
    → opened true q names tag (λ o. contents o after) ≡ element tag (inside q tag.at tag.name names after) (inner (behind q tag.name names after)) ∷ outer (behind q tag.name names after)
child_by true names tag after = refl
child_by false names tag after = refl

pub starts : (names : List (List ℕ)) (first before after : List Token) (at : ℕ) (child : List ℕ) (attributes : List Attribute) (closed : Bool) → AreSame names first before
    → StepsBy (start_tag child attributes closed) (record { at = at; kind = start_tag child attributes closed }) before after → length names < 32
    → Reaches names first (element (tag_of at child attributes) (inside closed at child names after) (inner (behind closed child names after))) (outer (behind closed child names after))
unfolding past_blanks
starts names first before after at child attributes closed c h d =
    let e = opens_by names at child attributes closed before after h ∙ ap (λ b. opened b closed names (tag_of at child attributes) (λ o. contents o after)) (lt-ltb (length names) 32 d) ∙ child_by closed names (tag_of at child attributes) after in
    record { told = c.0 ∙ ap (λ cs. past_blanks (inner cs)) e; left = c.1 ∙ ap outer e }

-- two equal answers of `next_child` say the same of what stands next
pub next_is : (n m : Next) (name : List ℕ) (others : List (List ℕ)) (before after : List Token) → BeginsWithPart n name others before after → n ≡ m → BeginsWithPart m name others before after
next_is n m name others before after h e = subst (λ x. BeginsWithPart x name others before after) e h

pub takes_one : (n : Next) (start : Start) (before after : ℕ) → TakesTokens n before after → n ≡ Child start → after < before
takes_one n start before after h e = subst (λ x. TakesTokens x before after) e h

-- a reading in which white space changes no state and any other text is refused
module _ {S A : Type 0} (r : Reading S A) (blanks : (s : S) (at : ℕ) (raw : List ℕ) → r.runs s at raw ≡ (blank at raw >>= λ same. Ok s)) where
  blank_by : (b : Bool) (s : S) (at : ℕ) (after : Content) → read_by r s after ≡ read_by r s (past_blanks after) → ((demand b (shape at) >>= λ same. Ok s) >>= λ t. read_by r t after) ≡ read_by r s (if b then past_blanks after else cut at)
  unfolding read_by
  blank_by true s at after h = h
  blank_by false s at after h = refl

  read_past : (s : S) (c : Content) → read_by r s c ≡ read_by r s (past_blanks c)
  unfolding read_by past_blanks
  read_past s (done at) = refl
  read_past s (cut at) = refl
  read_past s (run at raw after) = ap (λ o. o >>= λ t. read_by r t after) (blanks s at raw) ∙ blank_by (list_all is_white raw) s at after (read_past s after)
  read_past s (element tag content after) = refl

  module _ (start s : S) (name : List ℕ) (others : List (List ℕ)) (first before : List Token) (c : ReadsFurther (read_by r start) (read_by r s) (name ∷ others) first before) where
    -- behind a child that was read, the reading goes on in the state that the child made
    pub fold_child : (t : S) (tag : Tag) (closed : Bool) (after later : List Token)
        → Reaches (name ∷ others) before (element tag (inside closed tag.at tag.name (name ∷ others) after) (inner (behind closed tag.name (name ∷ others) after))) (outer (behind closed tag.name (name ∷ others) after))
        → r.elements s tag (inside closed tag.at tag.name (name ∷ others) after) ≡ Ok t → behind closed tag.name (name ∷ others) after ≡ contents (name ∷ others) later
        → ReadsFurther (read_by r start) (read_by r t) (name ∷ others) first later
    unfolding read_by
    fold_child t tag closed after later n m l = record {
      told = c.told ∙ read_past s _ ∙ ap (read_by r s) n.told ∙ ap (λ o. o >>= λ u. read_by r u (inner (behind closed tag.name (name ∷ others) after))) m ∙ ap (λ cs. read_by r t (inner cs)) l;
      left = c.left ∙ n.left ∙ ap outer l;
    }

    module _ {X : Type 0} (view : X → A) where
      -- a child that was refused has the element refused
      pub fold_child_fails : (e : DocError) (tag : Tag) (closed : Bool) (after later : List Token)
          → Reaches (name ∷ others) before (element tag (inside closed tag.at tag.name (name ∷ others) after) (inner (behind closed tag.name (name ∷ others) after))) (outer (behind closed tag.name (name ∷ others) after))
          → Fails e (r.elements s tag (inside closed tag.at tag.name (name ∷ others) after)) → Reads view (read_by r start) name others first later (Err e)
      unfolding read_by
      fold_child_fails e tag closed after later n f = record {
        told = subst (Fails e) (sym (c.told ∙ read_past s _ ∙ ap (read_by r s) n.told)) (fails_through e _ (λ u. read_by r u (inner (behind closed tag.name (name ∷ others) after))) f);
        left = tt;
      }

      -- a token that isn't allowed has the element refused at its place
      pub fold_wrong : (at : ℕ) (after : List Token) → past_blanks (inner (contents (name ∷ others) before)) ≡ cut at → Reads view (read_by r start) name others first after (Err (Shape at))
      unfolding read_by
      fold_wrong at after e = record { told = c.told ∙ read_past s _ ∙ ap (read_by r s) e; left = tt }

      -- at the end, the answer for the element is what its end makes of the state, which may be a refusal
      pub fold_done : (x : X) (at : ℕ) (after : List Token) → Reaches (name ∷ others) before (done at) (contents others after) → r.ends s at ≡ Ok (view x) → Reads view (read_by r start) name others first after (Ok x)
      unfolding read_by
      fold_done x at after n e = record { told = c.told ∙ read_past s _ ∙ ap (read_by r s) n.told ∙ e; left = c.left ∙ n.left }

      pub fold_done_fails : (e : DocError) (at : ℕ) (after : List Token) → Reaches (name ∷ others) before (done at) (contents others after) → Fails e (r.ends s at) → Reads view (read_by r start) name others first after (Err e)
      unfolding read_by
      fold_done_fails e at after n f = record { told = subst (Fails e) (sym (c.told ∙ read_past s _ ∙ ap (read_by r s) n.told)) f; left = tt }
