-- Reading what stands around the root, one token at a time.
use Rattle.std.proofs.Common.{◌≡◌, ℕ, List, [], ◌∷◌, ap, sym, ◌∙◌, Err, Bool, subst}
use Rattle.cstn_markup.specs.Tokens.{Attribute, Token}
use Rattle.cstn_markup.specs.Tokens.Kind.{start_tag, end_tag, text_run, finish}
use Rattle.cstn_markup.specs.Steps.{StepsBy}
use Rattle.cstn_element.specs.Results.Refusal.{shape}
use Rattle.cstn_element.specs.Contents.{contents, inner, all_cut, tag_of}
use Rattle.cstn_element.specs.Contents.Content.{done}
use Rattle.cstn_element.specs.Elements.{Reading, read_by}
use Rattle.cstn_element.specs.Reads.{ReadsFurther, Fails, inside}
use Rattle.cstn_element.specs.declared.errors.DocError.{DocError}
use Rattle.cstn_element.proofs.Places.{first_is, run_is, opens_by}
use Rattle.cstn_element.proofs.PassedOver.{fails_through}
use Rattle.cstn_element.proofs.Folds.{element_fails}

-- an end tag isn't allowed where no element is open
pub ends_none : (last : List ℕ) (at : ℕ) (before after : List Token) → StepsBy (end_tag last) (record { at = at; kind = end_tag last }) before after → contents [] before ≡ all_cut [] at
ends_none last at before after h = first_is [] _ before after h

pub finished_is : (at : ℕ) (before after : List Token) → StepsBy finish (record { at = at; kind = finish }) before after → contents [] before ≡ done at ∷ []
finished_is at before after h = first_is [] _ before [] h.0

module _ {S A : Type 0} (r : Reading S A) (start : S) where
  -- a token that isn't allowed has the document refused at its place
  pub top_cut : (s : S) (at : ℕ) (first before : List Token) → ReadsFurther (read_by r start) (read_by r s) [] first before → contents [] before ≡ all_cut [] at
      → read_by r start (inner (contents [] first)) ≡ Err (shape at)
  unfolding read_by
  top_cut s at first before c e = c.told ∙ ap (λ cs. read_by r s (inner cs)) e

  -- at the end, the answer for the document is what its end makes of the state
  pub top_end : (s : S) (at : ℕ) (first before : List Token) → ReadsFurther (read_by r start) (read_by r s) [] first before → contents [] before ≡ done at ∷ []
      → read_by r start (inner (contents [] first)) ≡ r.ends s at
  unfolding read_by
  top_end s at first before c e = c.told ∙ ap (λ cs. read_by r s (inner cs)) e

  -- a text that isn't allowed has the document refused
  pub top_run_fails : (s : S) (e : DocError) (at : ℕ) (raw : List ℕ) (first before after : List Token) → ReadsFurther (read_by r start) (read_by r s) [] first before
      → StepsBy (text_run raw) (record { at = at; kind = text_run raw }) before after → Fails e (r.runs s at raw) → Fails e (read_by r start (inner (contents [] first)))
  unfolding read_by
  top_run_fails s e at raw first before after c h d =
      let is = run_is [] at raw before after h in
      subst (Fails e) (sym (c.told ∙ ap (λ cs. read_by r s (inner cs)) is)) (fails_through e (r.runs s at raw) (λ u. read_by r u (inner (contents [] after))) d)

  -- an element that was refused has the document refused
  pub top_whole_fails : (s : S) (e : DocError) (child : List ℕ) (at : ℕ) (attributes : List Attribute) (closed : Bool) (first before after : List Token) → ReadsFurther (read_by r start) (read_by r s) [] first before
      → StepsBy (start_tag child attributes closed) (record { at = at; kind = start_tag child attributes closed }) before after
      → Fails e (r.elements s (tag_of at child attributes) (inside closed at child [] after)) → Fails e (read_by r start (inner (contents [] first)))
  top_whole_fails s e child at attributes closed first before after c h f =
      let is = c.told ∙ ap (λ cs. read_by r s (inner cs)) (opens_by [] at child attributes closed before after h) in
      subst (Fails e) (sym is) (element_fails r start (λ (a : A). a) closed s e [] at child attributes after f)
