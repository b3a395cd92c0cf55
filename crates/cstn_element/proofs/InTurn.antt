-- Reading what stands in an element, or in the document, one thing after the other.
use Rattle.std.proofs.Common.{◌≡◌, List, [], refl, ◌∙◌, Ok, Err, arith}
use Rattle.cstn_markup.specs.Tokens.{Token}
use Rattle.cstn_markup.specs.Steps.{Steps}
use Rattle.cstn_markup.specs.Seen.{token_of}
use Rattle.cstn_markup.specs.declared.token.Token.{Token as LentToken}
use Rattle.cstn_markup.specs.declared.token.Kind.{Kind as Lent}
use Rattle.cstn_markup.specs.declared.token.Kind.TheVariants.{Start as StartTag, End as EndTag, Text, Wrong as WrongToken, Finish}
use Rattle.cstn_element.specs.Results.Refusal.{shape}
use Rattle.cstn_element.specs.Contents.{content_of}
use Rattle.cstn_element.specs.Elements.{Reading, read_by}
use Rattle.cstn_element.specs.Children.{tag_seen}
use Rattle.cstn_element.specs.InTurn.{PassesBlanks, ReadingIsAt, GoesOnBehind, IsRefusedInside, IsRefusedNext, IsEnded, GoesOnInDocument, IsRefusedInDocument, PassesBlank, IsStray, IsRefusedAt, IsFinished}
use Rattle.cstn_element.specs.declared.children.Next.TheVariants.{Child, End, Wrong}
use Rattle.cstn_element.specs.declared.errors.DocError.TheVariants.{Shape}
use Rattle.cstn_element.proofs.Places.{step_of, wrong_is}
use Rattle.cstn_element.proofs.ChildLemmas.{next_is, fold_child, fold_child_fails, fold_wrong, fold_done, fold_done_fails}
use Rattle.cstn_element.proofs.Folds.{fold_run, fold_whole}
use Rattle.cstn_element.proofs.Judging.{blank_refused, blank_passed}
use Rattle.cstn_element.proofs.Tops.{top_cut, top_end, top_run_fails, top_whole_fails, ends_none, finished_is}

module _ (S A : Type 0) (r : Reading S A) (blanks : PassesBlanks S A r) where
  pub goes_on : GoesOnBehind S A r
  goes_on begun now later name others first before inside behind next start c n is q =
      fold_child r blanks begun now name others first before c later (tag_seen start) start.closed inside behind (next_is next (Child start) name others before inside n is) q.told q.left

  pub document_goes_on : GoesOnInDocument S A r
  document_goes_on begun now later first before inside behind t name attributes closed c h is q =
      fold_whole r begun now later [] t.at name.now attributes closed first before inside behind c (step_of t (StartTag name attributes closed) before inside h is) (omega arith) q.told q.left

  pub document_fails : IsRefusedInDocument S A r
  document_fails begun now later first before inside behind t name attributes closed error c h is q =
      top_whole_fails r begun now error name.now t.at attributes closed first before inside c (step_of t (StartTag name attributes closed) before inside h is) q.told

  pub blank_passes : PassesBlank S A r
  blank_passes begun now first before after t raw c h is white =
      fold_run r begun (λ (a : A). a) now now [] t.at raw.now first before after c (step_of t (Text raw) before after h is) (blanks now t.at raw.now ∙ blank_passed now t.at raw.now white)

  stray : (k : Lent) (begun now : S) (first before after : List Token) (t : LentToken) → ReadingIsAt r begun now [] first before → Steps (token_of t) before after → t.kind ≡ k → IsStray k → read_by r begun (content_of first) ≡ Err (shape t.at)
  stray (StartTag name attributes closed) begun now first before after t c h is s = absurd s
  stray (EndTag name) begun now first before after t c h is s = top_cut r begun now t.at first before c (ends_none name.now t.at before after (step_of t (EndTag name) before after h is))
  stray (Text raw) begun now first before after t c h is s =
      top_run_fails r begun now (Shape t.at) t.at raw.now first before after c (step_of t (Text raw) before after h is) (blanks now t.at raw.now ∙ blank_refused now t.at raw.now s)
  stray WrongToken begun now first before after t c h is s = top_cut r begun now t.at first before c (wrong_is [] t.at before after (step_of t WrongToken before after h is))
  stray Finish begun now first before after t c h is s = absurd s

  pub document_refused : IsRefusedAt S A r
  document_refused begun now first before after t c h s = stray t.kind begun now first before after t c h refl s

  pub document_ends : IsFinished S A r
  document_ends begun now first before after t c h is = top_end r begun now t.at first before c (finished_is t.at before after (step_of t Finish before after h is))

module _ (S A X : Type 0) (r : Reading S A) (view : X → A) (blanks : PassesBlanks S A r) where
  pub refused_inside : IsRefusedInside S A X r view
  refused_inside begun now later name others first before inside behind next start error c n is q =
      fold_child_fails r blanks begun now name others first before c view error (tag_seen start) start.closed inside behind (next_is next (Child start) name others before inside n is) q.told

  pub refused_next : IsRefusedNext S A X r view
  refused_next begun now name others first before after next at c n is = fold_wrong r blanks begun now name others first before c view at after (next_is next (Wrong at) name others before after n is)

  pub is_ended : IsEnded S A X r view
  is_ended begun now name others first before after next at (Ok x) c n is e = fold_done r blanks begun now name others first before c view x at after (next_is next (End at) name others before after n is) e
  is_ended begun now name others first before after next at (Err error) c n is e = fold_done_fails r blanks begun now name others first before c view error at after (next_is next (End at) name others before after n is) e
