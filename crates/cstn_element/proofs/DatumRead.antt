-- A data element, by its key.
use Rattle.std.proofs.Common.{◌≡◌, ℕ, List, ap, sym, ◌∙◌, Ok, Err, Result, Some, None, Option, Bool, true, false, subst}
use Rattle.std.specs.Prelude.{codes}
use Rattle.std.specs.List.{list_any}
use Rattle.cstn_markup.specs.Bytes.{is_same}
use Rattle.cstn_markup.specs.Tokens.{Token, raw_with}
use Rattle.cstn_element.specs.Results.{Refusal, ◌>>=◌, or_refused}
use Rattle.cstn_element.specs.Results.Refusal.{shape}
use Rattle.cstn_element.specs.WhiteSpace.{trimmed}
use Rattle.cstn_element.specs.Contents.{Tag, Content}
use Rattle.cstn_element.specs.Elements.{Datum, datum, datum_by, passed, texts, read_option}
use Rattle.cstn_element.specs.Reads.{ReadsWhole, inside, Fails}
use Rattle.cstn_element.specs.declared.errors.DocError.{DocError}
use Rattle.cstn_element.specs.declared.errors.DocError.TheVariants.{Shape}
use Rattle.cstn_element.proofs.PassedOver.{fails_through}

pub keyed : (used : List (List ℕ)) (taken : List ℕ → Bool) (tag : Tag) (key : List ℕ) (content : Content) (q t : Bool) → Some key ≡ read_option (raw_with (codes "key") tag.attributes)
    → q ≡ list_any (λ u. is_same u key) used → t ≡ taken key → datum used taken tag content ≡ datum_by q t key tag content
keyed used taken tag key content q t e f g =
    ap (λ o. or_refused o (shape tag.at) >>= λ k. datum_by (list_any (λ u. is_same u k) used) (taken k) k tag content) (sym e) ∙ ap (λ b. datum_by b (taken key) key tag content) (sym f) ∙ ap (λ b. datum_by q b key tag content) (sym g)

module _ {X : Type 0} (view : X → Option Datum) (used : List (List ℕ)) (taken : List ℕ → Bool) (tag : Tag) (key : List ℕ) (closed : Bool) (name : List ℕ) (names : List (List ℕ)) (before after : List Token) where
  abbrev Told : Content → Result (Option Datum) Refusal
  Told content = datum used taken tag content

  -- a data element whose key isn't used is passed over
  pub unused_ok : (x : X) (t : Bool) → Told (inside closed tag.at name names before) ≡ datum_by false t key tag (inside closed tag.at name names before)
      → ReadsWhole {A = Unit {0}} (λ u. u) passed closed tag.at name names before after (Ok tt) → view x ≡ None → ReadsWhole view Told closed tag.at name names before after (Ok x)
  unused_ok x t e h v = record { told = e ∙ ap (λ o. o >>= λ same. Ok None) h.told ∙ ap (λ w. Ok w) (sym v); left = h.left }

  pub unused_fails : (e : DocError) (t : Bool) → Told (inside closed tag.at name names before) ≡ datum_by false t key tag (inside closed tag.at name names before)
      → ReadsWhole {A = Unit {0}} (λ u. u) passed closed tag.at name names before after (Err e) → ReadsWhole view Told closed tag.at name names before after (Err e)
  unused_fails e t is h = record { told = subst (Fails e) (sym is) (fails_through e (passed (inside closed tag.at name names before)) (λ same. Ok None) h.told); left = tt }

  -- a used key that was found before is refused
  pub taken_twice : Told (inside closed tag.at name names before) ≡ datum_by true true key tag (inside closed tag.at name names before) → ReadsWhole view Told closed tag.at name names before after (Err (Shape tag.at))
  taken_twice is = record { told = is; left = tt }

  pub value_ok : {V : Type 0} (items : V → List ℕ) (v : V) (x : X) → Told (inside closed tag.at name names before) ≡ datum_by true false key tag (inside closed tag.at name names before)
      → ReadsWhole items texts closed tag.at name names before after (Ok v) → view x ≡ Some (record { key = key; at = tag.at; value = trimmed (items v) }) → ReadsWhole view Told closed tag.at name names before after (Ok x)
  value_ok items v x is h e = record { told = is ∙ ap (λ o. o >>= λ bytes. Ok (Some (record { key = key; at = tag.at; value = trimmed bytes }))) h.told ∙ ap (λ w. Ok w) (sym e); left = h.left }

  pub value_fails : {V : Type 0} (items : V → List ℕ) (e : DocError) → Told (inside closed tag.at name names before) ≡ datum_by true false key tag (inside closed tag.at name names before)
      → ReadsWhole items texts closed tag.at name names before after (Err e) → ReadsWhole view Told closed tag.at name names before after (Err e)
  value_fails items e is h = record { told = subst (Fails e) (sym is) (fails_through e (texts (inside closed tag.at name names before)) _ h.told); left = tt }
