-- The lines of a session that were accepted lead it to the same state, but for the count of lines, with the same answers.
use Rattle.std.proofs.Common.{ℕ, ◌≡◌, ◌+◌, ◌≤◌, ◌^◌, Bool, true, false, not, List, [], ◌∷◌, length, Some, arith, refl, sym, ap, ◌∙◌, inl, inr}
use Rattle.std.specs.Prelude.{◌⊎◌, cond, nat_lt, min, suc}
use Rattle.std.specs.List.{filter}
use Rattle.std.proofs.lemmas.Bool.{or_from, or_parts, false≢true}
use Rattle.std.proofs.lemmas.Option.{same_Some}
use Rattle.cstn_lines.specs.Pieces.{is_past}
use Rattle.cstn_reply.specs.Sessions.{more, on_turn}
use Rattle.cstn_reply.specs.Reached.{state_after}
use Rattle.cstn_reply.proofs.Sessions.{FirstLeads, first_leads, state_more}
use Rattle.cstn_save.specs.Canonical.{canonical}
use Rattle.cstn_follow.specs.Following.{Following, Heard, says, saves}
use Rattle.cstn_follow.specs.Asking.{spoken_read}
use Rattle.cstn_follow.specs.Digests.{shown}
use Rattle.cstn_follow.specs.Hearing.{counted, on_line}
use Rattle.cstn_follow.specs.Turns.{heard_by}
use Rattle.cstn_follow.proofs.States.{IsSound, next_sound}
use Rattle.cstn_followed.specs.Sessions.{follow_turn}
use Rattle.cstn_followed.specs.Journal.{texts_of, accepted_of, kept_unless_refused, with_count}
use Rattle.cstn_follow.specs.Trials.{is_refusal}
use Rattle.cstn_followed.proofs.Recounted.{Refuses, recounted, line_same}
use Rattle.cstn_followed.proofs.Refusals.{refusal_stays}

-- a line that is in order as a later one is so as an earlier one
short_earlier : (j k : ℕ) (bytes : List ℕ) → j ≤ k → is_past k bytes ≡ false → is_past j bytes ≡ false
short_earlier j k bytes upto short =
    let both = or_parts (nat_lt 4096 (length bytes)) (nat_lt (2 ^ 24) k) short in
    or_from (nat_lt 4096 (length bytes)) (nat_lt (2 ^ 24) j) both.0 (early both.1)
  where
    early : nat_lt (2 ^ 24) k ≡ false → nat_lt (2 ^ 24) j ≡ false
    early e = grind arith

-- ---- one line, in a state with another count of lines

module _ (s next : Following) (n : ℕ) (bytes text : List ℕ) (answered : follow_turn s bytes ≡ more text next) (accepted : is_refusal text ≡ false) where
  abbrev count' : ℕ
  count' = min (suc n) 16777217

  by_heard : (heard : Heard) → heard_by canonical heard ≡ more text next → heard_by canonical (recounted count' heard) ≡ more text (with_count next count')
  by_heard (says words later) is =
      let same_words : words ≡ text = cc in
      let same_later : later ≡ next = cc in
      ap (λ w. more w (with_count later count')) same_words ∙ ap (λ l. more text (with_count l count')) same_later
  by_heard (saves how m names later) is =
      let same_words : shown how (canonical m names) ≡ text = cc in
      let same_later : later ≡ next = cc in
      ap (λ w. more w (with_count later count')) same_words ∙ ap (λ l. more text (with_count l count')) same_later

  never : (heard : Heard) → heard_by canonical heard ≡ more text next → Refuses heard → ⊥
  never (says words later) is refused =
      let same_words : words ≡ text = cc in
      false≢true (sym accepted ∙ ap is_refusal (sym same_words) ∙ refused)
  never (saves how m names later) is refused = refused

  pub same_turn : follow_turn (with_count s n) bytes ≡ more text (with_count next count')
  same_turn = by_same (line_same (counted s) count' (spoken_read bytes))
    where
      by_same : Refuses (on_line (counted s) (spoken_read bytes))
          ⊎ (on_line (with_count (counted s) count') (spoken_read bytes) ≡ recounted count' (on_line (counted s) (spoken_read bytes)))
          → follow_turn (with_count s n) bytes ≡ more text (with_count next count')
      by_same (inl refused) = absurd (never (on_line (counted s) (spoken_read bytes)) answered refused)
      by_same (inr same) = ap (heard_by canonical) same ∙ by_heard (on_line (counted s) (spoken_read bytes)) answered

-- ---- line after line

-- a text is among those that pass the test, or isn't
left_out : (kept : List ℕ → Bool) (text : List ℕ) (texts : List (List ℕ)) → kept text ≡ false → filter kept (text ∷ texts) ≡ filter kept texts
left_out kept text texts e = ap (λ b. cond b (text ∷ filter kept texts) (filter kept texts)) e

left_in : (kept : List ℕ → Bool) (text : List ℕ) (texts : List (List ℕ)) → kept text ≡ true → filter kept (text ∷ texts) ≡ text ∷ filter kept texts
left_in kept text texts e = ap (λ b. cond b (text ∷ filter kept texts) (filter kept texts)) e

-- where the accepted lines lead, and what is answered to them
pub record LeadsBack (s g : Following) (n j : ℕ) (lines : List (List ℕ)) : Type 0 where
  pub count : ℕ
  pub leads : state_after follow_turn (with_count s n) j (accepted_of s lines) ≡ Some (with_count g count)
  pub texts : texts_of (with_count s n) (accepted_of s lines) ≡ filter (λ text. not (is_refusal text)) (texts_of s lines)

-- what the first of the lines makes of them
module _ (s next : Following) (first text : List ℕ) (lines : List (List ℕ)) (answered : follow_turn s first ≡ more text next) where
  pub accepted_more : accepted_of s (first ∷ lines) ≡ kept_unless_refused (is_refusal text) first (accepted_of next lines)
  accepted_more = ap (λ turn. on_turn turn (λ words later. kept_unless_refused (is_refusal words) first (accepted_of later lines)) (λ said. []) []) answered

  pub texts_more : texts_of s (first ∷ lines) ≡ text ∷ texts_of next lines
  texts_more = ap (λ turn. on_turn turn (λ words later. words ∷ texts_of later lines) (λ said. []) []) answered

abbrev kept : List ℕ → Bool
kept text = not (is_refusal text)

-- the first line, and what the others lead back to
back_more : (s g : Following) (n j k : ℕ) (first : List ℕ) (lines : List (List ℕ)) → IsSound s → j ≤ k → (l : FirstLeads follow_turn s g k first lines)
    → ((m i : ℕ) → i ≤ k + 1 → LeadsBack l.next g m i lines) → LeadsBack s g n j (first ∷ lines)
back_more s g n j k first lines sound upto l more_back = by_refusal (is_refusal l.text) refl
  where
    texts_are : filter kept (texts_of s (first ∷ lines)) ≡ filter kept (l.text ∷ texts_of l.next lines)
    texts_are = ap (filter kept) (texts_more s l.next first l.text lines l.answer)

    by_refusal : (b : Bool) → is_refusal l.text ≡ b → LeadsBack s g n j (first ∷ lines)
    by_refusal true refused =
        let gone : accepted_of s (first ∷ lines) ≡ accepted_of l.next lines =
        accepted_more s l.next first l.text lines l.answer ∙ ap (λ b. kept_unless_refused b first (accepted_of l.next lines)) refused in
        let same : l.next ≡ counted s = refusal_stays s l.next first l.text sound l.answer refused in
        let start : with_count s n ≡ with_count l.next n = ap (λ x. with_count x n) (sym same) in
        let rest = more_back n j (omega arith) in
        record {
          count = rest.count;
          leads = ap (λ ls. state_after follow_turn (with_count s n) j ls) gone
              ∙ ap (λ x. state_after follow_turn x j (accepted_of l.next lines)) start ∙ rest.leads;
          texts = ap (texts_of (with_count s n)) gone ∙ ap (λ x. texts_of x (accepted_of l.next lines)) start ∙ rest.texts
              ∙ sym (texts_are ∙ left_out kept l.text (texts_of l.next lines) (ap not refused));
        }
    by_refusal false accepted =
        let kept_is : accepted_of s (first ∷ lines) ≡ first ∷ accepted_of l.next lines =
        accepted_more s l.next first l.text lines l.answer ∙ ap (λ b. kept_unless_refused b first (accepted_of l.next lines)) accepted in
        let m = min (suc n) 16777217 in
        let turn = same_turn s l.next n first l.text l.answer accepted in
        let short = short_earlier (j + 1) (k + 1) first (omega arith) l.short in
        let rest = more_back m (j + 1) (omega arith) in
        record {
          count = rest.count;
          leads = ap (λ ls. state_after follow_turn (with_count s n) j ls) kept_is
              ∙ state_more follow_turn (with_count s n) j first (accepted_of l.next lines) short l.text (with_count l.next m) turn ∙ rest.leads;
          texts = ap (texts_of (with_count s n)) kept_is
              ∙ texts_more (with_count s n) (with_count l.next m) first l.text (accepted_of l.next lines) turn
              ∙ ap (λ ts. l.text ∷ ts) rest.texts ∙ sym (texts_are ∙ left_in kept l.text (texts_of l.next lines) (ap not accepted));
        }

pub leads_back : (s g : Following) (n j k : ℕ) (lines : List (List ℕ)) → IsSound s → j ≤ k → state_after follow_turn s k lines ≡ Some g
    → LeadsBack s g n j lines
leads_back s g n j k [] sound upto is = record { count = n; leads = ap (λ x. Some (with_count x n)) (same_Some s g is); texts = refl }
leads_back s g n j k (first ∷ lines) sound upto is =
    let l = first_leads follow_turn s g k first lines is in
    let after = next_sound canonical s l.next first l.text sound l.answer in
    back_more s g n j k first lines sound upto l (λ m i below. leads_back l.next g m i (k + 1) lines after below l.rest)
