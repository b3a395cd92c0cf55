-- How a session ends: what was written before, and the last text.
use Rattle.std.proofs.Common.{◌≡◌, ℕ, ◌+◌, min, List, [], ◌∷◌, ◌++◌, length, take, refl, ap, sym, ◌∙◌, subst, arith, append_assoc, inl, inr, suc}
use Rattle.std.specs.Prelude.{◌⊎◌, Bool, true, Option, None, Some, codes}
use Rattle.std.proofs.lemmas.Grind.{common_steps}
use Rattle.std.proofs.lemmas.List.{take_min, take-append-le}
use Rattle.cstn_io.specs.Contents.{with_bytes, IsAtEnd}
use Rattle.cstn_lines.specs.Pieces.{heard_lines}
use Rattle.cstn_lines.specs.Steps.{LinesState}
use Rattle.cstn_reply.specs.Texts.{Said, after_text, line}
use Rattle.cstn_reply.specs.Written.{LiveState, IsText, is_output, is_memory, IsWritten, Ends}
use Rattle.cstn_reply.specs.Sessions.{Turn, play, session_says}
use Rattle.cstn_reply.specs.Reached.{session_heard, session_stops, Progress}
use Rattle.cstn_reply.specs.declared.status.Status.{Status}
use Rattle.cstn_reply.specs.declared.status.Status.TheVariants.{WriteFault, Memory}
use Rattle.cstn_reply.proofs.Contents.{given, all_given, given_end}
use Rattle.cstn_reply.proofs.Sessions.{after_both}
use Rattle.cstn_reply.proofs.Talking.{played, taken_so_far}
use Rattle.cstn_lines.proofs.StepLemmas.{no_bytes}

with_more : (old mid new : Option (List ℕ)) (xs ys : List ℕ) → mid ≡ with_bytes old xs → new ≡ with_bytes mid ys → new ≡ with_bytes old (xs ++ ys)
with_more None mid new xs ys is later = rw (later, is) refl
with_more (Some bs) mid new xs ys is later = rw (later, is, append_assoc) refl

take_past : (n : ℕ) (xs ys : List ℕ) → xs ++ take n ys ≡ take (length xs + n) (xs ++ ys)
take_past n [] ys = grind (arith, common_steps)
take_past n (x ∷ xs) ys = let e : suc (length xs + n) ≡ length (x ∷ xs) + n = omega arith in ap (λ zs. x ∷ zs) (take_past n xs ys) ∙ ap (λ k. take k (x ∷ (xs ++ ys))) e

with_more_cut : (old mid new : Option (List ℕ)) (xs ys : List ℕ) (n : ℕ) → mid ≡ with_bytes old xs → new ≡ with_bytes mid (take n ys) → new ≡ with_bytes old (take (length xs + n) (xs ++ ys))
with_more_cut old mid new xs ys n is later = with_more old mid new xs (take n ys) is later ∙ ap (with_bytes old) (take_past n xs ys)

-- the first n bytes of a text are first bytes of the text with more behind it
shorter : (n : ℕ) (xs rest : List ℕ) → take n xs ≡ take (min n (length xs)) (xs ++ rest)
shorter n xs rest = sym (take_min n xs) ∙ sym (take-append-le (min n (length xs)) xs rest (omega arith))

-- a text that is equal to a written one was written
pub shown : (old new : Option (List ℕ)) (text other : List ℕ) (status result : Status) → IsWritten old new text status result → text ≡ other → IsWritten old new other status result
shown old new text other status result written same = subst (λ (xs : List ℕ). IsWritten old new xs status result) same written

-- how a session ends where the last text was written, whole or in part, after what was written before
pub finishes : (output : List ℕ → Said → Type 0) (heard : List ℕ → Option (List ℕ)) (stops : Option (List ℕ) → List ℕ → Type 0) (before after : LiveState) (old mid new : Option (List ℕ)) (said text : List ℕ) (status result : Status) → IsText output heard stops before after status (said ++ text) → mid ≡ with_bytes old said → IsWritten mid new text status result → Ends output heard stops before after old new result
finishes output heard stops before after old mid new said text status result is was (inl (same, wrote)) = (status, said ++ text, is, inl (same, with_more old mid new said text was wrote))
finishes output heard stops before after old mid new said text status result is was (inr (fault, (n, wrote))) = (status, said ++ text, is, inr (fault, (length said + n, with_more_cut old mid new said text n was wrote)))

-- how a session ends where memory is refused before anything is written
pub no_memory : (output : List ℕ → Said → Type 0) (heard : List ℕ → Option (List ℕ)) (stops : Option (List ℕ) → List ℕ → Type 0) (seen : LiveState) (old new : Option (List ℕ)) (result : Status) → IsWritten old new (line (codes "memory")) Memory result → Ends output heard stops seen seen old new result
no_memory output heard stops seen old new result wrote = (Memory, line (codes "memory"), is_memory refl, wrote)

-- how a session ends where the sink fails in an answer
pub cut_short : {S : Type 0} (ends : Bool) (turn : S → List ℕ → Turn S) (ending : S → Said) (kind : List ℕ → Bool) (opening : List ℕ) (start : S) (before now : LiveState) (lines : LinesState) (state : S) (taken said : List ℕ) (old new : Option (List ℕ)) (n : ℕ) → Progress ends turn start before now lines state taken said → (lines.ended ≡ true → IsAtEnd now.left) → new ≡ with_bytes old (take n (opening ++ said)) →
    Ends (session_says ends turn ending opening start) (session_heard turn opening start) (session_stops ends turn kind opening start) before now old new WriteFault
cut_short ends turn ending kind opening start before now lines state taken said old new n so_far at_end is =
    let live : List ℕ = taken ++ given now.left in
    let rest : Said = play turn ending state lines.count (heard_lines ends (lines.kept ++ given now.left)) in
    let all : Said = after_text opening (play turn ending start 0 (heard_lines ends live)) in
    let whole : all ≡ after_text (opening ++ said) rest = ap (after_text opening) (played ends turn ending start before now lines state taken said so_far (given now.left) (λ h. given_end now.left (at_end h))) ∙ after_both opening said rest in
    let cut : ℕ = min n (length (opening ++ said)) in (
      _,
      all.text,
      is_output live all (all_given before.left now.left taken so_far.read) refl (taken_so_far ends turn start before now lines state taken said so_far opening),
      inr (refl, (cut, is ∙ ap (with_bytes old) (shorter n (opening ++ said) rest.text ∙ ap (λ (s : Said). take cut s.text) (sym whole)))),
    )

-- how a session ends where the sink fails in the opening
pub cut_opening : {S : Type 0} (ends : Bool) (turn : S → List ℕ → Turn S) (ending : S → Said) (kind : List ℕ → Bool) (opening : List ℕ) (start : S) (seen : LiveState) (old new : Option (List ℕ)) (n : ℕ) → new ≡ with_bytes old (take n opening) →
    Ends (session_says ends turn ending opening start) (session_heard turn opening start) (session_stops ends turn kind opening start) seen seen old new WriteFault
cut_opening ends turn ending kind opening start seen old new n is =
    let live : List ℕ = given seen.left in
    let all : Said = after_text opening (play turn ending start 0 (heard_lines ends live)) in (
      _,
      all.text,
      is_output live all (all_given seen.left seen.left [] (no_bytes seen.left)) refl (inl refl),
      inr (refl, (min n (length opening), is ∙ ap (with_bytes old) (shorter n opening (play turn ending start 0 (heard_lines ends live)).text))),
    )

-- what is written after one more answer was written
pub regroup : (old mid new : Option (List ℕ)) (opening said shown text : List ℕ) → mid ≡ with_bytes old (opening ++ said) → new ≡ with_bytes mid shown → shown ≡ text → new ≡ with_bytes old (opening ++ (said ++ text))
regroup old mid new opening said shown text was wrote is =
    with_more old mid new (opening ++ said) shown was wrote ∙ ap (λ (ys : List ℕ). with_bytes old ((opening ++ said) ++ ys)) is ∙ ap (with_bytes old) (append_assoc opening said text)

-- what is written after one more answer was written in part
pub regroup_cut : (old mid new : Option (List ℕ)) (opening said shown text : List ℕ) (n : ℕ) → mid ≡ with_bytes old (opening ++ said) → new ≡ with_bytes mid (take n shown) → shown ≡ text → new ≡ with_bytes old (take (length (opening ++ said) + n) (opening ++ (said ++ text)))
regroup_cut old mid new opening said shown text n was wrote is =
    with_more_cut old mid new (opening ++ said) shown n was wrote
    ∙ ap (λ (ys : List ℕ). with_bytes old (take (length (opening ++ said) + n) ((opening ++ said) ++ ys))) is
    ∙ ap (λ (ys : List ℕ). with_bytes old (take (length (opening ++ said) + n) ys)) (append_assoc opening said text)

-- a call that ended with Memory was to end so
pub was_memory : (status result : Status) → (result ≡ status) ⊎ (result ≡ WriteFault) → result ≡ Memory → Some status ≡ Some Memory
was_memory status result (inl same) is = ap (λ (s : Status). Some s) (sym same ∙ is)
was_memory status result (inr fault) is = absurd (let f : ⊥ = cc in f)
