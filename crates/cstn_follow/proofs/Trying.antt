-- What is said to a line that can be tried, and to one that is tried, ends a line, and the first name stays.
use Rattle.std.proofs.Common.{ℕ, ◌≡◌, inl, inr, ◌<◌, Bool, true, false, List, Some, length, refl, sym, subst, ap, ◌∙◌}
use Rattle.std.specs.Prelude.{◌⊎◌, ◌&&◌, not, Result, Ok, Err, IfOk, OnErr, slice_get, if◌then◌else◌}
use Rattle.std.proofs.lemmas.Result.{IfOk-weaker}
use Rattle.cstn_net.specs.Networks.{count}
use Rattle.cstn_reply.specs.Written.{EndsLine}
use Rattle.cstn_follow.specs.Following.{Following, Heard, says, saves, verdict_now, verdict_line}
use Rattle.cstn_follow.specs.Read.{FollowingParts, IsFollowing, the_following, the_heard, IsSaidFor}
use Rattle.cstn_follow.specs.declared.following.Heard.{Heard as HeardText}
use Rattle.cstn_follow.specs.declared.following.Heard.TheVariants.{Text, Rest, Digest}
use Rattle.cstn_follow.specs.Trials.{Triable, of_spoken, sets_cap, on_cap, on_triable, is_replanning, is_refusal, trial_said, on_try}
use Rattle.cstn_follow.proofs.Further.{verdict_ends}
use Rattle.cstn_follow.proofs.Answering.{Keeps, line_keeps, ok_or_err, first_kept, said_kept}

module _ (s : Following) where
  pub triable_keeps : 0 < count s.network.base → length s.names ≡ count s.network.base → (line : Triable) → Keeps s.names (on_triable s line)
  triable_keeps some long (of_spoken spoken) = line_keeps s some long (Some spoken)
  triable_keeps some long (sets_cap cap) = (refl, verdict_ends cap (verdict_now (record s { cap = cap })))

  trial_ends : (replans refused : Bool) (next : Following) (text : List ℕ) → EndsLine text
      → EndsLine (if replans && not refused then verdict_line next.cap (verdict_now next) else text)
  trial_ends true true next text whole = whole
  trial_ends true false next text whole = verdict_ends next.cap (verdict_now next)
  trial_ends false refused next text whole = whole

  trial_keeps : (replans : Bool) (heard : Heard) → Keeps s.names heard → Keeps s.names (trial_said s replans heard)
  trial_keeps replans (says text next) keeps = (refl, trial_ends replans (is_refusal text) next text keeps.1)
  trial_keeps replans (saves how m kept next) keeps = (refl, keeps.1, keeps.2)

  pub try_keeps : 0 < count s.network.base → length s.names ≡ count s.network.base → (line : Triable) → Keeps s.names (on_try s line)
  try_keeps some long line = trial_keeps (is_replanning line) (on_triable s line) (triable_keeps some long line)

-- ---- what the program says

pub triable_kept : (f : FollowingParts) → IsFollowing f → (line : Triable) → Keeps f.names (on_triable (the_following f) line)
triable_kept f good line = triable_keeps (the_following f) good.session.execution.labelled.base.network.origin good.names.named line

pub try_kept : (f : FollowingParts) → IsFollowing f → (line : Triable) → Keeps f.names (on_try (the_following f) line)
try_kept f good line = try_keeps (the_following f) good.session.execution.labelled.base.network.origin good.names.named line

pub cap_ends : (s t : Following) (cap : ℕ) (text : List ℕ) → on_cap s cap ≡ says text t → EndsLine text
cap_ends s t cap text is =
    let capped : Following = record s { cap = cap } in
    let whole : Keeps s.names (on_cap s cap) = (refl, verdict_ends cap (verdict_now capped)) in
    (subst (Keeps s.names) is whole).1

module _ {E : Type 0} (old new : FollowingParts) (heard : Heard) (r : Result HeardText E) (keeps : Keeps old.names heard) where
  pub kept_first : OnErr r (new ≡ old) → IfOk r (λ h. heard ≡ the_heard new h) → slice_get new.names 0 ≡ slice_get old.names 0
  kept_first refused told = elim (ok_or_err r) [
    | inl (h, ok) ↦
        let here = subst (λ p. IfOk p (λ k. heard ≡ the_heard new k)) ok told in
        first_kept old.names new h (subst (Keeps old.names) here keeps)
    | inr (e, err) ↦ ap (λ (f : FollowingParts). slice_get f.names 0) (subst (λ p. OnErr p (new ≡ old)) err refused)
  ]

  pub kept_said : IfOk r (λ h. heard ≡ the_heard new h) → IfOk r (IsSaidFor old.names)
  kept_said told = IfOk-weaker r _ _ (λ h here. said_kept old.names new h (subst (Keeps old.names) here keeps)) told

-- what a copy of the session was told
pub try_said : (self copy new : FollowingParts) (line : Triable) (b : Bool) (heard : HeardText) → the_following copy ≡ the_following self
    → on_triable (the_following copy) line ≡ the_heard new heard → b ≡ is_replanning line
    → on_try (the_following self) line ≡ trial_said (the_following self) b (the_heard new heard)
try_said self copy new line b heard same told is =
    let s = the_following self in
    ap (λ (x : Following). trial_said s (is_replanning line) (on_triable x line)) (sym same)
    ∙ ap (trial_said s (is_replanning line)) told ∙ ap (λ p. trial_said s p (the_heard new heard)) (sym is)

pub said_as_is : (self new : FollowingParts) (heard : HeardText) → trial_said (the_following self) false (the_heard new heard) ≡ the_heard self heard
said_as_is self new (Text text) = refl
said_as_is self new (Rest network names) = refl
said_as_is self new (Digest network names) = refl

-- a question is answered as it is
pub question_as_is : (self : FollowingParts) (line : Triable) (heard : HeardText) → is_replanning line ≡ false
    → on_triable (the_following self) line ≡ the_heard self heard → on_try (the_following self) line ≡ the_heard self heard
question_as_is self line heard asks told =
    try_said self self self line false heard refl told (sym asks) ∙ said_as_is self self heard
