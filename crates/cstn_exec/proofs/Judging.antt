-- How a moment is judged.
use Rattle.std.proofs.Common.{ℕ, ◌≡◌, inl, inr, ◌+◌, ◌<◌, ◌≤◌, true, false, List, Option, Some, None, ltb, refl, arith, sym, subst, ap, ◌∙◌}
use Rattle.std.proofs.lemmas.Bool.{cases_Bool, cases_lt, cond-true, cond-false, true≢false, lt-ltb, le-ltb}
use Rattle.cstn_facts.proofs.Options.{some_or_none}
use Rattle.cstn_label.specs.Bounds.{Bound}
use Rattle.cstn_net.specs.Networks.{Network}
use Rattle.cstn_exec.specs.Runs.{Run, first_after, next, is_run_done, awaited, due}
use Rattle.cstn_exec.specs.Moves.{EventRefusal, Done, Past, Late, Awaiting, NotExecuted, Known, moment_refusal, unless_past, unless_awaiting, unless_late}

-- what an accepted moment tells
pub record IsAccepted (net : Network) (bounds : List Bound) (run : Run) (t : ℕ) : Type 0 where
  pub waits : is_run_done run ≡ false
  pub from : next run ≤ t
  pub none_awaited : awaited net run (t + 1) ≡ None
  pub upto : (u : ℕ) → due net bounds run ≡ Some u → t ≤ u

-- what holds where a moment is accepted (None), or refused for the given reason
abbrev pub Tells : Network → List Bound → Run → ℕ → Option EventRefusal → Type 0
Tells net bounds run t None = IsAccepted net bounds run t
Tells net bounds run t (Some Done) = is_run_done run ≡ true
Tells net bounds run t (Some (Past m)) = (run.now ≡ Some m) × (t ≤ m)
Tells net bounds run t (Some (Late u)) = (due net bounds run ≡ Some u) × (u < t)
Tells net bounds run t (Some (Awaiting p)) = awaited net run (t + 1) ≡ Some p
Tells net bounds run t (Some (NotExecuted p)) = ⊥
Tells net bounds run t (Some (Known p v)) = ⊥

module _ (net : Network) (bounds : List Bound) (run : Run) (t : ℕ) where
  abbrev refusal_by_awaited : Option EventRefusal
  refusal_by_awaited = unless_awaiting (awaited net run (t + 1)) (unless_late t (due net bounds run))

  abbrev refusal_by_now : Option EventRefusal
  refusal_by_now = unless_past t run.now refusal_by_awaited

  pub refusal_done : is_run_done run ≡ true → moment_refusal net bounds run t ≡ Some Done
  refusal_done all = cond-true (is_run_done run) (Some Done) refusal_by_now all

  module _ (waits : is_run_done run ≡ false) where
    by_due : next run ≤ t → awaited net run (t + 1) ≡ None → (o : Option ℕ) → due net bounds run ≡ o →
        Tells net bounds run t (unless_late t o)
    by_due from nobody None e =
        record { waits = waits; from = from; none_awaited = nobody; upto = λ u at. let f : ⊥ = cc in absurd f }
    by_due from nobody (Some u) e = elim (cases_lt u t) [
      | inl below ↦ subst (Tells net bounds run t) (sym (cond-true (ltb u t) (Some (Late u)) None (lt-ltb u t below))) (e, below)
      | inr upto ↦
          subst (Tells net bounds run t) (sym (cond-false (ltb u t) (Some (Late u)) None (le-ltb u t upto))) (record {
            waits = waits;
            from = from;
            none_awaited = nobody;
            upto = λ w at. let same : u ≡ w = cc in omega arith;
          })
    ]

    by_awaited : next run ≤ t → (o : Option ℕ) → awaited net run (t + 1) ≡ o →
        Tells net bounds run t (unless_awaiting o (unless_late t (due net bounds run)))
    by_awaited from None e = by_due from e (due net bounds run) refl
    by_awaited from (Some p) e = e

    by_now : (o : Option ℕ) → run.now ≡ o → Tells net bounds run t (unless_past t o refusal_by_awaited)
    by_now None e = by_awaited (let first = ap first_after e in omega arith) (awaited net run (t + 1)) refl
    by_now (Some m) e = elim (cases_lt m t) [
      | inl later ↦
          subst (Tells net bounds run t) (sym (cond-true (ltb m t) refusal_by_awaited (Some (Past m)) (lt-ltb m t later)))
          (by_awaited (let first = ap first_after e in omega arith) (awaited net run (t + 1)) refl)
      | inr upto ↦
          subst (Tells net bounds run t) (sym (cond-false (ltb m t) refusal_by_awaited (Some (Past m)) (le-ltb m t upto))) (e, upto)
    ]

  pub judged : (o : Option EventRefusal) → moment_refusal net bounds run t ≡ o → Tells net bounds run t o
  judged o e = elim (cases_Bool (is_run_done run)) [
    | inl all ↦ subst (Tells net bounds run t) (sym (refusal_done all) ∙ e) all
    | inr waits ↦
        subst (Tells net bounds run t) (sym (cond-false (is_run_done run) (Some Done) refusal_by_now waits) ∙ e) (by_now waits run.now refl)
  ]

  pub not_refused : IsAccepted net bounds run t → moment_refusal net bounds run t ≡ None
  not_refused ok = go (moment_refusal net bounds run t) refl (judged (moment_refusal net bounds run t) refl)
    where
      go : (o : Option EventRefusal) → moment_refusal net bounds run t ≡ o → Tells net bounds run t o → moment_refusal net bounds run t ≡ None
      go None e told = e
      go (Some Done) e all = absurd (true≢false (sym all ∙ ok.waits))
      go (Some (Past m)) e past =
          let from = subst (λ n. first_after n ≤ t) past.0 ok.from in
          let upto = past.1 in
          absurd (omega arith)
      go (Some (Late u)) e late =
          let upto = ok.upto u late.0 in
          let below = late.1 in
          absurd (omega arith)
      go (Some (Awaiting p)) e at = absurd (some_or_none (awaited net run (t + 1)) p at ok.none_awaited)
      go (Some (NotExecuted p)) e never = absurd never
      go (Some (Known p v)) e never = absurd never
