-- The history that a program begins with.
use Rattle.std.proofs.Common.{ℕ, zero, suc, ◌≡◌, ◌<◌, List, [], Option, Some, None, length, arith, refl, sym, subst, ap, ◌∙◌}
use Rattle.std.specs.Prelude.{slice_index_or, slice_set, replicate, take, ◌++◌, ◌-◌}
use Rattle.std.proofs.Math.Path.{fun_ext}
use Rattle.std.proofs.lemmas.List.{length-replicate, length-set}
use Rattle.cstn_label.specs.declared.knowledge.Known.{Known}
use Rattle.cstn_label.specs.Read.{known_value}
use Rattle.cstn_net.specs.Networks.{count}
use Rattle.cstn_lift.specs.Labelled.{Labelled}
use Rattle.cstn_lift.specs.WellFormed.{IsLabelled}
use Rattle.cstn_history.specs.Histories.{IsHistory, IsInTime, nothing_yet, origin_alone}
use Rattle.cstn_history.specs.Read.{HistoryParts, the_history, IsKeptFor}
use Rattle.cstn_history.proofs.Nothing.{nothing_history}

abbrev nothing : ℕ → List (Option ℕ)
nothing n = replicate n None

-- everywhere the same, and there the same beyond
same_there : {T : Type 0} → (n : ℕ) (v : T) (x : ℕ) → slice_index_or (replicate n v) x v ≡ v
same_there zero v x = refl
same_there (suc n) v zero = refl
same_there (suc n) v (suc x) = same_there n v x

none_there : (n x : ℕ) → slice_index_or (nothing n) x None ≡ None
none_there n x = same_there n None x

origin_there : (n x : ℕ) → 0 < n → slice_index_or (slice_set (nothing n) 0 (Some 0)) x None ≡ origin_alone x
origin_there zero x some = absurd (omega arith)
origin_there (suc n) zero some = refl
origin_there (suc n) (suc x) some = none_there n x

module _ (n : ℕ) (done : List (Option ℕ)) (k : Known) (some : 0 < n) (is : done ≡ slice_set (nothing n) 0 (Some 0))
    (none : (q : ℕ) → known_value k q ≡ None) (ready : List ℕ) (unknown : ready ≡ replicate n 0) where
  abbrev parts : HistoryParts
  parts = record { time = 0; done = done; told = k; expected = nothing 52; ready = ready }

  pub begun_is : the_history parts ≡ nothing_yet
  begun_is =
      ap (λ f. record { now = 0; done = f; told = known_value k; expected = λ p. slice_index_or (nothing 52) p None; ready = λ x. slice_index_or ready x 0 })
      (fun_ext (λ x. ap (λ l. slice_index_or l x None) is ∙ origin_there n x some))
      ∙ ap (λ f. record nothing_yet { told = f; expected = λ p. slice_index_or (nothing 52) p None; ready = λ x. slice_index_or ready x 0 }) (fun_ext none)
      ∙ ap (λ f. record nothing_yet { expected = f; ready = λ x. slice_index_or ready x 0 }) (fun_ext (none_there 52))
      ∙ ap (λ f. record nothing_yet { ready = f }) (fun_ext (λ x. ap (λ l. slice_index_or l x 0) unknown ∙ same_there n 0 x))

  pub begun_kept : (m : Labelled) → IsLabelled m → n ≡ count m.base → IsKeptFor m parts
  begun_kept m good at = record {
    one_each = ap length is ∙ length-set (nothing n) 0 (Some 0) ∙ length-replicate n None ∙ at;
    wide = refl;
    ready_each = ap length unknown ∙ length-replicate n 0 ∙ at;
    history = subst (IsHistory m) (sym begun_is) (nothing_history m good);
    in_time = subst (IsInTime m) (sym begun_is) (record {
      now = omega arith;
      expected = λ p e is. absurd (cc);
      origin = λ p e is o. absurd (cc);
      ready = λ x. omega arith;
    });
  }

-- a list that was empty, made n long
pub all_taken : {T : Type 0} → (n : ℕ) (v : T) (xs : List T) (k : ℕ) → xs ≡ [] → k ≡ 0 → take n xs ++ replicate (n - k) v ≡ replicate n v
all_taken {T} n v xs k e f = ap (λ l. take n l ++ replicate (n - k) v) e ∙ ap (λ i. take n [] ++ replicate i v) (let same : n - k ≡ n = omega arith in same) ∙ taken n
  where
    taken : (i : ℕ) → take i [] ++ replicate i v ≡ replicate i v
    taken zero = refl
    taken (suc i) = refl
