-- The clinical pathway: Z, Sample, Antibiotic, Review and Discharge. The sample tells after 60 minutes whether there is an
-- infection, the proposition 34, and the antibiotic is given only with one.
use Rattle.std.specs.Prelude.{ℕ, Bool, true, cond, ◌==◌, List, [], ◌∷◌, Option, Some, None, ℤ, pos, negsuc, slice_index_or}
use Rattle.cstn_label.specs.declared.marks.Mark.{Mark}
use Rattle.cstn_label.specs.declared.marks.Mark.TheVariants.{Absent, Yes, No}
use Rattle.cstn_label.specs.Labels.{Label, empty, with_mark}
use Rattle.cstn_net.specs.Networks.{Constraint}
use Rattle.cstn_lift.specs.Labelled.{Labelled}
use Rattle.cstn_history.specs.Histories.{History}

-- the proposition 34, an infection, has the mark m, and no other has one
abbrev pub infection : Mark → Label
infection m = with_mark empty 34 m

abbrev pub link : ℕ → ℕ → ℕ → ℤ → Mark → Constraint
link id from to most m = record { id = id; from = from; to = to; most = most; label = infection m }

abbrev pub pathway : Labelled
pathway = record {
  base = record {
    deadline = 360;
    observes = None ∷ (Some 34 ∷ (None ∷ (None ∷ (None ∷ []))));
    reaction = λ p. cond (p == 34) 60 1;
    constraints =
        link 0 0 1 (pos 15) Absent ∷
        (link 1 2 1 (negsuc 64) Yes ∷
        (link 2 1 2 (pos 90) Yes ∷
        (link 3 3 2 (negsuc 119) Yes ∷
        (link 4 3 1 (negsuc 79) No ∷
        (link 5 1 3 (pos 120) No ∷
        (link 6 4 3 (negsuc 9) Absent ∷
        (link 7 0 4 (pos 360) Absent ∷ [])))))));
  };
  labels = empty ∷ (empty ∷ (infection Yes ∷ (empty ∷ (empty ∷ []))));
}

-- a history by its lists
abbrev pub happened : ℕ → List (Option ℕ) → (ℕ → Option Bool) → (ℕ → Option ℕ) → History
happened now moments told expected = record {
  now = now;
  done = λ x. slice_index_or moments x None;
  told = told;
  expected = expected;
  ready = λ x. 0;
}

-- nothing is said of any proposition but 34
abbrev pub of_infection : {T : Type 0} → T → ℕ → Option T
of_infection v p = cond (p == 34) (Some v) None

abbrev pub of_none : {T : Type 0} → ℕ → Option T
of_none p = None

-- the sample is done at 5
abbrev pub sampled : History
sampled = happened 5 (Some 0 ∷ (Some 5 ∷ [])) of_none of_none

-- and at 45 an infection is told
abbrev pub infected : History
infected = happened 45 (Some 0 ∷ (Some 5 ∷ [])) (of_infection true) of_none

-- and at 112 the antibiotic is done
abbrev pub given_late : History
given_late = happened 112 (Some 0 ∷ (Some 5 ∷ (Some 112 ∷ []))) (of_infection true) of_none

-- the sample is done at 10, it is 100, and the result is expected at 130
abbrev pub result_late : History
result_late = happened 100 (Some 0 ∷ (Some 10 ∷ [])) of_none (of_infection 130)
