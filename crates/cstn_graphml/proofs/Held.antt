-- Values of the program hold what a document says: its propositions have letters, and its labels have words.
use Rattle.std.proofs.Common.{◌≡◌, ℕ, zero, suc, ◌<◌, ◌≤◌, ◌+◌, ◌*◌, ◌-◌, ◌^◌, Bool, true, false, eqb, List, [], ◌∷◌, map, refl, ap, sym, ◌∙◌, subst, arith, Option, Some, None, inl, inr}
use Rattle.std.specs.List.{All}
use Rattle.std.specs.Int.{bit_at}
use Rattle.std.proofs.Math.Path.{fun_ext}
use Rattle.std.proofs.Math.Nat.{two-pow-succ}
use Rattle.std.proofs.lemmas.Bool.{cases_lt}
use Rattle.std.proofs.lemmas.Nat.Bits.{bit_at_cat_low, bit_at_cat_high, bit_at_above}
use Rattle.std.proofs.lemmas.List.Elements.{All-head, All-tail}
use Rattle.cstn_label.specs.declared.marks.Mark.{Mark}
use Rattle.cstn_label.specs.declared.marks.Mark.TheVariants.{Absent, Yes, No, Unknown}
use Rattle.cstn_label.specs.declared.labels.Label.{Label as Lent}
use Rattle.cstn_label.specs.Labels.{Label}
use Rattle.cstn_label.specs.Read.{marks, mark_of}
use Rattle.cstn_label.specs.Words.{has_bit}
use Rattle.cstn_net.specs.declared.drafts.Draft.{Draft}
use Rattle.cstn_net.specs.declared.points.TimePoint.{TimePoint}
use Rattle.cstn_net.specs.Drafts.{BuilderParts}
use Rattle.cstn_element.specs.LabelTexts.{IsOfLiterals}
use Rattle.cstn_graphml.specs.DrawnGraph.{Observation, DrawnConstraint}
use Rattle.cstn_graphml.specs.DrawnGraphLaws.{IsLettered}
use Rattle.cstn_graphml.specs.Document.{Parts}
use Rattle.cstn_graphml.specs.Networks.{IsHeld, observation_of, drawn_of}
use Rattle.cstn_graphml.proofs.OfDocuments.{AreDrawn, constraint_literals, label_literals, letters_observed}

bit : Bool → ℕ
bit true = 1
bit false = 0

-- the word of the bits below n
word : (ℕ → Bool) → ℕ → ℕ
word f zero = 0
word f (suc n) = bit (f n) * 2 ^ n + word f n

bit_small : (b : Bool) (p w : ℕ) → w < p → bit b * p + w < p + p
unfolding bit
bit_small true p w small = omega arith
bit_small false p w small = omega arith

word_small : (f : ℕ → Bool) (n : ℕ) → word f n < 2 ^ n
unfolding word
word_small f zero = omega arith
word_small f (suc n) = subst (λ k. word f (suc n) < k) (sym (two-pow-succ n)) (bit_small (f n) (2 ^ n) (word f n) (word_small f n))

bit_here : (b : Bool) (j : ℕ) → j ≡ 0 → eqb (bit_at (bit b) j) 1 ≡ b
unfolding bit
bit_here true j z = rw z refl
bit_here false j z = rw z refl

word_bit : (f : ℕ → Bool) (n i : ℕ) → i < n → has_bit (word f n) i ≡ f i
unfolding word
word_bit f zero i below = absurd (omega (arith, below))
word_bit f (suc n) i below = elim (cases_lt i n) [
  | inl low ↦ ap (λ b. eqb b 1) (bit_at_cat_low (bit (f n)) n (word f n) i low) ∙ word_bit f n i low
  | inr high ↦
      let here : i ≡ n = omega (arith, below, high) in
      ap (λ b. eqb b 1) (bit_at_cat_high (bit (f n)) n (word f n) i (word_small f n) high) ∙ bit_here (f n) (i - n) (omega (arith, here)) ∙ ap f (sym here)
]

says_yes : Mark → Bool
says_yes Absent = false
says_yes Yes = true
says_yes No = false
says_yes Unknown = true

says_no : Mark → Bool
says_no Absent = false
says_no Yes = false
says_no No = true
says_no Unknown = true

mark_back : (m : Mark) → mark_of (says_yes m) (says_no m) ≡ m
unfolding says_yes says_no
mark_back Absent = refl
mark_back Yes = refl
mark_back No = refl
mark_back Unknown = refl

word_above : (f : ℕ → Bool) (p : ℕ) → 52 ≤ p → has_bit (word f 52) p ≡ false
word_above f p high = ap (λ b. eqb b 1) (bit_at_above (word f 52) 52 p (word_small f 52) high)

-- the program's label with these marks
label_held : Label → Lent
label_held a = record {
  yes = word (λ p. says_yes (a p)) 52;
  no = word (λ p. says_no (a p)) 52;
  yes_in_range = word_small (λ p. says_yes (a p)) 52;
  no_in_range = word_small (λ p. says_no (a p)) 52;
}

marks_held : (a : Label) → ((p : ℕ) → 52 ≤ p → a p ≡ Absent) → marks (label_held a) ≡ a
unfolding label_held
marks_held a letters = fun_ext (λ p. elim (cases_lt p 52) [
  | inl low ↦ rw (word_bit (λ q. says_yes (a q)) 52 p low, word_bit (λ q. says_no (a q)) 52 p low) (mark_back (a p))
  | inr high ↦ rw (word_above (λ q. says_yes (a q)) p high, word_above (λ q. says_no (a q)) p high) (sym (letters p high))
])

labels_held : (labels : List Label) → All IsOfLiterals labels → map marks (map label_held labels) ≡ labels
labels_held [] all = refl
labels_held (a ∷ labels) all = rw (marks_held a (All-head IsOfLiterals a labels all).letters, labels_held labels (All-tail IsOfLiterals a labels all)) refl

pub draft_held : DrawnConstraint → Draft
draft_held c = record { from = c.from; to = c.to; most = c.most; label = label_held c.label }

pub drafts_held : (cs : List DrawnConstraint) → All (λ (c : DrawnConstraint). IsOfLiterals c.label) cs → map drawn_of (map draft_held cs) ≡ cs
unfolding draft_held
drafts_held [] all = refl
drafts_held (c ∷ cs) all =
    let here = marks_held c.label (All-head (λ (c : DrawnConstraint). IsOfLiterals c.label) c cs all).letters in
    let later = drafts_held cs (All-tail (λ (c : DrawnConstraint). IsOfLiterals c.label) c cs all) in
    rw (here, later) refl

point_held : (o : Option Observation) → IsLettered o → TimePoint
point_held (Some o) small = record { observes = Some (record { index = o.prop; in_range = small }); reaction = o.reaction }
point_held None small = record { observes = None; reaction = 1 }

point_back : (o : Option Observation) (small : IsLettered o) → observation_of (point_held o small) ≡ o
unfolding point_held
point_back (Some o) small = refl
point_back None small = refl

points_held : (os : List (Option Observation)) → All IsLettered os → (ts : List TimePoint) × (map observation_of ts ≡ os)
points_held [] all = ([], refl)
points_held (o ∷ os) all =
    let small = All-head IsLettered o os all in
    let later = points_held os (All-tail IsLettered o os all) in
    (point_held o small ∷ later.0, rw (point_back o small, later.1) refl)

pub held : (parts : Parts) → AreDrawn parts → IsHeld parts
held parts is =
    let points = points_held parts.observes (letters_observed parts is) in
    let builder : BuilderParts = record { deadline = parts.deadline; points = points.0; drafts = map draft_held parts.constraints } in
    record {
      builder = builder;
      parts_are = record { deadline = refl; observes = points.1; constraints = drafts_held parts.constraints (constraint_literals parts is) };
      labels = map label_held parts.labels;
      labels_are = labels_held parts.labels (label_literals parts is);
    }
