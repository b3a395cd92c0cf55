-- The text of a bound is read as that bound, in any order of the marks in its label.
use Rattle.std.proofs.Common.{ℕ, ◌≡◌, ◌≤◌, List, [], ◌∷◌, ◌++◌, get_or, arith, refl, sym, ap, ◌∙◌, subst, append_assoc}
use Rattle.std.specs.Prelude.{Option, Some, ℤ, pos, negsuc, ◌≤ℤ◌}
use Rattle.std.proofs.lemmas.Int.{ints}
use Rattle.std.proofs.lemmas.Option.{same_Some}
use Rattle.cstn_facts.proofs.Options.{then_read}
use Rattle.cstn_label.specs.Labels.{Label}
use Rattle.cstn_label.specs.Bounds.{Bound}
use Rattle.cstn_text.specs.Names.{AreNames}
use Rattle.cstn_text.specs.Numbers.{number_within, printed_number, printed_value}
use Rattle.cstn_text.specs.PrintedNames.{printed_name}
use Rattle.cstn_text.specs.PrintedLabels.{label_read}
use Rattle.cstn_text.proofs.AnyOrderLemmas.{label_text_part}
use Rattle.cstn_text.proofs.LabelReadLemmas.{label_small}
use Rattle.cstn_text.proofs.PartLemmas.{number_part}
use Rattle.cstn_text.specs.Parts.{part, node_read}
use Rattle.cstn_text.proofs.ReadingLemmas.{within_said, part_said, node_said, part_back, within_back, node_back, name_one_part, IsFree, free, spaced, number_free}
use Rattle.cstn_refute.specs.Limits.{most_least}
use Rattle.cstn_refute.specs.Steps.{◌>>=◌, bound_read, named_bound_read}
use Rattle.cstn_refute.specs.Orders.{bound_with}
use Rattle.cstn_refute.specs.Written.{IsPrintableBound}

-- the bound can be written, and the bytes are its text, with some text of its label
pub record IsBoundText (names : List (List ℕ)) (bytes : List ℕ) (b : Bound) : Type 0 where
  pub written : IsPrintableBound names b
  pub label : List ℕ
  pub read : label_read label ≡ Some b.label
  pub text : bytes ≡ bound_with names b label

pub named_said : (names : List (List ℕ)) (bytes : List ℕ) (b : Bound) → named_bound_read names bytes ≡ Some b → IsBoundText names bytes b
named_said names bytes b e =
    let name = then_read (part bytes) _ b e in
    let x = then_read (node_read names name.0.0) _ b name.2 in
    let least = then_read (part name.0.1) _ b x.2 in
    let d = then_read (number_within 0 most_least least.0.0) _ b least.2 in
    let a = then_read (label_read least.0.1) _ b d.2 in
    let same : record { node = x.0; least = pos d.0; label = a.0 } ≡ b = same_Some _ b a.2 in
    let front = printed_name (get_or names x.0 []) in
    let node = node_said names name.0.0 x.0 x.1 in
    let number = within_said 0 most_least least.0.0 d.0 d.1 in
    let high = number.1 in
    subst (IsBoundText names bytes) same (record {
      written = record { node = node.0; low = omega (arith, ints); high = omega (arith, ints, high); marks = label_small least.0.1 a.0 a.1 };
      label = least.0.1;
      read = a.1;
      text = part_said bytes name.0 name.1
          ∙ ap (λ (t : List ℕ). t ++ 32 ∷ name.0.1) node.1
          ∙ ap (λ (t : List ℕ). front ++ 32 ∷ t) (part_said name.0.1 least.0 least.1 ∙ ap (λ (t : List ℕ). t ++ 32 ∷ least.0.1) number.2)
          ∙ sym (append_assoc front (32 ∷ printed_number d.0) (32 ∷ least.0.1));
    })

bound_at : (x : ℕ) (d : ℤ) (a : Label) (label : List ℕ) → pos 0 ≤ℤ d → d ≤ℤ pos most_least → label_read label ≡ Some a →
    bound_read x (printed_value d ++ 32 ∷ label) ≡ Some (record { node = x; least = d; label = a })
bound_at x (negsuc n) a label low high read = absurd (omega (arith, ints, low))
bound_at x (pos n) a label low high read =
    let small : n ≤ most_least = grind (arith, ints) in
    rw (part_back (printed_number n) label (number_part n (omega arith)), within_back 0 most_least n (omega arith) small (omega arith), read) refl

pub named_back : (names : List (List ℕ)) (b : Bound) (label : List ℕ) → AreNames names → IsPrintableBound names b → label_read label ≡ Some b.label →
    named_bound_read names (bound_with names b label) ≡ Some b
named_back names b label are is read =
    let rest = printed_value b.least ++ 32 ∷ label in
    ap (named_bound_read names) (append_assoc (printed_name (get_or names b.node [])) (32 ∷ printed_value b.least) (32 ∷ label))
    ∙ ap (λ (o : Option (List ℕ × List ℕ)). o >>= (λ name. node_read names name.0 >>= (λ x. bound_read x name.1)))
    (part_back (printed_name (get_or names b.node [])) rest (name_one_part names b.node are is.node))
    ∙ ap (λ o. o >>= (λ x. bound_read x rest)) (node_back names b.node are is.node)
    ∙ bound_at b.node b.least b.label label is.low is.high read

least_free : (d : ℤ) → pos 0 ≤ℤ d → d ≤ℤ pos most_least → IsFree (printed_value d)
least_free (negsuc n) low high = absurd (omega (arith, ints, low))
least_free (pos n) low high =
    let small : n ≤ most_least = grind (arith, ints) in
    number_free n (omega arith)

pub bound_free : (names : List (List ℕ)) (b : Bound) (label : List ℕ) → AreNames names → IsPrintableBound names b → label_read label ≡ Some b.label →
    IsFree (bound_with names b label)
bound_free names b label are is read =
    spaced (printed_name (get_or names b.node []) ++ 32 ∷ printed_value b.least) label
    (spaced (printed_name (get_or names b.node [])) (printed_value b.least) (free _ (name_one_part names b.node are is.node)) (least_free b.least is.low is.high))
    (free label (label_text_part label b.label read))
