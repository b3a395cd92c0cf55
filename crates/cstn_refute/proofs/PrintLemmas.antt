-- The line of a step, part by part.
use Rattle.std.proofs.Common.{ℕ, ◌≡◌, List, [], ◌∷◌, ◌++◌, get_or, sym, ap, ◌∙◌}
use Rattle.std.proofs.lemmas.List.{append_assoc}
use Rattle.cstn_rules.specs.declared.entries.Entry.{Entry as DeclaredEntry}
use Rattle.cstn_rules.specs.Read.{the_entry}
use Rattle.cstn_label.specs.Read.{marks}
use Rattle.cstn_text.specs.Numbers.{printed_number, printed_value}
use Rattle.cstn_text.specs.PrintedNames.{printed_name}
use Rattle.cstn_text.specs.PrintedLabels.{printed_label}
use Rattle.cstn_refute.specs.Steps.{printed_why, printed_step}

joined : (a n v l : List ℕ) → ((a ++ 32 ∷ n) ++ v) ++ l ≡ a ++ 32 ∷ ((n ++ v) ++ l)
joined a n v l = append_assoc (a ++ 32 ∷ n) v l ∙ append_assoc a (32 ∷ n) (v ++ l) ∙ ap (λ (t : List ℕ). a ++ 32 ∷ t) (sym (append_assoc n v l))

-- the line of a step, by the text of its name
pub line_of : (names : List (List ℕ)) (k : ℕ) (e : DeclaredEntry) (text old new : List ℕ) → text ≡ printed_name (get_or names e.bound.node.0 []) →
    new ≡ old ++ (printed_number k ++ 32 ∷ printed_why e.why ++ 32 ∷ text ++ 32 ∷ printed_value e.bound.least ++ 32 ∷ printed_label (marks e.bound.label) ++ 10 ∷ []) →
    new ≡ old ++ (printed_step names k (the_entry e) ++ 10 ∷ [])
line_of names k e text old new is pushed =
    let rule = printed_number k ++ 32 ∷ printed_why e.why in
    let least = 32 ∷ printed_value e.bound.least in
    let label = 32 ∷ printed_label (marks e.bound.label) in
    pushed
    ∙ ap (λ (t : List ℕ). old ++ (t ++ 10 ∷ [])) (joined rule text least label)
    ∙ ap (λ (t : List ℕ). old ++ ((rule ++ 32 ∷ ((t ++ least) ++ label)) ++ 10 ∷ [])) is
