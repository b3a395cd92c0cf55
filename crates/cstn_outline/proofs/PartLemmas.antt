-- The names on a line, one after the other.
use Rattle.std.proofs.Common.{ℕ, ◌≡◌, List, [], ◌∷◌, ◌++◌, refl, sym, ap, ◌∙◌}
use Rattle.std.specs.Prelude.{Option, None, Some}
use Rattle.std.specs.Option.{option_map, option_and_then}
use Rattle.std.proofs.lemmas.List.{map-append, append_assoc}
use Rattle.cstn_label.specs.declared.nodes.NodeId.{NodeId}
use Rattle.cstn_text.specs.Parts.{SplitText, parts_at, node_read}
use Rattle.cstn_outline.specs.Read.{node_numbers}
use Rattle.cstn_outline.specs.Texts.{put_first, nodes_read, tree_names_read}

-- the names that are still to be read come after those that were read
abbrev pub after_names : List NodeId → Option (List ℕ) → Option (List ℕ)
after_names nodes others = option_map (λ xs. node_numbers nodes ++ xs) others

module _ (names : List (List ℕ)) (nodes : List NodeId) (left : List ℕ) where
  pub names_on_read : (name rest : List ℕ) (x : NodeId) → parts_at 32 left ≡ (name ∷ (parts_at 32 rest).0, (parts_at 32 rest).1) → node_read names name ≡ Some x.0 →
      after_names nodes (tree_names_read names left) ≡ after_names (nodes ++ x ∷ []) (tree_names_read names rest)
  names_on_read name rest x is read =
      ap {A = SplitText} (λ p. after_names nodes (nodes_read names p.0 p.1)) is
      ∙ ap (λ o. after_names nodes (option_and_then (λ y. put_first y (tree_names_read names rest)) o)) read
      ∙ one (tree_names_read names rest)
    where
      one : (o : Option (List ℕ)) → after_names nodes (put_first x.0 o) ≡ after_names (nodes ++ x ∷ []) o
      one None = refl
      one (Some xs) = ap (λ l. Some l) (sym (ap (λ l. l ++ xs) (map-append (λ (n : NodeId). n.0) nodes (x ∷ [])) ∙ append_assoc (node_numbers nodes) (x.0 ∷ []) xs))

  pub names_wrong : (name rest : List ℕ) → parts_at 32 left ≡ (name ∷ (parts_at 32 rest).0, (parts_at 32 rest).1) → node_read names name ≡ None → after_names nodes (tree_names_read names left) ≡ None
  names_wrong name rest is read =
      ap {A = SplitText} (λ p. after_names nodes (nodes_read names p.0 p.1)) is
      ∙ ap (λ o. after_names nodes (option_and_then (λ y. put_first y (tree_names_read names rest)) o)) read

  pub names_last : (x : NodeId) → parts_at 32 left ≡ ([], left) → node_read names left ≡ Some x.0 → after_names nodes (tree_names_read names left) ≡ Some (node_numbers (nodes ++ x ∷ []))
  names_last x is read =
      ap {A = SplitText} (λ p. after_names nodes (nodes_read names p.0 p.1)) is
      ∙ ap (λ o. after_names nodes (option_map (λ y. y ∷ []) o)) read
      ∙ ap (λ l. Some l) (sym (map-append (λ (n : NodeId). n.0) nodes (x ∷ [])))

  pub names_last_wrong : parts_at 32 left ≡ ([], left) → node_read names left ≡ None → after_names nodes (tree_names_read names left) ≡ None
  names_last_wrong is read =
      ap {A = SplitText} (λ p. after_names nodes (nodes_read names p.0 p.1)) is
      ∙ ap (λ o. after_names nodes (option_map (λ y. y ∷ []) o)) read
