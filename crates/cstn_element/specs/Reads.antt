-- What it is to read the rest of an element.
use Rattle.std.specs.Prelude.{◌≡◌, ℕ, List, ◌∷◌, length, Result, Ok, Err, OnOk, Bool, true, false}
use Rattle.cstn_element.specs.Contents.Content.{done}
use Rattle.cstn_markup.specs.Tokens.{Token}
use Rattle.cstn_element.specs.Results.{Refusal}
use Rattle.cstn_element.specs.Results.Refusal.{not_utf8, shape, name_twice, unknown_node, bad_value, label_text, contingent, edge_type, no_deadline}
use Rattle.cstn_element.specs.Contents.{Content, contents, inner, outer}
use Rattle.cstn_element.specs.Faults.{document_refusal}
use Rattle.cstn_element.specs.declared.errors.Fault.{Fault}
use Rattle.cstn_element.specs.declared.errors.DocError.{DocError}
use Rattle.cstn_element.specs.declared.errors.DocError.TheVariants.{NotUtf8, Shape, NameTwice, UnknownNode, Value, LabelText, Contingent, EdgeType, NoDeadline, Net, Lift, Memory}

-- the error is the refusal that the definition tells, or it is want of memory, which may come at any point
abbrev pub Fails : {B : Type 0} → DocError → Result B Refusal → Type 0
Fails (NotUtf8 at) told = told ≡ Err (not_utf8 at)
Fails (Shape at) told = told ≡ Err (shape at)
Fails (NameTwice at) told = told ≡ Err (name_twice at)
Fails (UnknownNode at) told = told ≡ Err (unknown_node at)
Fails (Value at) told = told ≡ Err (bad_value at)
Fails (LabelText at) told = told ≡ Err (label_text at)
Fails (Contingent at) told = told ≡ Err (contingent at)
Fails (EdgeType at) told = told ≡ Err (edge_type at)
Fails NoDeadline told = told ≡ Err no_deadline
Fails (Net error names) told = ⊥
Fails (Lift error names) told = ⊥
Fails (Memory e) told = Unit {0}

-- what was returned, with a fault as the refusal that it stands for
abbrev pub raised : {A : Type 0} → Result A Fault → Result A DocError
raised (Ok x) = Ok x
raised (Err fault) = Err (document_refusal fault)

-- what was returned, seen by a view, is what the definition tells
abbrev pub Gives : {A B : Type 0} → (A → B) → Result A DocError → Result B Refusal → Type 0
Gives view (Ok x) told = told ≡ Ok (view x)
Gives view (Err e) told = Fails e told

abbrev pub LeavesAt : {A : Type 0} → Result A DocError → List (List ℕ) → List Token → List Token → List (List ℕ) → Type 0
LeavesAt (Ok x) names before after others = outer (contents names before) ≡ contents others after
LeavesAt (Err e) names before after others = Unit {0}

-- The rest of the element of this name, inside elements of the other names, was read: what was returned is what `meaning` tells
-- of its content, and the tokens left are those behind its end.
pub record Reads {A B : Type 0} (view : A → B) (meaning : Content → Result B Refusal) (name : List ℕ) (others : List (List ℕ))
    (before after : List Token) (result : Result A DocError) : Type 0 where
  pub told : Gives view result (meaning (inner (contents (name ∷ others) before)))
  pub left : LeavesAt result (name ∷ others) before after others

-- the rest of the element of this name, inside so many others, was read likewise
abbrev pub ReadsRest : {A B : Type 0} → ℕ → (A → B) → (Content → Result B Refusal) → List ℕ → List Token → List Token → Result A DocError → Type 0
ReadsRest depth view meaning name before after result =
    (others : List (List ℕ)) → length others ≡ depth → Reads view meaning name others before after result

-- The reading went from the tokens `before` on to the tokens `after` in the same element: what `meaning` tells of the rest from
-- `before` on, `later` tells of the rest from `after` on.
pub record ReadsFurther {B : Type 0} (meaning later : Content → Result B Refusal) (names : List (List ℕ)) (before after : List Token) : Type 0 where
  pub told : meaning (inner (contents names before)) ≡ later (inner (contents names after))
  pub left : outer (contents names before) ≡ outer (contents names after)

-- what stands in an element of which the start tag was read, closed at once or not
abbrev pub inside : Bool → ℕ → List ℕ → List (List ℕ) → List Token → Content
inside true at name names left = done at
inside false at name names left = inner (contents (name ∷ names) left)

-- what stands behind that element, in each element around it
abbrev pub behind : Bool → List ℕ → List (List ℕ) → List Token → List Content
behind true name names left = contents names left
behind false name names left = outer (contents (name ∷ names) left)

-- An element whose start tag was read, inside elements of these names, was read to its end: what was returned is what `meaning`
-- tells of its content.
pub record ReadsWhole {A B : Type 0} (view : A → B) (meaning : Content → Result B Refusal) (closed : Bool) (at : ℕ) (name : List ℕ) (names : List (List ℕ))
    (before after : List Token) (result : Result A DocError) : Type 0 where
  pub told : Gives view result (meaning (inside closed at name names before))
  pub left : OnOk result (behind closed name names before ≡ contents names after)
