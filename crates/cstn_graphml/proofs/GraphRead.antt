-- Steps of reading the graph, the root and the document.
use Rattle.std.proofs.Common.{◌≡◌, ℕ, List, ◌∷◌, Bool, true, false, Option, Result, Ok, Err, ap, sym, ◌∙◌, subst}
use Rattle.cstn_markup.specs.Tokens.{Token}
use Rattle.cstn_element.specs.Results.{Refusal, ◌>>=◌}
use Rattle.cstn_element.specs.Results.Refusal.{shape}
use Rattle.cstn_element.specs.Contents.{Tag, Content, contents, inner}
use Rattle.cstn_element.specs.Contents.Content.{done}
use Rattle.cstn_element.specs.Elements.{Reading, read_by, passed}
use Rattle.cstn_graphml.specs.DrawnGraph.{DrawnGraph}
use Rattle.cstn_graphml.specs.Document.{Part, graph_child, root_child}
use Rattle.cstn_graphml.specs.Document.Part.{another}
use Rattle.cstn_element.specs.Reads.{Reads, ReadsWhole, ReadsFurther, Fails, Gives, inside, behind}
use Rattle.cstn_element.specs.InTurn.{LeavesState}
use Rattle.cstn_element.specs.declared.errors.DocError.{DocError}
use Rattle.cstn_element.specs.declared.errors.DocError.TheVariants.{Shape}

-- an element whose end is refused is refused at its end
pub end_fails : {S A X : Type 0} (r : Reading S A) (start : S) (view : X → A) (s : S) (name : List ℕ) (others : List (List ℕ)) (at : ℕ) (first before after : List Token) → ReadsFurther (read_by r start) (read_by r s) (name ∷ others) first before
    → contents (name ∷ others) before ≡ done at ∷ contents others after → r.ends s at ≡ Err (shape at) → Reads view (read_by r start) name others first after (Err (Shape at))
unfolding read_by
end_fails r start view s name others at first before after c e d = record { told = c.told ∙ ap (λ cs. read_by r s (inner cs)) e ∙ d; left = tt }

-- an element that is closed at once is refused where one with nothing in it is
pub closed_fails : {V D : Type 0} (view : V → D) (meaning : Content → Result D Refusal) (e : DocError) (closed : Bool) (at : ℕ) (name : List ℕ) (names : List (List ℕ)) (before after : List Token)
    → closed ≡ true → Fails e (meaning (done at)) → ReadsWhole view meaning closed at name names before after (Err e)
closed_fails view meaning e closed at name names before after is f = record { told = subst (λ q. Fails e (meaning (inside q at name names before))) (sym is) f; left = tt }

-- an element that is closed at once is read where one with nothing in it is
pub closed_read : {V D : Type 0} (view : V → D) (meaning : Content → Result D Refusal) (v : V) (closed : Bool) (at : ℕ) (name : List ℕ) (names : List (List ℕ)) (left : List Token)
    → closed ≡ true → meaning (done at) ≡ Ok (view v) → ReadsWhole view meaning closed at name names left left (Ok v)
closed_read view meaning v closed at name names left is m = record { told = ap (λ q. meaning (inside q at name names left)) is ∙ m; left = ap (λ q. behind q name names left) is }

-- an element was read and then checked: where the check gives what its definition tells, so do both together
pub judged : {V D U B : Type 0} (view : V → D) (meaning : Content → Result D Refusal) (seen : U → B) (f : D → Result B Refusal) (closed : Bool) (at : ℕ) (name : List ℕ) (names : List (List ℕ)) (before after : List Token)
    (v : V) (r : Result U DocError) → ReadsWhole view meaning closed at name names before after (Ok v) → Gives seen r (f (view v)) → ReadsWhole seen (λ content. meaning content >>= f) closed at name names before after r
judged view meaning seen f closed at name names before after v (Ok u) h g = record { told = ap (λ o. o >>= f) h.told ∙ g; left = h.left }
judged view meaning seen f closed at name names before after v (Err e) h g = record { told = subst (Fails e) (sym (ap (λ o. o >>= f) h.told)) g; left = tt }

-- an element in the root that is no graph is passed over
pub root_passed : LeavesState (Option DrawnGraph) → (b : Bool) (s : Option DrawnGraph) (tag : Tag) (closed : Bool) (name : List ℕ) (names : List (List ℕ)) (before after : List Token) (r : Result (Unit {0}) DocError) → b ≡ false
    → ReadsWhole {A = Unit {0}} (λ u. u) passed closed tag.at name names before after r → ReadsWhole {A = Unit {0}} (λ u. s) (root_child b s tag) closed tag.at name names before after r
root_passed leaves b s tag closed name names before after r e h = subst (λ q. ReadsWhole {A = Unit {0}} (λ u. s) (root_child q s tag) closed tag.at name names before after r) (sym e) (leaves s closed tag.at name names before after r h)

-- an element in the graph that is no data element, no node and no edge is passed over
pub part_passed : LeavesState DrawnGraph → (part : Part) (d : DrawnGraph) (tag : Tag) (closed : Bool) (name : List ℕ) (names : List (List ℕ)) (before after : List Token) (r : Result (Unit {0}) DocError) → another ≡ part
    → ReadsWhole {A = Unit {0}} (λ u. u) passed closed tag.at name names before after r → ReadsWhole {A = Unit {0}} (λ u. d) (graph_child part d tag) closed tag.at name names before after r
part_passed leaves part d tag closed name names before after r e h = subst (λ q. ReadsWhole {A = Unit {0}} (λ u. d) (graph_child q d tag) closed tag.at name names before after r) e (leaves d closed tag.at name names before after r h)
