-- What the laws say of reading what stands in an element, or in the document, one thing after the other. Elements and white
-- space alone may stand there.
use Rattle.std.specs.Prelude.{◌≡◌, ℕ, Bool, true, false, List, [], ◌∷◌, Result, Ok, Err}
use Rattle.std.specs.Borrow.{Bor}
use Rattle.std.specs.List.{list_all}
use Rattle.cstn_markup.specs.Bytes.{is_white}
use Rattle.cstn_markup.specs.Tokens.{Attribute, Token}
use Rattle.cstn_markup.specs.Steps.{Steps}
use Rattle.cstn_markup.specs.Seen.{token_of}
use Rattle.cstn_markup.specs.declared.token.Token.{Token as LentToken}
use Rattle.cstn_markup.specs.declared.token.Kind.{Kind as Lent}
use Rattle.cstn_markup.specs.declared.token.Kind.TheVariants.{Start as StartTag, End as EndTag, Text, Wrong as WrongToken, Finish}
use Rattle.cstn_element.specs.Results.{◌>>=◌}
use Rattle.cstn_element.specs.Results.Refusal.{shape}
use Rattle.cstn_element.specs.Contents.{Tag, content_of}
use Rattle.cstn_element.specs.Elements.{Reading, read_by, blank, passed}
use Rattle.cstn_element.specs.Children.{BeginsWithPart, tag_seen}
use Rattle.cstn_element.specs.Reads.{Reads, ReadsWhole, ReadsFurther, Fails, Gives}
use Rattle.cstn_element.specs.declared.children.Start.{Start}
use Rattle.cstn_element.specs.declared.children.Next.{Next}
use Rattle.cstn_element.specs.declared.children.Next.TheVariants.{Child, End, Wrong}
use Rattle.cstn_element.specs.declared.errors.DocError.{DocError}
use Rattle.cstn_element.specs.declared.errors.DocError.TheVariants.{Shape}

-- white space changes no state, and another text is refused
abbrev pub PassesBlanks : (S A : Type 0) → Reading S A → Type 0
PassesBlanks S A r = (s : S) (at : ℕ) (raw : List ℕ) → r.runs s at raw ≡ (blank at raw >>= λ same. Ok s)

-- the reading began at the tokens `first` in the state `begun`, and is at the tokens `left` in the state `now`: what it answers
-- from there on is what it answers of the whole
abbrev pub ReadingIsAt : {S A : Type 0} → Reading S A → S → S → List (List ℕ) → List Token → List Token → Type 0
ReadingIsAt r begun now names first left = ReadsFurther (read_by r begun) (read_by r now) names first left

-- an element that stands next was read, and the reading goes on behind it, in the state that the element made
abbrev pub GoesOnBehind : (S A : Type 0) → Reading S A → Type 0
GoesOnBehind S A r =
    (begun now later : S) (name : List ℕ) (others : List (List ℕ)) (first before inside behind : List Token) (next : Next) (start : Start)
    → ReadingIsAt r begun now (name ∷ others) first before → BeginsWithPart next name others before inside → next ≡ Child start
    → ReadsWhole {A = Unit {0}} (λ u. later) (r.elements now (tag_seen start)) start.closed start.at start.name.now (name ∷ others) inside behind (Ok tt)
    → ReadingIsAt r begun later (name ∷ others) first behind

-- an element that stands next was refused, and so is the element around it
abbrev pub IsRefusedInside : (S A X : Type 0) → Reading S A → (X → A) → Type 0
IsRefusedInside S A X r view =
    (begun now later : S) (name : List ℕ) (others : List (List ℕ)) (first before inside behind : List Token) (next : Next) (start : Start) (error : DocError)
    → ReadingIsAt r begun now (name ∷ others) first before → BeginsWithPart next name others before inside → next ≡ Child start
    → ReadsWhole {A = Unit {0}} (λ u. later) (r.elements now (tag_seen start)) start.closed start.at start.name.now (name ∷ others) inside behind (Err error)
    → Reads view (read_by r begun) name others first behind (Err error)

-- what stands next isn't allowed there, and the element is refused at its place
abbrev pub IsRefusedNext : (S A X : Type 0) → Reading S A → (X → A) → Type 0
IsRefusedNext S A X r view =
    (begun now : S) (name : List ℕ) (others : List (List ℕ)) (first before after : List Token) (next : Next) (at : ℕ)
    → ReadingIsAt r begun now (name ∷ others) first before → BeginsWithPart next name others before after → next ≡ Wrong at
    → Reads view (read_by r begun) name others first after (Err (Shape at))

-- the end stands next, and the answer for the element is what its end makes of the state
abbrev pub IsEnded : (S A X : Type 0) → Reading S A → (X → A) → Type 0
IsEnded S A X r view =
    (begun now : S) (name : List ℕ) (others : List (List ℕ)) (first before after : List Token) (next : Next) (at : ℕ) (result : Result X DocError)
    → ReadingIsAt r begun now (name ∷ others) first before → BeginsWithPart next name others before after → next ≡ End at → Gives view result (r.ends now at)
    → Reads view (read_by r begun) name others first after result

-- an element that is passed over leaves the state as it is
abbrev pub LeavesState : Type 0 → Type 0
LeavesState S =
    (now : S) (closed : Bool) (at : ℕ) (name : List ℕ) (names : List (List ℕ)) (before after : List Token) (result : Result (Unit {0}) DocError)
    → ReadsWhole {A = Unit {0}} (λ u. u) passed closed at name names before after result
    → ReadsWhole {A = Unit {0}} (λ u. now) (λ content. passed content >>= λ same. Ok now) closed at name names before after result

-- the tag of a token
abbrev pub tag_at : ℕ → Bor (List ℕ) → List Attribute → Tag
tag_at at name attributes = record { at = at; name = name.now; attributes = attributes }

-- an element was read in the document, and the reading goes on behind it, in the state that the element made
abbrev pub GoesOnInDocument : (S A : Type 0) → Reading S A → Type 0
GoesOnInDocument S A r =
    (begun now later : S) (first before inside behind : List Token) (t : LentToken) (name : Bor (List ℕ)) (attributes : List Attribute) (closed : Bool)
    → ReadingIsAt r begun now [] first before → Steps (token_of t) before inside → t.kind ≡ StartTag name attributes closed
    → ReadsWhole {A = Unit {0}} (λ u. later) (r.elements now (tag_at t.at name attributes)) closed t.at name.now [] inside behind (Ok tt)
    → ReadingIsAt r begun later [] first behind

-- an element in the document was refused, and so is the document
abbrev pub IsRefusedInDocument : (S A : Type 0) → Reading S A → Type 0
IsRefusedInDocument S A r =
    (begun now later : S) (first before inside behind : List Token) (t : LentToken) (name : Bor (List ℕ)) (attributes : List Attribute) (closed : Bool)
    (error : DocError)
    → ReadingIsAt r begun now [] first before → Steps (token_of t) before inside → t.kind ≡ StartTag name attributes closed
    → ReadsWhole {A = Unit {0}} (λ u. later) (r.elements now (tag_at t.at name attributes)) closed t.at name.now [] inside behind (Err error)
    → Fails error (read_by r begun (content_of first))

-- white space was read in the document, and the reading goes on behind it in the same state
abbrev pub PassesBlank : (S A : Type 0) → Reading S A → Type 0
PassesBlank S A r =
    (begun now : S) (first before after : List Token) (t : LentToken) (raw : Bor (List ℕ))
    → ReadingIsAt r begun now [] first before → Steps (token_of t) before after → t.kind ≡ Text raw → list_all is_white raw.now ≡ true
    → ReadingIsAt r begun now [] first after

-- an end tag, a text with more than white space, or a token that isn't of its form
abbrev pub IsStray : Lent → Type 0
IsStray (StartTag name attributes closed) = ⊥
IsStray (EndTag name) = Unit {0}
IsStray (Text raw) = list_all is_white raw.now ≡ false
IsStray WrongToken = Unit {0}
IsStray Finish = ⊥

-- a stray token was read, and the document is refused at its place
abbrev pub IsRefusedAt : (S A : Type 0) → Reading S A → Type 0
IsRefusedAt S A r =
    (begun now : S) (first before after : List Token) (t : LentToken)
    → ReadingIsAt r begun now [] first before → Steps (token_of t) before after → IsStray t.kind
    → read_by r begun (content_of first) ≡ Err (shape t.at)

-- the document has ended, and the answer for it is what its end makes of the state
abbrev pub IsFinished : (S A : Type 0) → Reading S A → Type 0
IsFinished S A r =
    (begun now : S) (first before after : List Token) (t : LentToken)
    → ReadingIsAt r begun now [] first before → Steps (token_of t) before after → t.kind ≡ Finish
    → read_by r begun (content_of first) ≡ r.ends now t.at
