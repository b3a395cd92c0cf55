-- What is done in a session that follows is named then, and what is awaited is told before time passes it.
use Rattle.std.specs.Prelude.{ℕ, ◌≡◌, ◌⊎◌, List, [], ◌∷◌, ◌++◌, Option, Some, None, codes}
use Rattle.std.specs.List.{All}
use Rattle.cstn_label.specs.declared.nodes.NodeId.{NodeId}
use Rattle.cstn_history.specs.Continuations.{Can, IsNamed}
use Rattle.cstn_lines.specs.FollowLines.{Follow, follow_read, done_at, came_at, now_at, awaited_at, ready_at, edits, ends_by, asks_next, asks_by, asks_blame, asks_rest}
use Rattle.cstn_reply.specs.Texts.{line, yes_line, full_line}
use Rattle.cstn_reply.specs.Sessions.{more}
use Rattle.cstn_follow.specs.Following.{Following}
use Rattle.cstn_follow.specs.FactLines.{nodes_of}
use Rattle.cstn_follow.specs.Hearing.{counted}
use Rattle.cstn_follow.specs.Progress.{IsQuietUpto}
use Rattle.cstn_followed.specs.Sessions.{follow_turn}

-- the moment is no later than the next one
abbrev pub IsUptoNext : Following → ℕ → Type 0
IsUptoNext s t = IsQuietUpto s.network s.history t

-- each time-point that has one of these names is named at the moment
abbrev pub AreNamed : Following → ℕ → List (List ℕ) → Type 0
AreNamed s t given = All (λ (x : NodeId). IsNamed s.network s.history t x.0) (nodes_of s.names given)

-- the line says that what is named was done, that an outcome came, or what time it is, no later than the next moment
abbrev pub KeepsToNext : Following → Option Follow → Type 0
KeepsToNext s None = ⊥
KeepsToNext s (Some (done_at t given)) = IsUptoNext s t × AreNamed s t given
KeepsToNext s (Some (came_at t p value)) = IsUptoNext s t
KeepsToNext s (Some (now_at t)) = IsUptoNext s t
KeepsToNext s (Some (awaited_at t p)) = ⊥
KeepsToNext s (Some (ready_at t name)) = ⊥
KeepsToNext s (Some (edits edit)) = ⊥
KeepsToNext s (Some (ends_by deadline)) = ⊥
KeepsToNext s (Some asks_next) = ⊥
KeepsToNext s (Some (asks_by name)) = ⊥
KeepsToNext s (Some asks_blame) = ⊥
KeepsToNext s (Some asks_rest) = ⊥

-- each line does, in the state after those before it
abbrev pub KeepToNext : Following → List (List ℕ) → Type 0
KeepToNext s [] = Unit {0}
KeepToNext s (first ∷ lines) =
    KeepsToNext s (follow_read first)
    × ((text : List ℕ) (next : Following) → follow_turn s first ≡ more text next → KeepToNext next lines)

-- the line is refused, and nothing but the count of lines changes
abbrev pub IsRefusedBy : Following → List ℕ → Following → Type 0
IsRefusedBy s text next = (next ≡ counted s) × ((why : List ℕ) × (text ≡ line (codes "refused " ++ why)))

-- the text is the line of a yes
abbrev pub IsYesLine : List ℕ → Type 0
IsYesLine text = (load : ℕ) × (text ≡ yes_line load)

-- the line is refused, or the answer is yes, or that the log of what is left is too long; and some table still continues what has
-- happened
pub record KeepsGoing (s : Following) (bytes : List ℕ) (next : Following) : Type 0 where
  pub text : List ℕ
  pub answer : follow_turn s bytes ≡ more text next
  pub said : IsRefusedBy s text next ⊎ (IsYesLine text ⊎ (text ≡ full_line s.cap))
  pub can : Can next.network next.history

-- it is so with each line, from the state after those before it
abbrev pub KeepGoing : Following → List (List ℕ) → Type 0
KeepGoing s [] = Unit {0}
KeepGoing s (first ∷ lines) = (next : Following) × KeepsGoing s first next × KeepGoing next lines
