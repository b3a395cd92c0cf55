-- What the answers of a guided session tell.
use Rattle.std.specs.Prelude.{◌≡◌, ◌↔◌, ◌≤◌, ◌<◌, ℕ, ◌+◌, Bool, true, List, ◌∷◌, ◌++◌, Option, None, Some, codes, decimal}
use Rattle.cstn_label.specs.Bounds.{Bound}
use Rattle.cstn_net.specs.Networks.{Observes, count}
use Rattle.cstn_lift.specs.Labelled.{Labelled}
use Rattle.cstn_lift.specs.Lowered.{lowered}
use Rattle.cstn_lift.specs.Strategies.{IsLabelledLeast}
use Rattle.cstn_lines.specs.LiveLines.{Live, moment_at, seen, due_now, live_read}
use Rattle.cstn_exec.specs.Runs.{next as next_moment, outcome_of, is_awaited}
use Rattle.cstn_exec.specs.Moves.{EventRefusal, Done, Past, Late, Awaiting, NotExecuted, Known, moment_refusal}
use Rattle.cstn_exec.specs.Right.{IsDue, IsDone, IsFirstAwaited}
use Rattle.cstn_exec.specs.Guides.{Guided, guide_begun, named_at, advanced, see_refusal}
use Rattle.cstn_exec.specs.Sound.{IsNamedAt, AgreesHanded, IsOnTime, IsLed}
use Rattle.cstn_reply.specs.Texts.{line, Said}
use Rattle.cstn_reply.specs.Sessions.{play, answers}
use Rattle.cstn_exec.specs.Running.{moment_line, refused_text, seen_text}
use Rattle.cstn_run.specs.Least.{NamesLeast, IsDueMoment, TellsDue}
use Rattle.cstn_run.specs.Sessions.{guide_turn, guide_ending}
use Rattle.cstn_reply.specs.Reached.{ended, LeadsTo, Says}

-- the lines lead a guided session from its beginning to this state, and the next line is neither too long nor too late
abbrev pub GuidesTo : List (List ℕ) → Labelled → List Bound → List (List ℕ) → List ℕ → Guided → Type 0
GuidesTo names m bounds before next g = LeadsTo (guide_turn names m bounds) (guide_begun (count m.base)) before next g

-- a guided session says this text to a line
abbrev pub GuideSays : List (List ℕ) → Labelled → List Bound → List (List ℕ) → List ℕ → List ℕ → Type 0
GuideSays names m bounds before next text = Says (guide_turn names m bounds) (guide_ending m bounds) (guide_begun (count m.base)) before next text

-- The answer to a moment that is accepted names, in ascending number, exactly the time-points that aren't executed yet, whose
-- least moment it is by what is known, and whose completed labels hold by that. In each scenario that agrees with the outcomes
-- that were handed in and are known, each of them is executed, and at its least moment.
abbrev pub GuideNamesLeast : List (List ℕ) → Labelled → List Bound → List (List ℕ) → List ℕ → Guided → ℕ → Type 0
GuideNamesLeast names m bounds before next g t =
    NamesLeast (λ named. GuideSays names m bounds before next (moment_line names t named)) (IsNamedAt m g.run t)
    (AgreesHanded m (advanced m bounds g t)) (λ s x. IsLabelledLeast m s x t)

-- the answer to `due` is the due moment, by which moments are accepted, or that each time-point is executed or left out
abbrev pub GuideTellsDue : List (List ℕ) → Labelled → List Bound → List (List ℕ) → List ℕ → Guided → Type 0
GuideTellsDue names m bounds before next g =
    TellsDue (λ text. GuideSays names m bounds before next (line text)) (lowered m) bounds g.run

-- ---- which moments are accepted

-- some time-point is neither executed nor left out
abbrev pub IsUnfinished : Labelled → Guided → Type 0
IsUnfinished m g = IsDone (lowered m) g.run → ⊥

-- t is above the last accepted moment
abbrev pub IsAbove : Guided → ℕ → Type 0
IsAbove g t = next_moment g.run ≤ t

-- no outcome is awaited at t
abbrev pub AwaitsNothing : Labelled → Guided → ℕ → Type 0
AwaitsNothing m g t = (p : ℕ) → is_awaited (lowered m) g.run (t + 1) p ≡ true → ⊥

-- something is left to do, t is above the last accepted moment, no outcome is awaited at t, and t is at most the due moment
pub record IsAcceptable (m : Labelled) (g : Guided) (t : ℕ) : Type 0 where
  pub unfinished : IsUnfinished m g
  pub above : IsAbove g t
  pub awaits_nothing : AwaitsNothing m g t
  pub by_due : (u : ℕ) × IsDueMoment (lowered m) g.run (Some u) × (t ≤ u)

-- this is the first of the parts of `IsAcceptable` that fails
abbrev pub IsRefusedFor : Labelled → Guided → ℕ → EventRefusal → Type 0
IsRefusedFor m g t Done = IsDone (lowered m) g.run
IsRefusedFor m g t (Past now) = IsUnfinished m g × (g.run.now ≡ Some now) × (t ≤ now)
IsRefusedFor m g t (Awaiting p) = IsUnfinished m g × IsAbove g t × IsFirstAwaited (lowered m) g.run t p
IsRefusedFor m g t (Late u) = IsUnfinished m g × IsAbove g t × AwaitsNothing m g t × IsDueMoment (lowered m) g.run (Some u) × (u < t)
IsRefusedFor m g t (NotExecuted p) = ⊥
IsRefusedFor m g t (Known p value) = ⊥

-- A moment is accepted exactly where it is acceptable, and refused for a reason exactly where that is the first that stands
-- against it. The answer to a moment that is refused tells the reason.
pub record AcceptsExactly (names : List (List ℕ)) (m : Labelled) (bounds : List Bound) (before : List (List ℕ)) (next : List ℕ) (g : Guided) (t : ℕ) : Type 0 where
  pub accepted : moment_refusal (lowered m) bounds g.run t ≡ None ↔ IsAcceptable m g t
  pub refused : (why : EventRefusal) → moment_refusal (lowered m) bounds g.run t ≡ Some why ↔ IsRefusedFor m g t why
  pub says : (why : EventRefusal) → IsRefusedFor m g t why → GuideSays names m bounds before next (line (refused_text why))

-- ---- which outcomes are accepted

-- the observer of p was named
pub record IsObserved (m : Labelled) (g : Guided) (p : ℕ) : Type 0 where
  pub observer : ℕ
  pub moment : ℕ
  pub observes : Observes (lowered m) observer p
  pub named : named_at g observer ≡ Some moment

-- An outcome of p is accepted exactly where the observer of p was named and no outcome of p is kept; where one is kept, or the
-- observer was not named, it is refused for that. The answer says which.
pub record SeesExactly (names : List (List ℕ)) (m : Labelled) (bounds : List Bound) (before : List (List ℕ)) (next : List ℕ) (g : Guided) (p : ℕ) (value : Bool) : Type 0 where
  pub accepted : see_refusal m g p ≡ None ↔ (IsObserved m g p × (outcome_of g.run p ≡ None))
  pub kept : (v : Bool) → see_refusal m g p ≡ Some (Known p v) ↔ (IsObserved m g p × (outcome_of g.run p ≡ Some v))
  pub unnamed : see_refusal m g p ≡ Some (NotExecuted p) ↔ (IsObserved m g p → ⊥)
  pub says : see_refusal m g p ≡ None → GuideSays names m bounds before next (line (seen_text p value))
  pub refuses : (why : EventRefusal) → see_refusal m g p ≡ Some why → GuideSays names m bounds before next (line (refused_text why))

-- ---- whole sessions

-- the state after a live line that has the last answer, which only a moment can have
abbrev pub led_by : Labelled → List Bound → Guided → Option Live → Guided
led_by m bounds g None = g
led_by m bounds g (Some (moment_at t)) = advanced m bounds g t
led_by m bounds g (Some (seen p value)) = g
led_by m bounds g (Some due_now) = g

abbrev pub led_to : Labelled → List Bound → Guided → List ℕ → Guided
led_to m bounds g text = led_by m bounds g (live_read text)

-- the state in which a guided session ends over these lines
abbrev pub guided_end : List (List ℕ) → Labelled → List Bound → List (List ℕ) → Guided
guided_end names m bounds lines = ended (guide_turn names m bounds) (led_to m bounds) (guide_begun (count m.base)) 0 lines

-- what a guided session says to these lines
abbrev pub said_to : List (List ℕ) → Labelled → List Bound → List (List ℕ) → Said
said_to names m bounds lines = play (guide_turn names m bounds) (guide_ending m bounds) (guide_begun (count m.base)) 0 lines

-- x was named at t: one of the lines hands in this moment, it is accepted, and the answer names x
pub record WasNamed (names : List (List ℕ)) (m : Labelled) (bounds : List Bound) (lines : List (List ℕ)) (x t : ℕ) : Type 0 where
  pub before : List (List ℕ)
  pub next : List ℕ
  pub later : List (List ℕ)
  pub lines_are : lines ≡ before ++ next ∷ later
  pub state : Guided
  pub leads : GuidesTo names m bounds before next state
  pub moment : live_read next ≡ Some (moment_at t)
  pub accepted : moment_refusal (lowered m) bounds state.run t ≡ None
  pub named : IsNamedAt m state.run t x

-- In the state in which the session ends, a time-point is named at a moment exactly if an answer named it at that moment. In
-- each scenario that agrees with the outcomes that were handed in and are known, each named time-point is executed, at its
-- least moment, and no time-point that was left out is executed.
pub record IsTimely (names : List (List ℕ)) (m : Labelled) (bounds : List Bound) (lines : List (List ℕ)) : Type 0 where
  pub named : (x t : ℕ) → named_at (guided_end names m bounds lines) x ≡ Some t ↔ WasNamed names m bounds lines x t
  pub on_time : IsOnTime m (guided_end names m bounds lines)

-- The session is timely, and each time-point is executed or left out. In each scenario that agrees with the outcomes that were
-- handed in and are known, the named moments are those of one labelled strategy, and meet each constraint that is in force.
pub record IsCarriedThrough (names : List (List ℕ)) (m : Labelled) (bounds : List Bound) (lines : List (List ℕ)) : Type 0 where
  pub done : IsDone (lowered m) (guided_end names m bounds lines).run
  pub timely : IsTimely names m bounds lines
  pub led : IsLed m (guided_end names m bounds lines)

-- the lines end while something is due, and the due moment, which is within the deadline, is told
pub record EndsUnfinished (names : List (List ℕ)) (m : Labelled) (bounds : List Bound) (lines : List (List ℕ)) : Type 0 where
  pub due : ℕ
  pub right : IsDue (lowered m) (guided_end names m bounds lines).run due
  pub in_time : due ≤ m.base.deadline
  pub text : (said_to names m bounds lines).text ≡ answers (guide_turn names m bounds) (guide_begun (count m.base)) 0 lines ++ line (codes "unfinished " ++ decimal due)
