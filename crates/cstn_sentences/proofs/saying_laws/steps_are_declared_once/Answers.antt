use Rattle.std.proofs.Common.{◌≡◌, ℕ, false, Option, Some, None, Ok, refl}
use Rattle.std.specs.Prelude.{not, is_some}
use Rattle.std.proofs.lemmas.Bool.{not-true}
use Rattle.cstn_graphml.specs.DrawnGraph.{Observation}
use Rattle.cstn_sentences.specs.Results.{◌>>?◌, holds_or}
use Rattle.cstn_sentences.specs.Refusals.{stands_twice}
use Rattle.cstn_sentences.specs.Lines.{PlanStep}
use Rattle.cstn_sentences.specs.Declarations.{Declared, is_declared, words_with, step_observation, with_step, declare_step}
use Rattle.cstn_sentences.proofs.Accepted.{bind_ok, demanded}
use Rattle.cstn_sentences.proofs.NamesLemmas.{undeclared}
use Rattle.cstn_sentences.proofs.saying_laws.steps_are_declared_once.Goals as goal

step_new : (n : ℕ) (s : PlanStep) (b a : Declared) → declare_step n s b ≡ Ok a → is_declared s.name b ≡ false
step_new n s b a e =
    let t = bind_ok (holds_or (not (is_declared s.name b)) (stands_twice n s.name)) (λ new. words_with n s b.words >>? λ words. Ok (with_step s.name (step_observation s.observed) (record b { words = words }))) a e in
    not-true (is_declared s.name b) (demanded (not (is_declared s.name b)) (stands_twice n s.name) t.0 t.1)

none_seen : (origin : Option (Option Observation)) → is_some origin ≡ false → origin ≡ None
none_seen None e = refl
none_seen (Some o) e = absurd (cc)

pub returns-clause-origin : goal.returns-clause-origin
returns-clause-origin c n s b a e is =
    let new : is_declared s.name b ≡ false = step_new n s b a e in
    none_seen b.origin (rw is at new)

pub returns-clause-other : goal.returns-clause-other
returns-clause-other c n s b a e is = undeclared s.name b (step_new n s b a e) is
