-- Plans by computing.
mod Examples
-- Words, and how names are spelled.
pub mod WordLemmas
mod UnquotedLines
pub mod SpellingLemmas
-- Names in lists.
pub mod NamesLemmas
mod NamePlaces
-- What is told of steps.
pub mod Accepted
pub mod TellsLemmas
-- The graph of a plan.
pub mod ObserverLemmas
pub mod DeclaredInOrder
pub mod MeantInOrder
pub mod PlanInOrder
pub mod KeptPlans
pub mod KeptMeanings
pub mod PlanAnswers
pub mod PlansTold
-- What is written of labels and of constraints.
pub mod LabelTests
mod WrittenLabels
mod WrittenRules
-- What is written is read back.
pub mod SpelledNames
pub mod OneWord
pub mod WrittenNumbers
pub mod SpelledWords
pub mod WrittenRests
pub mod WrittenLines
pub mod LineWords
pub mod LineLengths
pub mod RuleWords
pub mod WrittenSteps
pub mod WrittenForms
pub mod TextLines
pub mod JudgedLines
-- A plan has one answer.
pub mod DrawnPlans
pub mod OnePlan
-- The names of a plan.
pub mod PlanNames
-- What sentences say of moments.
pub mod MomentLemmas
pub mod RuleMoments
pub mod FirstObservers
pub mod PutNames
pub mod MeantForms
pub mod LaterLines
pub mod PointsMeant
pub mod OtherPoints
pub mod MeantLines
