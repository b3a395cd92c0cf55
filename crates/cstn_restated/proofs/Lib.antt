-- A network is read back from its sentences.
mod LabelsBack
mod NamesBack
mod LinesBack
mod DeclaredBack
mod MeantBack
mod RuleForms
mod RulesBack
mod ThereAndBack
mod PartsBack
-- Worked rows.
mod WorkedPlans
