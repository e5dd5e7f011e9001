-- What units do together, when they fit together, a table of worked cases, the relation of a unit and its object, theorems on what units do,
-- and what follows from the relation.
pub mod Runs
pub mod Whole
pub mod Cases
pub mod Relation
pub mod Ends
pub mod Budgets
pub mod Company
pub mod Theorems
pub mod Texts
pub mod RunLinked
pub mod Smallest
pub mod Wrong
