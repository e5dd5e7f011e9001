-- The compiler: instructions that may lie anywhere, the code of a unit, that its object does the unit's part, and what the code of `compile` promises.
pub mod Instructions
pub mod Code
pub mod Worked
pub mod Simulation
pub mod Correct
pub mod Together
pub mod Measuring
pub mod Filling
pub mod Writing
pub mod WritingExpressions
pub mod WritingProcedures
pub mod Laying
pub mod ObjectWriting
pub mod UnitWriting
pub mod Says
