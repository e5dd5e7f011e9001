-- The machine: its state, its instructions and their numbers, how the program holds it, what a run of it promises, and how that is told.
pub mod Machine
pub mod Instructions
pub mod Opcodes
pub mod Registers
pub mod Says
pub mod Texts
