-- Linking: laying objects one behind the other, finding what each wants, and fitting their code.
pub mod Linking
pub mod Says
pub mod Names
pub mod Settled
pub mod Tables
pub mod Laying
pub mod Directories
pub mod Fitting
pub mod Fitters
pub mod Writers
pub mod Texts
