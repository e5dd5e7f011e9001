-- What the program's command line asks for, and how a run is told.
pub mod Flags
pub mod Lines
pub mod Endings
