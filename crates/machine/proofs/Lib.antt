pub mod Steps
mod Turns
mod Ends
mod Runs
