pub mod Seats
pub mod Conditions
pub mod Steps
pub mod Invariants
pub mod Meanings
pub mod Verdicts
