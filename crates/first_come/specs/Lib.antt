pub mod Rings
pub mod Invariants
pub mod Models
pub mod States
pub mod Moving
pub mod Stepping
pub mod Entries
pub mod Listing
