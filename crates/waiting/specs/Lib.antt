pub mod Chains
pub mod Steps
pub mod Invariants
pub mod Queues
pub mod Headers
