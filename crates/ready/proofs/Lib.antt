pub mod Adds
pub mod Steps
pub mod Drops
pub mod Scans
