pub mod Reading
pub mod Keeping
pub mod Changing
pub mod Using
pub mod Stepping
pub mod Generals
