pub mod Histories
pub mod Rules
pub mod Meanings
pub mod Clocked
pub mod Runs
pub mod Statements
pub mod Examples
