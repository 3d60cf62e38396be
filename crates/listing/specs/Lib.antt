pub mod Resting
pub mod Listings
pub mod Tellings
pub mod Texts
