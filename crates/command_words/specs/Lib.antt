pub mod Apart
pub mod Requests
pub mod Texts
pub mod Words
