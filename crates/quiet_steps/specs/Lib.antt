pub mod Late
pub mod Routes
