pub mod FineHelpers
pub mod FineParts
pub mod FineQuery
pub mod QueryLimits
pub mod Variables
