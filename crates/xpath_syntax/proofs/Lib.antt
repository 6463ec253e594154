pub mod ReadingLemmas
pub mod ExprReadings
