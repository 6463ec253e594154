pub mod ItemTexts
pub mod ReadBack
