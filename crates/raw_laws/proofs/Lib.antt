pub mod ExprSpellings
pub mod CleanRaws
pub mod NestRaws
pub mod ShapedRaws
