pub mod ExpressionLemmas
pub mod FrontLemmas
pub mod StepLemmas
