pub mod Keys
pub mod TokenNames
pub mod Terms
pub mod ChoiceNames
pub mod RawNames
pub mod Grammar
pub mod Machine
pub mod ExprNest
