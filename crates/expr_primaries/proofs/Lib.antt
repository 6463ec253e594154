pub mod ExprElements
