pub mod Closed
pub mod ExprTexts
pub mod Texts
pub mod PrologRules
pub use Rattle.xt_forms.specs as XtForms
