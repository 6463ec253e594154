pub mod PrologRules
