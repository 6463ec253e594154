pub mod ConversionLemmas
pub mod FunctionArguments
