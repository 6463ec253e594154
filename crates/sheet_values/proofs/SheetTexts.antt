pub mod TemplateMeanings
