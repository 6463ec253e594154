pub mod JoinLemmas
pub mod TextLemmas
pub mod TranslateLemmas
pub mod CodepointLemmas
pub mod NameFunctions
