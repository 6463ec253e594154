mod StepLemmas
pub mod MemberLemmas
pub mod AboveLemmas
pub mod FreeLemmas
