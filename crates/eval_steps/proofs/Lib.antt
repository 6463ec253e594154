pub mod Follow
pub mod Forms
pub mod Places
pub mod CallLemmas
pub mod EvalInner
