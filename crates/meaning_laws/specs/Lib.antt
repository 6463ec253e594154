pub mod QuietLaws
pub mod SoundValues
pub mod SoundRuns
