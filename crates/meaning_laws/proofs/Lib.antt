pub mod QuietLaws
pub mod SoundValues
pub mod SoundFunctions
pub mod SoundRuns
