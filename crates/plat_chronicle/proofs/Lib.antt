pub mod RemovalLemmas
pub mod SpaceLemmas
pub mod OtherLemmas
pub mod TranslationLemmas
pub mod PresentLemmas
pub mod ChronicleLemmas
