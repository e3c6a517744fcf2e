pub mod NearLaws
pub mod PhaseLaws
pub mod PlaceLaws
pub mod WantLaws
