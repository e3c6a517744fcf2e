pub mod GeneratedLimits
