pub mod OperationLaws
pub mod CountLaws
pub mod ChangeCosts
pub mod PlaceLaws
