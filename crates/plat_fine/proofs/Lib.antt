pub mod EventLemmas
pub mod CrewLemmas
pub mod ActorLemmas
pub mod RoomLemmas
pub mod RunLemmas
