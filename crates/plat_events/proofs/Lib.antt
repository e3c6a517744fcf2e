pub mod ActorLemmas
