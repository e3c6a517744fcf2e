pub mod FlatSeen
