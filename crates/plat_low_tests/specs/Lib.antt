pub mod GuestTried
pub mod FlatTried
