pub mod GuestSeen
