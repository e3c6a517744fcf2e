pub mod PrintTried
