pub mod WriteCountLaws
pub mod ModifiedLaws
pub mod WriteFlatLaws
pub mod ExchangeLaws
