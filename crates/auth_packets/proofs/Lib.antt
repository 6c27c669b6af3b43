pub mod CommandLaws
pub mod ExchangeLaws
pub mod FieldLemmas
pub mod HandshakeLaws
pub mod RepliesLaws
pub mod ResponseWritten
pub mod Written
