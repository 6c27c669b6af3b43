pub mod Places
pub mod PrintedTokens
pub mod ReadBack
