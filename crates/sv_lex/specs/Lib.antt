pub mod Lexers
pub mod Marks
pub mod Spots
pub mod Standing
pub mod Tokens
