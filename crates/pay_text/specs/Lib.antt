pub mod Words
pub mod Numbers
pub mod Lines
pub mod Cutting
pub mod Answers
pub mod Engine
pub mod Outbox
pub mod Pairs
