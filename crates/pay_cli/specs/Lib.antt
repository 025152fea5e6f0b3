pub mod Lines
pub mod Values
pub mod CheckText
pub mod Engine
pub mod Job
