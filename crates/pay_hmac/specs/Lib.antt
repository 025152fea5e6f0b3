pub mod Mac
pub mod PublishedTags
