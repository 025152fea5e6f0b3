pub mod Lists
pub mod Ledger
