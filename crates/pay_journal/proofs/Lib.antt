mod Accounts
mod DateLemmas
