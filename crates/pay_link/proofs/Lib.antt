mod JsonReading
mod Judged
mod Lists
mod Owned
mod Said
mod TestKeysLemmas
