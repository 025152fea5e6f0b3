mod Exports
mod Reading
mod Said
mod Tables
mod Members
