mod Asked
mod Currents
mod Places
mod Desks
mod Endings
mod Seatings
pub mod Starts
mod DeskClients
mod Workings
