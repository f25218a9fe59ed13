pub mod Seats
pub mod SeatFields
pub mod Exchanges
pub mod Orders
pub mod Moves
pub mod WorldFields
pub mod Equality
