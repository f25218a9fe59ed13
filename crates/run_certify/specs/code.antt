pub mod Begins
pub mod Firsts
pub mod Uses
pub mod Turns
pub mod ValidVotes
pub mod Walks
pub mod Lacking
