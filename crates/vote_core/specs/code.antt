pub mod SameVotes
pub mod SameServers
pub mod Padding
pub mod VotesFields
pub mod ServerBits
pub mod ServerBitLaws
