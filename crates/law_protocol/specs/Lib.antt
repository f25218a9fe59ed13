pub mod Protocol
