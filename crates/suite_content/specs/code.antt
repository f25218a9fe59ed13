pub mod Padding
pub mod Shared
pub mod Equality
pub mod ContentEquality
pub mod Fronts
