mod Vocabulary
pub mod Openings
pub mod Valid
pub mod TestsExact
pub mod Joins
pub mod ShapeOf
pub mod ReadAgain
pub mod Back
pub mod Loop
pub mod Orders
pub mod Judged
pub mod Takes
pub mod Written
pub mod Decoded
pub mod Names
pub mod Fronts
pub mod Records
