pub mod HeardFields
pub mod Dues
pub mod CollectFields
