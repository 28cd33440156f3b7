pub mod TakenNames
