-- The whole text: one walk for *watch* and *columns*, how much of the files decides, and how long it gets.
pub mod Walk
pub mod Front
pub mod Room
