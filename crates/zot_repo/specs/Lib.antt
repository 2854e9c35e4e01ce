pub mod Rows
pub mod RowGoing
pub mod StandProps
pub mod Seats
pub mod Shards
pub mod Answering
pub mod Opening
