pub mod EqualNeighbours
