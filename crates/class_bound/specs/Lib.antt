pub mod ClassBounds
