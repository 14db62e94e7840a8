pub mod ClassAlpha
