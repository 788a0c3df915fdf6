pub mod Lexeme
pub mod Piece
pub mod Reading
pub mod Whole
pub mod Checked
