-- Laws of numerals, of text written piece by piece, of pages, of the room asked for; lines computed; what each promise determines.
pub mod Numerals
pub mod Pieces
pub mod Pages
pub mod Examples
pub mod Determined
