mod FixedLines
mod Pieces
mod Texts
