mod PlainTexts
mod Ranges
mod Pieces
mod Drawn
mod Consumed
