pub mod EndOfLines
