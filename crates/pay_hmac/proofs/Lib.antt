mod Pads
mod Vectors
