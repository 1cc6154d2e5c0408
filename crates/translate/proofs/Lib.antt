mod Sizes
mod Writing
