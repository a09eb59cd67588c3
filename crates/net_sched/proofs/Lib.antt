mod Beginnings
mod Circuits
mod Joining
mod Passing
mod Pushing
mod Rows
mod StateWires
