mod Pushes
mod Ready
