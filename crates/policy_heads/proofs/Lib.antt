mod NameSets
mod Loops
mod Numbers
