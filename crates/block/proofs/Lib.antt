mod Rounds
mod Words
mod Sums
