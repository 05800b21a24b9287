mod Tail
mod Ends
