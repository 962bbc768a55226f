mod There
mod Marking
