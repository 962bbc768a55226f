mod Fours
mod Places
