mod Scripts
mod Refused
