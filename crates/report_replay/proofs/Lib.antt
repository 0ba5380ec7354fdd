mod Lines
mod Refused
