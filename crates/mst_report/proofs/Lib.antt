mod Keys
mod Digits
mod Lines
