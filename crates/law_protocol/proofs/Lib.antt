mod Vocabulary
mod Opened
mod Gone
mod WordsAreMoves
