mod Parses
