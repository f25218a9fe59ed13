-- The commands of a script, line by line, as they are kept.
use Rattle.suite_play.proofs.Vocabulary.{Opening, Language, places_of, commands, Command}

abbrev pub kept_language : Opening → Language Command
kept_language settings = commands (places_of settings)
