-- A script prints the same of what is kept of its lines.
use Rattle.suite_play.proofs.Vocabulary.{◌≡◌, Result, Opening, same_output, script_output, Headed, script_of, ScriptFault, language, lines_of, kept_command}
use Rattle.suite_play.proofs.Lines.{kept_language}
use Rattle.suite_play.proofs.kept.Prints.{kept_prints}

pub kept_output : (given : Result (Headed Opening) ScriptFault) → script_output lines_of (script_of kept_language given) ≡ script_output lines_of (script_of language given)
kept_output given = same_output kept_command language lines_of lines_of kept_prints given
