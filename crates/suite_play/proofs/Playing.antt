-- What the lines of a script print, played one after the other on a world.
use Rattle.suite_play.proofs.Vocabulary.{◌≡◌, ◌∙◌, ℕ, ◌+◌, List, [], ◌∷◌, ◌++◌, Ok, refl, ap, sym, Opening, fixed_of, Opened, opening, comes_to, Pending, owns, whole, header, lines_of, play_output, all_lines, Command}
use Rattle.suite_script.proofs.Playing.{opened_output}
use Rattle.suite_script.specs.Playing.{prints_from}
use Rattle.suite_play.specs.code.Playing.{after_line, line_of}
use Rattle.suite_play.proofs.KeptLines.{kept_output}
use Rattle.suite_play.proofs.Lines.{kept_language}

lines_are : (opened : Opened) (number : ℕ) (commands : List Command) → prints_from line_of after_line opened number commands ≡ all_lines (fixed_of opened.given) opened.world commands
lines_are opened number [] = refl
lines_are opened number (command ∷ later) = ap (λ rest. line_of opened number command ++ rest) (lines_are (after_line opened number command) (number + 1) later)

-- what a script comes to of which the header was read
pub played_output : (text : List ℕ) (settings : Opening) (rest : Pending) → header (whole text) ≡ Ok (record { value = settings; rest = rest })
    → comes_to [] (prints_from line_of after_line (record { given = settings; world = opening settings }) 0) (owns (kept_language settings) rest) ≡ play_output text
played_output text settings rest read =
    ap (λ (lines : List Command → List ℕ). comes_to [] lines (owns (kept_language settings) rest)) (λ i later. lines_are (record { given = settings; world = opening settings }) 0 later i)
    ∙ sym (opened_output kept_language lines_of (header (whole text)) settings rest read)
    ∙ kept_output (header (whole text))
