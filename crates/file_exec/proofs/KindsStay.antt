-- A row whose content says no more than its kind says its kind.
use Rattle.file_exec.proofs.Vocabulary.{◌≡◌, Kind, kind_of, empty_content, arith}

pub kind_stays : (kind : Kind) → kind_of (empty_content kind) ≡ kind
kind_stays kind = search arith
