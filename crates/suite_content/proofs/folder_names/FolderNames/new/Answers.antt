use Rattle.suite_content.specs.FolderLaws.{IsFolder-empty}
use Rattle.suite_content.proofs.folder_names.FolderNames.new.Goals as goal

pub invariant_of-result : goal.invariant_of-result
invariant_of-result c = IsFolder-empty
