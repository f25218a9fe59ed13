-- What a file or a folder holds.
use Rattle.std.specs.Prelude.{Bool, false, nat_eq, []}
use Rattle.std.specs.Cmp.Lexicographic.{pointwise}
use Rattle.suite_content.specs.declared.content.Content.{Content}
use Rattle.suite_content.specs.declared.content.Content.TheVariants.{Bytes, Names}
use Rattle.suite_content.specs.declared.content.Kind.{Kind}
use Rattle.suite_content.specs.declared.content.Kind.TheVariants.{File, Folder}
use Rattle.suite_content.specs.Folders.{same_folder}

-- files hold bytes, and folders names
abbrev pub kind_of : Content → Kind
kind_of (Bytes bytes) = File
kind_of (Names names) = Folder

-- what a new file or folder holds
abbrev pub empty_content : Kind → Content
empty_content File = Bytes []
empty_content Folder = Names []

-- whether two contents are the same
abbrev pub same_content : Content → Content → Bool
same_content (Bytes a) (Bytes b) = pointwise nat_eq a b
same_content (Names a) (Names b) = same_folder a b
same_content (Bytes a) (Names b) = false
same_content (Names a) (Bytes b) = false
