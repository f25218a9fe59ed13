-- What the code finds among stored rows, seen as what the definitions find.
use Rattle.file_ops.specs.declared.walk.Object.{Object as FoundPlace}
use Rattle.file_ops.specs.declared.walk.Parent.{Parent as FoundParent}
use Rattle.file_ops.specs.Walks.{Object}
use Rattle.file_ops.specs.Operations.{Parent}
use Rattle.file_ops.specs.code.Stored.{plain_row}

abbrev pub plain_place : FoundPlace → Object
plain_place found = record { suite = found.suite; row = plain_row found.row.now }

abbrev pub plain_parent : FoundParent → Parent
plain_parent found = record { place = plain_place found.place; names = found.names.now.pairs }
