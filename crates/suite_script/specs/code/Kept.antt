-- What the code keeps of a transaction's operations.
use Rattle.std.specs.Prelude.{◌+◌, take, List}
use Rattle.file_ops.specs.Transactions.{max_operations}
use Rattle.file_ops.specs.declared.operation.Op.{Op}

-- one more than a transaction may have is as good as any more
abbrev pub kept : List Op → List Op
kept ops = take (max_operations + 1) ops
