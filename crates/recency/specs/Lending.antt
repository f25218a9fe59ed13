-- A node that is lent to be written.
use Rattle.std.specs.Borrow.{Fml, MutBor}
use Rattle.std.specs.contracts.alloc.Global as global
use Rattle.std.specs.contracts.impls.GlobalAllocator.TheImpl.{ghosts}
use Rattle.std_alloc.specs.declared.vec.Vec.{Vec}
use Rattle.recency.specs.Links.{index_of}
use Rattle.recency.specs.Places.{item_follows}
use Rattle.recency.specs.declared.node.Node.{Node}
use Rattle.recency.specs.contracts.node.Node.{the_row}
use denote.RawPtr.{Ptr}

-- the nodes end with the last value behind what is lent in place of the node that lies at p
abbrev pub LendsNode : MutBor (Vec Node global.the_row.Denot) → Ptr → MutBor Node → Fml
LendsNode nodes p lent = item_follows the_row global.the_row ghosts nodes (index_of nodes.now p) lent
