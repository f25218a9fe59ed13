-- What a map ends as once a reference to one of its values has ended.
use Rattle.std.specs.Prelude.{List, Option}
use Rattle.std.specs.Borrow.{Fml, RattleType, MutBor, Lends, LendsIf}
use Rattle.std.specs.BTreeMap.Lent.{OrdMembers}
use Rattle.sorted_map.specs.SortedMap.{replace}
use Rattle.sorted_map.specs.Roomy.{Roomy}
use Rattle.sorted_map.specs.contracts.map.SortedMap as sorted
use Rattle.sorted_map.specs.contracts.roomy.RoomyMap as roomy

module _ (K V : RattleType) (order : OrdMembers K.Denot) where
  -- the maps' types, as the logic holds them
  abbrev pub sorted_row : RattleType
  sorted_row = sorted.the_row K V (record { cmp = order.cmp }) (record { eq = order.eq }) (record { partial_cmp = order.partial_cmp })

  abbrev pub roomy_row : RattleType
  roomy_row = roomy.the_row K V (record { cmp = order.cmp }) (record { eq = order.eq }) (record { partial_cmp = order.partial_cmp })

  -- a map with a value in place of the one at a key
  abbrev pub with_value : Roomy K.Denot V.Denot → K.Denot → V.Denot → Roomy K.Denot V.Denot
  with_value map key value = record map { pairs = replace order.cmp map.pairs key value }

  -- the key has the last value written through r
  abbrev pub roomy_lends_value : MutBor (Roomy K.Denot V.Denot) → K.Denot → MutBor V.Denot → Fml
  roomy_lends_value map key r = Lends roomy_row V map r (with_value map.now key)

  -- the same where the key has a value, and else the map stays
  abbrev pub roomy_lends_get : MutBor (Roomy K.Denot V.Denot) → K.Denot → Option (MutBor V.Denot) → Fml
  roomy_lends_get map key r = LendsIf roomy_row V map r (with_value map.now key) map.now

  -- the same of a map that is seen as its pairs
  abbrev pub sorted_lends_get : MutBor (List (K.Denot × V.Denot)) → K.Denot → Option (MutBor V.Denot) → Fml
  sorted_lends_get map key r = LendsIf sorted_row V map r (replace order.cmp map.now key) map.now
