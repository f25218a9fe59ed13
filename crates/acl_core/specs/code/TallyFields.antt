-- A tally by its fields.
use Rattle.acl_core.specs.declared.tally.Tally.TheInside.{Inside}
use Rattle.acl_core.specs.Tallies.{Tallied}

abbrev pub tallied : Inside → Tallied
tallied fields = record {
  user_objs = fields.user_objs;
  group_objs = fields.group_objs;
  masks = fields.masks;
  others = fields.others;
  users = fields.users.items;
  groups = fields.groups.items;
  kept = fields.kept.items;
}
