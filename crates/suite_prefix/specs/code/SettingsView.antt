-- The fields of `Settings` as contracts see them.
use Rattle.suite_prefix.specs.declared.settings.Settings.TheInside.{Inside}
use Rattle.suite_prefix.specs.SettingsRules.{Opening}

abbrev pub opening_of : Inside → Opening
opening_of fields = record {
  servers = fields.servers;
  agents = fields.agents;
  c0 = fields.c0;
  root_owner = fields.root_owner;
  root_group = fields.root_group;
  root_acl = fields.root_acl;
  budget = fields.budget;
  quota = fields.quota;
  slots = fields.slots;
  old = fields.old;
}
