-- The hasher that keys make.
use Rattle.core.specs.declared.hash.sip.DefaultHasher.{DefaultHasher}
use Rattle.core.specs.Hash.DefaultHasher.{with_keys}
use Rattle.acl_text.specs.declared.keys.HashKeys.{HashKeys}

abbrev pub hasher_of : HashKeys → DefaultHasher
hasher_of keys = with_keys keys.key0 keys.key1
