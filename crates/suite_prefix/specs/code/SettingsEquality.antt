-- When two settings are the same: where all their fields are. `==` tells it.
use Rattle.std.specs.Prelude.{◌≡◌, ◌==◌, Bool, ◌&&◌}
use Rattle.std.specs.Bool.{Decides}
use Rattle.std.specs.Cmp.{IsEquivalence, IsPartialEquivalence, partial_equiv_from_equiv, decided}
use Rattle.std.proofs.Common.{ap}
use Rattle.std.proofs.lemmas.Bool.Decides.{Decides-eqb, Decides-and, Decides-like}
use Rattle.acl_core.specs.Pairs.{same_lists}
use Rattle.acl_core.proofs.ListsEquality.{same_lists_decides}
use Rattle.vote_core.specs.code.SameServers.{same_servers, same_servers_decides}
use Rattle.vote_core.specs.code.SameVotes.{same_votes, same_votes_decides}
use Rattle.suite_prefix.specs.SettingsRules.{Opening}

-- how many servers and agents there are
abbrev pub same_counts : Opening → Opening → Bool
same_counts a b = (a.servers == b.servers) && (a.agents == b.agents)

-- whose the root is, who may do what there, and who has it in form 1
abbrev pub same_root : Opening → Opening → Bool
same_root a b =
    (a.root_owner == b.root_owner) && ((a.root_group == b.root_group) && (same_lists a.root_acl b.root_acl && same_servers a.old b.old))

-- the limits of a cache
abbrev pub same_cache : Opening → Opening → Bool
same_cache a b = (a.budget == b.budget) && ((a.quota == b.quota) && (a.slots == b.slots))

abbrev pub same_settings : Opening → Opening → Bool
same_settings a b = same_counts a b && (same_votes a.c0 b.c0 && (same_root a b && same_cache a b))

pub same_settings_decides : (a b : Opening) → Decides (same_settings a b) (a ≡ b)
same_settings_decides a b =
    Decides-like _ (λ same i. record {
      servers = same.0.0 i;
      agents = same.0.1 i;
      c0 = same.1.0 i;
      root_owner = same.1.1.0.0 i;
      root_group = same.1.1.0.1.0 i;
      root_acl = same.1.1.0.1.1.0 i;
      old = same.1.1.0.1.1.1 i;
      budget = same.1.1.1.0 i;
      quota = same.1.1.1.1.0 i;
      slots = same.1.1.1.1.1 i;
    })
    (λ same. (
      (ap (λ s. s.servers) same, ap (λ s. s.agents) same),
      (ap (λ s. s.c0) same, ((ap (λ s. s.root_owner) same, (ap (λ s. s.root_group) same, (ap (λ s. s.root_acl) same, ap (λ s. s.old) same))), (ap (λ s. s.budget) same, (ap (λ s. s.quota) same, ap (λ s. s.slots) same)))),
    ))
    (Decides-and _ _ (Decides-and _ _ (Decides-eqb a.servers b.servers) (Decides-eqb a.agents b.agents))
    (Decides-and _ _ (same_votes_decides a.c0 b.c0)
    (Decides-and _ _ (Decides-and _ _ (Decides-eqb a.root_owner b.root_owner) (Decides-and _ _ (Decides-eqb a.root_group b.root_group) (Decides-and _ _ (same_lists_decides a.root_acl b.root_acl) (same_servers_decides a.old b.old))))
    (Decides-and _ _ (Decides-eqb a.budget b.budget) (Decides-and _ _ (Decides-eqb a.quota b.quota) (Decides-eqb a.slots b.slots))))))

pub same_settings_laws : IsEquivalence same_settings
same_settings_laws = decided same_settings same_settings_decides

pub same_settings_partial_laws : IsPartialEquivalence same_settings
same_settings_partial_laws = partial_equiv_from_equiv same_settings_laws
