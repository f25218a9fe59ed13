-- When two sets of servers are the same: where each has what the other has.
use Rattle.std.specs.Prelude.{◌≡◌, Bool, ◌&&◌}
use Rattle.std.specs.Bool.{Decides}
use Rattle.std.specs.Cmp.{IsEquivalence, IsPartialEquivalence, partial_equiv_from_equiv, decided, nat_cmp_total}
use Rattle.std.specs.Ordering.{nat_cmp}
use Rattle.std.specs.FinSet.{FinSet, contains, is_subset, is_subset-contains, contains-is_subset, same_set, nat_cmp-IsAntisymmetric}
use Rattle.std.proofs.Common.{ap, sym, ◌∙◌}
use Rattle.std.proofs.lemmas.Bool.{and_parts, and_from}
use Rattle.std.proofs.lemmas.Bool.Decides.{same_from_decides}

abbrev pub same_servers : FinSet nat_cmp → FinSet nat_cmp → Bool
same_servers a b = is_subset a b && is_subset b a

pub same_servers_decides : (a b : FinSet nat_cmp) → Decides (same_servers a b) (a ≡ b)
same_servers_decides a b = (
  λ same.
      let parts = and_parts (is_subset a b) (is_subset b a) same in
      let forth = is_subset-contains nat_cmp_total a b parts.0 in
      let back = is_subset-contains nat_cmp_total b a parts.1 in
      same_set nat_cmp_total nat_cmp-IsAntisymmetric a b (λ q. same_from_decides (contains a q) (contains b q) (forth q, back q) (λ told. told, λ told. told)),
  λ equal.
      and_from (is_subset a b) (is_subset b a)
      (contains-is_subset nat_cmp_total a b (λ q told. ap (λ s. contains s q) (sym equal) ∙ told))
      (contains-is_subset nat_cmp_total b a (λ q told. ap (λ s. contains s q) equal ∙ told)),
)

pub same_servers_laws : IsEquivalence same_servers
same_servers_laws = decided same_servers same_servers_decides

pub same_servers_partial_laws : IsPartialEquivalence same_servers
same_servers_partial_laws = partial_equiv_from_equiv same_servers_laws
