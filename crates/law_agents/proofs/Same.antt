-- Agents that were told the same ask the same.
use Rattle.law_agents.proofs.Vocabulary.{◌≡◌, true, Option, None, sym, ap, ◌∙◌, Doing, Agent, next_of, take, begin, is_idle, after_all, of_job, arith}
use Rattle.law_agents.specs.Same.{SameToldSameAsked}

idle_none : (doing : Option Doing) → is_idle doing ≡ true → doing ≡ None
idle_none doing h1 = search arith

same_agents : (one other : Agent) → one.index ≡ other.index → one.count ≡ other.count → one.cache ≡ other.cache → one.doing ≡ other.doing → one ≡ other
same_agents one other index count cache doing = λ i. record { index = index i; count = count i; cache = cache i; doing = doing i }

pub same_told_same_asked : SameToldSameAsked
same_told_same_asked fixed one other job events idle idle_too index count cache =
    let same = same_agents one other index count cache (idle_none one.doing idle ∙ sym (idle_none other.doing idle_too)) in
    record {
      asked = ap (λ agent. of_job fixed agent job events) same;
      asks = ap (λ agent. next_of fixed (after_all fixed (begin fixed agent job) events)) same;
      ends = λ told. ap (λ agent. (take fixed (after_all fixed (begin fixed agent job) events) told).ending) same;
    }
