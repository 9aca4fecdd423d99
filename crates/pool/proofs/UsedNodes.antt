-- What a loop over the used nodes of a map knows: at its start, at each node, and behind the last.
use Rattle.std.proofs.Common.{◌≡◌, ◌∙◌, refl, ap, true, ℕ, ◌+◌, ◌<◌, ◌≤◌, List}
use Rattle.tree.specs.Pool.{used, next_used}
use Rattle.tree.specs.PoolLaws.{NoneUsed}
use Rattle.tree.proofs.Pool.{pool_laws}
use Rattle.pool.specs.declared.pool_map.UsedNodes.{UsedNodes}

-- the walk goes over this map of so many nodes
pub record Over (pool : List ℕ) (nodes : ℕ) (s : UsedNodes) : Type 0 where
  pub map : s.pool.now ≡ pool
  pub last : s.nodes ≡ nodes

-- the walk gives node n, and goes on behind it
pub record Gives (pool : List ℕ) (from nodes n from' : ℕ) : Type 0 where
  pub none_before : NoneUsed pool from n
  pub is_used : used pool n ≡ true
  pub inside : n < nodes
  pub onward : from' ≡ n + 1

module _ {pool : List ℕ} {nodes : ℕ} where
  -- as `used_nodes` begins it
  pub begins : {s t : UsedNodes} → t ≡ s → (s.pool.now ≡ pool) × (s.from ≡ 0) × (s.nodes ≡ nodes) → Over pool nodes t × (t.from ≡ 0)
  begins e u = (record { map = ap (λ r. r.pool.now) e ∙ u.0; last = ap (λ r. r.nodes) e ∙ u.2 }, ap (λ r. r.from) e ∙ u.1)

  module _ {s : UsedNodes} (o : Over pool nodes s) where
    pub goes_on : {t : UsedNodes} → t.pool.now ≡ s.pool.now → t.nodes ≡ s.nodes → Over pool nodes t
    goes_on p q = record { map = p ∙ o.map; last = q ∙ o.last }

    module _ (l : s.from ≤ s.nodes) where
      pub gives : {n from' : ℕ} → (n ≡ next_used s.pool.now s.from s.nodes) × (n < s.nodes) × (from' ≡ n + 1) → Gives pool s.from nodes n from'
      gives {n} h = let t = pool_laws.next_tells s.pool.now s.from s.nodes n h.0 l in record {
        none_before = rw o.map at t.none_before;
        is_used = rw o.map at (t.is_used h.1);
        inside = rw o.last at h.1;
        onward = h.2;
      }

      pub ends : next_used s.pool.now s.from s.nodes ≡ s.nodes → NoneUsed pool s.from nodes
      ends e = let t = pool_laws.next_tells s.pool.now s.from s.nodes (next_used s.pool.now s.from s.nodes) refl l in rw (← o.map, ← o.last) (rw e at t.none_before)
