-- A search that is done has reached every triangle of a tree.
use Rattle.std.proofs.Common.{◌≡◌, sym, subst, ◌∙◌, ℕ, zero, suc, ◌+◌, ◌-◌, ◌<◌, ◌≤◌, List, length, get_or, arith, eq-eqb}
use Rattle.std.proofs.Math.Dec.{eqb}
use Rattle.std.proofs.Math.ListN.{length-map}
use Rattle.std.proofs.lemmas.List.Folds.{list_any_at}
use Rattle.std.proofs.lemmas.Map.Steps.{le-length_from_below}
use Rattle.meshes.specs.Side.{IsTree, IsWalk}
use Rattle.meshes.specs.declared.tri.Tri.{Tri}
use Rattle.tri_mesh.proofs.SearchSteps.{at_its_place, number_at, numbers, one_place}
use Rattle.tri_mesh.specs.Outward.{IsRooted, outward_at}
use Rattle.tri_mesh.specs.Search.{IsDone, IsReached, IsSearch}
use Rattle.tri_mesh.specs.declared.outward.Outward.{Outward}

module _ (tris : List Tri) (order : List Outward) (done : (k : ℕ) → IsReached order k → IsDone tris order k) where
  -- where the first triangle of a walk was reached, all were
  along_walk : (walk : List ℕ) → IsWalk tris walk → IsReached order (get_or walk 0 0)
      → (i : ℕ) → i < length walk → IsReached order (get_or walk i 0)
  along_walk walk w first zero h = first
  along_walk walk w first (suc i) h =
      let e : i + 1 ≡ suc i = omega arith in
      let before = along_walk walk w first i (omega arith) in
      let next = done (get_or walk i 0) before (get_or walk (i + 1) 0) (w.in_list (i + 1) (omega arith)) (w.sharing i (omega arith)) in
      subst (λ n. IsReached order (get_or walk n 0)) e next

  -- so every triangle of a tree was
  pub all_reached : (home k : ℕ) → IsTree tris → home < length tris → k < length tris → IsReached order home → IsReached order k
  all_reached home k tree home_below k_below first =
      let one = tree home k home_below k_below in
      let walk = one.walk in
      let b = one.between in
      let start : IsReached order (get_or walk 0 0) = rw b.first first in
      subst (IsReached order) b.last (along_walk walk b.is_walk start (length walk - 1) (omega (arith, b.is_walk.some)))

module _ (tris : List Tri) (home : ℕ) (order : List Outward) (places : List ℕ) (s : IsSearch tris order places)
    (all : (k : ℕ) → k < length tris → IsReached order k) where
  -- there are as many places as triangles
  many_places : length tris ≤ length order
  many_places =
      let long : length (numbers order) ≡ length order = length-map order (λ (o : Outward). o.tri) in
      let many : length tris ≤ length (numbers order) = le-length_from_below (numbers order) (length tris) (λ k h.
      let at = all k h in
      list_any_at (eqb k) (numbers order) at.0 0 (omega (arith, at.1)) (eq-eqb k _ (sym (number_at order at.0 0 at.1 ∙ at.2)))) in
      omega arith

  -- and they are an order outward from the first
  pub rooted_all : (outward_at order 0).tri ≡ home → IsRooted tris home order places
  rooted_all first = record {
    outward = record {
      count = omega (arith, many_places, s.count);
      first = first;
      in_list = s.in_list;
      all = all;
      once = one_place order places s.known;
      joined = s.joined;
    };
    size = s.size;
    within = s.within;
    placed = λ k h. at_its_place tris order places s k (all k h);
  }
