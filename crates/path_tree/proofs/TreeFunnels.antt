-- What was read in a tree at the triangle from which one is reached is what the tree has there.
use Rattle.std.proofs.Common.{◌≡◌, sym, subst, ◌∙◌, List, length, ℕ, ◌<◌, Option, Some, None, slice_index, slice_index_or, arith}
use Rattle.std.proofs.lemmas.List.{get_or_read}
use Rattle.plane.specs.Point.{Point}
use Rattle.meshes.specs.declared.tri.Tri.{Tri}
use Rattle.tri_mesh.specs.Outward.{at_place}
use Rattle.tri_mesh.specs.declared.outward.Outward.{Outward}
use Rattle.path_tree.proofs.NextFunnels.{earlier, toward_below}
use Rattle.path_tree.specs.Entered.{IsFromStart, IsFunnelTo, toward}
use Rattle.path_tree.specs.Listed.{Listed}
use Rattle.path_tree.specs.Grown.{NamedTree}
use Rattle.path_tree.specs.Growing.{AreThirdPlaces, IsGrownOver, IsThirdFrom, KeepsFunnelTo}

module _ (corners : List Point) (start : Point) (tris : List Tri) (order : List Outward) (from : IsFromStart corners start tris order)
    (p : ℕ) (later : 0 < p) (below : p < length order) where
  abbrev q : ℕ
  q = toward order p

  -- what was read in the tree is what it has there: nothing at home,
  module _ (tree : NamedTree) (grown : IsGrownOver corners start tris order p tree) (o : Option Listed)
      (read : o ≡ slice_index_or tree.funnels (at_place order q) o) where
    kept : KeepsFunnelTo corners start tris order q o
    kept =
        let within : at_place order q < length tree.funnels =
        omega (arith, from.outward.in_list q (toward_below corners start tris order from p later below), grown.triangles) in
        subst (KeepsFunnelTo corners start tris order q) (sym (get_or_read tree.funnels (at_place order q) o within read None))
        (grown.funnels q (earlier corners start tris order from p later below))

    pub none_at_home : o ≡ None → q ≡ 0
    none_at_home is = subst (KeepsFunnelTo corners start tris order q) is kept

    -- and the funnel at a later place
    pub some_later : (f : Listed) → o ≡ Some f → (0 < q) × IsFunnelTo corners start tris order q f
    some_later f is = subst (KeepsFunnelTo corners start tris order q) is kept

    -- and the place from which the third corner there is reached is what the list of places has
    pub third_place : (places : List ℕ) → AreThirdPlaces corners start tris order p tree places → (f : Listed) → o ≡ Some f
        → (place : ℕ) → place ≡ slice_index_or places q place → IsThirdFrom corners start tris order q f place
    third_place places thirds f is place place_is =
        let before = earlier corners start tris order from p later below in
        let within : at_place order q < length tree.funnels =
        omega (arith, from.outward.in_list q (toward_below corners start tris order from p later below), grown.triangles) in
        let at : place ≡ slice_index places q = get_or_read places q place (omega (arith, thirds.each, before)) place_is 0 in
        subst (IsThirdFrom corners start tris order q f) (sym at)
        (thirds.reached q before f (sym (get_or_read tree.funnels (at_place order q) o within read None) ∙ is))
