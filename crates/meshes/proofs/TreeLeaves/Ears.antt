-- The leaves of a mesh, and that they are ears.
use Rattle.std.proofs.Common.{◌⊎◌, inl, inr, sym, subst, ◌∙◌, ℕ, ◌<◌, List, length, arith, get_or, refl, [], ◌∷◌}
use Rattle.plane.specs.Point.{Point}
use Rattle.meshes.proofs.Sides.{edge_or_not}
use Rattle.meshes.proofs.TreeLeaves.LeavesOffPaths.{leaf_off}
use Rattle.meshes.proofs.TreeLeaves.TreeLeaves.{IsJoinedToOne, leaf_other}
use Rattle.meshes.proofs.TreeLeaves.TwoSides.{next_corner, not_two_shared}
use Rattle.meshes.proofs.Walks.{Touch, new_at_place, new_from_places, path_of_walk, share_back, tree_of_walks}
use Rattle.meshes.specs.Prelude.{FitsPiece, HasSide, IsPieceEdge, IsSideOfTwo, tri_at}
use Rattle.meshes.specs.declared.tri.Tri.{Tri}
use Rattle.meshes.specs.Laws.{IsEar, IsLeaf, LeafOffWalkLaw, LeavesLaw}

-- a number joined to one other is a leaf
leaf_of : (tris : List Tri) (k : ℕ) → k < length tris → IsJoinedToOne (length tris) (Touch tris) k → IsLeaf tris k
leaf_of tris k within j = record {
  in_list = within;
  neighbour = j.next;
  neighbour_in_list = j.next_within;
  different = j.differs;
  sharing = j.joined;
  only = j.only;
}

-- two triangles or more have two leaves
pub leaves_law : LeavesLaw
leaves_law tris tree many =
    let turn : (a b : ℕ) → Touch tris a b → Touch tris b a = λ a b s. share_back (tri_at tris a) (tri_at tris b) s in
    let paths = tree_of_walks tris tree in
    let first = leaf_other (length tris) (Touch tris) turn paths 0 1 (omega arith) (omega arith) (λ e. omega arith) in
    let second = leaf_other (length tris) (Touch tris) turn paths first.leaf 0 first.within (omega arith) (λ e. first.differs (sym e)) in (
      first.leaf,
      second.leaf,
      λ e. second.differs (sym e),
      leaf_of tris first.leaf first.within first.joined,
      leaf_of tris second.leaf second.within second.joined,
    )

-- where some triangle is not on a walk, some leaf is not
pub leaf_off_walk : LeafOffWalkLaw
leaf_off_walk tris tree [] w n within off = absurd (omega (arith, w.some))
leaf_off_walk tris tree (a ∷ bs) w n within off =
    let turn : (a b : ℕ) → Touch tris a b → Touch tris b a = λ a b s. share_back (tri_at tris a) (tri_at tris b) s in
    let c = get_or (a ∷ bs) (length bs) 0 in
    let path = path_of_walk tris a bs c w refl in
    let free = leaf_off (length tris) (Touch tris) turn (tree_of_walks tris tree) n a bs c within (w.in_list (length bs) (omega arith)) path
    (new_from_places n (a ∷ bs) off) in
    (free.leaf, leaf_of tris free.leaf free.within free.joined, λ m h. new_at_place free.leaf (a ∷ bs) m free.new h)

module _ (corners : List Point) (piece : List ℕ) (tris : List Tri) (fits : FitsPiece corners piece tris) (k : ℕ) (leaf : IsLeaf tris k) where
  -- a side of a leaf is an edge of the piece, or shared with its neighbour
  side_of_leaf : (i j : ℕ) → HasSide (tri_at tris k) i j → IsPieceEdge piece i j ⊎ IsSideOfTwo tris i j k leaf.neighbour
  side_of_leaf i j has = elim (edge_or_not piece i j) [
    | inl edge ↦ inl edge
    | inr inner ↦
        let (m, two) = fits.inner_sides i j k leaf.in_list has inner in
        let is = leaf.only m two.other_in_list (λ e. two.different (sym e))
        (record { i = i; j = j; of_first = has; of_second = inr two.other_has }) in
        inr (subst (IsSideOfTwo tris i j k) is two)
  ]

  -- not two of its sides are shared
  one_shared : (x y z : ℕ) → IsSideOfTwo tris x y k leaf.neighbour → ¬ IsSideOfTwo tris y z k leaf.neighbour
  one_shared x y z first second =
      not_two_shared corners (tri_at tris k) (tri_at tris leaf.neighbour) (fits.triangles k leaf.in_list).counterclockwise
      (fits.triangles leaf.neighbour leaf.neighbour_in_list).counterclockwise x y z first.has second.has first.other_has second.other_has

  -- with its base shared, it is an ear
  ear_at : (w u : ℕ) → IsSideOfTwo tris w u k leaf.neighbour → (u : ℕ) × (v : ℕ) × (w : ℕ) × IsEar piece tris k leaf.neighbour u v w
  ear_at w u base =
      let (v, uv, vw) = next_corner (tri_at tris k) w u base.has in
      elim (side_of_leaf u v uv) [
        | inr other ↦ absurd (one_shared w u v base other)
        | inl first ↦ elim (side_of_leaf v w vw) [
          | inr other ↦ absurd (one_shared v w u other base)
          | inl second ↦ (u, v, w, record { first_side = uv; second_side = vw; first_edge = first; second_edge = second; base = base })
        ]
      ]

  -- a leaf is an ear
  pub leaf_is_ear : (u : ℕ) × (v : ℕ) × (w : ℕ) × IsEar piece tris k leaf.neighbour u v w
  leaf_is_ear =
      let s = leaf.sharing in
      elim (side_of_leaf s.i s.j s.of_first) [
        | inl edge ↦
            let (m, one) = fits.edges s.i s.j edge in
            absurd (leaf.different (one.only leaf.neighbour leaf.neighbour_in_list s.of_second ∙ sym (one.only k leaf.in_list (inl s.of_first))))
        | inr base ↦ ear_at s.i s.j base
      ]
