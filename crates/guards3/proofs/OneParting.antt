-- The parting of a mesh is one: where two of them agree at the corners of triangle 0, they agree everywhere.
use Rattle.std.proofs.Common.{◌≡◌, inl, inr, sym, ap, subst, ◌∙◌, ℕ, ◌+◌, ◌%◌, ◌<◌, List, [], ◌∷◌, length, arith}
use Rattle.std.specs.List.{Contains, range_with_len}
use Rattle.plane.specs.Point.{Point}
use Rattle.meshes.proofs.Sides.{below_of_member, one_at_edge, two_fewer}
use Rattle.meshes.proofs.Walks.{IsPath, IsPlace, Touch, tree_of_walks}
use Rattle.meshes.specs.Fits.{Fits}
use Rattle.meshes.specs.Side.{HasSide, HasSideBetween, tri_at}
use Rattle.meshes.specs.declared.tri.Tri.{Tri}
use Rattle.guards3.proofs.ThreeClasses.{named, named_first, named_second, named_third, one_named, sum_of_three, three_named}
use Rattle.guards3.specs.Guards.{IsParting, OnePartingLaw, class_of}
use Rattle.guards3.specs.Parting.{AgreeAt, AreThreeClasses, IsFrom012, PartsInThree}

-- ---- two partings at one triangle

module _ (f g : ℕ → ℕ) (t : Tri) where
  -- where they agree, they do so at the ends of a side
  pub ends_agree : (i j : ℕ) → AgreeAt f g t → HasSide t i j → (f i ≡ g i) × (f j ≡ g j)
  ends_agree i j agree (inl s) = (subst (λ n. f n ≡ g n) s.0 agree.a, subst (λ n. f n ≡ g n) s.1 agree.b)
  ends_agree i j agree (inr (inl s)) = (subst (λ n. f n ≡ g n) s.0 agree.b, subst (λ n. f n ≡ g n) s.1 agree.c)
  ends_agree i j agree (inr (inr s)) = (subst (λ n. f n ≡ g n) s.0 agree.c, subst (λ n. f n ≡ g n) s.1 agree.a)

  module _ (of_f : AreThreeClasses (f t.a) (f t.b) (f t.c)) (of_g : AreThreeClasses (g t.a) (g t.b) (g t.c)) where
    -- where they agree at the ends of a side, they do so at the third corner
    pub third_agrees : (i j : ℕ) → HasSide t i j → f i ≡ g i → f j ≡ g j → AgreeAt f g t
    third_agrees i j side at_i at_j =
        let sum_f = sum_of_three (f t.a) (f t.b) (f t.c) of_f in
        let sum_g = sum_of_three (g t.a) (g t.b) (g t.c) of_g in
        elim side [
          | inl s ↦
              let a = subst (λ n. f n ≡ g n) (sym s.0) at_i in
              let b = subst (λ n. f n ≡ g n) (sym s.1) at_j in
              record { a = a; b = b; c = omega (arith, sum_f, sum_g, a, b) }
          | inr other ↦ elim other [
            | inl s ↦
                let b = subst (λ n. f n ≡ g n) (sym s.0) at_i in
                let c = subst (λ n. f n ≡ g n) (sym s.1) at_j in
                record { a = omega (arith, sum_f, sum_g, b, c); b = b; c = c }
            | inr s ↦
                let c = subst (λ n. f n ≡ g n) (sym s.0) at_i in
                let a = subst (λ n. f n ≡ g n) (sym s.1) at_j in
                record { a = a; b = omega (arith, sum_f, sum_g, a, c); c = c }
          ]
        ]

    -- whichever way it goes
    pub third_agrees_between : (i j : ℕ) → HasSideBetween t i j → f i ≡ g i → f j ≡ g j → AgreeAt f g t
    third_agrees_between i j (inl side) at_i at_j = third_agrees i j side at_i at_j
    third_agrees_between i j (inr side) at_i at_j = third_agrees j i side at_j at_i

-- ---- along the tree

module _ (tris : List Tri) (f g : ℕ → ℕ) (of_f : PartsInThree tris f) (of_g : PartsInThree tris g) where
  -- from a triangle to one that shares a side with it
  pub agree_beyond : (k l i j : ℕ) → l < length tris → HasSide (tri_at tris k) i j → HasSideBetween (tri_at tris l) i j
      → AgreeAt f g (tri_at tris k) → AgreeAt f g (tri_at tris l)
  agree_beyond k l i j below has other agree =
      let ends = ends_agree f g (tri_at tris k) i j agree has in
      third_agrees_between f g (tri_at tris l) (of_f l below) (of_g l below) i j other ends.0 ends.1

  -- along a path
  agree_along : (a : ℕ) (bs : List ℕ) (c : ℕ) → IsPath (IsPlace tris) (Touch tris) a bs c → AgreeAt f g (tri_at tris a) → AgreeAt f g (tri_at tris c)
  agree_along a [] c path agree = subst (λ n. AgreeAt f g (tri_at tris n)) path agree
  agree_along a (b ∷ bs) c path agree =
      agree_along b bs c path.3 (agree_beyond a b path.1.i path.1.j path.0 path.1.of_first path.1.of_second agree)

module _ (corners : List Point) (tris : List Tri) (fits : Fits corners tris) where
  -- each vertex is a corner of some triangle, where a side begins
  pub at_vertex : (i : ℕ) → i < length corners → (k : ℕ) × (k < length tris) × HasSide (tri_at tris k) i ((i + 1) % length corners)
  at_vertex i below = let (k, one) = one_at_edge corners tris fits i below in (k, one.in_list, one.has)

  module _ (f g : ℕ → ℕ) (of_f : PartsInThree tris f) (of_g : PartsInThree tris g) (agree : AgreeAt f g (tri_at tris 0)) where
    -- at each triangle
    pub agree_at_all : (k : ℕ) → k < length tris → AgreeAt f g (tri_at tris k)
    agree_at_all k below =
        let path = tree_of_walks tris fits.tree 0 k (omega arith) below in
        agree_along tris f g of_f of_g 0 path.path k path.is_path agree

    -- at each vertex
    pub agree_at_vertices : (i : ℕ) → i < length corners → f i ≡ g i
    agree_at_vertices i below =
        let (k, k_below, side) = at_vertex i below in
        (ends_agree f g (tri_at tris k) i ((i + 1) % length corners) (agree_at_all k k_below) side).0

-- ---- classes by their names

module _ (corners : List Point) (tris : List Tri) (fits : Fits corners tris) where
  -- there is a triangle, since there is a vertex
  pub some_triangle : 0 < length tris
  some_triangle = let (k, below, side) = at_vertex corners tris fits 0 (omega (arith, two_fewer corners tris fits)) in omega (arith, below)

  module _ (classes : List ℕ) (parting : IsParting (length corners) tris classes) where
    -- a list of classes as a function
    pub parts_of_list : PartsInThree tris (class_of classes)
    parts_of_list k below =
        let corner : (i : ℕ) → Contains (range_with_len 0 (length corners)) i → class_of classes i < 3 =
        λ i has. parting.three i (below_of_member (length corners) i has) in
        let tri = fits.triangles k below in
        let differ = parting.corners k below in
        record {
          first = corner (tri_at tris k).a tri.has_a;
          second = corner (tri_at tris k).b tri.has_b;
          third = corner (tri_at tris k).c tri.has_c;
          x_y = differ.a_b;
          y_z = differ.b_c;
          z_x = differ.c_a;
        }

-- a parting by the names of its classes at triangle 0
abbrev pub from_triangle_0 : List Tri → (ℕ → ℕ) → ℕ → ℕ
from_triangle_0 tris f i = named (f (tri_at tris 0).a) (f (tri_at tris 0).b) (f i)

module _ (tris : List Tri) (f : ℕ → ℕ) (parts : PartsInThree tris f) (some : 0 < length tris) where
  -- it is one
  pub parts_from_0 : PartsInThree tris (from_triangle_0 tris f)
  parts_from_0 k below = three_named _ _ _ (parts 0 some) _ _ _ (parts k below)

  -- with 0, 1 and 2 there
  pub is_from_0 : IsFrom012 tris (from_triangle_0 tris f)
  is_from_0 =
      let x = f (tri_at tris 0).a in
      let y = f (tri_at tris 0).b in
      let three = parts 0 some in
      record { a = named_first x y; b = named_second x y three.x_y; c = named_third x y (f (tri_at tris 0).c) three.z_x three.y_z }

-- two with 0, 1 and 2 there agree there
pub agree_at_0 : (tris : List Tri) (f g : ℕ → ℕ) → IsFrom012 tris f → IsFrom012 tris g → AgreeAt f g (tri_at tris 0)
agree_at_0 tris f g of_f of_g = record { a = of_f.a ∙ sym of_g.a; b = of_f.b ∙ sym of_g.b; c = of_f.c ∙ sym of_g.c }

-- so two partings put the same vertices together
pub together : (corners : List Point) (tris : List Tri) → Fits corners tris → (one other : List ℕ) → IsParting (length corners) tris one
    → IsParting (length corners) tris other → (i j : ℕ) → i < length corners → j < length corners
    → class_of one i ≡ class_of one j → class_of other i ≡ class_of other j
together corners tris fits one other of_one of_other i j i_below j_below same =
    let some = some_triangle corners tris fits in
    let f = class_of one in
    let g = class_of other in
    let parts_f = parts_of_list corners tris fits one of_one in
    let parts_g = parts_of_list corners tris fits other of_other in
    let agree = agree_at_vertices corners tris fits (from_triangle_0 tris f) (from_triangle_0 tris g) (parts_from_0 tris f parts_f some)
    (parts_from_0 tris g parts_g some)
    (agree_at_0 tris _ _ (is_from_0 tris f parts_f some) (is_from_0 tris g parts_g some)) in
    one_named _ _ _ (parts_g 0 some) (g i) (g j) (of_other.three i i_below) (of_other.three j j_below)
    (sym (agree i i_below) ∙ ap (named (f (tri_at tris 0).a) (f (tri_at tris 0).b)) same ∙ agree j j_below)

-- the law, as it is stated
pub one_parting_law : OnePartingLaw
one_parting_law corners tris fits one other of_one of_other i j i_below j_below = (
  together corners tris fits one other of_one of_other i j i_below j_below,
  together corners tris fits other one of_other of_one i j i_below j_below,
)
