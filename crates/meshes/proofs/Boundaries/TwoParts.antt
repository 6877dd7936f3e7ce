-- A tiled piece that a shared side cuts in two parts: where the triangles of each part are a tree, two fewer than it has vertices, so are
-- those of the piece.
use Rattle.std.proofs.Common.{◌≡◌, ◌⊎◌, inl, inr, sym, subst, ℕ, ◌+◌, List, length, arith}
use Rattle.plane.specs.Point.{Point}
use Rattle.ring_laws.proofs.Diagonals.{AreBoth}
use Rattle.meshes.proofs.Boundaries.Counts.{HoldsOf, same_count, sum_count}
use Rattle.meshes.proofs.Boundaries.PartTilings.{IsEdgeBetween, IsPartTiling}
use Rattle.meshes.proofs.Boundaries.CutTilings.{CoverPiece, IsBeside, IsPartOf, LiesInPart}
use Rattle.meshes.proofs.Boundaries.TiledParts.{lies_cases, lies_once}
use Rattle.meshes.proofs.Joins.{Both, IsBridge, between_at, between_back, joined_tree}
use Rattle.meshes.proofs.Parts.{IsShared, shared_is_this}
use Rattle.meshes.proofs.Walks.{IsTreeOn, Touch, share_back, tree_of_same}
use Rattle.meshes.specs.Prelude.{HasSideBetween, piece_points, ShareSide, tri_at}
use Rattle.meshes.specs.declared.tri.Tri.{Tri}

-- the triangles with numbers in P are a tree, two fewer than n
pub record IsTreeFor (tris : List Tri) (P : ℕ → Type 0) (n : ℕ) : Type 0 where
  pub count : ℕ
  pub counted : HoldsOf P (length tris) count
  pub two_fewer : count + 2 ≡ n
  pub tree : IsTreeOn P (Touch tris)

module _ (corners : List Point) (piece : List ℕ) (tris : List Tri) (P : ℕ → Type 0) (tiling : IsPartTiling corners piece tris P)
    (a b k l : ℕ) (s : IsShared corners piece tris P a b k l) (inner : ¬ IsEdgeBetween piece a b) (part other : List ℕ)
    (c : CoverPiece corners piece part other a b) (h : IsPartOf corners piece part other a b) (m n : ℕ)
    (here : IsBeside corners tris P part a b m) (there : IsBeside corners tris P other a b n)
    (only : (o : ℕ) → P o → HasSideBetween (tri_at tris o) a b → (o ≡ m) ⊎ (o ≡ n)) where
  -- the triangles of the part, and of the other one
  abbrev Here : ℕ → Type 0
  Here = LiesInPart corners tris P part

  abbrev There : ℕ → Type 0
  There = LiesInPart corners tris P other

  -- no triangle lies in both
  apart : (o : ℕ) → Here o → There o → ⊥
  apart = lies_once corners piece tris P tiling a b k l s inner part other c h m n here there only

  -- a side of triangles of both parts is the diagonal,
  across : (x y : ℕ) → Here x → There y → (t : ShareSide (tri_at tris x) (tri_at tris y)) → AreBoth a b t.i t.j
  across x y in_x in_y t =
      shared_is_this corners piece tris tiling.cover a b k l s (piece_points corners part) (piece_points corners other) c x y t.i t.j
      in_x.0 in_y.0 (inl t.of_first) t.of_second in_x.1 in_y.1

  -- which in each part one triangle alone has
  near_is : (x y : ℕ) → Here x → There y → Touch tris x y → x ≡ m
  near_is x y in_x in_y t = elim (only x in_x.0 (between_at (across x y in_x in_y t) (inl t.of_first))) [
    | inl e ↦ e
    | inr e ↦ absurd (apart x in_x (subst There (sym e) there.in_part))
  ]

  far_is : (x y : ℕ) → Here x → There y → Touch tris x y → y ≡ n
  far_is x y in_x in_y t = elim (only y in_y.0 (between_at (across x y in_x in_y t) t.of_second)) [
    | inl e ↦ absurd (apart y (subst Here (sym e) here.in_part) in_y)
    | inr e ↦ e
  ]

  -- these two share it
  beside_touch : HasSideBetween (tri_at tris m) a b → HasSideBetween (tri_at tris n) a b → Touch tris m n
  beside_touch (inl has) far = record { i = a; j = b; of_first = has; of_second = far }
  beside_touch (inr has) far = record { i = b; j = a; of_first = has; of_second = between_back far }

  diagonal_bridge : IsBridge Here There (Touch tris) m n
  diagonal_bridge = record {
    apart = apart;
    near = here.in_part;
    far = there.in_part;
    joined = beside_touch here.has there.has;
    only_near = near_is;
    only_far = far_is;
    back_near = λ x y in_x in_y t. near_is x y in_x in_y (share_back (tri_at tris y) (tri_at tris x) t);
  }

  -- the triangles of the piece are those of both parts
  in_both : (o : ℕ) → Both Here There o → P o
  in_both o (inl in_part) = in_part.0
  in_both o (inr in_part) = in_part.0

  in_one : (o : ℕ) → P o → Both Here There o
  in_one o within = elim (lies_cases corners piece tris P tiling a b k l s inner part other c h m n here there only o within) [
    | inl lies ↦ inl (within, lies)
    | inr lies ↦ inr (within, lies)
  ]

  -- so two trees are one tree
  pub tree_of_parts : (p q r : ℕ) → p + q ≡ r + 2 → IsTreeFor tris Here p → IsTreeFor tris There q → IsTreeFor tris P r
  tree_of_parts p q r sum first second = record {
    count = first.count + second.count;
    counted =
        same_count (Both Here There) P in_both in_one (length tris) (first.count + second.count)
        (sum_count Here There apart (length tris) first.count second.count first.counted second.counted);
    two_fewer = omega (arith, first.two_fewer, second.two_fewer);
    tree =
        tree_of_same (Both Here There) P (Touch tris) in_both in_one
        (joined_tree Here There (Touch tris) (λ x y t. share_back (tri_at tris x) (tri_at tris y) t) m n diagonal_bridge first.tree second.tree);
  }
