-- A triangle read from any of its corners, and the corners of two with a common side.
use Rattle.std.proofs.Common.{◌≡◌, ◌≢◌, ◌⊎◌, inl, inr, sym, subst, ◌∙◌, ℕ, ◌<◌, List, length}
use Rattle.std.specs.List.{Contains, range_with_len}
use Rattle.plane.specs.Point.{Point, Triple, whole}
use Rattle.plane.specs.Triangle.{IsInTriangle}
use Rattle.plane.specs.Turn.{IsLeft}
use Rattle.rings.specs.Ring.{vertex}
use Rattle.ring_laws.proofs.Triangles.{left_at_last}
use Rattle.meshes.proofs.Sides.{below_of_member, corners_differ}
use Rattle.meshes.specs.Fits.{Fits, IsCounterclockwiseTri, IsInTri, IsTriOf}
use Rattle.meshes.specs.Side.{HasCorner, HasSide, tri_at}
use Rattle.meshes.specs.declared.tri.Tri.{Tri}
use Rattle.cut_tri.specs.Triangles.{HasRound}
use Rattle.flip_tri.specs.Flips.{IsQuadBelow, IsQuadOf}
use Rattle.flip_tri.specs.declared.quad.Quad.{Quad}

-- its corners are i, j and k, from a on, from b on or from c on
abbrev pub IsReadFrom : Tri → ℕ → ℕ → ℕ → Type 0
IsReadFrom t i j k =
    ((t.a ≡ i) × (t.b ≡ j) × (t.c ≡ k)) ⊎ ((t.b ≡ i) × (t.c ≡ j) × (t.a ≡ k)) ⊎ ((t.c ≡ i) × (t.a ≡ j) × (t.b ≡ k))

module _ (t : Tri) (i j k : ℕ) (ab : t.a ≢ t.b) (bc : t.b ≢ t.c) (ca : t.c ≢ t.a) where
  by_sides : HasSide t i j → HasSide t j k → IsReadFrom t i j k
  by_sides (inl e) (inl f) = absurd (ab (f.0 ∙ sym e.1))
  by_sides (inl e) (inr (inl f)) = inl (e.0, e.1, f.1)
  by_sides (inl e) (inr (inr f)) = absurd (bc (e.1 ∙ sym f.0))
  by_sides (inr (inl e)) (inl f) = absurd (ca (e.1 ∙ sym f.0))
  by_sides (inr (inl e)) (inr (inl f)) = absurd (bc (f.0 ∙ sym e.1))
  by_sides (inr (inl e)) (inr (inr f)) = inr (inl (e.0, e.1, f.1))
  by_sides (inr (inr e)) (inl f) = inr (inr (e.0, e.1, f.1))
  by_sides (inr (inr e)) (inr (inl f)) = absurd (ab (e.1 ∙ sym f.0))
  by_sides (inr (inr e)) (inr (inr f)) = absurd (ca (f.0 ∙ sym e.1))

module _ (corners : List Point) (t : Tri) (i j k : ℕ) (round : HasRound t i j k) where
  -- a counterclockwise triangle is read so
  pub read_from : IsCounterclockwiseTri corners t → IsReadFrom t i j k
  read_from way = let differ = corners_differ corners t way in by_sides t i j k differ.0 differ.1 differ.2 round.first round.second

  module _ (piece : List ℕ) (is : IsTriOf corners piece t) where
    -- its corners are vertices of the piece
    member : (a b : ℕ) → HasSide t a b → Contains piece a
    member a b (inl e) = subst (Contains piece) e.0 is.has_a
    member a b (inr (inl e)) = subst (Contains piece) e.0 is.has_b
    member a b (inr (inr e)) = subst (Contains piece) e.0 is.has_c

    has_first : Contains piece i
    has_first = member i j round.first

    has_second : Contains piece j
    has_second = member j k round.second

    has_third : Contains piece k
    has_third = member k i round.third

-- the corners of a quadrilateral of two triangles are vertices
pub quad_below : (corners : List Point) (tris : List Tri) → Fits corners tris → (k l : ℕ) (quad : Quad) → k < length tris → l < length tris
    → IsQuadOf tris k l quad → IsQuadBelow (length corners) quad
quad_below corners tris fits k l quad k_in_list l_in_list is =
    let n = length corners in
    let near = fits.triangles k k_in_list in
    let far = fits.triangles l l_in_list in
    record {
      from = below_of_member n quad.from (has_first corners (tri_at tris k) quad.from quad.to quad.left is.near (range_with_len 0 n) near);
      to = below_of_member n quad.to (has_second corners (tri_at tris k) quad.from quad.to quad.left is.near (range_with_len 0 n) near);
      left = below_of_member n quad.left (has_third corners (tri_at tris k) quad.from quad.to quad.left is.near (range_with_len 0 n) near);
      right = below_of_member n quad.right (has_third corners (tri_at tris l) quad.to quad.from quad.right is.far (range_with_len 0 n) far);
    }

-- ---- as a tile

-- it runs round i, j and k, has no point but those of the triangle of these three, and no other corner
pub record IsRoundTile (corners : List Point) (t : Tri) (i j k : ℕ) : Type 0 where
  pub left : IsLeft (whole (vertex corners i)) (whole (vertex corners j)) (whole (vertex corners k))
  pub closed : (x : Triple) → IsInTriangle (vertex corners i) (vertex corners j) (vertex corners k) x → IsInTri corners t x
  pub only : (n : ℕ) → HasCorner t n → (n ≡ i) ⊎ (n ≡ j) ⊎ (n ≡ k)

module _ (corners : List Point) (t : Tri) where
  -- from its first corner,
  from_a : IsCounterclockwiseTri corners t → IsRoundTile corners t t.a t.b t.c
  from_a left = record {
    left = left;
    closed = λ x inside. inside;
    only = λ n corner. elim corner [ inl e ↦ inl (sym e) | inr (inl e) ↦ inr (inl (sym e)) | inr (inr e) ↦ inr (inr (sym e)) ];
  }

  -- and from the next one
  from_next : (i j k : ℕ) → IsRoundTile corners t i j k → IsRoundTile corners t j k i
  from_next i j k is = record {
    left = left_at_last (vertex corners i) (vertex corners j) (vertex corners k) is.left;
    closed = λ x inside. is.closed x (record {
      not_right_of_first = inside.not_right_of_third;
      not_right_of_second = inside.not_right_of_first;
      not_right_of_third = inside.not_right_of_second;
    });
    only = λ n corner. elim (is.only n corner) [ inl e ↦ inr (inr e) | inr (inl e) ↦ inl e | inr (inr e) ↦ inr (inl e) ];
  }

  -- by other names
  named : (i j k l m n : ℕ) → (l ≡ i) × (m ≡ j) × (n ≡ k) → IsRoundTile corners t l m n → IsRoundTile corners t i j k
  named i j k l m n e is =
      subst (λ a. IsRoundTile corners t a j k) e.0 (subst (λ b. IsRoundTile corners t l b k) e.1 (subst (λ c. IsRoundTile corners t l m c) e.2 is))

  -- so it is from each corner
  pub round_tile : IsCounterclockwiseTri corners t → (i j k : ℕ) → HasRound t i j k → IsRoundTile corners t i j k
  round_tile left i j k round =
      elim (read_from corners t i j k round left) [
        | inl e ↦ named i j k t.a t.b t.c e (from_a left)
        | inr (inl e) ↦ named i j k t.b t.c t.a e (from_next t.a t.b t.c (from_a left))
        | inr (inr e) ↦ named i j k t.c t.a t.b e (from_next t.b t.c t.a (from_next t.a t.b t.c (from_a left)))
      ]

  -- and turns to the left at each
  pub turns_left : (i j k : ℕ) → HasRound t i j k → IsCounterclockwiseTri corners t
      → IsLeft (whole (vertex corners i)) (whole (vertex corners j)) (whole (vertex corners k))
  turns_left i j k round way = (round_tile way i j k round).left
