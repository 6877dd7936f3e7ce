-- One of two meshes that are joined along a diagonal: the sides of its triangles in the joined list.
use Rattle.std.proofs.Common.{◌≡◌, ◌⊎◌, inl, inr, sym, ap, subst, ◌∙◌, ℕ, ◌<◌, List, length}
use Rattle.std.specs.List.{Contains}
use Rattle.plane.specs.Point.{Point}
use Rattle.ring_laws.proofs.Diagonals.{AreBoth}
use Rattle.meshes.proofs.Joins.TwoLists.{AreParts, IsPlaceOf}
use Rattle.meshes.proofs.Sides.{edge_or_not, corners_differ}
use Rattle.meshes.specs.Prelude.{FitsPiece, HasSide, HasSideBetween, IsPieceEdge, IsSideOfOne, IsSideOfTwo, IsTriOf, tri_at}
use Rattle.meshes.specs.declared.tri.Tri.{Tri}

-- ---- sides of one triangle

-- a side between two numbers is one between them the other way round
pub between_back : {t : Tri} {i j : ℕ} → HasSideBetween t i j → HasSideBetween t j i
between_back (inl h) = inr h
between_back (inr h) = inl h

-- the ends of one pair are those of the other
pub ends_back : {a b i j : ℕ} → AreBoth a b i j → AreBoth i j a b
ends_back (inl h) = inl (sym h.0, sym h.1)
ends_back (inr h) = inr (sym h.1, sym h.0)

-- a side between two numbers that are the ends of the diagonal is one between its ends
pub between_at : {t : Tri} {a b i j : ℕ} → AreBoth a b i j → HasSideBetween t i j → HasSideBetween t a b
between_at {t} {a} {b} {i} {j} (inl h) s = subst (λ x. HasSideBetween t x b) h.0 (subst (λ y. HasSideBetween t i y) h.1 s)
between_at {t} {a} {b} {i} {j} (inr h) s = between_back (subst (λ x. HasSideBetween t x a) h.0 (subst (λ y. HasSideBetween t i y) h.1 s))

module _ (corners : List Point) (piece : List ℕ) (t : Tri) (is : IsTriOf corners piece t) where
  -- the corners of the triangle differ
  differ : (¬ (t.a ≡ t.b)) × (¬ (t.b ≡ t.c)) × (¬ (t.c ≡ t.a))
  differ = corners_differ corners t is.counterclockwise

  -- the ends of a side are vertices of the piece, and different
  side_ends : (i j : ℕ) → HasSide t i j → Contains piece i × Contains piece j × (¬ (i ≡ j))
  side_ends i j (inl s) =
      (subst (Contains piece) s.0 is.has_a, subst (Contains piece) s.1 is.has_b, λ e. differ.0 (s.0 ∙ e ∙ sym s.1))
  side_ends i j (inr (inl s)) =
      (subst (Contains piece) s.0 is.has_b, subst (Contains piece) s.1 is.has_c, λ e. differ.1 (s.0 ∙ e ∙ sym s.1))
  side_ends i j (inr (inr s)) =
      (subst (Contains piece) s.0 is.has_c, subst (Contains piece) s.1 is.has_a, λ e. differ.2 (s.0 ∙ e ∙ sym s.1))

  -- in either direction
  pub between_ends : (i j : ℕ) → HasSideBetween t i j → Contains piece i × Contains piece j × (¬ (i ≡ j))
  between_ends i j (inl s) = side_ends i j s
  between_ends i j (inr s) = let h = side_ends j i s in (h.1, h.0, λ e. h.2 (sym e))

-- ---- one half

-- what the laws of one half take: the piece is cut by a diagonal, which is the edge from a to b of this half and the edge
-- from b to a of the other one; both halves have meshes
pub record IsHalf (corners : List Point) (piece half other : List ℕ) (ts us : List Tri) (a b : ℕ) : Type 0 where
  pub fits : FitsPiece corners half ts
  pub other_fits : FitsPiece corners other us
  pub diagonal : IsPieceEdge half a b
  pub other_diagonal : IsPieceEdge other b a
  pub common : (i : ℕ) → Contains half i → Contains other i → (i ≡ a) ⊎ (i ≡ b)
  pub edge_cases : (i j : ℕ) → IsPieceEdge half i j → IsPieceEdge piece i j ⊎ ((i ≡ a) × (j ≡ b))
  pub not_edge : (i j : ℕ) → IsPieceEdge piece i j → ¬ AreBoth a b i j

-- two of two numbers that differ are both of them
both_ends : (a b i j : ℕ) → (i ≡ a) ⊎ (i ≡ b) → (j ≡ a) ⊎ (j ≡ b) → ¬ (i ≡ j) → AreBoth a b i j
both_ends a b i j (inl e) (inl f) n = absurd (n (e ∙ sym f))
both_ends a b i j (inl e) (inr f) n = inl (e, f)
both_ends a b i j (inr e) (inl f) n = inr (e, f)
both_ends a b i j (inr e) (inr f) n = absurd (n (e ∙ sym f))

module _ (corners : List Point) (piece half other : List ℕ) (ts us : List Tri) (a b : ℕ) (h : IsHalf corners piece half other ts us a b) where
  -- a side of triangles of both halves is the diagonal
  pub common_side : (m n i j : ℕ) → m < length ts → n < length us → HasSideBetween (tri_at ts m) i j → HasSideBetween (tri_at us n) i j
      → AreBoth a b i j
  common_side m n i j in_ts in_us s t =
      let here = between_ends corners half (tri_at ts m) (h.fits.triangles m in_ts) i j s in
      let there = between_ends corners other (tri_at us n) (h.other_fits.triangles n in_us) i j t in
      both_ends a b i j (h.common i here.0 there.0) (h.common j here.1 there.1) here.2

  module _ (tris : List Tri) (f g : ℕ → ℕ) (parts : AreParts tris ts us f g) where
    -- triangle n of the joined list, as one of this half
    here : (n i j : ℕ) → (at : IsPlaceOf ts f n) → HasSideBetween (tri_at tris n) i j → HasSideBetween (tri_at ts at.k) i j
    here n i j at s =
        subst (λ t. HasSideBetween t i j) (parts.first.same at.k at.in_part)
        (subst (λ m. HasSideBetween (tri_at tris m) i j) (sym at.is) s)

    -- or of the other
    there : (n i j : ℕ) → (at : IsPlaceOf us g n) → HasSideBetween (tri_at tris n) i j → HasSideBetween (tri_at us at.k) i j
    there n i j at s =
        subst (λ t. HasSideBetween t i j) (parts.second.same at.k at.in_part)
        (subst (λ m. HasSideBetween (tri_at tris m) i j) (sym at.is) s)

    -- a side of a triangle of this half is one of it in the joined list,
    side_here : (k i j : ℕ) → k < length ts → HasSide (tri_at ts k) i j → HasSide (tri_at tris (f k)) i j
    side_here k i j within s = subst (λ t. HasSide t i j) (sym (parts.first.same k within)) s

    -- of the other half too
    side_there : (k i j : ℕ) → k < length us → HasSide (tri_at us k) i j → HasSide (tri_at tris (g k)) i j
    side_there k i j within s = subst (λ t. HasSide t i j) (sym (parts.second.same k within)) s

    -- an edge of the piece that is one of this half is a side of one triangle of the joined list
    pub half_edges : (i j : ℕ) → IsPieceEdge half i j → IsPieceEdge piece i j → (k : ℕ) × IsSideOfOne tris i j k
    half_edges i j in_half in_piece =
        let (k, one) = h.fits.edges i j in_half in (
          f k,
          record {
            in_list = parts.first.in_list k one.in_list;
            has = side_here k i j one.in_list one.has;
            only = λ n within s. elim (parts.cases n within) [
              | inl at ↦ sym at.is ∙ ap f (one.only at.k at.in_part (here n i j at s))
              | inr at ↦
                  let ends = common_side k at.k i j one.in_list at.in_part (inl one.has) (there n i j at s) in
                  absurd (h.not_edge i j in_piece ends)
            ];
          },
        )

    -- the diagonal is a side of two triangles, across the halves
    diagonal_of_two : (k : ℕ) → k < length ts → HasSide (tri_at ts k) a b → (l : ℕ) × IsSideOfTwo tris a b (f k) l
    diagonal_of_two k within s =
        let (m, one) = h.fits.edges a b h.diagonal in
        let (n, other_one) = h.other_fits.edges b a h.other_diagonal in
        let is : k ≡ m = one.only k within (inl s) in (
          g n,
          record {
            in_list = parts.first.in_list k within;
            other_in_list = parts.second.in_list n other_one.in_list;
            different = parts.apart k n within other_one.in_list;
            has = side_here k a b within s;
            other_has = side_there n b a other_one.in_list other_one.has;
            only = λ o inside t. elim (parts.cases o inside) [
              | inl at ↦ inl (sym at.is ∙ ap f (one.only at.k at.in_part (here o a b at t) ∙ sym is))
              | inr at ↦ inr (sym at.is ∙ ap g (other_one.only at.k at.in_part (between_back (there o a b at t))))
            ];
          },
        )

    -- two triangles of this half do not both have the diagonal
    not_twice : (k l i j : ℕ) → k < length ts → l < length ts → ¬ (k ≡ l) → HasSideBetween (tri_at ts k) i j
        → HasSideBetween (tri_at ts l) i j → ¬ AreBoth a b i j
    not_twice k l i j in_k in_l differ s t ends =
        let (m, one) = h.fits.edges a b h.diagonal in
        elim ends [
          | inl e ↦
              let turn = λ (x : ℕ) (p : HasSideBetween (tri_at ts x) i j).
              subst (λ z. HasSideBetween (tri_at ts x) z b) e.0 (subst (λ z. HasSideBetween (tri_at ts x) i z) e.1 p) in
              differ (one.only k in_k (turn k s) ∙ sym (one.only l in_l (turn l t)))
          | inr e ↦
              let turn = λ (x : ℕ) (p : HasSideBetween (tri_at ts x) i j).
              between_back (subst (λ z. HasSideBetween (tri_at ts x) z a) e.0 (subst (λ z. HasSideBetween (tri_at ts x) i z) e.1 p)) in
              differ (one.only k in_k (turn k s) ∙ sym (one.only l in_l (turn l t)))
        ]

    -- an inner side of this half is a side of two triangles of it
    side_of_two : (k l i j : ℕ) → IsSideOfTwo ts i j k l → IsSideOfTwo tris i j (f k) (f l)
    side_of_two k l i j two = record {
      in_list = parts.first.in_list k two.in_list;
      other_in_list = parts.first.in_list l two.other_in_list;
      different = λ e. two.different (parts.first.once k l e);
      has = side_here k i j two.in_list two.has;
      other_has = side_here l j i two.other_in_list two.other_has;
      only = λ n within s. elim (parts.cases n within) [
        | inl at ↦ elim (two.only at.k at.in_part (here n i j at s)) [
          | inl e ↦ inl (sym at.is ∙ ap f e)
          | inr e ↦ inr (sym at.is ∙ ap f e)
        ]
        | inr at ↦
            let ends = common_side k at.k i j two.in_list at.in_part (inl two.has) (there n i j at s) in
            absurd (not_twice k l i j two.in_list two.other_in_list two.different (inl two.has) (inr two.other_has) ends)
      ];
    }

    -- so a side of this half that is no edge of the piece is a side of two triangles
    pub half_inner_sides : (i j k : ℕ) → k < length ts → HasSide (tri_at ts k) i j → ¬ IsPieceEdge piece i j
        → (l : ℕ) × IsSideOfTwo tris i j (f k) l
    half_inner_sides i j k within s inner = elim (edge_or_not half i j) [
      | inl edge ↦ elim (h.edge_cases i j edge) [
        | inl outer ↦ absurd (inner outer)
        | inr e ↦
            let (l, two) = diagonal_of_two k within (subst (λ x. HasSide (tri_at ts k) x b) e.0 (subst (λ y. HasSide (tri_at ts k) i y) e.1 s)) in
            (l, subst (λ x. IsSideOfTwo tris x j (f k) l) (sym e.0) (subst (λ y. IsSideOfTwo tris a y (f k) l) (sym e.1) two))
      ]
      | inr no_edge ↦ let (l, two) = h.fits.inner_sides i j k within s no_edge in (f l, side_of_two k l i j two)
    ]
