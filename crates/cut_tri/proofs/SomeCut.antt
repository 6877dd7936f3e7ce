-- Each piece of a polygon is cut into triangles that fit it, by induction on its length.
use Rattle.std.proofs.Common.{◌≡◌, ◌⊎◌, inl, inr, sym, ap, subst, ℕ, zero, suc, ◌+◌, ◌-◌, ◌<◌, ℤ, ◌<ℤ◌, List, [], ◌∷◌, ◌++◌, length, get_or}
use Rattle.std.proofs.Common.{take, drop, below_more, arith}
use Rattle.std.proofs.Math.Numerals.{suc-eq-add-one}
use Rattle.std.proofs.lemmas.Bool.{cases_eq, cases_lt}
use Rattle.std.proofs.lemmas.Int.{ints}
use Rattle.std.proofs.lemmas.List.{length-append, take-append-drop}
use Rattle.std.specs.List.{range_with_len}
use Rattle.plane.proofs.Order.{before_irrefl, before_or_not, before_trans}
use Rattle.plane.specs.Order.{IsBefore}
use Rattle.plane.specs.Point.{Point, whole}
use Rattle.ring_laws.proofs.Triangles.{in_or_not}
use Rattle.meshes.proofs.Joins.{fits_rotated}
use Rattle.meshes.specs.Fits.{FitsPiece}
use Rattle.meshes.specs.declared.tri.Tri.{Tri}
use Rattle.cut_tri.proofs.Candidates.{is_farthest}
use Rattle.cut_tri.proofs.DiagonalCuts.{parts_cut}
use Rattle.cut_tri.proofs.EarCuts.{ear_cut, triangle_cut}
use Rattle.cut_tri.proofs.Readings.{cut_of_rotated}
use Rattle.cut_tri.proofs.RotatedCuts.{least_from, piece_from}
use Rattle.cut_tri.proofs.WholePiece.{all_is_piece}
use Rattle.cut_tri.specs.Corner.{IsFarther, IsFarthestBelow, candidate_at}
use Rattle.cut_tri.specs.Cut.{IsFarthest, IsPlaceInCorner, SomeCutTriangulationLaw, height_at}
use Rattle.cut_tri.specs.Cutting.{IsCutInto}
use Rattle.cut_tri.specs.Piece.{IsLeastBelow, IsPiece, piece_vertex, tri_at_first}

-- ---- which of two vertices is farther

-- one with the first height and number is, than one with the others
abbrev IsPast : ℤ → ℕ → ℤ → ℕ → Type 0
IsPast a m b n = (b <ℤ a) ⊎ ((a ≡ b) × (m < n))

-- it is or not,
past_or_not : (a : ℤ) (m : ℕ) (b : ℤ) (n : ℕ) → IsPast a m b n ⊎ (¬ IsPast a m b n)
past_or_not a m b n = grind (arith, ints)

-- none is farther than itself,
not_past_itself : (a : ℤ) (m : ℕ) → ¬ (IsPast a m a m)
not_past_itself a m h = grind (arith, ints)

-- and what is not farther than a second is not farther than one that is
not_past_more : (a : ℤ) (l : ℕ) (b : ℤ) (m : ℕ) (c : ℤ) (n : ℕ) → ¬ (IsPast a l b m) → IsPast c n b m → ¬ (IsPast a l c n)
not_past_more a l b m c n not h k = grind (arith, ints)

module _ (corners : List Point) (piece : List ℕ) where
  -- the vertex at a place is before that at another
  abbrev IsEarlier : ℕ → ℕ → Type 0
  IsEarlier j k = IsBefore (piece_vertex corners piece j) (piece_vertex corners piece k)

  -- ---- a least vertex

  -- one of the first n places has it
  abbrev HasLeast : ℕ → Type 0
  HasLeast n = (k : ℕ) × (k < n) × IsLeastBelow corners piece n k

  -- so it is with one place more,
  least_more : (n : ℕ) → HasLeast n → HasLeast (n + 1)
  least_more n (k, below, least) = elim (before_or_not (piece_vertex corners piece n) (piece_vertex corners piece k)) [
    | inl before ↦ (
      n,
      omega arith,
      below_more (λ j. ¬ (IsEarlier j n)) n
          (λ j low earlier.
          least j low (before_trans (piece_vertex corners piece j) (piece_vertex corners piece n) (piece_vertex corners piece k) earlier before))
          (before_irrefl (piece_vertex corners piece n)),
    )
    | inr not ↦ (k, omega (arith, below), below_more (λ j. ¬ (IsEarlier j k)) n least not)
  ]

  -- and with any number of places
  has_least : (n : ℕ) → HasLeast (suc n)
  has_least zero =
      (0, omega arith, below_more (λ j. ¬ (IsEarlier j 0)) 0 (λ j below. absurd (omega (arith, below))) (before_irrefl (piece_vertex corners piece 0)))
  has_least (suc n) = subst HasLeast (sym (suc-eq-add-one (suc n))) (least_more (suc n) (has_least n))

  -- ---- a farthest vertex in the corner

  -- a place is in the corner or not
  in_corner_or_not : (k : ℕ) → IsPlaceInCorner corners piece k ⊎ (¬ IsPlaceInCorner corners piece k)
  in_corner_or_not k = elim (cases_lt k 2) [
    | inl early ↦ inr (λ is. absurd (omega (arith, early, is.after_second)))
    | inr after ↦ elim (cases_lt (k + 1) (length piece)) [
      | inr late ↦ inr (λ is. absurd (omega (arith, late, is.before_last)))
      | inl before ↦ elim (in_or_not (piece_vertex corners piece (length piece - 1)) (piece_vertex corners piece 0) (piece_vertex corners piece 1)
          (whole (piece_vertex corners piece k))) [
            | inl inside ↦ inl (record { after_second = after; before_last = before; in_triangle = inside })
            | inr outside ↦ inr (λ is. outside is.in_triangle)
          ]
    ]
  ]

  -- how far the vertex at a place is from the line through the last and the second vertex
  abbrev high : ℕ → ℤ
  high k = height_at corners piece k

  -- its number
  abbrev number : ℕ → ℕ
  number k = get_or piece k 0

  -- the vertex at a place, if it is in the corner, is not farther than that at another
  abbrev IsNotPast : ℕ → ℕ → Type 0
  IsNotPast k j = IsPlaceInCorner corners piece j → ¬ (IsFarther (candidate_at corners piece j) (candidate_at corners piece k))

  -- none of the first n places is in the corner, or one of them is the farthest of those in it
  abbrev HasFarthest : ℕ → Type 0
  HasFarthest n = ((j : ℕ) → j < n → ¬ (IsPlaceInCorner corners piece j)) ⊎ ((k : ℕ) × IsFarthestBelow corners piece n k)

  module _ (n : ℕ) where
    -- with one place more: it is not in the corner,
    farthest_past : ¬ (IsPlaceInCorner corners piece n) → HasFarthest n → HasFarthest (n + 1)
    farthest_past out (inl none) = inl (below_more (λ j. ¬ (IsPlaceInCorner corners piece j)) n none out)
    farthest_past out (inr (k, far)) =
        inr (k, record { in_corner = far.in_corner; farthest = below_more (IsNotPast k) n far.farthest (λ here. absurd (out here)) })

    -- or it is and is the first one, or is farther than the others, or is not
    farthest_more : IsPlaceInCorner corners piece n → HasFarthest n → HasFarthest (n + 1)
    farthest_more here (inl none) = inr (
      n,
      record {
        in_corner = here;
        farthest = below_more (IsNotPast n) n (λ j below in_j. absurd (none j below in_j)) (λ in_n. not_past_itself (high n) (number n));
      },
    )
    farthest_more here (inr (k, far)) = elim (past_or_not (high n) (number n) (high k) (number k)) [
      | inl farther ↦ inr (
        n,
        record {
          in_corner = here;
          farthest = below_more (IsNotPast n) n
              (λ j below in_j. not_past_more (high j) (number j) (high k) (number k) (high n) (number n)
              (far.farthest j below in_j) farther)
              (λ in_n. not_past_itself (high n) (number n));
        },
      )
      | inr not ↦ inr (k, record { in_corner = far.in_corner; farthest = below_more (IsNotPast k) n far.farthest (λ in_n. not) })
    ]

  -- so it is for any number of places,
  has_farthest : (n : ℕ) → HasFarthest n
  has_farthest zero = inl (λ j below. absurd (omega (arith, below)))
  has_farthest (suc n) = elim (in_corner_or_not n) [
    | inl here ↦ subst HasFarthest (sym (suc-eq-add-one n)) (farthest_more n here (has_farthest n))
    | inr out ↦ subst HasFarthest (sym (suc-eq-add-one n)) (farthest_past n out (has_farthest n))
  ]

  -- and none of all is in the corner, or one is the farthest
  farthest_or_none : ((j : ℕ) → j < length piece → ¬ (IsPlaceInCorner corners piece j)) ⊎ ((k : ℕ) × IsFarthest corners piece k)
  farthest_or_none = elim (has_farthest (length piece)) [
    | inl none ↦ inl none
    | inr (k, far) ↦ inr (k, is_farthest corners piece k far)
  ]

-- ---- cuts

-- a piece is cut into some triangles, and they fit it
abbrev HasCut : List Point → List ℕ → Type 0
HasCut corners piece = (cut : List Tri) × FitsPiece corners piece cut × IsCutInto corners piece cut

-- all pieces with fewer than n vertices are
abbrev FewerHaveCuts : List Point → ℕ → Type 0
FewerHaveCuts corners n = (piece : List ℕ) → length piece < n → IsPiece corners piece → HasCut corners piece

module _ (corners : List Point) where
  -- a piece that begins with its least vertex, where smaller ones are,
  at_first : (piece : List ℕ) → IsPiece corners piece → IsLeastBelow corners piece (length piece) 0 → FewerHaveCuts corners (length piece)
      → HasCut corners piece
  at_first piece is least fewer = elim (cases_eq (length piece) 3) [
    | inl three ↦ let is_triangle = triangle_cut corners piece is least three in (tri_at_first piece ∷ [], is_triangle.fits, is_triangle.cut)
    | inr more ↦ elim (farthest_or_none corners piece) [
      | inl none ↦
          let ear = ear_cut corners piece is least more none in
          let (ts, fit, cut) = fewer (drop 1 piece) (omega (arith, ear.shorter)) ear.rest_is_piece in
          (tri_at_first piece ∷ ts, ear.fits ts fit, ear.cut ts cut)
      | inr (place, far) ↦
          let parts = parts_cut corners piece place is least far in
          let some = parts.first_is_piece.polygon.some in
          let some_too = parts.second_is_piece.polygon.some in
          let (ts, fit, cut) = fewer (take (place + 1) piece) (omega (arith, parts.lengths, some_too)) parts.first_is_piece in
          let (us, fit_too, cut_too) = fewer (get_or piece 0 0 ∷ drop place piece) (omega (arith, parts.lengths, some)) parts.second_is_piece in
          (ts ++ us, parts.fits ts us fit fit_too, parts.cut ts us cut cut_too)
    ]
  ]

  -- the cut of a piece that is read from place k on is one of the piece
  cut_back : (piece : List ℕ) (k : ℕ) → HasCut corners (drop k piece ++ take k piece) → HasCut corners piece
  cut_back piece k (ts, fit, cut) = subst (HasCut corners) (take-append-drop k piece) (
    ts,
    fits_rotated corners (drop k piece) (take k piece) ts fit,
    cut_of_rotated corners (take k piece) (drop k piece) ts cut,
  )

  -- so any piece is, where smaller ones are,
  from_fewer : (piece : List ℕ) → IsPiece corners piece → FewerHaveCuts corners (length piece) → HasCut corners piece
  from_fewer piece is fewer =
      let (k, below, least) = has_least corners piece (length piece - 1) in
      let size : suc (length piece - 1) ≡ length piece = omega (arith, is.polygon.some) in
      let parts : length (take k piece ++ drop k piece) ≡ length piece = ap length (take-append-drop k piece) in
      let same : length (drop k piece ++ take k piece) ≡ length piece =
      omega (arith, parts, length-append (drop k piece) (take k piece), length-append (take k piece) (drop k piece)) in
      cut_back piece k
      (at_first (drop k piece ++ take k piece) (piece_from corners piece k is)
      (least_from corners piece k is (omega (arith, below, size)) (subst (λ n. IsLeastBelow corners piece n k) size least))
      (subst (FewerHaveCuts corners) (sym same) fewer))

  -- and all pieces are, by induction
  fewer_have_cuts : (n : ℕ) → FewerHaveCuts corners n
  fewer_have_cuts zero piece below is = absurd (omega (arith, below))
  fewer_have_cuts (suc n) piece below is = from_fewer piece is (λ part less part_is. fewer_have_cuts n part (omega (arith, below, less)) part_is)

  -- so each piece has a cut, whose triangles fit it
  has_cut : (piece : List ℕ) → IsPiece corners piece → HasCut corners piece
  has_cut piece is = fewer_have_cuts (length piece + 1) piece (omega arith) is

-- and so has a simple polygon
pub some_cut_triangulation : SomeCutTriangulationLaw
some_cut_triangulation corners some simple way = has_cut corners (range_with_len 0 (length corners)) (all_is_piece corners some simple way)
