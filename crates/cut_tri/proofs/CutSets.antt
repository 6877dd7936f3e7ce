-- The triangles of a piece, by its first cut: the triangle at its least vertex and those of the rest, or those of its two parts.
use Rattle.std.proofs.Common.{◌≡◌, ◌⊎◌, inl, inr, sym, subst, ℕ, ◌+◌, ◌<◌, List, [], ◌∷◌, ◌++◌, length, get_or, take, drop, arith}
use Rattle.plane.specs.Point.{Point}
use Rattle.meshes.specs.declared.tri.Tri.{Tri}
use Rattle.cut_tri.proofs.DistinctCorners.{HasDistinctCorners}
use Rattle.cut_tri.proofs.OneReading.{one_farthest, one_reading}
use Rattle.cut_tri.proofs.TriangleLists.{has_cases, has_either, has_first, has_left, has_other, has_right}
use Rattle.cut_tri.specs.Cut.{IsCutTriangle, IsEmptyCorner, IsFarthest, IsReadFromLeast}
use Rattle.cut_tri.specs.Cut.IsCutTriangle.{first, rest, second, triangle}
use Rattle.cut_tri.specs.Cutting.{IsCutInto}
use Rattle.cut_tri.specs.Piece.{tri_at_first}
use Rattle.cut_tri.specs.Triangles.{HasRound}

-- ---- the first cut, where the piece is read from its first vertex on: any other cut of it is the same

-- where no other vertex is in the triangle there, a triangle of the piece is that one or one of the rest,
cases_empty : (corners : List Point) (i j k : ℕ) (piece : List ℕ) → HasDistinctCorners corners piece → IsReadFromLeast corners piece piece
    → IsEmptyCorner corners piece → IsCutTriangle corners i j k piece
    → HasRound (tri_at_first piece) i j k ⊎ ((3 < length piece) × IsCutTriangle corners i j k (drop 1 piece))
cases_empty corners i j k piece distinct is empty (triangle p read is_too some empty_too round) =
    let same = one_reading corners piece distinct piece read is is_too in
    inl (subst (λ xs. HasRound (tri_at_first xs) i j k) (sym same) round)
cases_empty corners i j k piece distinct is empty (rest p read is_too more empty_too further) =
    let same = one_reading corners piece distinct piece read is is_too in
    inr (
      subst (λ xs. 3 < length xs) (sym same) more,
      subst (λ xs. IsCutTriangle corners i j k (drop 1 xs)) (sym same) further,
    )
cases_empty corners i j k piece distinct is empty (first p read place is_too far further) =
    let same = one_reading corners piece distinct piece read is is_too in
    absurd (empty place (subst (λ xs. IsFarthest corners xs place) (sym same) far).in_corner)
cases_empty corners i j k piece distinct is empty (second p read place is_too far further) =
    let same = one_reading corners piece distinct piece read is is_too in
    absurd (empty place (subst (λ xs. IsFarthest corners xs place) (sym same) far).in_corner)

-- and where some are, it is one of the two parts
cases_farthest : (corners : List Point) (i j k : ℕ) (piece : List ℕ) (place : ℕ) → HasDistinctCorners corners piece
    → IsReadFromLeast corners piece piece → IsFarthest corners piece place → IsCutTriangle corners i j k piece
    → IsCutTriangle corners i j k (take (place + 1) piece) ⊎ IsCutTriangle corners i j k (get_or piece 0 0 ∷ drop place piece)
cases_farthest corners i j k piece place distinct is far (triangle p read is_too some empty round) =
    let same = one_reading corners piece distinct piece read is is_too in
    absurd (empty place (subst (λ xs. IsFarthest corners xs place) same far).in_corner)
cases_farthest corners i j k piece place distinct is far (rest p read is_too more empty further) =
    let same = one_reading corners piece distinct piece read is is_too in
    absurd (empty place (subst (λ xs. IsFarthest corners xs place) same far).in_corner)
cases_farthest corners i j k piece place distinct is far (first p read place_too is_too far_too further) =
    let same = one_reading corners piece distinct piece read is is_too in
    let at = one_farthest corners piece distinct place_too place (subst (λ xs. IsFarthest corners xs place_too) (sym same) far_too) far in
    inl (subst (λ n. IsCutTriangle corners i j k (take (n + 1) piece)) at
    (subst (λ xs. IsCutTriangle corners i j k (take (place_too + 1) xs)) (sym same) further))
cases_farthest corners i j k piece place distinct is far (second p read place_too is_too far_too further) =
    let same = one_reading corners piece distinct piece read is is_too in
    let at = one_farthest corners piece distinct place_too place (subst (λ xs. IsFarthest corners xs place_too) (sym same) far_too) far in
    inr (subst (λ n. IsCutTriangle corners i j k (get_or piece 0 0 ∷ drop n piece)) at
    (subst (λ xs. IsCutTriangle corners i j k (get_or xs 0 0 ∷ drop place_too xs)) (sym same) further))

-- ---- the triangles of such a piece

module _ (corners : List Point) (piece : List ℕ) (distinct : HasDistinctCorners corners piece) (is : IsReadFromLeast corners piece piece) where
  -- a piece of three vertices is one triangle
  pub cut_alone : length piece ≡ 3 → IsCutInto corners piece (tri_at_first piece ∷ [])
  cut_alone three =
      let t = tri_at_first piece in
      let empty : IsEmptyCorner corners piece = λ n in_corner. omega (arith, three, in_corner.after_second, in_corner.before_last) in
      λ i j k. (
        λ has. elim (has_cases i j k t [] has) [
          | inl round ↦ triangle piece piece is (omega (arith, three)) empty round
          | inr other ↦ absurd (omega (arith, other.1))
        ],
        λ is_cut. elim (cases_empty corners i j k piece distinct is empty is_cut) [
          | inl round ↦ has_first i j k t [] round
          | inr more ↦ absurd (omega (arith, three, more.0))
        ],
      )

  -- where no other vertex is in the triangle at its first one, they are this one and those of the rest
  pub cut_with_ear : 3 < length piece → IsEmptyCorner corners piece → (ts : List Tri) → IsCutInto corners (drop 1 piece) ts
      → IsCutInto corners piece (tri_at_first piece ∷ ts)
  cut_with_ear more empty ts others =
      let t = tri_at_first piece in
      λ i j k. (
        λ has. elim (has_cases i j k t ts has) [
          | inl round ↦ triangle piece piece is (omega (arith, more)) empty round
          | inr other ↦ rest piece piece is more empty ((others i j k).0 other)
        ],
        λ is_cut. elim (cases_empty corners i j k piece distinct is empty is_cut) [
          | inl round ↦ has_first i j k t ts round
          | inr further ↦ has_other i j k t ts ((others i j k).1 further.1)
        ],
      )

  -- and where some are, those of the two parts
  pub cut_with_parts : (place : ℕ) → IsFarthest corners piece place → (ts us : List Tri) → IsCutInto corners (take (place + 1) piece) ts
      → IsCutInto corners (get_or piece 0 0 ∷ drop place piece) us → IsCutInto corners piece (ts ++ us)
  cut_with_parts place far ts us first_cut second_cut = λ i j k. (
    λ has. elim (has_either i j k ts us has) [
      | inl h ↦ first piece piece place is far ((first_cut i j k).0 h)
      | inr h ↦ second piece piece place is far ((second_cut i j k).0 h)
    ],
    λ is_cut. elim (cases_farthest corners i j k piece place distinct is far is_cut) [
      | inl h ↦ has_left i j k ts us ((first_cut i j k).1 h)
      | inr h ↦ has_right i j k ts us ((second_cut i j k).1 h)
    ],
  )
