-- A fillable piece, read from the place of its least rank on.
use Rattle.std.specs.List.{Contains}
use Rattle.std.proofs.Common.{◌≡◌, ◌⊎◌, inl, inr, refl, sym, ap, ap₂, subst, ◌∙◌, ℕ, ◌+◌, ◌-◌, ◌<◌, ◌≤◌, ℤ, List, [], ◌∷◌, ◌++◌, length, append-nil}
use Rattle.std.proofs.Common.{arith}
use Rattle.std.proofs.lemmas.List.{drop_at, get_or-append-add, get_or_append_left, length-append, take_at}
use Rattle.std.proofs.lemmas.List.Elements.{Contains-append_cases, Contains-append_left, Contains-append_right}
use Rattle.std.specs.Prelude.{slice_index}
use Rattle.plane.specs.Point.{Point}
use Rattle.ring_laws.proofs.Kernels.{counterclockwise_winds}
use Rattle.meshes.proofs.Boundaries.{sum_rotated}
use Rattle.meshes.proofs.Sides.{length_points}
use Rattle.meshes.proofs.Triangulations.{piece_rotated}
use Rattle.meshes.specs.Boundary.{sum_round}
use Rattle.meshes.specs.Fits.{piece_points}
use Rattle.meshes.specs.Piece.{IsPolygonPiece}
use Rattle.mono_fill.specs.Cursors.{read_from}
use Rattle.mono_fill.specs.Fillable.{IsFillable}
use Rattle.mono_fill.specs.Monotone.{Rises}
use Rattle.mono_fill.specs.declared.side.Side.{Side}
use Rattle.mono_fill.specs.declared.side.Side.TheVariants.{Lower, Upper}
use Rattle.mono_fill.proofs.Outlines.Around.{IsOutline}
use Rattle.mono_fill.proofs.Outlines.Paths.{above_least, outline, path, ring_of}

-- two numbers compare
nat_compare : (a b : ℕ) → ((a < b) ⊎ (a ≡ b)) ⊎ (b < a)
nat_compare a b = grind arith

-- a list in two parts, which change places; the second has an item
record IsTurned (piece ring : List ℕ) : Type 0 where
  front : List ℕ
  back : List ℕ
  parts : piece ≡ front ++ back
  read : back ++ front ≡ ring
  some : 0 < length back

turned_at : (piece ring before from : List ℕ) → 0 < length ring → piece ≡ before ++ from → from ++ before ≡ ring → IsTurned piece ring
turned_at piece ring before [] some parts read =
    let e = ap length read in
    record { front = []; back = before; parts = parts ∙ append-nil before; read = append-nil before ∙ read; some = omega arith }
turned_at piece ring before (x ∷ xs) some parts read = record { front = before; back = x ∷ xs; parts = parts; read = read; some = omega arith }

-- a fillable piece is a piece of a polygon
pub fillable_polygon : (corners : List Point) (ranks piece : List ℕ) → IsFillable corners ranks piece → IsPolygonPiece corners piece
fillable_polygon corners ranks piece f = record {
  some = f.some;
  simple = f.simple;
  counterclockwise = record {
    area = f.counterclockwise;
    windings = counterclockwise_winds (piece_points corners piece) (omega (arith, length_points corners piece, f.some)) f.simple f.counterclockwise;
  };
}

module _ (corners : List Point) (ranks piece : List ℕ) (f : IsFillable corners ranks piece) where
  abbrev ring : List ℕ
  ring = ring_of f.monotone.least f.monotone.lower f.monotone.greatest f.monotone.upper

  turned : IsTurned piece ring
  turned = turned_at piece ring f.monotone.before f.monotone.from_least (omega arith) f.monotone.parts f.monotone.read

  in_piece : (i : ℕ) → Contains ring i → Contains piece i
  in_piece i has =
      subst (λ xs. Contains xs i) (sym turned.parts) (elim (Contains-append_cases turned.back turned.front i
      (subst (λ xs. Contains xs i) (sym turned.read) has)) [
        | inl h ↦ Contains-append_right turned.front turned.back i h
        | inr h ↦ Contains-append_left turned.front turned.back i h
      ])

  polygon : IsPolygonPiece corners ring
  polygon =
      subst (IsPolygonPiece corners) turned.read
      (piece_rotated corners turned.front turned.back (subst (IsPolygonPiece corners) turned.parts (fillable_polygon corners ranks piece f)))

  same_sums : (φ : ℕ → ℕ → ℤ) → sum_round φ ring ≡ sum_round φ piece
  same_sums φ = ap (sum_round φ) (sym turned.read) ∙ sum_rotated φ turned.back turned.front ∙ ap (sum_round φ) (sym turned.parts)

  rises : (side : Side) → Rises corners (path f.monotone.least f.monotone.lower f.monotone.greatest f.monotone.upper side)
  rises Lower = f.monotone.lower_rises
  rises Upper = f.monotone.upper_rises

  ring_outline : IsOutline corners ranks piece ring
  ring_outline = outline _ _ _ _ corners ranks piece f.ranked polygon f.numbers in_piece same_sums rises

  -- ---- its items, in the piece and as it is read from its least vertex on

  sizes : length piece ≡ length turned.front + length turned.back
  sizes = ap length turned.parts ∙ length-append turned.front turned.back

  long : length ring ≡ length piece
  long = let e = ap length turned.read in let h = length-append turned.back turned.front in omega (arith, sizes)

  front_item : (k : ℕ) → k < length turned.front → slice_index piece k ≡ slice_index ring (length turned.back + k)
  front_item k h =
      ap (λ xs. slice_index xs k) turned.parts ∙ get_or_append_left turned.front turned.back 0 k h
      ∙ sym (get_or-append-add turned.back turned.front k 0) ∙ ap (λ xs. slice_index xs (length turned.back + k)) turned.read

  back_item : (k : ℕ) → k < length turned.back → slice_index piece (length turned.front + k) ≡ slice_index ring k
  back_item k h =
      ap (λ xs. slice_index xs (length turned.front + k)) turned.parts ∙ get_or-append-add turned.front turned.back k 0
      ∙ sym (get_or_append_left turned.back turned.front 0 k h) ∙ ap (λ xs. slice_index xs k) turned.read

  -- the least rank stands at one place alone
  module _ (place : ℕ) (within : place < length piece)
      (least : (k : ℕ) → k < length piece → slice_index ranks (slice_index piece place) ≤ slice_index ranks (slice_index piece k)) where
    higher : (k : ℕ) → 0 < k → k < length ring → slice_index ranks f.monotone.least < slice_index ranks (slice_index ring k)
    higher = above_least _ _ _ _ corners ranks piece f.ranked polygon f.numbers in_piece same_sums rises

    -- which is where the second part begins
    least_there : slice_index ranks (slice_index piece place) ≤ slice_index ranks f.monotone.least
    least_there =
        let e : length turned.front + 0 ≡ length turned.front = omega arith in
        subst (λ i. slice_index ranks (slice_index piece place) ≤ slice_index ranks i) (ap (slice_index piece) (sym e) ∙ back_item 0 turned.some)
        (least (length turned.front) (omega (arith, sizes, turned.some)))

    place_is : place ≡ length turned.front
    place_is = elim (nat_compare place (length turned.front)) [
      | inl (inl before) ↦
          let a = higher (length turned.back + place) (omega (arith, turned.some)) (omega (arith, sizes, long)) in
          let b = ap (slice_index ranks) (front_item place before) in
          absurd (omega (arith, least_there))
      | inl (inr same) ↦ same
      | inr behind ↦
          let k = place - length turned.front in
          let e : length turned.front + k ≡ place = omega arith in
          let a = higher k (omega arith) (omega (arith, sizes, long)) in
          let b = ap (slice_index ranks) (ap (slice_index piece) (sym e) ∙ back_item k (omega (arith, sizes))) in
          absurd (omega (arith, least_there))
    ]

    pub read_outline : IsOutline corners ranks piece (read_from place piece)
    read_outline =
        let all = turned.front ++ turned.back in
        let e = ap₂ ◌++◌ (drop_at turned.front turned.back (length turned.front) refl)
        (take_at turned.front turned.back (length turned.front) refl) in
        subst (IsOutline corners ranks piece) (sym turned.read ∙ sym e ∙ ap (read_from (length turned.front)) (sym turned.parts)
        ∙ ap (λ n. read_from n piece) (sym place_is))
        ring_outline
