-- The outline of a monotone piece that is read from its least vertex s to its greatest t and back.
use Rattle.std.specs.List.{All, Contains}
use Rattle.std.proofs.Common.{◌≡◌, ◌⊎◌, inl, inr, refl, sym, ap, subst, ◌∙◌, ℕ, zero, suc, ◌+◌, ◌-◌, ◌<◌, ◌≤◌, ℤ, ◌+ℤ◌, neg_ℤ, List, [], ◌∷◌, ◌++◌}
use Rattle.std.proofs.Common.{length, take, reverse, append_assoc, arith}
use Rattle.std.proofs.lemmas.Int.{ints}
use Rattle.std.proofs.lemmas.List.{get_or_append_left, get_or_at, length-append, length-reverse, reverse-append, take_at}
use Rattle.std.proofs.lemmas.List.Elements.{All-contains}
use Rattle.std.specs.Prelude.{slice_index}
use Rattle.plane.proofs.Order.{after, before, before_asym, before_irrefl, compare_points, equal}
use Rattle.plane.specs.Order.{IsBefore}
use Rattle.plane.specs.Point.{Point}
use Rattle.rings.proofs.Vertices.{meet_swapped, reverse-cons}
use Rattle.rings.specs.Apart.{MeetAtEnds}
use Rattle.rings.specs.Edge.{edge}
use Rattle.rings.specs.Ring.{vertex}
use Rattle.meshes.proofs.Boundaries.{sum_parted}
use Rattle.meshes.specs.Boundary.{IsOdd, sum_along, sum_from, sum_round}
use Rattle.meshes.specs.Piece.{IsPolygonPiece}
use Rattle.mono_fill.specs.Cursors.{along_chain}
use Rattle.mono_fill.specs.Monotone.{AreRanks, Rises}
use Rattle.mono_fill.specs.Sides.{other_chain_side}
use Rattle.mono_fill.specs.declared.side.Side.{Side}
use Rattle.mono_fill.specs.declared.side.Side.TheVariants.{Lower, Upper}
use Rattle.mono_fill.proofs.Outlines.Around.{IsOutline, at, contains_at, edges_meet, first_inward, point_at, rank_at, sum_up_to, upper_at}
use Rattle.mono_fill.proofs.Outlines.Around.{vertices_differ}
use Rattle.mono_fill.proofs.Sums.{from_backward, met}

-- a number is below another, or that is at most the first
lt_or_ge : (a b : ℕ) → (a < b) ⊎ (b ≤ a)
lt_or_ge a b = grind arith

module _ (s : ℕ) (lower : List ℕ) (t : ℕ) (upper : List ℕ) where
  abbrev pub ring_of : List ℕ
  ring_of = s ∷ (lower ++ t ∷ upper)

  -- the vertices of a chain between s and t, and those of the other one, from t on
  abbrev between : Side → List ℕ
  between Lower = lower
  between Upper = reverse upper

  abbrev beyond : Side → List ℕ
  beyond Lower = upper
  beyond Upper = reverse lower

  -- a chain
  abbrev pub path : Side → List ℕ
  path side = s ∷ (between side ++ t ∷ [])

  abbrev edges : Side → ℕ
  edges side = length (between side) + 1

  along_is : (side : Side) → along_chain side ring_of ≡ path side ++ beyond side
  along_is Lower = ap (λ xs. s ∷ xs) (sym (append_assoc lower (t ∷ []) upper))
  along_is Upper = ap (λ xs. s ∷ xs) (reverse-append lower (t ∷ upper) ∙ ap (λ xs. xs ++ reverse lower) (reverse-cons t upper))

  length_path : (side : Side) → length (path side) ≡ edges side + 1
  length_path side = let e = length-append (between side) (t ∷ []) in omega arith

  path_at : (side : Side) (k : ℕ) → k ≤ edges side → at ring_of side k ≡ slice_index (path side) k
  path_at side k h = ap (λ xs. slice_index xs k) (along_is side) ∙ get_or_append_left (path side) (beyond side) 0 k (omega (arith, length_path side))

  path_ends : (side : Side) → at ring_of side (edges side) ≡ t
  path_ends side = path_at side (edges side) (omega arith) ∙ get_or_at (s ∷ between side) t [] 0 (edges side) (omega arith)

  all_edges : edges Lower + edges Upper ≡ length ring_of
  all_edges = let e = length-append lower (t ∷ upper) in let f = length-reverse upper in omega arith

  long : (side : Side) → edges side < length (along_chain side ring_of)
  long side = let e = ap length (along_is side) in let f = length-append (path side) (beyond side) in omega (arith, length_path side)

  -- ---- sums

  take_path : (side : Side) → take (edges side + 1) (along_chain side ring_of) ≡ path side
  take_path side = ap (take (edges side + 1)) (along_is side) ∙ take_at (path side) (beyond side) (edges side + 1) (length_path side)

  module _ (φ : ℕ → ℕ → ℤ) (odd : IsOdd φ) where
    -- along the upper chain all is met backward
    from_met : (i : ℕ) (xs : List ℕ) → sum_from (met Upper φ) i xs ≡ neg_ℤ (sum_from φ i xs)
    from_met i [] = omega (arith, ints)
    from_met i (x ∷ xs) = let e = from_met x xs in let f = odd i x in omega (arith, ints)

    -- both chains together go round
    sums_round : sum_up_to φ ring_of Lower (edges Lower) +ℤ sum_up_to φ ring_of Upper (edges Upper) ≡ sum_round φ ring_of
    sums_round =
        let a = ap (sum_along φ) (take_path Lower) in
        let b = ap (sum_along (met Upper φ)) (take_path Upper) in
        let c = from_met s (reverse upper ++ t ∷ []) in
        let d = from_backward φ odd s t upper in
        let e = ap (sum_from φ s) (append_assoc lower (t ∷ upper) (s ∷ [])) in
        let f = sum_parted φ s lower t (upper ++ s ∷ []) in
        omega (arith, ints)

  -- ---- the outline

  module _ (corners : List Point) (ranks piece : List ℕ) (ranked : AreRanks corners ranks) (polygon : IsPolygonPiece corners ring_of)
      (numbers : All (λ i. i < length corners) piece) (in_piece : (i : ℕ) → Contains ring_of i → Contains piece i)
      (same_sums : (φ : ℕ → ℕ → ℤ) → sum_round φ ring_of ≡ sum_round φ piece) (rises : (side : Side) → Rises corners (path side)) where
    within : (side : Side) (k : ℕ) → k ≤ edges side → k < length ring_of
    within Lower k h = omega (arith, all_edges)
    within Upper k h = omega (arith, all_edges)

    has : (side : Side) (k : ℕ) → k < length ring_of → Contains piece (at ring_of side k)
    has side k h = in_piece _ (contains_at s (lower ++ t ∷ upper) side k h)

    number : (side : Side) (k : ℕ) → k < length ring_of → at ring_of side k < length corners
    number side k h = All-contains (λ i. i < length corners) piece _ numbers (has side k h)

    -- each vertex is before the next
    step_before : (side : Side) (k : ℕ) → k < edges side → IsBefore (point_at corners ring_of side k) (point_at corners ring_of side (k + 1))
    step_before side k h =
        subst (λ i. IsBefore (vertex corners i) (point_at corners ring_of side (k + 1))) (sym (path_at side k (omega arith)))
        (subst (λ i. IsBefore (vertex corners (slice_index (path side) k)) (vertex corners i)) (sym (path_at side (k + 1) (omega arith)))
        (rises side k (omega (arith, length_path side))))

    -- and has a lower rank
    step : (side : Side) (k : ℕ) → k < edges side → rank_at ranks ring_of side k < rank_at ranks ring_of side (k + 1)
    step side k h = (ranked.order _ _ (number side k (within side k (omega arith))) (number side (k + 1) (within side (k + 1) (omega arith)))).1
        (step_before side k h)

    -- the least vertex has the lowest,
    above : (side : Side) (k : ℕ) → k < edges side → slice_index ranks s < rank_at ranks ring_of side (k + 1)
    above Lower zero h = step Lower 0 h
    above Upper zero h = step Upper 0 h
    above side (suc k) h =
        let a = above side k (omega arith) in
        let b = step side (k + 1) (omega arith) in
        let e : k + 1 + 1 ≡ suc k + 1 = omega arith in
        subst (λ m. slice_index ranks s < rank_at ranks ring_of side m) e (omega arith)

    -- in the order of the piece
    pub above_least : (k : ℕ) → 0 < k → k < length ring_of → slice_index ranks s < slice_index ranks (slice_index ring_of k)
    above_least k some h = elim (lt_or_ge (edges Lower) k) [
      | inl far ↦
          let l = length ring_of - k in
          let e : length ring_of - l ≡ k = omega arith in
          let a = above Upper (l - 1) (omega (arith, all_edges)) in
          let f : l - 1 + 1 ≡ l = omega arith in
          let b = subst (λ m. slice_index ranks s < rank_at ranks ring_of Upper m) f a in
          subst (λ i. slice_index ranks s < slice_index ranks i)
          (upper_at s (lower ++ t ∷ upper) l (omega arith) (omega arith) ∙ ap (slice_index ring_of) e) b
      | inr near ↦
          let f : k - 1 + 1 ≡ k = omega arith in
          subst (λ m. slice_index ranks s < rank_at ranks ring_of Lower m) f (above Lower (k - 1) (omega arith))
    ]

    none_before : (k : ℕ) → k < length ring_of → ¬ IsBefore (vertex corners (slice_index ring_of k)) (vertex corners s)
    none_before zero h b = before_irrefl (vertex corners s) b
    none_before (suc k) h b =
        let a = above_least (suc k) (omega arith) h in
        let c = (ranked.order _ _ (number Lower (suc k) h) (number Lower 0 (omega arith))).1 b in
        omega arith

    -- points of one rank are one
    same_point : (i j : ℕ) → i < length corners → j < length corners → slice_index ranks i ≡ slice_index ranks j → vertex corners i ≡ vertex corners j
    same_point i j hi hj e = elim (compare_points (vertex corners i) (vertex corners j)) [
      | before h ↦ let a = (ranked.order i j hi hj).1 h in absurd (omega arith)
      | equal f ↦ f
      | after h ↦ let a = (ranked.order j i hj hi).1 h in absurd (omega arith)
    ]

    differ : (side : Side) (k l : ℕ) → 0 < k → 0 < l → k + l < length ring_of
        → ¬ (rank_at ranks ring_of side k ≡ rank_at ranks ring_of (other_chain_side side) l)
    differ Lower k l hk hl h e =
        vertices_differ s (lower ++ t ∷ upper) corners polygon k l hl h
        (same_point _ _ (number Lower k (omega arith)) (number Upper l (omega arith)) e)
    differ Upper k l hk hl h e =
        vertices_differ s (lower ++ t ∷ upper) corners polygon l k hk (omega arith)
        (same_point _ _ (number Lower l (omega arith)) (number Upper k (omega arith)) (sym e))

    lower_upper : (k l : ℕ) → k < edges Lower → l < edges Upper
        → MeetAtEnds (edge (point_at corners ring_of Lower k) (point_at corners ring_of Lower (k + 1)))
        (edge (point_at corners ring_of Upper l) (point_at corners ring_of Upper (l + 1)))
    lower_upper k l hk hl =
        edges_meet s (lower ++ t ∷ upper) corners polygon k l (within Lower (k + 1) (omega arith)) (within Upper (l + 1) (omega arith)) (λ (e, f).
        before_asym _ _ (step_before Lower k hk)
        (subst (λ p. IsBefore p (point_at corners ring_of Lower k)) (sym f)
        (subst (IsBefore (point_at corners ring_of Upper l)) (sym e) (step_before Upper l hl))))

    apart : (side : Side) (k l : ℕ) → k < edges side → l < edges (other_chain_side side)
        → MeetAtEnds (edge (point_at corners ring_of side k) (point_at corners ring_of side (k + 1)))
        (edge (point_at corners ring_of (other_chain_side side) l) (point_at corners ring_of (other_chain_side side) (l + 1)))
    apart Lower k l hk hl = lower_upper k l hk hl
    apart Upper k l hk hl = meet_swapped _ _ (lower_upper l k hl hk)

    pub outline : IsOutline corners ranks piece ring_of
    outline = record {
      ranked = ranked;
      edges = edges;
      all = all_edges;
      some = λ side. omega arith;
      long = long;
      begins = refl;
      ends = path_ends Lower ∙ sym (path_ends Upper);
      members = λ side k h. has side k (within side k h);
      numbers = λ side k h. number side k (within side k h);
      rises = step;
      differ = differ;
      apart = apart;
      opens = first_inward s (lower ++ t ∷ upper) corners polygon none_before;
      sums = λ φ odd. sums_round φ odd ∙ same_sums φ;
    }
