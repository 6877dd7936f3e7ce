-- The boundary of a closed region by its places: along the lower chain, and back along the upper one.
-- A closed region is a piece of the polygon: simple, counterclockwise and monotone.
use Rattle.std.proofs.Common.{◌≡◌, inl, inr, refl, sym, subst, ap, ◌∙◌, ℕ, ◌+◌, ◌-◌, ◌<◌, ◌≤◌, List, [], ◌∷◌, ◌++◌, length, get_or, take}
use Rattle.std.proofs.Common.{drop, reverse, add-one, arith}
use Rattle.std.proofs.lemmas.Bool.{cases_lt}
use Rattle.std.proofs.lemmas.List.{append-nil, append_assoc, get_or-append_right, get_or-drop, get_or-reverse, get_or-take}
use Rattle.std.proofs.lemmas.List.{get_or_append_left, get_or_default, length-append, length-drop, length-reverse, length-take-le}
use Rattle.std.proofs.lemmas.List.{reverse-reverse, take_all, take_more}
use Rattle.std.specs.List.{All}
use Rattle.plane.specs.Point.{Point}
use Rattle.rings.proofs.Vertices.{vertex_round}
use Rattle.rings.specs.Events.{AreEvents}
use Rattle.rings.specs.Orientation.{IsCounterclockwise}
use Rattle.rings.specs.Ring.{vertex}
use Rattle.rings.specs.Simple.{IsSimple}
use Rattle.meshes.proofs.Sides.{length_points, vertex_of_piece}
use Rattle.meshes.specs.Fits.{piece_points}
use Rattle.meshes.specs.Piece.{IsPolygonPiece}
use Rattle.mono_fill.specs.Monotone.{IsMonotone, Rises}
use Rattle.sweep_tri.proofs.Pieces.ChainRings.{GoesRound, AreChains, counterclockwise_of_chains, simple_of_chains, three_of_chains}
use Rattle.sweep_tri.proofs.RankOrder.{number_is_one, ranks_are}
use Rattle.sweep_tri.specs.Region.{Chains, boundary, IsClosedRegion, IsStep, RisesBy}

-- the points of a path of vertices
abbrev pub path_at : List Point → List ℕ → ℕ → Point
path_at corners path k = vertex corners (get_or path k 0)

-- the inner vertices of a chain
abbrev inner : List ℕ → List ℕ
inner path = take (length path - 2) (drop 1 path)

length-inner : (path : List ℕ) → length (inner path) ≡ length path - 2
length-inner path = length-take-le (length path - 2) (drop 1 path) (omega (arith, length-drop 1 path))

-- a chain is its first vertex, the inner ones and its last vertex
pub chain_parts : (path : List ℕ) → 2 ≤ length path → path ≡ get_or path 0 0 ∷ (inner path ++ get_or path (length path - 1) 0 ∷ [])
chain_parts [] two = absurd (omega arith)
chain_parts (v ∷ []) two = absurd (omega arith)
chain_parts (v ∷ w ∷ ws) two =
    let rest : List ℕ = w ∷ ws in
    let count : length ws ≡ length (v ∷ rest) - 2 = omega arith in
    let place : length ws + 1 ≡ length (v ∷ rest) - 1 = omega arith in
    ap (λ vs. v ∷ vs) (sym (take_all (length ws + 1) rest (omega arith)) ∙ take_more rest (length ws) 0 (omega arith))
    ∙ (λ i. v ∷ (take (count i) rest ++ get_or rest (length ws) 0 ∷ []))
    ∙ ap (λ k. v ∷ (inner (v ∷ rest) ++ k ∷ [])) (ap (λ k. get_or (v ∷ rest) k 0) (sym (add-one (length ws)) ∙ place))

module _ (c : Chains) (lower_some : 2 ≤ length c.lower) (upper_some : 2 ≤ length c.upper) where
  -- how many vertices the boundary has
  pub length-boundary : length (boundary c) + 2 ≡ length c.lower + length c.upper
  length-boundary =
      omega (arith, length-append c.lower (reverse (inner c.upper)), length-reverse (inner c.upper), length-inner c.upper)

  -- the vertices of the lower chain come first,
  pub item_lower : (k : ℕ) → k < length c.lower → get_or (boundary c) k 0 ≡ get_or c.lower k 0
  item_lower k h = get_or_append_left c.lower (reverse (inner c.upper)) 0 k h

  -- then those of the upper chain, from its end
  pub item_upper : (k j : ℕ) → length c.lower ≤ k → k + j ≡ length (boundary c) → 0 < j → get_or (boundary c) k 0 ≡ get_or c.upper j 0
  item_upper k j past is some =
      let size = length-boundary in
      let count = length-inner c.upper in
      let place : ℕ = length (inner c.upper) - 1 - (k - length c.lower) in
      get_or-append_right c.lower (reverse (inner c.upper)) (length c.lower) k 0 refl past
      ∙ get_or-reverse (inner c.upper) (k - length c.lower) 0 (omega arith)
      ∙ get_or-take (length c.upper - 2) (drop 1 c.upper) place 0 (omega arith)
      ∙ get_or-drop 1 c.upper place 0
      ∙ ap (λ i. get_or c.upper i 0) (omega arith)

  -- what holds of the vertices of both chains does of those of the boundary
  pub all_boundary : (P : ℕ → Type 0) → All P c.lower → All P c.upper → All P (boundary c)
  all_boundary P low high k d h =
      let size = length-boundary in
      let is = get_or_default (boundary c) k d 0 h in
      elim (cases_lt k (length c.lower)) [
        | inl within ↦ subst P (sym (is ∙ item_lower k within)) (low k 0 within)
        | inr past ↦
            let j : ℕ = length (boundary c) - k in
            subst P (sym (is ∙ item_upper k j past (omega arith) (omega arith))) (high j 0 (omega arith))
      ]

  module _ (corners : List Point) (first : get_or c.lower 0 0 ≡ get_or c.upper 0 0)
      (last : get_or c.lower (length c.lower - 1) 0 ≡ get_or c.upper (length c.upper - 1) 0) where
    -- the ring of the boundary goes along the one and back along the other
    pub goes_round :
        let ring = piece_points corners (boundary c) in
        GoesRound ring (path_at corners c.lower) (path_at corners c.upper) (length c.lower) (length c.upper)
    goes_round =
        let ring = piece_points corners (boundary c) in
        let points = length_points corners (boundary c) in
        let size = length-boundary in
        let on_lower : (k : ℕ) → k < length c.lower → vertex ring k ≡ path_at corners c.lower k =
        λ k h. vertex_of_piece corners (boundary c) k (omega arith) ∙ ap (vertex corners) (item_lower k h) in
        record {
          size = omega arith;
          on_lower = on_lower;
          on_upper = λ k j high is. elim (cases_lt k (length c.lower)) [
            | inl within ↦
                let end : k ≡ length c.lower - 1 = omega arith in
                let also : length c.upper - 1 ≡ j = omega arith in
                on_lower k within ∙ ap (path_at corners c.lower) end ∙ ap (vertex corners) last ∙ ap (path_at corners c.upper) also
            | inr past ↦ elim (cases_lt 0 j) [
              | inl some ↦
                  vertex_of_piece corners (boundary c) k (omega arith) ∙ ap (vertex corners) (item_upper k j past (omega arith) some)
              | inr none ↦
                  let round : k ≡ length ring = omega arith in
                  let start : 0 ≡ j = omega arith in
                  ap (vertex ring) round ∙ vertex_round ring (omega arith) ∙ on_lower 0 (omega arith) ∙ ap (vertex corners) first
                  ∙ ap (path_at corners c.upper) start
            ]
          ];
        }

    -- and it is monotone where the chains rise
    pub monotone_of_chains : Rises corners c.lower → Rises corners c.upper → IsMonotone corners (boundary c)
    monotone_of_chains low high =
        let least = get_or c.lower 0 0 in
        let greatest = get_or c.lower (length c.lower - 1) 0 in
        let parts = chain_parts c.lower lower_some in
        let back = reverse (inner c.upper) in
        let also : c.upper ≡ least ∷ (reverse back ++ greatest ∷ []) =
        chain_parts c.upper upper_some
        ∙ (λ i. sym first i ∷ (sym (reverse-reverse (inner c.upper)) i ++ sym last i ∷ [])) in
        record {
          before = [];
          from_least = boundary c;
          parts = refl;
          least = least;
          lower = inner c.lower;
          greatest = greatest;
          upper = back;
          read =
              append-nil (boundary c) ∙ ap (λ path. path ++ back) parts
              ∙ ap (λ path. least ∷ path) (append_assoc (inner c.lower) (greatest ∷ []) back);
          lower_rises = subst (Rises corners) parts low;
          upper_rises = subst (Rises corners) also high;
        }

-- the step at a place of a path
step_at : (path : List ℕ) (k : ℕ) → k + 1 < length path → IsStep path (get_or path k 0) (get_or path (k + 1) 0)
step_at path k h = record { place = k; in_path = h; from = refl; to = refl }

module _ (corners : List Point) (order ranks : List ℕ) (are : AreEvents corners order ranks) (three : 3 ≤ length corners) where
  -- a path that rises by rank does so in lexicographic order
  rises_by : (path : List ℕ) → All (λ v. v < length corners) path → RisesBy ranks path → Rises corners path
  rises_by path numbers rises k h =
      ((ranks_are corners order ranks are three).order (get_or path k 0) (get_or path (k + 1) 0) (numbers k 0 (omega arith)) (numbers (k + 1) 0 h)).0
      (rises (get_or path k 0) (get_or path (k + 1) 0) (step_at path k h))

  module _ (c : Chains) (closed : IsClosedRegion corners ranks c) where
    lower_rises : Rises corners c.lower
    lower_rises = let region = closed.is_region in rises_by c.lower region.lower_numbers region.lower_rises

    upper_rises : Rises corners c.upper
    upper_rises = let region = closed.is_region in rises_by c.upper region.upper_numbers region.upper_rises

    -- its chains share the first vertex and the last one alone, and the lower one is below the other
    chains : AreChains (path_at corners c.lower) (path_at corners c.upper) (length c.lower) (length c.upper)
    chains =
        let region = closed.is_region in
        let low = region.lower_numbers in
        let high = region.upper_numbers in
        record {
          lower_some = region.lower_some;
          upper_some = region.upper_some;
          lower_rises = lower_rises;
          upper_rises = upper_rises;
          first = ap (vertex corners) region.first;
          last = ap (vertex corners) closed.last;
          differ = λ i j i_later i_in j_later j_in same.
              let u = get_or c.lower i 0 in
              let w = get_or c.upper j 0 in
              let size = are.all_ranks in
              let u_in = low i 0 (omega arith) in
              let w_in = high j 0 (omega arith) in
              let is : u ≡ w = number_is_one corners order ranks are three u w (omega (arith, size, u_in)) (omega (arith, size, w_in)) same in
              let ends = region.apart i j i_later (omega arith) j_later (omega arith) is in
              omega (arith, ends.0);
          below = λ i j i_in j_in h k.
              region.below (get_or c.lower i 0) (get_or c.lower (i + 1) 0) (get_or c.upper j 0) (get_or c.upper (j + 1) 0)
              (step_at c.lower i i_in) (step_at c.upper j j_in)
              (((ranks_are corners order ranks are three).order (get_or c.lower i 0) (get_or c.upper (j + 1) 0) (low i 0 (omega arith)) (high (j + 1) 0 j_in)).1 h)
              (((ranks_are corners order ranks are three).order (get_or c.upper j 0) (get_or c.lower (i + 1) 0) (high j 0 (omega arith)) (low (i + 1) 0 i_in)).1 k);
        }

    round : GoesRound (piece_points corners (boundary c)) (path_at corners c.lower) (path_at corners c.upper) (length c.lower) (length c.upper)
    round =
        let region = closed.is_region in
        goes_round c region.lower_some region.upper_some corners region.first closed.last

    -- at least three,
    pub boundary_long : 3 ≤ length (boundary c)
    boundary_long = omega (arith, length_points corners (boundary c), three_of_chains chains round)

    -- all vertices of the polygon
    pub boundary_numbers : All (λ v. v < length corners) (boundary c)
    boundary_numbers =
        let region = closed.is_region in
        all_boundary c region.lower_some region.upper_some (λ v. v < length corners) region.lower_numbers region.upper_numbers

    -- it is a simple ring that runs counterclockwise
    pub boundary_polygon : IsPolygonPiece corners (boundary c)
    boundary_polygon = record {
      some = boundary_long;
      simple = simple_of_chains chains round;
      counterclockwise = counterclockwise_of_chains chains round;
    }

    pub boundary_simple : IsSimple (piece_points corners (boundary c))
    boundary_simple = boundary_polygon.simple

    pub boundary_counterclockwise : IsCounterclockwise (piece_points corners (boundary c))
    boundary_counterclockwise = boundary_polygon.counterclockwise.area

    -- and monotone
    pub boundary_monotone : IsMonotone corners (boundary c)
    boundary_monotone =
        let region = closed.is_region in
        monotone_of_chains c region.lower_some region.upper_some corners region.first closed.last lower_rises upper_rises
