-- A monotone piece, read from its least vertex on along both of its chains.
-- A simple piece, read along both of its chains: its vertices by their places, and its edges.
-- The vertices of both chains, one after another by rank: the edges that run where the next one is.
use Rattle.std.proofs.Common.{◌≡◌, sym, subst, ℕ, zero, suc, ◌+◌, ◌-◌, ◌<◌, ◌≤◌, ℤ, pos, ◌+ℤ◌, ◌<ℤ◌, List, length, take, arith, inl, inr}
use Rattle.std.proofs.Common.{ap, ap₂, ◌∙◌, ◌∷◌}
use Rattle.std.proofs.lemmas.Int.{ints}
use Rattle.std.proofs.lemmas.List.{get_or-reverse}
use Rattle.std.proofs.lemmas.List.Elements.{Contains-get_or}
use Rattle.std.specs.List.{Contains}
use Rattle.std.specs.Prelude.{slice_index}
use Rattle.plane.proofs.Turns.{determinant_shift, determinant_shift_back}
use Rattle.plane.specs.Order.{IsBefore}
use Rattle.plane.specs.Point.{Point, whole}
use Rattle.plane.specs.Turn.{determinant}
use Rattle.rings.proofs.Simple.{apart_of_simple}
use Rattle.rings.proofs.Vertices.{has_edge_at, meet_reversed, vertex_round, meet_swapped}
use Rattle.rings.specs.Apart.{MeetAtEnds}
use Rattle.rings.specs.Edge.{edge, Edge, HasEdge, edges_of}
use Rattle.rings.specs.Ring.{vertex}
use Rattle.rings.specs.Winding.{IsLeastVertex}
use Rattle.ring_laws.proofs.Simple.{simple_ring_law}
use Rattle.meshes.proofs.Sides.{length_points, one_place, vertex_of_piece}
use Rattle.meshes.specs.Boundary.{IsOdd, sum_along, sum_round}
use Rattle.meshes.specs.Fits.{piece_points}
use Rattle.meshes.specs.Piece.{IsPolygonPiece}
use Rattle.mono_fill.proofs.Bends.{bend, EndInward, next_inward}
use Rattle.mono_fill.proofs.Sums.{met}
use Rattle.mono_fill.specs.Cursors.{along_chain}
use Rattle.mono_fill.specs.Monotone.{AreRanks}
use Rattle.mono_fill.specs.Sides.{other_chain_side}
use Rattle.mono_fill.specs.declared.side.Side.{Side}
use Rattle.mono_fill.specs.declared.side.Side.TheVariants.{Lower, Upper}

-- vertex k of a chain: 0 is the least one
abbrev pub at : List ℕ → Side → ℕ → ℕ
at ring side k = slice_index (along_chain side ring) k

abbrev pub point_at : List Point → List ℕ → Side → ℕ → Point
point_at corners ring side k = vertex corners (at ring side k)

abbrev pub rank_at : List ℕ → List ℕ → Side → ℕ → ℕ
rank_at ranks ring side k = slice_index ranks (at ring side k)

-- vertex x is strictly inward of the way from p over q
abbrev pub IsInward : List Point → Side → ℕ → ℕ → ℕ → Type 0
IsInward corners side p q x = pos 0 <ℤ bend side (vertex corners p) (vertex corners q) (vertex corners x)

-- the sum along a chain as far as vertex k
abbrev pub sum_up_to : (ℕ → ℕ → ℤ) → List ℕ → Side → ℕ → ℤ
sum_up_to φ ring side k = sum_along (met side φ) (take (k + 1) (along_chain side ring))

-- what holds of a monotone piece: both chains rise from one vertex to one vertex, their edges meet at ends only, and the turn between them
-- at the least vertex is inward
pub record IsOutline (corners : List Point) (ranks piece ring : List ℕ) : Type 0 where
  pub ranked : AreRanks corners ranks
  -- the number of edges of each chain
  pub edges : Side → ℕ
  pub all : edges Lower + edges Upper ≡ length ring
  pub some : (side : Side) → 0 < edges side
  pub long : (side : Side) → edges side < length (along_chain side ring)
  pub begins : at ring Lower 0 ≡ at ring Upper 0
  pub ends : at ring Lower (edges Lower) ≡ at ring Upper (edges Upper)
  pub members : (side : Side) (k : ℕ) → k ≤ edges side → Contains piece (at ring side k)
  pub numbers : (side : Side) (k : ℕ) → k ≤ edges side → at ring side k < length corners
  pub rises : (side : Side) (k : ℕ) → k < edges side → rank_at ranks ring side k < rank_at ranks ring side (k + 1)
  pub differ : (side : Side) (k l : ℕ) → 0 < k → 0 < l → k + l < length ring → ¬ (rank_at ranks ring side k ≡ rank_at ranks ring (other_chain_side side) l)
  pub apart : (side : Side) (k l : ℕ) → k < edges side → l < edges (other_chain_side side)
      → MeetAtEnds (edge (point_at corners ring side k) (point_at corners ring side (k + 1)))
      (edge (point_at corners ring (other_chain_side side) l) (point_at corners ring (other_chain_side side) (l + 1)))
  pub opens : pos 0 <ℤ bend Lower (point_at corners ring Lower 0) (point_at corners ring Lower 1) (point_at corners ring Upper 1)
  pub sums : (φ : ℕ → ℕ → ℤ) → IsOdd φ → sum_up_to φ ring Lower (edges Lower) +ℤ sum_up_to φ ring Upper (edges Upper) ≡ sum_round φ piece

module _ {corners : List Point} {ranks piece ring : List ℕ} (o : IsOutline corners ranks piece ring) where
  -- an earlier vertex of a chain has a lower rank
  pub rises_on : (side : Side) (k d : ℕ) → k + d < o.edges side → rank_at ranks ring side k < rank_at ranks ring side (k + d + 1)
  rises_on side k zero h = let e : k + 0 ≡ k = omega arith in
      subst (λ m. rank_at ranks ring side k < rank_at ranks ring side (m + 1)) (sym e) (o.rises side k (omega arith))
  rises_on side k (suc d) h =
      let a = rises_on side k d (omega arith) in
      let b = o.rises side (k + d + 1) (omega arith) in
      let e : k + d + 1 + 1 ≡ k + suc d + 1 = omega arith in
      subst (λ m. rank_at ranks ring side k < rank_at ranks ring side m) e (omega arith)

  -- and the others one that is lower than that of the greatest
  pub below_greatest : (side : Side) (k : ℕ) → k < o.edges side → rank_at ranks ring side k < rank_at ranks ring side (o.edges side)
  below_greatest side k h =
      let e : k + (o.edges side - k - 1) + 1 ≡ o.edges side = omega arith in
      subst (λ m. rank_at ranks ring side k < rank_at ranks ring side m) e (rises_on side k (o.edges side - k - 1) (omega arith))

  -- ranks tell the order of points
  pub before : (i j : ℕ) → i < length corners → j < length corners → slice_index ranks i < slice_index ranks j
      → IsBefore (vertex corners i) (vertex corners j)
  before i j hi hj h = (o.ranked.order i j hi hj).0 h

module _ (s : ℕ) (rest : List ℕ) where
  abbrev ring : List ℕ
  ring = s ∷ rest

  -- vertex l of the upper chain, counted from the least one, is the last but l - 1
  pub upper_at : (l : ℕ) → 0 < l → l < length ring → at ring Upper l ≡ slice_index ring (length ring - l)
  upper_at zero some h = absurd (omega arith)
  upper_at (suc j) some h =
      let k = length rest - 1 - j in
      let e : suc k ≡ length ring - suc j = omega arith in
      get_or-reverse rest j 0 (omega arith) ∙ ap (slice_index ring) e

  -- each is a vertex of the piece
  pub contains_at : (side : Side) (k : ℕ) → k < length ring → Contains ring (at ring side k)
  contains_at Lower k h = Contains-get_or ring k 0 h
  contains_at Upper zero h = Contains-get_or ring 0 0 h
  contains_at Upper (suc j) h =
      subst (Contains ring) (sym (upper_at (suc j) (omega arith) h)) (Contains-get_or ring (length ring - suc j) 0 (omega arith))

  module _ (corners : List Point) (polygon : IsPolygonPiece corners ring) where
    abbrev points : List Point
    points = piece_points corners ring

    long : length points ≡ length ring
    long = length_points corners ring

    point_is : (k : ℕ) → k < length ring → vertex points k ≡ vertex corners (slice_index ring k)
    point_is k h = vertex_of_piece corners ring k h

    -- the point before one of the upper chain
    upper_is : (l : ℕ) → l < length ring → vertex points (length ring - l) ≡ point_at corners ring Upper l
    upper_is zero h =
        let e : length ring - 0 ≡ length points = omega (arith, long) in
        ap (vertex points) e ∙ vertex_round points (omega (arith, long)) ∙ point_is 0 h
    upper_is (suc l) h = point_is (length ring - suc l) (omega arith) ∙ ap (vertex corners) (sym (upper_at (suc l) (omega arith) h))

    -- ---- its edges

    lower_edge : (k : ℕ) → k + 1 < length ring → HasEdge (edges_of points)
        (edge (point_at corners ring Lower k) (point_at corners ring Lower (k + 1)))
    lower_edge k h =
        subst (HasEdge (edges_of points)) (ap₂ edge (point_is k (omega arith)) (point_is (k + 1) h)) (has_edge_at points k (omega (arith, long)))

    upper_edge : (l : ℕ) → l + 1 < length ring → HasEdge (edges_of points)
        (edge (point_at corners ring Upper (l + 1)) (point_at corners ring Upper l))
    upper_edge l h =
        let i = length ring - (l + 1) in
        let e : i + 1 ≡ length ring - l = omega arith in
        subst (HasEdge (edges_of points)) (ap₂ edge (upper_is (l + 1) h) (ap (vertex points) e ∙ upper_is l (omega arith)))
        (has_edge_at points i (omega (arith, long)))

    -- edges of both chains meet at ends only, where they are not one edge in two directions
    pub edges_meet : (k l : ℕ) → k + 1 < length ring → l + 1 < length ring
        → ¬ ((point_at corners ring Lower k ≡ point_at corners ring Upper (l + 1)) ×
        (point_at corners ring Lower (k + 1) ≡ point_at corners ring Upper l))
        → MeetAtEnds (edge (point_at corners ring Lower k) (point_at corners ring Lower (k + 1)))
        (edge (point_at corners ring Upper l) (point_at corners ring Upper (l + 1)))
    edges_meet k l hk hl two = elim ((apart_of_simple points polygon.simple).apart _ _ (lower_edge k hk) (upper_edge l hl)) [
      | inl e ↦ absurd (two (ap (λ (d : Edge). d.from) e, ap (λ (d : Edge). d.to) e))
      | inr meet ↦ meet_reversed _ _ meet
    ]

    -- vertices of both chains differ
    pub vertices_differ : (k l : ℕ) → 0 < l → k + l < length ring → ¬ (point_at corners ring Lower k ≡ point_at corners ring Upper l)
    vertices_differ k l some h e =
        let same = e ∙ ap (vertex corners) (upper_at l some (omega arith)) in
        let one = one_place corners ring polygon.simple k (length ring - l) (omega arith) (omega arith) same in
        omega arith

    -- the turn at the least vertex is inward
    pub first_inward : ((k : ℕ) → k < length ring → ¬ IsBefore (vertex corners (slice_index ring k)) (vertex corners s))
        → pos 0 <ℤ bend Lower (point_at corners ring Lower 0) (point_at corners ring Lower 1) (point_at corners ring Upper 1)
    first_inward least =
        let before_or = λ (j : ℕ) (h : j < length ring) (p : Point) (e : p ≡ vertex corners (slice_index ring j)) (q : Point)
        (f : q ≡ vertex corners s) (b : IsBefore p q).
        least j h (subst (λ u. IsBefore u (vertex corners s)) e (subst (IsBefore p) f b)) in
        let none : IsLeastVertex points 0 = λ j h b.
        before_or j (omega (arith, long)) (vertex points j) (point_is j (omega (arith, long))) (vertex points 0) (point_is 0 (omega arith)) b in
        elim (simple_ring_law points (omega (arith, long, polygon.some)) polygon.simple 0 (omega (arith, long, polygon.some)) none) [
          | inl h ↦
              let last : 0 + (length points - 1) ≡ length ring - 1 = omega (arith, long) in
              let u = ap (vertex points) last ∙ upper_is 1 (omega (arith, polygon.some)) in
              let v = point_is 0 (omega arith) in
              let w = point_is 1 (omega (arith, polygon.some)) in
              subst (λ z. pos 0 <ℤ z)
              (ap (λ (p : Point). determinant (whole p) (whole (vertex points 0)) (whole (vertex points 1))) u
              ∙ ap (λ (p : Point). determinant (whole (point_at corners ring Upper 1)) (whole p) (whole (vertex points 1))) v
              ∙ ap (λ (p : Point). determinant (whole (point_at corners ring Upper 1)) (whole (vertex corners s)) (whole p)) w
              ∙ sym (determinant_shift (whole (point_at corners ring Upper 1)) (whole (vertex corners s))
              (whole (point_at corners ring Lower 1)))) h.0
          | inr h ↦ let a = h.1.area in let b = polygon.counterclockwise.area in absurd (omega (arith, ints))
        ]

-- so many edges of each chain are passed; the next ones run at one place
pub record IsMerge {corners : List Point} {ranks piece ring : List ℕ} (o : IsOutline corners ranks piece ring) (side facing : Side)
    (own other : ℕ) : Type 0 where
  pub own_inside : own < o.edges side
  pub other_inside : other < o.edges facing
  pub own_first : rank_at ranks ring side own < rank_at ranks ring facing (other + 1)
  pub other_first : rank_at ranks ring facing other < rank_at ranks ring side (own + 1)
  pub inward : EndInward side facing (point_at corners ring side own) (point_at corners ring side (own + 1))
      (point_at corners ring facing other) (point_at corners ring facing (other + 1))

module _ {corners : List Point} {ranks piece ring : List ℕ} (o : IsOutline corners ranks piece ring) where
  -- at first none is passed
  pub merge_begins : IsMerge o Lower Upper 0 0
  merge_begins =
      let v = λ (s : Side) (k : ℕ). point_at corners ring s k in
      let same = o.begins in
      record {
        own_inside = o.some Lower;
        other_inside = o.some Upper;
        own_first = subst (λ i. slice_index ranks i < rank_at ranks ring Upper 1) (sym same) (o.rises Upper 0 (o.some Upper));
        other_first = subst (λ i. slice_index ranks i < rank_at ranks ring Lower 1) same (o.rises Lower 0 (o.some Lower));
        inward = record {
          own = λ h. subst (λ i. pos 0 <ℤ bend Lower (vertex corners i) (v Lower 1) (v Upper 1)) same o.opens;
          other = λ h. subst (λ z. pos 0 <ℤ z) (sym (determinant_shift_back (whole (v Lower 0)) (whole (v Lower 1)) (whole (v Upper 1)))) o.opens;
        };
      }

  -- the chains may change places
  pub merge_swapped : (side facing : Side) (own other : ℕ) → IsMerge o side facing own other → IsMerge o facing side other own
  merge_swapped side facing own other m = record {
    own_inside = m.other_inside;
    other_inside = m.own_inside;
    own_first = m.other_first;
    other_first = m.own_first;
    inward = record { own = m.inward.other; other = m.inward.own };
  }

  -- both chains end at one vertex
  pub ends_of : (side : Side) → at ring side (o.edges side) ≡ at ring (other_chain_side side) (o.edges (other_chain_side side))
  ends_of Lower = o.ends
  ends_of Upper = sym o.ends

  pub all_of : (side : Side) → o.edges side + o.edges (other_chain_side side) ≡ length ring
  all_of Lower = o.all
  all_of Upper = let h = o.all in omega arith

  -- the next vertex is on this chain
  module _ (side : Side) (own other : ℕ) (m : IsMerge o side (other_chain_side side) own other) (more : own + other + 2 < length ring)
      (next : rank_at ranks ring side (own + 1) ≤ rank_at ranks ring (other_chain_side side) (other + 1)) where
    pub strictly_next : rank_at ranks ring side (own + 1) < rank_at ranks ring (other_chain_side side) (other + 1)
    strictly_next = let d = o.differ side (own + 1) (other + 1) (omega arith) (omega arith) (omega arith) in grind (arith, d)

    -- it is not the greatest
    still_inside : own + 1 < o.edges side
    still_inside = grind (
      arith,
      m.own_inside,
      all_of side,
      ap (λ i. slice_index ranks i) (ends_of side),
      below_greatest o (other_chain_side side) (other + 1),
      strictly_next,
      next,
    )

    -- and when it is passed, too, the next edges run at one place
    pub merge_goes_on : IsMerge o side (other_chain_side side) (own + 1) other
    merge_goes_on =
        let b = at ring side (own + 1) in
        let b' = at ring side (own + 1 + 1) in
        let c = at ring (other_chain_side side) other in
        let d = at ring (other_chain_side side) (other + 1) in
        let hb = o.numbers side (own + 1) (omega (arith, still_inside)) in
        let hb' = o.numbers side (own + 1 + 1) (omega (arith, still_inside)) in
        let hc = o.numbers (other_chain_side side) other (omega (arith, m.other_inside)) in
        let hd = o.numbers (other_chain_side side) (other + 1) (omega (arith, m.other_inside)) in
        let on = o.rises side (own + 1) still_inside in
        let bd = before o b d hb hd strictly_next in
        record {
          own_inside = still_inside;
          other_inside = m.other_inside;
          own_first = strictly_next;
          other_first = omega (arith, m.other_first, on);
          inward =
              next_inward (vertex corners c) (vertex corners d) (vertex corners b) (vertex corners b')
              (before o c d hc hd (o.rises (other_chain_side side) other m.other_inside)) (before o c b hc hb m.other_first) bd (before o b b' hb hb' on)
              (meet_swapped _ _ (o.apart side (own + 1) other still_inside m.other_inside)) side (m.inward.own bd);
        }
