-- An edge of the ring that runs from before an event to it or on.
-- Where the vertex of an event is to two edges that the sweep line meets, one below the other.
use Rattle.std.proofs.Common.{◌≡◌, ◌⊎◌, inl, inr, refl, sym, subst, ap, ℕ, ◌<◌, ◌≤◌, List, length, arith, ◌∙◌, pos}
use Rattle.std.proofs.lemmas.Bool.{cases_lt}
use Rattle.std.specs.Prelude.{slice_index}
use Rattle.integer_algebra.proofs.SignSteps.{at_most_unless, negative_not_zero, positive_not_negative, positive_not_zero}
use Rattle.integer_algebra.proofs.Signs.{is_negative, is_positive, is_zero, sign}
use Rattle.plane.proofs.Order.{not_after_of_same}
use Rattle.plane.proofs.Points.{whole_is_point, same_refl, same_whole}
use Rattle.plane.proofs.Segments.{on_from_order, on_reversed}
use Rattle.plane.proofs.Turns.{determinant_same_last}
use Rattle.plane.specs.Point.{Point, Triple, whole}
use Rattle.plane.specs.Turn.{IsStraight}
use Rattle.rings.proofs.Simple.{apart_of_simple}
use Rattle.rings.proofs.Sweeps.{edge_is, ends_below, Spans, side as side_of, stays_below}
use Rattle.rings.proofs.Vertices.{edge_at, has_edge_at, meet_reversed, meet_swapped, reversed}
use Rattle.rings.specs.Apart.{MeetAtEnds}
use Rattle.rings.specs.Below.{IsBelow}
use Rattle.rings.specs.Edge.{Edge, HasEnd, IsOn}
use Rattle.rings.specs.Events.{AreEvents, edge_upward}
use Rattle.rings.specs.Ring.{vertex}
use Rattle.rings.specs.Simple.{IsSimple}
use Rattle.ring_laws.proofs.Triangles.{end_of_other}
use Rattle.mono_fill.specs.declared.side.Side.{Side}
use Rattle.mono_fill.specs.declared.side.Side.TheVariants.{Lower, Upper}
use Rattle.sweep_tri.proofs.RankOrder.{not_after_by_rank, number_is_one, precedes_by_rank}
use Rattle.sweep_tri.proofs.Regions.{IsShort}
use Rattle.sweep_tri.specs.Frontier.{IsMet, upward, IsAbove, IsUnder}
use Rattle.sweep_tri.specs.Gaps.{Front, front_edge}

-- the front is an edge of the ring that runs from before event k to it or on
abbrev pub IsFront : List ℕ → ℕ → Front → Type 0
IsFront ranks k f = (e : ℕ) × IsMet ranks k e × (f ≡ upward ranks e)

-- so are its ends
pub record HasEndsAbout (ranks : List ℕ) (k : ℕ) (f : Front) : Type 0 where
  pub from_below : f.from < length ranks
  pub to_below : f.to < length ranks
  pub begun : slice_index ranks f.from < k
  pub to_come : k ≤ slice_index ranks f.to

-- ---- an edge read backward, or not

-- a point of the edge read so is on it,
on_either : (d e : Edge) (x : Triple) → (d ≡ e) ⊎ (d ≡ reversed e) → IsOn d x → IsOn e x
on_either d e x (inl is) on = subst (λ (c : Edge). IsOn c x) is on
on_either d e x (inr is) on = on_reversed x (whole e.to) (whole e.from) (subst (λ (c : Edge). IsOn c x) is on)

-- its ends are ends of the edge read so,
end_either : (d e : Edge) (p : Point) → (d ≡ e) ⊎ (d ≡ reversed e) → HasEnd e p → HasEnd d p
end_either d e p (inl is) end = subst (λ (c : Edge). HasEnd c p) (sym is) end
end_either d e p (inr is) end = subst (λ (c : Edge). HasEnd c p) (sym is) (elim end [ inl h ↦ inr h | inr h ↦ inl h ])

-- and where it meets another at ends, so does that
meet_either : (c d e : Edge) → (d ≡ e) ⊎ (d ≡ reversed e) → MeetAtEnds c e → MeetAtEnds c d
meet_either c d e (inl is) meet = subst (MeetAtEnds c) (sym is) meet
meet_either c d e (inr is) meet = subst (MeetAtEnds c) (sym is) (meet_reversed c e meet)

module _ (corners : List Point) (order ranks : List ℕ) (are : AreEvents corners order ranks) (three : 3 ≤ length corners) where
  pub ends_about : (k : ℕ) (f : Front) → IsFront ranks k f → HasEndsAbout ranks k f
  ends_about k f (e, met, is) =
      let below = ends_below corners order ranks are three e met.is_edge in
      subst (HasEndsAbout ranks k) (sym is)
      (record { from_below = below.0; to_below = below.1; begun = met.begun; to_come = met.to_come })

  module _ (simple : IsSimple corners) where
    -- edges of the ring, read upward, meet at ends, or both begin at one vertex
    pub fronts_apart : (d e : ℕ) → d < length ranks → e < length ranks → ¬ (d ≡ e)
        → MeetAtEnds (edge_upward corners ranks d) (edge_upward corners ranks e)
    fronts_apart d e hd he other =
        let size = are.all_ranks in
        let apart = apart_of_simple corners simple in
        elim (apart.apart (edge_at corners d) (edge_at corners e)
        (has_edge_at corners d (omega (arith, size, hd))) (has_edge_at corners e (omega (arith, size, he)))) [
          | inl same ↦ absurd (other (number_is_one corners order ranks are three d e hd he (ap (λ (c : Edge). c.from) same)))
          | inr meet ↦
              meet_either (edge_upward corners ranks d) (edge_upward corners ranks e) (edge_at corners e) (edge_is corners order ranks are three e he)
              (meet_swapped (edge_at corners e) (edge_upward corners ranks d)
              (meet_either (edge_at corners e) (edge_upward corners ranks d) (edge_at corners d) (edge_is corners order ranks are three d hd)
              (meet_swapped (edge_at corners d) (edge_at corners e) meet)))
        ]

    -- a vertex on the line of a front, and not before the event, is its last end
    pub ends_on_line : (k : ℕ) (f : Front) → IsFront ranks k f → (v : ℕ) → v < length ranks → slice_index ranks v ≡ k
        → (let e = front_edge corners f in IsStraight (whole e.from) (whole e.to) (whole (vertex corners v))) → f.to ≡ v
    ends_on_line k f (e, met, is) v hv rank_v straight =
        let size = are.all_ranks in
        let ends = ends_about k f (e, met, is) in
        let begun = ends.begun in
        let to_come = ends.to_come in
        let p = vertex corners v in
        let on_f : IsOn (front_edge corners f) (whole p) =
        on_from_order (whole p) (whole (vertex corners f.from)) (whole (vertex corners f.to)) straight (whole_is_point p)
        (whole_is_point (vertex corners f.from)) (whole_is_point (vertex corners f.to))
        (not_after_by_rank corners order ranks are three f.from v ends.from_below hv (omega (arith, begun, rank_v)))
        (not_after_by_rank corners order ranks are three v f.to hv ends.to_below (omega (arith, to_come, rank_v))) in
        let is_up = edge_is corners order ranks are three e met.is_edge in
        let on : IsOn (edge_at corners e) (whole p) =
        on_either (edge_upward corners ranks e) (edge_at corners e) (whole p) is_up
        (subst (λ (g : Front). IsOn (front_edge corners g) (whole p)) is on_f) in
        let end : HasEnd (edge_upward corners ranks e) p =
        end_either (edge_upward corners ranks e) (edge_at corners e) p is_up
        (end_of_other _ (apart_of_simple corners simple).apart (edge_at corners v) (edge_at corners e)
        (has_edge_at corners v (omega (arith, size, hv))) (has_edge_at corners e (omega (arith, size, met.is_edge))) p (inl refl) on) in
        elim (subst (λ (g : Front). HasEnd (front_edge corners g) p) (sym is) end) [
          | inl h ↦
              let same = number_is_one corners order ranks are three f.from v ends.from_below hv h in
              absurd (omega (arith, begun, rank_v, ap (slice_index ranks) same))
          | inr h ↦ number_is_one corners order ranks are three f.to v ends.to_below hv h
        ]

-- it is above the edge, at its last end, or under it
pub data Place (corners : List Point) (f : Front) (v : ℕ) : Type 0 where
  above : IsAbove corners f v → Place corners f v
  at_end : f.to ≡ v → Place corners f v
  under : IsUnder corners f v → Place corners f v

-- the last end of an edge is on its line,
end_on_line : (corners : List Point) (f : Front) (v : ℕ) → f.to ≡ v → side_of (front_edge corners f) (whole (vertex corners v)) ≡ pos 0
end_on_line corners f v is =
    subst (λ w. side_of (front_edge corners f) (whole (vertex corners w)) ≡ pos 0) is
    (determinant_same_last (whole (vertex corners f.from)) (whole (vertex corners f.to)))

-- so it is in one place at most
pub above_no_end : (corners : List Point) (f : Front) (v : ℕ) → IsAbove corners f v → ¬ (f.to ≡ v)
above_no_end corners f v h is = positive_not_zero h (end_on_line corners f v is)

pub under_no_end : (corners : List Point) (f : Front) (v : ℕ) → IsUnder corners f v → ¬ (f.to ≡ v)
under_no_end corners f v h is = negative_not_zero h (end_on_line corners f v is)

pub short_no_end : (corners : List Point) (side : Side) (f : Front) (v : ℕ) → IsShort side (front_edge corners f) (vertex corners v) → ¬ (f.to ≡ v)
short_no_end corners Lower f v h = under_no_end corners f v h
short_no_end corners Upper f v h = above_no_end corners f v h

pub above_not_under : (corners : List Point) (f : Front) (v : ℕ) → IsAbove corners f v → ¬ IsUnder corners f v
above_not_under corners f v h k = positive_not_negative h k

module _ (corners : List Point) (order ranks : List ℕ) (are : AreEvents corners order ranks) (three : 3 ≤ length corners) (simple : IsSimple corners)
    (k v : ℕ) (hv : v < length ranks) (rank_v : slice_index ranks v ≡ k) where
  -- and in one of them
  pub place_of : (f : Front) → IsFront ranks k f → Place corners f v
  place_of f front = elim (sign (side_of (front_edge corners f) (whole (vertex corners v)))) [
    | is_negative h ↦ under h
    | is_zero h ↦ at_end (ends_on_line corners order ranks are three simple k f front v hv rank_v h)
    | is_positive h ↦ above h
  ]

  module _ (f g : Front) (front_f : IsFront ranks k f) (front_g : IsFront ranks k g)
      (below : IsBelow (front_edge corners f) (front_edge corners g)) where
    ends_f : HasEndsAbout ranks k f
    ends_f = ends_about corners order ranks are three k f front_f

    ends_g : HasEndsAbout ranks k g
    ends_g = ends_about corners order ranks are three k g front_g

    -- a vertex before v at which both have begun
    both_begun : (u : ℕ) × (u < length ranks) × (slice_index ranks f.from ≤ slice_index ranks u) × (slice_index ranks g.from ≤ slice_index ranks u)
        × (slice_index ranks u < k)
    both_begun = elim (cases_lt (slice_index ranks f.from) (slice_index ranks g.from)) [
      | inl h ↦ (g.from, ends_g.from_below, omega (arith, h), omega arith, ends_g.begun)
      | inr h ↦ (f.from, ends_f.from_below, omega arith, h, ends_f.begun)
    ]

    -- both run from there to v
    spans : (e : Front) → HasEndsAbout ranks k e → (u : ℕ) → u < length ranks → slice_index ranks e.from ≤ slice_index ranks u
        → Spans (whole (vertex corners u)) (whole (vertex corners v)) (front_edge corners e)
    spans e ends u hu late =
        let begun = ends.begun in
        let to_come = ends.to_come in
        record {
          proper = precedes_by_rank corners order ranks are three e.from e.to ends.from_below ends.to_below (omega (arith, begun, to_come));
          from_before = not_after_by_rank corners order ranks are three e.from u ends.from_below hu late;
          to_after = not_after_by_rank corners order ranks are three v e.to hv ends.to_below (omega (arith, to_come, rank_v));
        }

    -- an end of a front at v is its last one
    end_at : (e : Front) → HasEndsAbout ranks k e → (p : Point) → HasEnd (front_edge corners e) p → vertex corners v ≡ p → e.to ≡ v
    end_at e ends p (inl h) is =
        let begun = ends.begun in
        let same = number_is_one corners order ranks are three e.from v ends.from_below hv (h ∙ sym is) in
        absurd (omega (arith, begun, rank_v, ap (slice_index ranks) same))
    end_at e ends p (inr h) is = number_is_one corners order ranks are three e.to v ends.to_below hv (h ∙ sym is)

    -- where v is not above the lower edge, it is under the upper one, or both end at it
    pub under_upper : ¬ IsAbove corners f v → IsUnder corners g v ⊎ ((f.to ≡ v) × (g.to ≡ v))
    under_upper not =
        let (u, hu, late_f, late_g, before) = both_begun in
        let p = vertex corners v in
        let q = vertex corners u in
        elim (stays_below (front_edge corners f) (front_edge corners g) (whole p) (whole q) (whole p)
        (whole_is_point p) (whole_is_point q) (whole_is_point p)
        (precedes_by_rank corners order ranks are three u v hu hv (omega (arith, before, rank_v)))
        (not_after_by_rank corners order ranks are three u v hu hv (omega (arith, before, rank_v)))
        (not_after_of_same (whole p) (whole p) (same_refl (whole p)))
        (spans f ends_f u hu late_f) (spans g ends_g u hu late_g) below (at_most_unless not)) [
          | inl h ↦ inl h
          | inr c ↦
              let is = same_whole p c.end c.same in
              inr (end_at f ends_f c.end c.of_first is, end_at g ends_g c.end c.of_second is)
        ]

    -- where it is above the upper one, it is above the lower one too
    pub above_lower : IsAbove corners g v → IsAbove corners f v
    above_lower h = elim (place_of f front_f) [
      | above k ↦ k
      | at_end is ↦ absurd (not_above (λ k. above_no_end corners f v k is))
      | under k ↦ absurd (not_above (λ l. above_not_under corners f v l k))
    ]
      where
        not_above : ¬ (¬ IsAbove corners f v)
        not_above not = elim (under_upper not) [ inl k ↦ above_not_under corners g v h k | inr k ↦ above_no_end corners g v h k.1 ]
