-- Lists of edges that wind up to once, of which one is made of two others: all three wind the same way, and nowhere twice.
-- The cut law: a point is in a ring exactly if it is in a piece, and in both pieces only on the diagonal.
use Rattle.std.proofs.Common.{◌≡◌, inl, inr, sym, subst, ap, ◌∙◌, ◌<◌, ℤ, pos, ◌+ℤ◌, List, ◌∷◌, ◌++◌, length, ◌⊎◌, [], arith}
use Rattle.std.proofs.lemmas.Int.{ints}
use Rattle.std.proofs.lemmas.List.{length-append}
use Rattle.plane.proofs.Points.{same_sym, whole_is_point}
use Rattle.plane.proofs.Segments.{on_last_end, left_not_on, right_not_on, on_first_end, on_reversed, on_same_point}
use Rattle.plane.specs.Prelude.{IsPoint, IsSame, On, Point, Triple, whole}
use Rattle.rings.proofs.Crossings.{winding_law, winding_law_crossed}
use Rattle.rings.proofs.Inside.{on_some_or_not}
use Rattle.rings.proofs.Simple.{proper_edges}
use Rattle.rings.proofs.Vertices.{closed_edges_of, on_some_cases, on_some_left, on_some_right, on_none_with, edge_with, on_some_of}
use Rattle.rings.specs.Across.{Misses}
use Rattle.rings.specs.Apart.{IsApartRing}
use Rattle.rings.specs.Prelude.{Edge, edge, edges_along, edges_of, HasEdge, IsClosed, IsIn, IsOn, IsOnSome, winding}
use Rattle.rings.specs.Winding.{WindsUpTo}
use Rattle.ring_laws.proofs.Cuts.CutDirection.{wind_together}
use Rattle.ring_laws.proofs.Diagonals.{in_if_wound, wound}
use Rattle.ring_laws.proofs.Ears.{IsUnit, no_units, not_twice, one_is, sum_is}
use Rattle.ring_laws.proofs.Pieces.{edges_of_first, has_edge_of_first, on_some_cut, winding_cut, has_edge_back, has_edge_there, meet_at_cut}
use Rattle.ring_laws.proofs.Pieces.{off_first, off_second, on_back}
use Rattle.ring_laws.proofs.Triangles.{BesideEdge, beside_edge, InsideNear, inside_near, off_others, other_edges}
use Rattle.ring_laws.specs.Diagonal.{IsDiagonal}

-- ---- a list that is made of two

-- the edges es wind as xs and ys together, and up to s as ys do; a point off es and xs is off ys
module _ (s : ℤ) (unit : IsUnit s) (es xs ys : List Edge) (sum : (x : Triple) → winding es x ≡ winding xs x +ℤ winding ys x)
    (closed_es : IsClosed es) (closed_xs : IsClosed xs) (winds_es : WindsUpTo s es) (winds_ys : WindsUpTo s ys)
    (off_ys : (x : Triple) → ¬ IsOnSome es x → ¬ IsOnSome xs x → ¬ IsOnSome ys x) where
  -- a point strictly inside one of the edges es, and on no other, is not wound round by xs
  inside_not_wound : (before after : List Edge) (e : Edge) → es ≡ before ++ e ∷ after → ¬ (e.from ≡ e.to) → (x : Triple) → IsPoint x → IsOn e x
      → ¬ IsSame x (whole e.from) → ¬ IsSame x (whole e.to) → ¬ IsOnSome (before ++ after) x → ¬ IsOnSome xs x → ¬ (winding xs x ≡ s)
  inside_not_wound before after e are proper x at on not_from not_to off off_xs once =
      no_units s (winding es h.left) (winding es h.right) (winding ys h.left) (winding ys h.right) unit
      (sum h.left ∙ ap (λ n. n +ℤ winding ys h.left) (sym (winding_law x h.left at h.left_rational xs closed_xs (misses_xs h.left h.misses_left)) ∙ once))
      (sum h.right ∙ ap (λ n. n +ℤ winding ys h.right) (sym (winding_law x h.right at h.right_rational xs closed_xs (misses_xs h.right h.misses_right)) ∙ once))
      (subst (λ fs. winding fs h.left ≡ winding fs h.right +ℤ pos 1) (sym are)
      (winding_law_crossed h.left h.right h.left_rational h.right_rational before after e (subst IsClosed are closed_es)
      (λ z at_z way k. h.misses z at_z way (among_first z (on_some_left z before after k)))
      (λ z at_z way k. h.misses z at_z way (among_first z (on_some_right z before after k))) h.crosses))
      (winds_es h.left h.left_rational left_off) (winds_es h.right h.right_rational right_off)
      (winds_ys h.left h.left_rational (off_ys h.left left_off (λ k. h.misses_left h.left h.left_rational (on_last_end x h.left) (among_last h.left k))))
      (winds_ys h.right h.right_rational (off_ys h.right right_off (λ k. h.misses_right h.right h.right_rational (on_last_end x h.right) (among_last h.right k))))
    where
      among_first : (z : Triple) → IsOnSome (before ++ after) z → IsOnSome ((before ++ after) ++ xs) z
      among_first z = on_some_left z (before ++ after) xs

      among_last : (z : Triple) → IsOnSome xs z → IsOnSome ((before ++ after) ++ xs) z
      among_last z = on_some_right z (before ++ after) xs

      h : BesideEdge e x ((before ++ after) ++ xs)
      h = beside_edge e proper x at on not_from not_to ((before ++ after) ++ xs)
          (λ k. elim (on_some_cases x (before ++ after) xs k) [ inl l ↦ off l | inr l ↦ off_xs l ])

      misses_xs : (q : Triple) → Misses x q ((before ++ after) ++ xs) → Misses x q xs
      misses_xs q misses z at_z way k = misses z at_z way (among_last z k)

      left_off : ¬ IsOnSome es h.left
      left_off = subst (λ fs. ¬ IsOnSome fs h.left) (sym are) (on_none_with h.left before e after
          (left_not_on e.from e.to h.left h.left_rational h.crosses.starts_left)
          (λ k. h.misses_left h.left h.left_rational (on_last_end x h.left) (among_first h.left k)))

      right_off : ¬ IsOnSome es h.right
      right_off = subst (λ fs. ¬ IsOnSome fs h.right) (sym are) (on_none_with h.right before e after
          (right_not_on e.from e.to h.right h.right_rational h.crosses.ends_right)
          (λ k. h.misses_right h.right h.right_rational (on_last_end x h.right) (among_first h.right k)))

module _ (ring : List Point) (apart : IsApartRing ring) (some : 1 < length ring) (s : ℤ) (unit : IsUnit s) (xs ys : List Edge)
    (sum : (x : Triple) → winding (edges_of ring) x ≡ winding xs x +ℤ winding ys x) (closed_xs : IsClosed xs)
    (winds_ring : WindsUpTo s (edges_of ring)) (winds_ys : WindsUpTo s ys)
    (off_ys : (x : Triple) → ¬ IsOnSome (edges_of ring) x → ¬ IsOnSome xs x → ¬ IsOnSome ys x) where
  -- so it is with the edges of a ring, at each point of an edge
  pub on_edge_not_wound : (e : Edge) → HasEdge (edges_of ring) e → (x : Triple) → IsPoint x → IsOn e x → ¬ IsOnSome xs x → ¬ (winding xs x ≡ s)
  on_edge_not_wound e has x at on off once =
      let rest = other_edges ring apart e has in
      let proper = proper_edges ring apart some e has in
      let near : InsideNear (whole e.from) (whole e.to) x xs = inside_near e x xs proper at on off in
      inside_not_wound s unit (edges_of ring) xs ys sum (closed_edges_of ring) closed_xs winds_ring winds_ys off_ys rest.before rest.after e rest.are
      proper near.point near.rational near.on near.not_first near.not_last
      (off_others ring apart e has near.point near.rational near.on near.not_first near.not_last)
      (near.misses near.point near.rational (on_last_end x near.point))
      (sym (winding_law x near.point at near.rational xs closed_xs near.misses) ∙ once)

module _ (v : Point) (ps : List Point) (z : Point) (qs : List Point) (apart : IsApartRing (v ∷ (ps ++ z ∷ qs)))
    (diagonal : IsDiagonal (v ∷ (ps ++ z ∷ qs)) v z) where
  -- its length is enough
  enough : 1 < length (v ∷ (ps ++ z ∷ qs))
  enough = omega (arith, length-append ps (z ∷ qs))

  -- a point on neither piece is off the ring
  off_ring : (x : Triple) → ¬ IsOnSome (edges_of (v ∷ (ps ++ z ∷ []))) x → ¬ IsOnSome (edges_of (v ∷ z ∷ qs)) x
      → ¬ IsOnSome (edges_of (v ∷ (ps ++ z ∷ qs))) x
  off_ring x off_p off_q on = elim (on_some_cut v ps z qs x on) [ inl k ↦ off_p k | inr k ↦ off_q k ]

  module _ (x : Triple) (at : IsPoint x) where
    -- a point of the ring is in a piece,
    pub in_piece : IsIn (v ∷ (ps ++ z ∷ qs)) x → IsIn (v ∷ (ps ++ z ∷ [])) x ⊎ IsIn (v ∷ z ∷ qs) x
    in_piece h = go (on_some_or_not (edges_of (v ∷ (ps ++ z ∷ []))) x at) (on_some_or_not (edges_of (v ∷ z ∷ qs)) x at)
      where
        go : IsOnSome (edges_of (v ∷ (ps ++ z ∷ []))) x ⊎ (¬ IsOnSome (edges_of (v ∷ (ps ++ z ∷ []))) x)
            → IsOnSome (edges_of (v ∷ z ∷ qs)) x ⊎ (¬ IsOnSome (edges_of (v ∷ z ∷ qs)) x)
            → IsIn (v ∷ (ps ++ z ∷ [])) x ⊎ IsIn (v ∷ z ∷ qs) x
        go (inl on) k = inl (inl on)
        go (inr off_p) (inl on) = inr (inl on)
        go (inr off_p) (inr off_q) =
            let w = wind_together v ps z qs apart diagonal in
            let once = wound w.s (v ∷ (ps ++ z ∷ qs)) w.whole_winds x at (off_ring x off_p off_q) h in
            elim (one_is w.s _ _ _ (winding_cut v ps z qs x) once (w.first_winds x at off_p)) [
              | inl k ↦ inl (in_if_wound w.s w.unit (v ∷ (ps ++ z ∷ [])) x k)
              | inr k ↦ inr (in_if_wound w.s w.unit (v ∷ z ∷ qs) x k)
            ]

    -- a point on an edge of the first piece is in the ring,
    on_first_in : IsOnSome (edges_of (v ∷ (ps ++ z ∷ []))) x → IsIn (v ∷ (ps ++ z ∷ qs)) x
    on_first_in on =
        let (e, has, on_e) = edge_with x (edges_of (v ∷ (ps ++ z ∷ []))) on in
        elim (has_edge_of_first v ps z qs e has) [
          | inl k ↦ inl (on_some_of x e (edges_of (v ∷ (ps ++ z ∷ qs))) k on_e)
          | inr is ↦ diagonal.inside x at (on_reversed x (whole z) (whole v) (subst (λ (d : Edge). IsOn d x) (sym is) on_e))
        ]

    -- and so is one on an edge of the second
    on_second_in : IsOnSome (edges_of (v ∷ z ∷ qs)) x → IsIn (v ∷ (ps ++ z ∷ qs)) x
    on_second_in (inl on) = diagonal.inside x at on
    on_second_in (inr on) = inl (on_back v ps z qs apart x on)

    -- off the edges of the pieces, a point in the first is in the ring,
    off_first_in : ¬ IsOnSome (edges_of (v ∷ (ps ++ z ∷ []))) x → ¬ IsOnSome (edges_of (v ∷ z ∷ qs)) x → IsIn (v ∷ (ps ++ z ∷ [])) x
        → IsIn (v ∷ (ps ++ z ∷ qs)) x
    off_first_in off_p off_q h =
        let w = wind_together v ps z qs apart diagonal in
        in_if_wound w.s w.unit (v ∷ (ps ++ z ∷ qs)) x (sum_is w.s _ _ _ w.unit (winding_cut v ps z qs x)
        (w.whole_winds x at (off_ring x off_p off_q)) (w.second_winds x at off_q) (wound w.s (v ∷ (ps ++ z ∷ [])) w.first_winds x at off_p h))

    -- and so is one in the second
    off_second_in : ¬ IsOnSome (edges_of (v ∷ (ps ++ z ∷ []))) x → ¬ IsOnSome (edges_of (v ∷ z ∷ qs)) x → IsIn (v ∷ z ∷ qs) x
        → IsIn (v ∷ (ps ++ z ∷ qs)) x
    off_second_in off_p off_q h =
        let w = wind_together v ps z qs apart diagonal in
        in_if_wound w.s w.unit (v ∷ (ps ++ z ∷ qs)) x (sum_is w.s _ _ _ w.unit (winding_cut v ps z qs x ∙ omega (arith, ints))
        (w.whole_winds x at (off_ring x off_p off_q)) (w.first_winds x at off_p) (wound w.s (v ∷ z ∷ qs) w.second_winds x at off_q h))

    -- a point is in the ring where it is on an edge of a piece, and where it is off them and in the ring
    in_ring_if : (¬ IsOnSome (edges_of (v ∷ (ps ++ z ∷ []))) x → ¬ IsOnSome (edges_of (v ∷ z ∷ qs)) x → IsIn (v ∷ (ps ++ z ∷ qs)) x)
        → IsIn (v ∷ (ps ++ z ∷ qs)) x
    in_ring_if off = elim (on_some_or_not (edges_of (v ∷ (ps ++ z ∷ []))) x at) [
      | inl on ↦ on_first_in on
      | inr off_p ↦ elim (on_some_or_not (edges_of (v ∷ z ∷ qs)) x at) [ inl on ↦ on_second_in on | inr off_q ↦ off off_p off_q ]
    ]

    -- so a point of the first piece is in the ring,
    pub in_ring_from_first : IsIn (v ∷ (ps ++ z ∷ [])) x → IsIn (v ∷ (ps ++ z ∷ qs)) x
    in_ring_from_first h = in_ring_if (λ off_p off_q. off_first_in off_p off_q h)

    -- and so is one of the second
    pub in_ring_from_second : IsIn (v ∷ z ∷ qs) x → IsIn (v ∷ (ps ++ z ∷ qs)) x
    in_ring_from_second h = in_ring_if (λ off_p off_q. off_second_in off_p off_q h)

    -- ---- in both pieces

    -- a point of the first piece is on the way there or on the diagonal
    first_cases : IsOnSome (edges_of (v ∷ (ps ++ z ∷ []))) x → IsOnSome (edges_along v ps z) x ⊎ On x (whole v) (whole z)
    first_cases on = elim (on_some_cases x (edges_along v ps z) (edge z v ∷ []) (subst (λ es. IsOnSome es x) (edges_of_first v ps z qs) on)) [
      | inl k ↦ inl k
      | inr k ↦ elim k [ inl on_diagonal ↦ inr (on_reversed x (whole z) (whole v) on_diagonal) | inr none ↦ absurd none ]
    ]

    -- a point of both ways is on the diagonal, as v or z
    on_both_ways : IsOnSome (edges_along v ps z) x → IsOnSome (edges_along z qs v) x → On x (whole v) (whole z)
    on_both_ways there back =
        let (f, has_f, on_f) = edge_with x (edges_along v ps z) there in
        let (e, has_e, on_e) = edge_with x (edges_along z qs v) back in
        elim (meet_at_cut v ps z qs apart e f has_e has_f x at on_e on_f) [
          | inl same ↦ on_same_point (whole_is_point v) (same_sym same) (on_first_end (whole v) (whole z))
          | inr same ↦ on_same_point (whole_is_point z) (same_sym same) (on_last_end (whole v) (whole z))
        ]

    -- a point of the way there that is in the second piece is on its edges,
    there_not_in_second : IsOnSome (edges_along v ps z) x → ¬ IsOnSome (edges_of (v ∷ z ∷ qs)) x → ¬ IsIn (v ∷ z ∷ qs) x
    there_not_in_second there off_q h =
        let w = wind_together v ps z qs apart diagonal in
        let (e, has, on) = edge_with x (edges_along v ps z) there in
        on_edge_not_wound (v ∷ (ps ++ z ∷ qs)) apart enough w.s w.unit (edges_of (v ∷ z ∷ qs)) (edges_of (v ∷ (ps ++ z ∷ [])))
        (λ y. winding_cut v ps z qs y ∙ omega (arith, ints)) (closed_edges_of (v ∷ z ∷ qs)) w.whole_winds w.first_winds
        (λ y off not. off_first v ps z qs apart y off (λ on_d. not (inl on_d)))
        e (has_edge_there v ps z qs apart e has) x at on off_q (wound w.s (v ∷ z ∷ qs) w.second_winds x at off_q h)

  -- and so it is the other way round
  back_not_in_first : (x : Triple) → IsPoint x → IsOnSome (edges_along z qs v) x → ¬ IsOnSome (edges_of (v ∷ (ps ++ z ∷ []))) x
      → ¬ IsIn (v ∷ (ps ++ z ∷ [])) x
  back_not_in_first x at back off_p h =
      let w = wind_together v ps z qs apart diagonal in
      let (e, has, on) = edge_with x (edges_along z qs v) back in
      on_edge_not_wound (v ∷ (ps ++ z ∷ qs)) apart enough w.s w.unit (edges_of (v ∷ (ps ++ z ∷ []))) (edges_of (v ∷ z ∷ qs))
      (winding_cut v ps z qs) (closed_edges_of (v ∷ (ps ++ z ∷ []))) w.whole_winds w.second_winds
      (λ y off not. off_second v ps z qs apart y off
      (λ on_d. not (subst (λ es. IsOnSome es y) (sym (edges_of_first v ps z qs))
      (on_some_right y (edges_along v ps z) (edge z v ∷ []) (inl (on_reversed y (whole v) (whole z) on_d))))))
      e (has_edge_back v ps z qs apart e has) x at on off_p (wound w.s (v ∷ (ps ++ z ∷ [])) w.first_winds x at off_p h)

  -- a point in both pieces is on the diagonal
  pub in_both : (x : Triple) → IsPoint x → IsIn (v ∷ (ps ++ z ∷ [])) x → IsIn (v ∷ z ∷ qs) x → On x (whole v) (whole z)
  in_both x at in_p in_q = go (on_some_or_not (edges_of (v ∷ (ps ++ z ∷ []))) x at) (on_some_or_not (edges_of (v ∷ z ∷ qs)) x at)
    where
      go : IsOnSome (edges_of (v ∷ (ps ++ z ∷ []))) x ⊎ (¬ IsOnSome (edges_of (v ∷ (ps ++ z ∷ []))) x)
          → IsOnSome (edges_of (v ∷ z ∷ qs)) x ⊎ (¬ IsOnSome (edges_of (v ∷ z ∷ qs)) x) → On x (whole v) (whole z)
      go k (inl (inl on_diagonal)) = on_diagonal
      go (inr off_p) (inl (inr back)) = absurd (back_not_in_first x at back off_p in_p)
      go (inl on) (inl (inr back)) = elim (first_cases x at on) [ inl there ↦ on_both_ways x at there back | inr on_diagonal ↦ on_diagonal ]
      go (inl on) (inr off_q) = elim (first_cases x at on) [
        | inl there ↦ absurd (there_not_in_second x at there off_q in_q)
        | inr on_diagonal ↦ on_diagonal
      ]
      go (inr off_p) (inr off_q) =
          let w = wind_together v ps z qs apart diagonal in
          absurd (not_twice w.s _ _ _ w.unit (winding_cut v ps z qs x) (w.whole_winds x at (off_ring x off_p off_q))
          (wound w.s (v ∷ (ps ++ z ∷ [])) w.first_winds x at off_p in_p) (wound w.s (v ∷ z ∷ qs) w.second_winds x at off_q in_q))
