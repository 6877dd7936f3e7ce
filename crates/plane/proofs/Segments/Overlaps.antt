-- Two segments on one line: round each common point there are two ends of theirs that are common too.
use Rattle.std.proofs.Common.{◌⊎◌, inl, inr}
use Rattle.plane.proofs.Order.{NotAfter, not_after_of_precedes, not_after_or_precedes, not_after_trans}
use Rattle.plane.proofs.Segments.Combinations.{on_nested}
use Rattle.plane.proofs.Segments.OnByOrder.{on_from_order, on_not_after, on_not_before, straight_on}
use Rattle.plane.proofs.Segments.Segments.{on_first_end, on_last_end, on_reversed, zero_of}
use Rattle.plane.proofs.Turns.{determinant_same_ends, straight_shift, straight_swap_first, straight_swap_last, combination_of}
use Rattle.plane.proofs.Turns.{determinant_along_first}
use Rattle.plane.specs.Prelude.{IsPoint, IsStraight, On, Triple}

-- on a segment whose ends are in order, a point is between them in that order
in_order : (p a b : Triple) → IsPoint p → IsPoint a → IsPoint b → NotAfter a b → On p a b → NotAfter a p × NotAfter p b
in_order p a b at_p at_a at_b h on = (
  elim (on_not_before p a b at_p at_a at_b on) [ inl k ↦ k | inr k ↦ not_after_trans a b p at_a at_b at_p h k ],
  elim (on_not_after p a b at_p at_a at_b on) [ inl k ↦ not_after_trans p a b at_p at_a at_b k h | inr k ↦ k ],
)

-- ---- the way from a point of a segment to another point of its line

-- it stays on the segment, or leaves it at an end
abbrev pub Leaves : (a b z c : Triple) → Type 0
Leaves a b z c = On c a b ⊎ On a z c ⊎ On b z c

module _ (a b z c : Triple) (at_a : IsPoint a) (at_b : IsPoint b) (at_z : IsPoint z) (at_c : IsPoint c) (straight : IsStraight a b c)
    (on : On z a b) where
  -- the point, the other, and the first end are on one line
  line_first : IsStraight z c a
  line_first =
      let e = combination_of z a b at_z at_a at_b on in
      zero_of e.k e.l e.m _ _ _ e.k_positive (determinant_same_ends a c) (straight_shift a b c straight) (determinant_along_first z a b e c a)

  -- and so is the last
  line_last : IsStraight z c b
  line_last =
      let e = combination_of z a b at_z at_a at_b on in
      zero_of e.k e.l e.m _ _ _ e.k_positive (straight_swap_last a b c straight) (determinant_same_ends b c) (determinant_along_first z a b e c b)

  -- where the segment is read forward
  leaves_forward : NotAfter a b → Leaves a b z c
  leaves_forward h =
      let (first, last) = in_order z a b at_z at_a at_b h on in
      elim (not_after_or_precedes c a) [
        | inl k ↦
            let back = on_from_order a c z (straight_swap_first z c a line_first) at_a at_c at_z (not_after_of_precedes c a k) first in
            inr (inl (on_reversed a c z back))
        | inr k ↦ elim (not_after_or_precedes b c) [
          | inl l ↦ inr (inr (on_from_order b z c line_last at_b at_z at_c last (not_after_of_precedes b c l)))
          | inr l ↦ inl (on_from_order c a b straight at_c at_a at_b k l)
        ]
      ]

-- and in any direction
pub leaves : (a b z c : Triple) → IsPoint a → IsPoint b → IsPoint z → IsPoint c → IsStraight a b c → On z a b → Leaves a b z c
leaves a b z c at_a at_b at_z at_c straight on = elim (not_after_or_precedes a b) [
  | inl h ↦ leaves_forward a b z c at_a at_b at_z at_c straight on (not_after_of_precedes a b h)
  | inr h ↦ elim (leaves_forward b a z c at_b at_a at_z at_c (straight_swap_first a b c straight) (on_reversed z a b on) h) [
    | inl k ↦ inl (on_reversed c b a k)
    | inr k ↦ elim k [ inl l ↦ inr (inr l) | inr l ↦ inr (inl l) ]
  ]
]

-- ---- what is between two points on the ways to the ends

module _ (z c d : Triple) (at_z : IsPoint z) (at_c : IsPoint c) (at_d : IsPoint d) (on : On z c d) where
  -- points on the way to an end are on the segment
  on_way_first : (u : Triple) → IsPoint u → On u z c → On u c d
  on_way_first u at_u way = on_nested u z c c d at_u at_z at_c at_c at_d on (on_first_end c d) way

  -- also to the last
  on_way_last : (v : Triple) → IsPoint v → On v z d → On v c d
  on_way_last v at_v way = on_nested v z d c d at_v at_z at_d at_c at_d on (on_last_end c d) way

  module _ (u v : Triple) (at_u : IsPoint u) (at_v : IsPoint v) (to_u : On u z c) (to_v : On v z d) where
    -- two such points are on one line with the one between the ends
    ways_straight : IsStraight u v z
    ways_straight = straight_on u v z c d at_u at_v at_z at_c at_d (on_way_first u at_u to_u) (on_way_last v at_v to_v) on

    -- which is between them: where the ends are in order,
    between_forward : NotAfter c d → On z u v
    between_forward h =
        let (first, last) = in_order z c d at_z at_c at_d h on in
        let low = (in_order u c z at_u at_c at_z first (on_reversed u z c to_u)).1 in
        let high = (in_order v z d at_v at_z at_d last to_v).0 in
        on_from_order z u v ways_straight at_z at_u at_v low high

    -- where they are in the other order,
    between_backward : NotAfter d c → On z u v
    between_backward h =
        let (last, first) = in_order z d c at_z at_d at_c h (on_reversed z c d on) in
        let high = (in_order u z c at_u at_z at_c first to_u).0 in
        let low = (in_order v d z at_v at_d at_z last (on_reversed v z d to_v)).1 in
        on_reversed z v u (on_from_order z v u (straight_swap_first u v z ways_straight) at_z at_v at_u low high)

    -- and so in any case
    between_ways : On z u v
    between_ways = elim (not_after_or_precedes c d) [
      | inl h ↦ between_forward (not_after_of_precedes c d h)
      | inr h ↦ between_backward h
    ]

-- ---- two segments on one line

-- z is between two points of a kind, and both are on the segment from c to d
pub record HasAround (P : Triple → Type 0) (c d z : Triple) : Type 0 where
  pub u : Triple
  pub v : Triple
  pub u_listed : P u
  pub v_listed : P v
  pub u_on : On u c d
  pub v_on : On v c d
  pub between : On z u v

module _ (P : Triple → Type 0) (a b c d z : Triple) (at_a : IsPoint a) (at_b : IsPoint b) (at_c : IsPoint c) (at_d : IsPoint d)
    (at_z : IsPoint z) (on_ab : On z a b) (on_cd : On z c d) (has_a : P a) (has_b : P b) where
  -- a point of the kind on the way to an end
  record Stop (e : Triple) : Type 0 where
    point : Triple
    rational : IsPoint point
    listed : P point
    way : On point z e

  -- there is one, where that end is of the kind if it is on the first segment
  stop : (e : Triple) → IsPoint e → IsStraight a b e → (On e a b → P e) → Stop e
  stop e at_e straight has = elim (leaves a b z e at_a at_b at_z at_e straight on_ab) [
    | inl on ↦ record { point = e; rational = at_e; listed = has on; way = on_last_end z e }
    | inr out ↦ elim out [
      | inl on ↦ record { point = a; rational = at_a; listed = has_a; way = on }
      | inr on ↦ record { point = b; rational = at_b; listed = has_b; way = on }
    ]
  ]

  -- round a common point there are two of the kind that has the ends of the first segment, and those of the second on it
  pub around_of_line : IsStraight a b c → IsStraight a b d → (On c a b → P c) → (On d a b → P d) → HasAround P c d z
  around_of_line abc abd has_c has_d =
      let s = stop c at_c abc has_c in
      let t = stop d at_d abd has_d in
      record {
        u = s.point;
        v = t.point;
        u_listed = s.listed;
        v_listed = t.listed;
        u_on = on_way_first z c d at_z at_c at_d on_cd s.point s.rational s.way;
        v_on = on_way_last z c d at_z at_c at_d on_cd t.point t.rational t.way;
        between = between_ways z c d at_z at_c at_d on_cd s.point t.point s.rational t.rational s.way t.way;
      }
