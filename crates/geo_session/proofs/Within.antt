-- Replies to points that are to be in the polygon.
use Rattle.std.proofs.Common.{◌≡◌, inl, inr, refl, List, [], ◌∷◌, arith}
use Rattle.std.proofs.lemmas.Bool.{cases_lt}
use Rattle.plane.specs.Point.{Point, whole}
use Rattle.rings.specs.Chain.{point_at}
use Rattle.rings.specs.Inside.{IsIn}
use Rattle.hulls.specs.Inner.{AreAllIn}
use Rattle.geo_text.specs.declared.command.Bad.{Bad}
use Rattle.geo_text.specs.declared.command.Bad.TheVariants as bad
use Rattle.geo_reply.specs.declared.reply.Reply.{Reply}
use Rattle.geo_reply.specs.declared.reply.Reply.TheVariants as reply
use Rattle.ring_check.specs.Oriented.{Oriented, given_of}
use Rattle.geo_session.proofs.GivenPath.{in_given_iff}
use Rattle.geo_session.specs.Told.{NamesOutside, RepliesWithin, outside, within}

module _ (ring : List Point) (Holds : Reply → Type 0) where
  -- ---- to one point

  pub one_out : (s : Point) (fault : Bad) → ¬ IsIn ring (whole s) → fault ≡ bad.Outside 1 → RepliesWithin ring (s ∷ []) Holds (reply.Refused fault)
  one_out s fault out is = outside fault (record {
    k = 0;
    first = record { in_list = omega arith; outside = out; before = λ j less. absurd (omega (arith, less)) };
    named = is;
  }) refl

  pub one_in : (s : Point) (answered : Reply) → IsIn ring (whole s) → Holds answered → RepliesWithin ring (s ∷ []) Holds answered
  one_in s answered inside = within (λ k below. let first : k ≡ 0 = omega (arith, below) in rw first inside)

  -- ---- to two

  module _ (s t : Point) where
    pub first_out : (fault : Bad) → ¬ IsIn ring (whole s) → fault ≡ bad.Outside 1 → RepliesWithin ring (s ∷ t ∷ []) Holds (reply.Refused fault)
    first_out fault out is = outside fault (record {
      k = 0;
      first = record { in_list = omega arith; outside = out; before = λ j less. absurd (omega (arith, less)) };
      named = is;
    }) refl

    pub second_out : (fault : Bad) → IsIn ring (whole s) → ¬ IsIn ring (whole t) → fault ≡ bad.Outside 2
        → RepliesWithin ring (s ∷ t ∷ []) Holds (reply.Refused fault)
    second_out fault inside out is = outside fault (record {
      k = 1;
      first = record {
        in_list = omega arith;
        outside = out;
        before = λ j less. let first : j ≡ 0 = omega (arith, less) in rw first inside;
      };
      named = is;
    }) refl

    both_in : IsIn ring (whole s) → IsIn ring (whole t) → AreAllIn ring (s ∷ t ∷ [])
    both_in inside inside_too k below = elim (cases_lt k 1) [
      | inl less ↦ let first : k ≡ 0 = omega (arith, less) in rw first inside
      | inr more ↦ let last : k ≡ 1 = omega (arith, more, below) in rw last inside_too
    ]

    pub two_in : (answered : Reply) → IsIn ring (whole s) → IsIn ring (whole t) → Holds answered → RepliesWithin ring (s ∷ t ∷ []) Holds answered
    two_in answered inside inside_too = within (both_in inside inside_too)

-- ---- the list that the ring was made of

module _ (ring : Oriented) (points : List Point) where
  -- points of the ring are in it,
  pub all_given : AreAllIn ring.corners points → AreAllIn (given_of ring) points
  all_given all k below = (in_given_iff ring (whole (point_at points k))).1 (all k below)

  -- and the first that is outside is the same
  pub named_given : (fault : Bad) → NamesOutside ring.corners points fault → NamesOutside (given_of ring) points fault
  named_given fault h = record {
    k = h.k;
    first = record {
      in_list = h.first.in_list;
      outside = λ inside. h.first.outside ((in_given_iff ring (whole (point_at points h.k))).0 inside);
      before = λ j less. (in_given_iff ring (whole (point_at points j))).1 (h.first.before j less);
    };
    named = h.named;
  }
