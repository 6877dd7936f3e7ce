-- What is told of the meeting of two lines.
use Rattle.std.proofs.Common.{◌≡◌, ◌∙◌, sym, ap, subst, ◌<◌, ◌^◌, ℤ, pos, ◌<ℤ◌, Less, Equal, Greater, arith, w64}
use Rattle.std.proofs.lemmas.Int.{ints, to_z-of_z}
use Rattle.std.specs.Cmp.{int_ranked}
use Rattle.std.specs.Ordering.{MatchOrdering, int_cmp}
use Rattle.std.specs.Prelude.{unsigned_abs}
use Rattle.std.specs.declared.cmp.Ordering.{Ordering}
use Rattle.plane.proofs.Meetings.{meeting_is_straight}
use Rattle.plane.specs.Line.{along, cross_product}
use Rattle.plane.specs.Point.{Point, Triple, whole}
use Rattle.plane.specs.Turn.{IsStraight}
use Rattle.exact_plane.proofs.Registers.{read}

-- a small number is read as it is
small_read : (z : ℤ) → unsigned_abs z < 2 ^ 49 → read z ≡ z
small_read z small = to_z-of_z w64 z (omega (arith, ints))

-- the point that is computed from the cross products is on the second line
pub computed_meeting : (a b c d : Point) (m : Triple) (s w : ℤ) → unsigned_abs s < 2 ^ 49 → unsigned_abs w < 2 ^ 49
    → s ≡ cross_product a c c d → w ≡ cross_product a b c d → m ≡ along a b (read s) (read w) → IsStraight (whole c) (whole d) m
computed_meeting a b c d m s w small_s small_w es ew is =
    let plain : m ≡ along a b (cross_product a c c d) (cross_product a b c d) =
    is ∙ (λ i. along a b ((small_read s small_s ∙ es) i) ((small_read w small_w ∙ ew) i)) in
    subst (λ (p : Triple). IsStraight (whole c) (whole d) p) (sym plain) (meeting_is_straight a b c d)

-- what compares as less than 0 is below 0
less_is_below : (z : ℤ) (r : Ordering) → r ≡ Less → MatchOrdering r (z <ℤ pos 0) (z ≡ pos 0) (pos 0 <ℤ z) → z <ℤ pos 0
less_is_below z Less e h = h
less_is_below z Equal e h = cc
less_is_below z Greater e h = cc

pub below_zero : (z : ℤ) (r : Ordering) → unsigned_abs z < 2 ^ 49 → r ≡ int_cmp (read z) (pos 0) → r ≡ Less → z <ℤ pos 0
below_zero z r small is less =
    less_is_below z r less (int_ranked z (pos 0) r (is ∙ ap (λ x. int_cmp x (pos 0)) (small_read z small)))
