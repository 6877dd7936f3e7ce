-- The signed crossing of an edge over plain integers, and its value by the heights of the edge's ends.
use Rattle.std.proofs.Common.{◌≡◌, ℤ, pos, negsuc, ◌-ℤ◌, ◌*ℤ◌, neg_ℤ, ◌<ℤ◌, ◌≤ℤ◌, arith}
use Rattle.std.proofs.lemmas.Int.{ints}
use Rattle.std.specs.Int.Signed.{le_z, lt_z}
use Rattle.std.specs.Prelude.{◌&&◌, if◌then◌else◌}
use Rattle.rings.proofs.Crossings.EdgeSigns.{Alike, both_negative, both_positive, both_zero}

-- 1 for a positive number, else 0
pub positive : ℤ → ℤ
positive d = if lt_z (pos 0) d then pos 1 else pos 0

-- the signed crossing of an edge whose ends are f and g above a point, which is d beside the edge's line
pub signed : (f g d : ℤ) → ℤ
signed f g d =
    if le_z f (pos 0) && lt_z (pos 0) g && lt_z (pos 0) d then pos 1
    else if le_z g (pos 0) && lt_z (pos 0) f && lt_z d (pos 0) then negsuc 0
    else pos 0

-- 1 for an end that is f above a lower point, i above a higher point, and u beside the line from one to the other, where it
-- is between in height and right of the line; else 0
pub counted : (f i u : ℤ) → ℤ
counted f i u = if lt_z (pos 0) f && le_z i (pos 0) && lt_z u (pos 0) then pos 1 else pos 0

-- numbers of one sign are positive together
pub positive_alike : (u v : ℤ) → Alike u v → positive u ≡ positive v
unfolding positive
positive_alike u v (both_positive h k) = grind (arith, ints)
positive_alike u v (both_negative h k) = grind (arith, ints)
positive_alike u v (both_zero h k) = grind (arith, ints)

-- it is 1 for a positive number,
pub positive_yes : (d : ℤ) → pos 0 <ℤ d → positive d ≡ pos 1
unfolding positive
positive_yes d h = grind (arith, ints)

-- and 0 for any other
pub positive_no : (d : ℤ) → d ≤ℤ pos 0 → positive d ≡ pos 0
unfolding positive
positive_no d h = grind (arith, ints)

module _ (f g d : ℤ) where
  -- an edge that begins low and ends high is crossed from its left,
  pub signed_rising : f ≤ℤ pos 0 → pos 0 <ℤ g → signed f g d ≡ positive d
  unfolding signed positive
  signed_rising h k = grind (arith, ints)

  -- one that begins high and ends low from its right,
  pub signed_falling : pos 0 <ℤ f → g ≤ℤ pos 0 → signed f g d ≡ neg_ℤ (positive (neg_ℤ d))
  unfolding signed positive
  signed_falling h k = grind (arith, ints)

  -- one with two low ends not at all,
  pub signed_low : f ≤ℤ pos 0 → g ≤ℤ pos 0 → signed f g d ≡ pos 0
  unfolding signed
  signed_low h k = grind (arith, ints)

  -- nor one with two high ends
  pub signed_high : pos 0 <ℤ f → pos 0 <ℤ g → signed f g d ≡ pos 0
  unfolding signed
  signed_high h k = grind (arith, ints)

  -- read backward, it is crossed with the opposite sign
  pub signed_backward : signed g f (neg_ℤ d) ≡ neg_ℤ (signed f g d)
  unfolding signed
  signed_backward = grind (arith, ints)

module _ (f i u : ℤ) where
  -- an end between counts where it is right of the line,
  pub counted_between : pos 0 <ℤ f → i ≤ℤ pos 0 → counted f i u ≡ positive (neg_ℤ u)
  unfolding counted positive
  counted_between h k = grind (arith, ints)

  -- a low one not,
  pub counted_low : f ≤ℤ pos 0 → counted f i u ≡ pos 0
  unfolding counted
  counted_low h = grind (arith, ints)

  -- nor a high one
  pub counted_high : pos 0 <ℤ i → counted f i u ≡ pos 0
  unfolding counted
  counted_high h = grind (arith, ints)

-- ---- from the definitions

-- a height is not above another,
not_above_is : (a y : ℤ) → le_z a y ≡ le_z (a -ℤ y *ℤ pos 1) (pos 0)
not_above_is a y = grind (arith, ints)

-- or above it, by their difference
above_is : (b y : ℤ) → lt_z y b ≡ lt_z (pos 0) (b -ℤ y *ℤ pos 1)
above_is b y = grind (arith, ints)

-- over the heights of the edge's ends and of the point
pub signed_is : (a b y d : ℤ) →
    (if le_z a y && lt_z y b && lt_z (pos 0) d then pos 1
    else if le_z b y && lt_z y a && lt_z d (pos 0) then negsuc 0
    else pos 0) ≡ signed (a -ℤ y *ℤ pos 1) (b -ℤ y *ℤ pos 1) d
unfolding signed
signed_is a b y d = λ i.
    if not_above_is a y i && above_is b y i && lt_z (pos 0) d then pos 1
    else if not_above_is b y i && above_is a y i && lt_z d (pos 0) then negsuc 0
    else pos 0
