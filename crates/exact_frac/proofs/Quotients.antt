-- The parts of a fraction, divided by their greatest common divisor as numbers of some bits.
use Rattle.std.proofs.Common.{◌≡◌, ◌≤◌, ◌<◌, ◌*ℤ◌, ◌<ℤ◌, ℕ, ℤ, pos, negsuc, FitsSigned, to_z, of_z, arith, lt_of_le_of_lt}
use Rattle.std.proofs.Math.Nat.{pos_of_dvd_of_pos}
use Rattle.std.proofs.lemmas.Int.{ints, quot_fits, quot_is, to_z-of_z}
use Rattle.std.proofs.lemmas.Nat.Gcd.{le_of_dvd}
use Rattle.std.specs.Int.{IsGcd, Width}
use Rattle.std.specs.Prelude.{int_div, unsigned_abs}
use Rattle.exact_frac.proofs.LowestTerms.{positive_number, positive_size, reduced, zero_lowest}
use Rattle.exact_frac.specs.Lowest.{IsLowest}

-- a number as it passes through the code, and a part over the divisor
abbrev pub kept : Width → ℤ → ℤ
kept w z = to_z w (of_z w z)

abbrev pub quotient : Width → ℤ → ℕ → ℤ
quotient w z g = int_div (kept w z) (to_z w g)

-- what the code makes of the two parts
pub record Divides (w : Width) (num den : ℤ) (g : ℕ) : Type 0 where
  pub some : 0 < g
  pub fits : FitsSigned w (pos g)
  pub num_fits : FitsSigned w (quotient w num g)
  pub den_fits : FitsSigned w (quotient w den g)
  pub lowest : IsLowest (kept w (quotient w num g)) (kept w (quotient w den g))
  pub value : kept w (quotient w num g) *ℤ den ≡ num *ℤ kept w (quotient w den g)
  pub zero : num ≡ pos 0 → (kept w (quotient w num g) ≡ pos 0) × (kept w (quotient w den g) ≡ pos 1)

fits_below : (w : Width) (den : ℤ) (g : ℕ) → pos 0 <ℤ den → FitsSigned w den → g ≤ unsigned_abs den → FitsSigned w (pos g)
fits_below w (pos n) g positive fits small = record { sfits = lt_of_le_of_lt small fits.sfits }
fits_below w (negsuc n) g positive fits small = absurd (omega (arith, ints))

pub divides : (w : Width) (num den : ℤ) (u v g : ℕ) → pos 0 <ℤ den → FitsSigned w num → FitsSigned w den
    → u ≡ unsigned_abs (kept w num) → v ≡ unsigned_abs (kept w den) → IsGcd u v g → Divides w num den g
divides w num den u v g positive num_fits den_fits e f h =
    let is : IsGcd (unsigned_abs num) (unsigned_abs den) g = rw (← to_z-of_z w num num_fits, ← to_z-of_z w den den_fits, ← e, ← f) h in
    let size = positive_size den positive in
    let some = pos_of_dvd_of_pos is.1 size in
    let fits = fits_below w den g positive den_fits (le_of_dvd size is.1) in
    let fit : (z : ℤ) → FitsSigned w z → FitsSigned w (int_div z (pos g)) = λ z h. quot_fits w z (pos g) h (positive_number g some) in
    let same : (z : ℤ) → FitsSigned w z → kept w (quotient w z g) ≡ int_div z (pos g) = λ z h. quot_is w z (pos g) h fits (fit z h) in
    let fit_kept : (z : ℤ) → FitsSigned w z → FitsSigned w (quotient w z g) = λ z h. rw (to_z-of_z w z h, to_z-of_z w (pos g) fits) (fit z h) in
    let (lowest, value) = reduced num den g positive some is in
    record {
      some = some;
      fits = fits;
      num_fits = fit_kept num num_fits;
      den_fits = fit_kept den den_fits;
      lowest = rw (same num num_fits, same den den_fits) lowest;
      value = rw (same num num_fits, same den den_fits) value;
      zero = rw (same num num_fits, same den den_fits) (zero_lowest num den _ _ positive lowest value);
    }
