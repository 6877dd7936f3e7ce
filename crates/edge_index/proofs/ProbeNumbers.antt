-- How far right of its way a probe is, at both of its ends.
use Rattle.std.proofs.Common.{◌≡◌, ◌∙◌, [], ◌∷◌, refl, sym, ℤ, ◌-ℤ◌, ◌*ℤ◌}
use Rattle.integer_algebra.proofs.Polynomial.{var, ◌⊖◌, ◌⊗◌, same_value}

-- the first end is as far right of the way as was computed
pub first_here : (across up x y p_x p_y here : ℤ) → x ≡ p_x → y ≡ p_y → here ≡ up *ℤ x -ℤ across *ℤ y → up *ℤ p_x -ℤ across *ℤ p_y ≡ here
first_here across up x y p_x p_y here is_x is_y is = sym (rw (is_x, is_y) at is)

same_line : (x y z w : ℤ) → (w -ℤ y) *ℤ z -ℤ (z -ℤ x) *ℤ w ≡ (w -ℤ y) *ℤ x -ℤ (z -ℤ x) *ℤ y
same_line x y z w =
    same_value ((var 3 ⊖ var 1) ⊗ var 2 ⊖ (var 2 ⊖ var 0) ⊗ var 3) ((var 3 ⊖ var 1) ⊗ var 0 ⊖ (var 2 ⊖ var 0) ⊗ var 1) (x ∷ y ∷ z ∷ w ∷ []) refl

same_way : (across up x y z w : ℤ) → across ≡ z -ℤ x → up ≡ w -ℤ y → up *ℤ z -ℤ across *ℤ w ≡ up *ℤ x -ℤ across *ℤ y
same_way across up x y z w is_across is_up = rw (is_across, is_up) (same_line x y z w)

-- and so is the last
pub last_here : (across up x y z w q_x q_y here : ℤ) → z ≡ q_x → w ≡ q_y → across ≡ z -ℤ x → up ≡ w -ℤ y → here ≡ up *ℤ x -ℤ across *ℤ y
    → up *ℤ q_x -ℤ across *ℤ q_y ≡ here
last_here across up x y z w q_x q_y here is_z is_w is_across is_up is =
    let same : up *ℤ q_x -ℤ across *ℤ q_y ≡ up *ℤ x -ℤ across *ℤ y = rw (is_z, is_w) at (same_way across up x y z w is_across is_up) in
    same ∙ sym is
