-- The cases of a cone that is narrowed to a side, by the signs that the turns tell.
use Rattle.std.proofs.Common.{◌≡◌, ◌⊎◌, inl, inr, refl, Bool, true, false, ℤ, pos, ◌<ℤ◌, ◌≤ℤ◌, arith, Some, None}
use Rattle.std.proofs.lemmas.Bool.{or_parts}
use Rattle.std.proofs.lemmas.Int.{ints}
use Rattle.std.specs.Int.Signed.{lt_z}
use Rattle.std.specs.Prelude.{◌||◌, if◌then◌else◌, Option}
use Rattle.integer_algebra.proofs.SignSteps.{not_both, not_both_positive}
use Rattle.plane.specs.Prelude.{determinant, IsLeft, IsRight, Point, whole}
use Rattle.meshes.specs.Cone.{Cone, Holds, is_left, is_off, is_right, narrowed, narrowed_left, narrowed_right, ray_to_end}

-- ---- tests

-- what holds of both values of a choice holds of the choice
choice : {A : Type 0} (P : A → Type 0) (b : Bool) (x y : A) → (b ≡ true → P x) → (b ≡ false → P y) → P (if b then x else y)
choice P true x y f g = f refl
choice P false x y f g = g refl

-- what the tests of a sign say: it is positive,
positive : (d : ℤ) → lt_z (pos 0) d ≡ true → pos 0 <ℤ d
positive d h = grind (arith, ints)

-- or not,
not_positive : (d : ℤ) → lt_z (pos 0) d ≡ false → d ≤ℤ pos 0
not_positive d h = grind (arith, ints)

-- negative,
negative : (d : ℤ) → lt_z d (pos 0) ≡ true → d <ℤ pos 0
negative d h = grind (arith, ints)

-- or not
not_negative : (d : ℤ) → lt_z d (pos 0) ≡ false → pos 0 ≤ℤ d
not_negative d h = grind (arith, ints)

-- one of two tests says so,
either : (b c : Bool) → (b || c) ≡ true → (b ≡ true) ⊎ (c ≡ true)
either true c h = inl refl
either false c h = inr h

-- ---- what a cone holds

module _ (q : Point) (cone : Cone) (x : Point) where
  -- as its test says
  held : is_off q cone x ≡ false → Holds q cone (whole x)
  held h =
      let both = or_parts _ _ h in
      record {
        not_left = λ left. not_both_positive left (not_positive _ both.0);
        not_right = λ right. not_both right (not_negative _ both.1);
      }

  not_held : is_off q cone x ≡ true → ¬ Holds q cone (whole x)
  not_held h holds = elim (either _ _ h) [
    | inl left ↦ holds.not_left (positive _ left)
    | inr right ↦ holds.not_right (negative _ right)
  ]

-- ---- the cases

-- the left point of the narrowed cone is that of the cone, where the end l is left of it, and else l
pub narrowed_left_by : (q a l : Point) (P : Point → Type 0) → (IsLeft (whole q) (whole a) (whole l) → P a)
    → (determinant (whole q) (whole a) (whole l) ≤ℤ pos 0 → P l) → P (narrowed_left q a l)
narrowed_left_by q a l P stays narrows = choice P (is_left q a l) a l (λ h. stays (positive _ h)) (λ h. narrows (not_positive _ h))

-- the right point is that of the cone, where the end r is right of it, and else r
pub narrowed_right_by : (q b r : Point) (P : Point → Type 0) → (IsRight (whole q) (whole b) (whole r) → P b)
    → (pos 0 ≤ℤ determinant (whole q) (whole b) (whole r) → P r) → P (narrowed_right q b r)
narrowed_right_by q b r P stays narrows = choice P (is_right q b r) b r (λ h. stays (negative _ h)) (λ h. narrows (not_negative _ h))

module _ (q : Point) (cone : Cone) (l r : Point) (P : Option Cone → Type 0) where
  -- beyond the side, one of its ends is held or none
  pub ray_to_end_by : (Holds q cone (whole l) → P (Some (record { left = l; right = l })))
      → (Holds q cone (whole r) → P (Some (record { left = r; right = r })))
      → (¬ Holds q cone (whole l) → ¬ Holds q cone (whole r) → P None) → P (ray_to_end q cone l r)
  ray_to_end_by at_l at_r at_none =
      choice P (is_off q cone l) _ _
      (λ off_l. choice P (is_off q cone r) None _ (λ off_r. at_none (not_held q cone l off_l) (not_held q cone r off_r))
      (λ h. at_r (held q cone r h)))
      (λ h. at_l (held q cone l h))

  -- q is beyond the side; or it is not, and the side is left of the cone, or right of it, or within its reach
  pub narrowed_by : (IsRight (whole q) (whole r) (whole l) → P (ray_to_end q cone l r))
      → (pos 0 ≤ℤ determinant (whole q) (whole r) (whole l) → IsLeft (whole q) (whole cone.left) (whole r) → P None)
      → (pos 0 ≤ℤ determinant (whole q) (whole r) (whole l) → IsRight (whole q) (whole cone.right) (whole l) → P None)
      → (pos 0 ≤ℤ determinant (whole q) (whole r) (whole l) → determinant (whole q) (whole cone.left) (whole r) ≤ℤ pos 0
      → pos 0 ≤ℤ determinant (whole q) (whole cone.right) (whole l)
      → P (Some (record { left = narrowed_left q cone.left l; right = narrowed_right q cone.right r })))
      → P (narrowed q (Some cone) l r)
  narrowed_by beyond past_left past_right within =
      choice P (is_right q r l) _ _ (λ h. beyond (negative _ h))
      (λ h. choice P (is_left q cone.left r || is_right q cone.right l) None _
      (λ past. elim (either _ _ past) [
        | inl left ↦ past_left (not_negative _ h) (positive _ left)
        | inr right ↦ past_right (not_negative _ h) (negative _ right)
      ])
      (λ reached.
      let both = or_parts _ _ reached in
      within (not_negative _ h) (not_positive _ both.0) (not_negative _ both.1)))
