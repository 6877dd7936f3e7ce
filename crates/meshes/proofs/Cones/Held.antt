-- What a cone holds, by signs, and so between two points; and the ends of a side.
use Rattle.std.proofs.Common.{◌≡◌, ◌⊎◌, inl, inr, sym, subst, pos, ◌≤ℤ◌}
use Rattle.integer_algebra.proofs.SignSteps.{mean_not_positive, not_both, not_both_positive}
use Rattle.plane.proofs.Segments.{on_first_end, on_last_end}
use Rattle.plane.proofs.Turns.{combination_of, determinant_along}
use Rattle.plane.specs.Prelude.{determinant, IsPoint, On, Point, Triple, whole}
use Rattle.ring_laws.proofs.Triangles.{not_right_between}
use Rattle.meshes.specs.Cone.{Cone, Holds}

-- what is not left of a line at both ends of a segment is so between them
pub not_left_between : (s t z a b : Triple) → IsPoint z → IsPoint a → IsPoint b
    → determinant s t a ≤ℤ pos 0 → determinant s t b ≤ℤ pos 0 → On z a b → determinant s t z ≤ℤ pos 0
not_left_between s t z a b at_z at_a at_b ha hb on =
    let c = combination_of z a b at_z at_a at_b on in
    mean_not_positive c.k c.l c.m _ _ _ c.k_positive c.l_nonnegative c.m_nonnegative (determinant_along z a b c s t) ha hb

-- a cone holds what is not left of its left ray, nor right of its right one,
pub held : {q : Point} {cone : Cone} {x : Triple} → determinant (whole q) (whole cone.left) x ≤ℤ pos 0
    → pos 0 ≤ℤ determinant (whole q) (whole cone.right) x → Holds q cone x
held left right = record { not_left = λ h. not_both_positive h left; not_right = λ h. not_both h right }

-- and so what is between two such points
pub held_between : (q : Point) (cone : Cone) (x a b : Triple) → IsPoint x → IsPoint a → IsPoint b
    → determinant (whole q) (whole cone.left) a ≤ℤ pos 0 → determinant (whole q) (whole cone.left) b ≤ℤ pos 0
    → pos 0 ≤ℤ determinant (whole q) (whole cone.right) a → pos 0 ≤ℤ determinant (whole q) (whole cone.right) b
    → On x a b → Holds q cone x
held_between q cone x a b at_x at_a at_b left_a left_b right_a right_b on =
    held (not_left_between (whole q) (whole cone.left) x a b at_x at_a at_b left_a left_b on)
    (not_right_between (whole q) (whole cone.right) x a b at_x at_a at_b right_a right_b on)

-- an end of a side is on it
pub end_on_side : (l r c : Point) → (c ≡ l) ⊎ (c ≡ r) → On (whole c) (whole r) (whole l)
end_on_side l r c (inl e) = subst (λ p. On (whole p) (whole r) (whole l)) (sym e) (on_last_end (whole r) (whole l))
end_on_side l r c (inr e) = subst (λ p. On (whole p) (whole r) (whole l)) (sym e) (on_first_end (whole r) (whole l))
