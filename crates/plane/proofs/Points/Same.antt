-- Rational points that are the same, and whole points among them.
use Rattle.std.proofs.Common.{◌≡◌, [], ◌∷◌, refl, sym, ap, ◌∙◌, ℤ, pos, ◌*ℤ◌, ◌<ℤ◌, arith}
use Rattle.std.proofs.lemmas.Int.{ints}
use Rattle.integer_algebra.proofs.Polynomial.{var, ◌⊗◌, same_value}
use Rattle.integer_algebra.proofs.Signs.{cancel_equal}
use Rattle.plane.specs.Point.{IsPoint, IsSame, Point, Triple, whole}

-- a whole point is a point
pub whole_is_point : (a : Point) → IsPoint (whole a)
whole_is_point a = omega (arith, ints)

-- a point is the same as itself
pub same_refl : (p : Triple) → IsSame p p
same_refl p = record { same_x = refl; same_y = refl }

-- of two points each is the same as the other or neither is
pub same_sym : {p q : Triple} → IsSame p q → IsSame q p
same_sym h = record { same_x = sym h.same_x; same_y = sym h.same_y }

-- one coordinate: the middle weight is not 0
chain : (p q r P Q R : ℤ) → pos 0 <ℤ Q → p *ℤ Q ≡ q *ℤ P → q *ℤ R ≡ r *ℤ Q → p *ℤ R ≡ r *ℤ P
chain p q r P Q R h e f =
    let xs = p ∷ q ∷ r ∷ P ∷ Q ∷ R ∷ [] in
    cancel_equal (p *ℤ R) (r *ℤ P) Q h
    (same_value (var 4 ⊗ (var 0 ⊗ var 5)) ((var 0 ⊗ var 4) ⊗ var 5) xs refl
    ∙ ap (λ z. z *ℤ R) e
    ∙ same_value ((var 1 ⊗ var 3) ⊗ var 5) ((var 1 ⊗ var 5) ⊗ var 3) xs refl
    ∙ ap (λ z. z *ℤ P) f
    ∙ same_value ((var 2 ⊗ var 4) ⊗ var 3) (var 4 ⊗ (var 2 ⊗ var 3)) xs refl)

-- two points that are the same as a third are the same
pub same_trans : {p q r : Triple} → IsPoint q → IsSame p q → IsSame q r → IsSame p r
same_trans {p} {q} {r} h s t = record {
  same_x = chain p.X q.X r.X p.W q.W r.W h s.same_x t.same_x;
  same_y = chain p.Y q.Y r.Y p.W q.W r.W h s.same_y t.same_y;
}

-- whole points are the same only if they are equal
pub same_whole : (a b : Point) → IsSame (whole a) (whole b) → a ≡ b
same_whole a b s =
    let x : a.x ≡ b.x = omega (arith, ints, s.same_x) in
    let y : a.y ≡ b.y = omega (arith, ints, s.same_y) in
    λ i. record { x = x i; y = y i }
