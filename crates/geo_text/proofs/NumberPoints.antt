-- The points that numbers are.
use Rattle.std.proofs.Common.{◌≡◌, ◌≤◌, ◌<◌, ◌+◌, ◌*◌, ◌/◌, ◌++◌, ◌∙◌, ℕ, ℤ, pos, List, [], ◌∷◌, length, drop, append-nil, refl, sym, ap, arith}
use Rattle.std.proofs.lemmas.List.{drop_more, length-drop, nil_from_length}
use Rattle.plane.specs.Point.{Point}
use Rattle.geo_text.specs.Reading.{pairs_of, point_read_at}

-- each two numbers are a point,
pub length-pairs_of : (numbers : List ℤ) → length (pairs_of numbers) ≡ length numbers / 2
length-pairs_of [] = refl
length-pairs_of (x ∷ []) = refl
length-pairs_of (x ∷ y ∷ numbers) = omega (arith, length-pairs_of numbers)

-- the next two too,
pub pairs_of_more : (numbers : List ℤ) (k : ℕ) → 2 * k + 1 < length numbers
    → pairs_of (drop (2 * k) numbers) ≡ point_read_at (2 * k) numbers ∷ pairs_of (drop (2 * (k + 1)) numbers)
pairs_of_more numbers k h =
    let first = drop_more numbers (2 * k) (pos 0) (omega arith) in
    let second = drop_more numbers (2 * k + 1) (pos 0) h in
    let next : 2 * k + 1 + 1 ≡ 2 * (k + 1) = omega arith in
    rw (first, second, next) refl

-- and less than two are none
pairs_of_after : (numbers : List ℤ) (place : ℕ) → length numbers ≤ place + 1 → pairs_of (drop place numbers) ≡ []
pairs_of_after numbers place h = nil_from_length (pairs_of (drop place numbers)) (omega (arith, length-pairs_of (drop place numbers), length-drop place numbers))

-- so these are all
pub all_pairs : (numbers : List ℤ) (place : ℕ) (points : List Point) → length numbers ≤ place + 1 → points ++ pairs_of (drop place numbers) ≡ pairs_of numbers
    → points ≡ pairs_of numbers
all_pairs numbers place points h pairs =
    sym (append-nil points) ∙ ap (λ (rest : List Point). points ++ rest) (sym (pairs_of_after numbers place h)) ∙ pairs
