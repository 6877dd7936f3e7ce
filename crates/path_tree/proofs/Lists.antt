-- Lists of points and of numbers: where there are none, and that they are in the bound.
use Rattle.std.proofs.Common.{◌≡◌, refl, ap, List, [], ◌∷◌, ◌++◌, length, ℕ, zero, suc, ◌≤◌, arith}
use Rattle.std.proofs.lemmas.List.{length-append}
use Rattle.std.proofs.lemmas.List.Elements.{All-append}
use Rattle.plane.specs.Point.{Point}
use Rattle.path_tree.specs.Listed.{AreNumbers}

-- where two lists make the empty one, both are
pub none_of_both : (xs ys : List Point) → xs ++ ys ≡ [] → (xs ≡ []) × (length ys ≡ 0)
none_of_both [] ys e = (refl, ap length e)
none_of_both (x ∷ xs) ys e =
    let none : length ((x ∷ xs) ++ ys) ≡ 0 = ap length e in
    absurd (omega (arith, none, length-append (x ∷ xs) ys))

-- one number in the bound alone,
pub one_number : (n m : ℕ) → m ≤ n → AreNumbers n (m ∷ [])
one_number n m le zero d below = le
one_number n m le (suc k) d below = absurd (omega (arith, below))

-- and before others
pub more_numbers : (n m : ℕ) (list : List ℕ) → m ≤ n → AreNumbers n list → AreNumbers n (m ∷ list)
more_numbers n m list le others = All-append (λ i. i ≤ n) (m ∷ []) list (one_number n m le) others
