-- The fractions that a call gives back. This project's own.
use Rattle.std.specs.Int.{int_div_euclid, int_rem_euclid}
use Rattle.std.specs.List.{flat_map}
use Rattle.std.specs.Prelude.{ℕ, ◌%◌, ◌^◌, ◌==◌, if◌then◌else◌, ℤ, pos, unsigned_abs, List, [], ◌∷◌}
use Rattle.plane.specs.Point.{Triple}
use Rattle.rings.specs.Visible.{Part}
use Rattle.exact_frac.specs.Lowest.{lowest_den, lowest_num}

-- a fraction of two whole numbers
pub record Fraction : Type 0 where
  pub numerator : ℤ
  pub denominator : ℤ

-- the two words of a numerator: the number of times that it has 2 ^ 64, rounded down, and what is left
abbrev pub high_word : ℤ → ℤ
high_word z = int_div_euclid z (pos (2 ^ 64))

abbrev pub low_word : ℤ → ℕ
low_word z = unsigned_abs (int_rem_euclid z (pos (2 ^ 64)))

-- the number num / den
abbrev pub in_lowest_terms : ℤ → ℤ → Fraction
in_lowest_terms num den = record { numerator = lowest_num num den; denominator = lowest_den num den }

-- x of a point, and y
abbrev pub fraction_x : Triple → Fraction
fraction_x p = in_lowest_terms p.X p.W

abbrev pub fraction_y : Triple → Fraction
fraction_y p = in_lowest_terms p.Y p.W

-- x for an even number, and y for an odd one
abbrev pub fraction_at : ℕ → Triple → Fraction
fraction_at number p = if (number % 2) == 0 then fraction_x p else fraction_y p

-- two of each point, x and y
abbrev pub fractions_of_corners : List Triple → List Fraction
fractions_of_corners corners = flat_map (λ p. fraction_x p ∷ fraction_y p ∷ []) corners

-- the first end of a part for an even number, and the last one for an odd one
abbrev pub end_at : ℕ → Part → Triple
end_at number part = if (number % 2) == 0 then part.first else part.last

-- four of each part: two of its first end, and two of its last
abbrev pub fractions_of_parts : List Part → List Fraction
fractions_of_parts parts = fractions_of_corners (flat_map (λ part. part.first ∷ part.last ∷ []) parts)
