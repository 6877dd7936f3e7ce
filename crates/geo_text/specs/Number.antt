-- Whole numbers as fields write them. This project's own.
use Rattle.std.specs.Char.{is_ascii_digit}
use Rattle.std.specs.List.{list_all}
use Rattle.std.specs.Prelude.{ℕ, ℤ, Bool, false, List, [], ◌∷◌, nat_le, unsigned_abs}
use Rattle.std.specs.Str.Parse.{signed_digits_value, without_leading_sign}

-- one or more decimal digits, and nothing else
abbrev pub are_digits : List ℕ → Bool
are_digits [] = false
are_digits (c ∷ cs) = list_all is_ascii_digit (c ∷ cs)

-- an optional sign, and one or more decimal digits
abbrev pub is_number : List ℕ → Bool
is_number field = are_digits (without_leading_sign field)

-- the whole number that such a field is, however many digits it has
abbrev pub number_of : List ℕ → ℤ
number_of field = signed_digits_value 10 field

-- the number is within the limit
abbrev pub is_coordinate : ℕ → List ℕ → Bool
is_coordinate limit field = nat_le (unsigned_abs (number_of field)) limit
