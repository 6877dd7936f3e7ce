-- Three different classes: each is what the other two leave; and classes that are named anew by those of three corners.
use Rattle.std.proofs.Common.{◌≡◌, ◌≢◌, ◌⊎◌, inl, inr, sym, ℕ, ◌+◌, ◌-◌, ◌<◌, arith, ◌==◌}
use Rattle.std.proofs.lemmas.Bool.{cases_eq}
use Rattle.std.specs.Prelude.{if◌then◌else◌}
use Rattle.guards3.specs.Parting.{AreThreeClasses}

-- the three add up to 3
pub sum_of_three : (x y z : ℕ) → AreThreeClasses x y z → x + y + z ≡ 3
sum_of_three x y z three = omega (arith, three.first, three.second, three.third, three.x_y, three.y_z, three.z_x)

-- from the second one on
pub three_turned : (x y z : ℕ) → AreThreeClasses x y z → AreThreeClasses y z x
three_turned x y z three = record {
  first = three.second;
  second = three.third;
  third = three.first;
  x_y = three.y_z;
  y_z = three.z_x;
  z_x = three.x_y;
}

-- the other way round
pub three_back : (x y z : ℕ) → AreThreeClasses x y z → AreThreeClasses z y x
three_back x y z three = record {
  first = three.third;
  second = three.second;
  third = three.first;
  x_y = λ e. three.y_z (sym e);
  y_z = λ e. three.x_y (sym e);
  z_x = λ e. three.z_x (sym e);
}

-- each class is one of them
pub one_of_three : (x y z class : ℕ) → AreThreeClasses x y z → class < 3 → (x ≡ class) ⊎ (y ≡ class) ⊎ (z ≡ class)
one_of_three x y z class three below = elim (cases_eq x class) [
  | inl first ↦ inl first
  | inr not_first ↦ elim (cases_eq y class) [
    | inl second ↦ inr (inl second)
    | inr not_second ↦ inr (inr (omega (arith, sum_of_three x y z three, three.first, three.second, three.x_y)))
  ]
]

-- two different classes leave a third
pub three_with : (x y : ℕ) → x < 3 → y < 3 → x ≢ y → AreThreeClasses x (3 - x - y) y
three_with x y first last differ = record {
  first = first;
  second = omega arith;
  third = last;
  x_y = λ e. omega arith;
  y_z = λ e. omega arith;
  z_x = λ e. differ (sym e);
}

-- ---- new names

-- x gets the name 0, y the name 1, and any other class the name 2
abbrev pub named : ℕ → ℕ → ℕ → ℕ
named x y class = if class == x then 0 else (if class == y then 1 else 2)

-- the names
pub named_first : (x y : ℕ) → named x y x ≡ 0
named_first x y = grind arith

pub named_second : (x y : ℕ) → x ≢ y → named x y y ≡ 1
named_second x y differ = grind arith

pub named_third : (x y z : ℕ) → z ≢ x → y ≢ z → named x y z ≡ 2
named_third x y z not_x not_y = grind arith

pub named_below : (x y class : ℕ) → named x y class < 3
named_below x y class = grind arith

-- two classes with one name are one
pub one_named : (x y z : ℕ) → AreThreeClasses x y z → (c d : ℕ) → c < 3 → d < 3 → named x y c ≡ named x y d → c ≡ d
one_named x y z three c d c_below d_below same =
    let of_c = one_of_three x y z c three c_below in
    let of_d = one_of_three x y z d three d_below in
    grind (arith, three.x_y, three.y_z, three.z_x)

-- so three classes have three names
pub three_named : (x y z : ℕ) → AreThreeClasses x y z → (c d e : ℕ) → AreThreeClasses c d e → AreThreeClasses (named x y c) (named x y d) (named x y e)
three_named x y z three c d e others =
    let one = one_named x y z three in
    record {
      first = named_below x y c;
      second = named_below x y d;
      third = named_below x y e;
      x_y = λ same. others.x_y (one c d others.first others.second same);
      y_z = λ same. others.y_z (one d e others.second others.third same);
      z_x = λ same. others.z_x (one e c others.third others.first same);
    }
