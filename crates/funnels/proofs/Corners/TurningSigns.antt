-- More signs that follow from the relation of four directions, over plain integers: ab is positive where b is left of a.
use Rattle.std.proofs.Common.{◌≡◌, ℤ, pos, ◌<ℤ◌, ◌≤ℤ◌, arith}
use Rattle.std.proofs.lemmas.Int.{ints}
use Rattle.integer_algebra.proofs.Certificate.{product_zero}
use Rattle.integer_algebra.proofs.SignSteps.{not_both, weak}
use Rattle.integer_algebra.proofs.Signs.{factor_nonnegative, factor_positive, is_negative, is_positive, is_zero, mul_negative}
use Rattle.integer_algebra.proofs.Signs.{mul_nonnegative, mul_positive, sign}
use Rattle.funnels.proofs.Bends.{Relation}

-- four directions: b not right of a nor left of c, c left of a, d right of b but left of c: then c is left of b
pub left_of_second : {ab ac ad bc bd cd : ℤ} → Relation ab ac ad bc bd cd → pos 0 ≤ℤ ab → pos 0 <ℤ ac → pos 0 ≤ℤ bc → bd <ℤ pos 0
    → pos 0 <ℤ cd → pos 0 <ℤ bc
left_of_second {ab} {ac} {ad} {bc} {bd} {cd} e hab hac hbc hbd hcd = elim (sign bc) [
  | is_positive n ↦ n
  | is_negative n ↦ absurd (not_both n hbc)
  | is_zero n ↦
      let first = mul_nonnegative ab cd hab (omega (arith, ints)) in
      let middle = mul_negative ac bd hac hbd in
      let last = product_zero ad n in
      let holds = e.holds in
      absurd (omega (arith, ints))
]

-- four directions: b not right of a nor left of d, c right of d and not of b, d left of a: then c is not right of a,
-- where b is not in line with both
pub not_right_of_first : {ab ac ad bc bd cd : ℤ} → Relation ab ac ad bc bd cd → pos 0 ≤ℤ ab → pos 0 <ℤ ad → pos 0 ≤ℤ bc → pos 0 ≤ℤ bd
    → pos 0 <ℤ cd → ¬ ((ab ≡ pos 0) × (bd ≡ pos 0)) → pos 0 ≤ℤ ac
not_right_of_first {ab} {ac} {ad} {bc} {bd} {cd} e hab had hbc hbd hcd apart =
    let first = mul_nonnegative ab cd hab (weak hcd) in
    let last = mul_nonnegative ad bc (weak had) hbc in
    let holds = e.holds in
    elim (sign bd) [
      | is_negative n ↦ absurd (not_both n hbd)
      | is_positive n ↦ factor_nonnegative bd ac n (omega (arith, ints))
      | is_zero n ↦ elim (sign ab) [
        | is_negative m ↦ absurd (not_both m hab)
        | is_zero m ↦ absurd (apart (m, n))
        | is_positive m ↦
            let some = mul_positive ab cd m hcd in
            let none = product_zero ac n in
            absurd (omega (arith, ints))
      ]
    ]

-- b in line with a, c left of b, d left of a and not right of b: then c is left of a
pub left_of_line : {ab ac ad bc bd cd : ℤ} → Relation ab ac ad bc bd cd → ab ≡ pos 0 → pos 0 <ℤ ad → pos 0 <ℤ bc → pos 0 ≤ℤ bd → pos 0 <ℤ ac
left_of_line {ab} {ac} {ad} {bc} {bd} {cd} e hab had hbc hbd =
    let first = product_zero cd hab in
    let last = mul_positive ad bc had hbc in
    let holds = e.holds in
    elim (sign bd) [
      | is_negative n ↦ absurd (not_both n hbd)
      | is_zero n ↦ let none = product_zero ac n in absurd (omega (arith, ints))
      | is_positive n ↦ factor_positive bd ac n (omega (arith, ints))
    ]
