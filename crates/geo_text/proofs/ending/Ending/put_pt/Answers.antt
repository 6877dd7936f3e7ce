use Rattle.std.proofs.Common.{◌≡◌, ◌∙◌, ◌+◌, ◌≤◌, ◌++◌, FitsSigned, List, ap, arith, length, length-append, rules, w64, ℕ}
use Rattle.std.proofs.lemmas.Int.{to_z-of_z}
use Rattle.geo_text.proofs.DigitCounts.{coordinate_length}
use Rattle.geo_text.proofs.ending.Ending.put_pt.Goals as goal

-- two texts of at most eight bytes, each put with a comma before what was there
two_short : (x y old a b c d : List ℕ) → a ≡ y ++ old → length b ≡ 1 + length a → c ≡ x ++ b → length d ≡ 1 + length c → length x ≤ 8 → length y ≤ 8
    → length d ≤ 18 + length old
two_short x y old a b c d put_y comma_y put_x comma_x short_x short_y =
    let long_a = ap length put_y ∙ length-append y old in
    let long_c = ap length put_x ∙ length-append x b in
    omega (arith, long_a, comma_y, long_c, comma_x, short_x, short_y)

pub returns-clause-longer : goal.returns-clause-longer
returns-clause-longer g c =
    let fits_x : FitsSigned w64 c.parts-x.result.0 = search rules in
    let fits_y : FitsSigned w64 c.parts-x.result.1 = search rules in
    two_short _ _ c.args.self.now _ _ _ _ c.put_signed.ensures.text c.put_mark.ensures.longer c.put_signed-2.ensures.text c.put_mark-2.ensures.longer
    (rw (to_z-of_z w64 c.parts-x.result.0 fits_x, c.parts-x.ensures.x) (coordinate_length c.args.p.now.x c.parts-x.ensures.bounds.x_in_limit))
    (rw (to_z-of_z w64 c.parts-x.result.1 fits_y, c.parts-x.ensures.y) (coordinate_length c.args.p.now.y c.parts-x.ensures.bounds.y_in_limit))
