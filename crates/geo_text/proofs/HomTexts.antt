-- Texts of fractions and of rational points.
use Rattle.std.proofs.Common.{◌≡◌, ◌++◌, List, ℕ, ℤ, pos, ◌*ℤ◌, ◌<ℤ◌, ap₂}
use Rattle.std.specs.Prelude.{codes}
use Rattle.plane.specs.Point.{IsPoint, IsSame, Triple}
use Rattle.exact_frac.proofs.LowestTerms.{lowest_of, same_lowest}
use Rattle.exact_frac.specs.Lowest.{IsLowest}
use Rattle.geo_text.specs.Texts.{fraction_text, hom_text, terms_text}

-- the text of a fraction in lowest terms is that of each fraction with its value
lowest_text : (num den a d : ℤ) → pos 0 <ℤ den → IsLowest a d → a *ℤ den ≡ num *ℤ d → terms_text a d ≡ fraction_text num den
lowest_text num den a d positive lowest same =
    let (same_num, same_den) = lowest_of num den a d positive lowest same in
    ap₂ terms_text same_num same_den

-- the text of a rational point, by its coordinates in lowest terms
pub lowest_hom_text : (p : Triple) (a d b e : ℤ) → IsPoint p → IsLowest a d → a *ℤ p.W ≡ p.X *ℤ d → IsLowest b e → b *ℤ p.W ≡ p.Y *ℤ e
    → codes "," ++ terms_text a d ++ codes "," ++ terms_text b e ≡ hom_text p
lowest_hom_text p a d b e positive lowest_x same_x lowest_y same_y =
    ap₂ (λ (x y : List ℕ). codes "," ++ x ++ codes "," ++ y)
    (lowest_text p.X p.W a d positive lowest_x same_x) (lowest_text p.Y p.W b e positive lowest_y same_y)

-- two fractions with one value have one text,
same_fraction_text : (x w y v : ℤ) → pos 0 <ℤ w → pos 0 <ℤ v → x *ℤ v ≡ y *ℤ w → fraction_text x w ≡ fraction_text y v
same_fraction_text x w y v hw hv same =
    let (same_num, same_den) = same_lowest x w y v hw hv same in
    ap₂ terms_text same_num same_den

-- and so have two triples of one rational point
pub same_hom_text : (p q : Triple) → IsPoint p → IsPoint q → IsSame p q → hom_text p ≡ hom_text q
same_hom_text p q hp hq same =
    ap₂ (λ (x y : List ℕ). codes "," ++ x ++ codes "," ++ y)
    (same_fraction_text p.X p.W q.X q.W hp hq same.same_x) (same_fraction_text p.Y p.W q.Y q.W hp hq same.same_y)
