-- The texts that answers are made of. This project's own.
use Rattle.std.specs.Fmt.{signed_decimal}
use Rattle.std.specs.Ordering.{int_eq}
use Rattle.std.specs.Prelude.{ℕ, ℤ, pos, if◌then◌else◌, List, ◌++◌, codes, decimal}
use Rattle.plane.specs.Point.{Point, Triple}
use Rattle.exact_frac.specs.Lowest.{lowest_den, lowest_num}
use Rattle.geo_text.specs.declared.command.Bad.{Bad}
use Rattle.geo_text.specs.declared.command.Bad.TheVariants as bad

-- a comma and a number in decimal
abbrev pub index_text : ℕ → List ℕ
index_text n = codes "," ++ decimal n

-- a comma, x, a comma and y, in decimal
abbrev pub pt_text : Point → List ℕ
pt_text p = codes "," ++ signed_decimal p.x ++ codes "," ++ signed_decimal p.y

-- a fraction in lowest terms, with the sign at the numerator; the denominator 1 is not written
abbrev pub terms_text : ℤ → ℤ → List ℕ
terms_text num den = if int_eq den (pos 1) then signed_decimal num else (signed_decimal num ++ codes "/" ++ signed_decimal den)

-- the number num / den, as a fraction in lowest terms
abbrev pub fraction_text : ℤ → ℤ → List ℕ
fraction_text num den = terms_text (lowest_num num den) (lowest_den num den)

-- a comma, X / W, a comma and Y / W
abbrev pub hom_text : Triple → List ℕ
hom_text p = codes "," ++ fraction_text p.X p.W ++ codes "," ++ fraction_text p.Y p.W

-- what is between `bad,` and the end of the line
abbrev pub fault_text : Bad → List ℕ
fault_text bad.Word = codes "word"
fault_text bad.Fields = codes "fields"
fault_text bad.Few = codes "few"
fault_text bad.Many = codes "many"
fault_text (bad.Number place) = codes "number" ++ index_text place
fault_text (bad.Range place) = codes "range" ++ index_text place
fault_text (bad.Clash i j) = codes "clash" ++ index_text i ++ index_text j
fault_text bad.NoPolygon = codes "no_polygon"
fault_text (bad.Outside point) = codes "outside" ++ index_text point
fault_text bad.NoTree = codes "no_tree"
fault_text (bad.Index place) = codes "index" ++ index_text place
fault_text bad.Large = codes "large"

-- the whole line of a refusal
abbrev pub bad_text : Bad → List ℕ
bad_text fault = codes "bad," ++ fault_text fault ++ codes "\n"
