use Rattle.std.proofs.Common.{◌≡◌, ◌∙◌, ◌++◌, ◌∷◌, FitsSigned, List, ap, append_assoc, rules, sym, ℕ}
use Rattle.std.proofs.lemmas.Int.{to_z-of_z}
use Rattle.std.specs.Int.{w128}
use Rattle.std.specs.Prelude.{codes}
use Rattle.geo_text.proofs.HomTexts.{lowest_hom_text}
use Rattle.geo_text.proofs.ending.Ending.put_hom.Goals as goal

-- two texts, each put with a comma before what was there
two_put : (x y old a b c d : List ℕ) → a ≡ y ++ old → b ≡ 44 ∷ a → c ≡ x ++ b → d ≡ 44 ∷ c → d ≡ (codes "," ++ x ++ codes "," ++ y) ++ old
two_put x y old a b c d put_y comma_y put_x comma_x = rw comma_x (rw put_x (rw comma_y (rw put_y
    (sym (append_assoc (codes "," ++ x ++ codes ",") y old ∙ append_assoc (codes "," ++ x) (codes ",") (y ++ old))))))

pub returns-clause-text : goal.returns-clause-text
returns-clause-text g c =
    let parts = c.parts-x.ensures in
    let fits_x : FitsSigned w128 c.parts-x.result.0 = search rules in
    let fits_y : FitsSigned w128 c.parts-x.result.1 = search rules in
    let fits_w : FitsSigned w128 c.parts-x.result.2 = search rules in
    let value_y = simp (parts.y, parts.w) at (simp to_z-of_z at c.lowest.ensures.value) in
    let value_x = simp (parts.x, parts.w) at (simp to_z-of_z at c.lowest-2.ensures.value) in
    let text = lowest_hom_text c.args.p.now _ _ _ _ parts.sizes.rational
    c.lowest-2.result.in_lowest_terms value_x c.lowest.result.in_lowest_terms value_y in
    two_put _ _ c.args.self.now _ _ _ _ c.put_fraction.ensures.text c.put_mark.ensures.text c.put_fraction-2.ensures.text c.put_mark-2.ensures.text
    ∙ ap (λ (t : List ℕ). t ++ c.args.self.now) text
