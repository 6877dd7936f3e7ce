-- What a point sees has one text, and so has a kernel: rational points may be given by other triples, but their texts are the same.
use Rattle.std.proofs.Common.{◌≡◌, ◌∙◌, refl, sym, ap, ap₂, ℕ, suc, pos, ◌*◌, ◌<◌, List, [], ◌∷◌, ◌++◌, length, arith}
use Rattle.std.proofs.Math.Nat.{mod-eq_of_lt}
use Rattle.std.specs.Prelude.{codes, flat_map, slice_index_or}
use Rattle.plane.proofs.CornerLists.{corners_are_one}
use Rattle.plane.specs.Point.{IsPoint, IsSame, Point, Triple}
use Rattle.plane.specs.Region.{IsCornerList, corner_at}
use Rattle.rings.proofs.Views.{parts_are_one}
use Rattle.rings.specs.Visible.{AreParts, Part, part_at}
use Rattle.geo_text.proofs.HomTexts.{same_hom_text}
use Rattle.geo_text.specs.Texts.{hom_text, index_text}
use Rattle.geo_reply.specs.ReplyText.{corner_text, lines_text, part_text}

-- two lists of lines are one text where each two lines are
one_join : {T : Type 0} (line : T → List ℕ) (d : T) (xs ys : List T) → length xs ≡ length ys
    → ((k : ℕ) → k < length xs → line (slice_index_or xs k d) ≡ line (slice_index_or ys k d)) → flat_map line xs ≡ flat_map line ys
one_join line d [] [] e same = refl
one_join line d [] (y ∷ ys) e same = absurd (omega (arith, e))
one_join line d (x ∷ xs) [] e same = absurd (omega (arith, e))
one_join line d (x ∷ xs) (y ∷ ys) e same =
    ap₂ (λ (front rest : List ℕ). front ++ rest) (same 0 (omega arith))
    (one_join line d xs ys (omega (arith, e)) (λ k below. same (suc k) (omega (arith, below))))

-- two parts of one edge with the same points as ends have one line,
one_part_text : (a b : Part) → IsPoint a.first → IsPoint a.last → IsPoint b.first → IsPoint b.last → a.edge ≡ b.edge
    → IsSame a.first b.first → IsSame a.last b.last → part_text a ≡ part_text b
one_part_text a b first last first_too last_too edge same_first same_last =
    ap (λ (k : ℕ). codes "part" ++ index_text k ++ hom_text a.first ++ hom_text a.last ++ codes "\n") edge
    ∙ ap₂ (λ (x y : List ℕ). codes "part" ++ index_text b.edge ++ x ++ y ++ codes "\n")
    (same_hom_text a.first b.first first first_too same_first) (same_hom_text a.last b.last last last_too same_last)

module _ (ring : List Point) (q : Triple) (parts others : List Part) (are : AreParts ring q parts) (are_too : AreParts ring q others) where
  -- and so have all that a point sees
  pub one_see_text : lines_text (codes "see") part_text parts ≡ lines_text (codes "see") part_text others
  one_see_text =
      let one = parts_are_one ring q parts others are are_too in
      ap₂ (λ (n : ℕ) (lines : List ℕ). codes "see" ++ index_text n ++ codes "\n" ++ lines) one.one_length
      (one_join part_text _ parts others one.one_length (λ k below.
      let there = are.parts_seen k below in
      let here = are_too.parts_seen k (omega (arith, below, one.one_length)) in
      one_part_text (part_at parts k) (part_at others k) there.first_rational there.last_rational here.first_rational here.last_rational
      (one.same_edge k below) (one.same_first k below) (one.same_last k below)))

  -- and as many steps are enough for its lines
  pub one_see_steps : 128 * length parts ≡ 128 * length others
  one_see_steps = ap (λ (n : ℕ). 128 * n) (parts_are_one ring q parts others are are_too).one_length

module _ (set : Triple → Type 0) (corners others : List Triple) (list : IsCornerList set corners) (list_too : IsCornerList set others) where
  corner_number : (cs : List Triple) (k : ℕ) → k < length cs
      → corner_at cs k ≡ slice_index_or cs k (record { X = pos 0; Y = pos 0; W = pos 1 })
  corner_number cs k below = ap (λ j. slice_index_or cs j (record { X = pos 0; Y = pos 0; W = pos 1 })) (mod-eq_of_lt below)

  -- the corners of a set have one text
  pub one_kernel_text : lines_text (codes "kernel") corner_text corners ≡ lines_text (codes "kernel") corner_text others
  one_kernel_text =
      let one = corners_are_one set corners others list list_too in
      ap₂ (λ (n : ℕ) (lines : List ℕ). codes "kernel" ++ index_text n ++ codes "\n" ++ lines) one.one_length
      (one_join corner_text _ corners others one.one_length (λ k below.
      let below_too : k < length others = omega (arith, below, one.one_length) in
      ap corner_text (sym (corner_number corners k below))
      ∙ ap (λ (t : List ℕ). codes "corner" ++ t ++ codes "\n")
      (same_hom_text (corner_at corners k) (corner_at others k) (list.are_corners.rational k below) (list_too.are_corners.rational k below_too)
      (one.same_corner k below))
      ∙ ap corner_text (corner_number others k below_too)))

  pub one_kernel_steps : 64 * length corners ≡ 64 * length others
  one_kernel_steps = ap (λ (n : ℕ). 64 * n) (corners_are_one set corners others list list_too).one_length
