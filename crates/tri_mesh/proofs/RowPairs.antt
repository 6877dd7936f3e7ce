-- The rows of the table, linked at two sides between the same corners.
use Rattle.std.proofs.Common.{◌≡◌, sym, ◌∙◌, ℕ, ◌<◌, inl, inr, List, [], length, arith, Some}
use Rattle.std.proofs.Math.ListN.{length-set}
use Rattle.std.proofs.lemmas.Bool.{cases_eq}
use Rattle.std.specs.List.{All}
use Rattle.std.specs.Prelude.{Option, slice_index_or, slice_set}
use Rattle.tri_mesh.proofs.RowSteps.{has_owner_here, has_owner_kept, owner_cases, owner_kept, with_three}
use Rattle.tri_mesh.specs.Neighbours.{AreLinkedRows, ArePaired, AreShared, HasMore, HasOwner, IsPartner, owner_at, rows_linked, rows_with, side_at}
use Rattle.tri_mesh.specs.declared.sides.Side.{Side}

module _ (m n : ℕ) (sides : List Side) (paired : ArePaired m n sides) where
  -- sides of one triangle with one number are one
  same_place : (x y : ℕ) → x < length sides → y < length sides → (side_at sides x).tri ≡ (side_at sides y).tri
      → (side_at sides x).number ≡ (side_at sides y).number → x ≡ y
  same_place x y x_below y_below tri number = omega (arith, paired.place x x_below, paired.place y y_below, tri, number)

  module _ (rows : List (List (Option ℕ))) (linked : AreLinkedRows m sides rows) (p q : ℕ) (p_below : p < length sides) (q_below : q < length sides)
      (shared : AreShared (side_at sides p) (side_at sides q)) where
    abbrev s : Side
    s = side_at sides p

    abbrev t : Side
    t = side_at sides q

    abbrev after_first : List (List (Option ℕ))
    after_first = rows_with rows s t.tri

    abbrev after : List (List (Option ℕ))
    after = rows_linked rows s t

    s_row : s.tri < length rows
    s_row = omega (arith, linked.count, paired.in_list p p_below)

    t_row : t.tri < length after_first
    t_row = omega (arith, linked.count, paired.in_list q q_below, length-set rows s.tri (slice_set (slice_index_or rows s.tri []) s.number (Some t.tri)))

    three_first : All (λ row. length row ≡ 3) after_first
    three_first = with_three rows s t.tri s_row (paired.in_row p p_below) linked.three

    back : AreShared t s
    back = record { low = sym shared.low; high = sym shared.high; differ = λ e. shared.differ (sym e) }

    -- what they have is right
    right_after : (x other : ℕ) → x < length sides → owner_at after (side_at sides x).tri (side_at sides x).number ≡ Some other
        → IsPartner sides x other
    right_after x other below is = elim (owner_cases after_first t s.tri t_row (paired.in_row q q_below) three_first _ _ other is) [
      | inl new ↦ rw (same_place x q below q_below new.0.0 new.0.1) (record { q = p; in_list = p_below; shared = back; is = sym new.1 })
      | inr first ↦ elim (owner_cases rows s t.tri s_row (paired.in_row p p_below) linked.three _ _ other first) [
        | inl new ↦ rw (same_place x p below p_below new.0.0 new.0.1) (record { q = q; in_list = q_below; shared = shared; is = sym new.1 })
        | inr old ↦ linked.right x other below old
      ]
    ]

    -- what had a triangle has one
    pub more_after : HasMore rows after
    more_after r had =
        has_owner_kept after_first t s.tri t_row (paired.in_row q q_below) three_first r
        (has_owner_kept rows s t.tri s_row (paired.in_row p p_below) linked.three r had)

    -- and both sides have one
    pub first_has : HasOwner after s
    first_has =
        has_owner_kept after_first t s.tri t_row (paired.in_row q q_below) three_first s
        (has_owner_here rows s t.tri s_row (paired.in_row p p_below) linked.three)

    second_has : HasOwner after t
    second_has = has_owner_here after_first t s.tri t_row (paired.in_row q q_below) three_first

    -- the others have what they had
    had_before : (x : ℕ) → x < length sides → ¬ (x ≡ p) → ¬ (x ≡ q) → HasOwner after (side_at sides x) → HasOwner rows (side_at sides x)
    had_before x below not_p not_q has none =
        has (owner_kept after_first t s.tri t_row (paired.in_row q q_below) three_first _ _ (λ e. not_q (same_place x q below q_below e.0 e.1))
        ∙ owner_kept rows s t.tri s_row (paired.in_row p p_below) linked.three _ _ (λ e. not_p (same_place x p below p_below e.0 e.1)) ∙ none)

    both_after : (x y : ℕ) → x < length sides → y < length sides → AreShared (side_at sides x) (side_at sides y) → HasOwner after (side_at sides x)
        → HasOwner after (side_at sides y)
    both_after x y x_below y_below between has = elim (cases_eq x p) [
      | inl is_p ↦ rw (paired.pairs p y q p_below y_below q_below (rw is_p at between) shared) second_has
      | inr not_p ↦ elim (cases_eq x q) [
        | inl is_q ↦ rw (paired.pairs q y p q_below y_below p_below (rw is_q at between) back) first_has
        | inr not_q ↦ more_after (side_at sides y) (linked.both x y x_below y_below between (had_before x x_below not_p not_q has))
      ]
    ]

    pub linked_after : AreLinkedRows m sides after
    linked_after = record {
      count = length-set after_first t.tri _ ∙ length-set rows s.tri _ ∙ linked.count;
      three = with_three after_first t s.tri t_row (paired.in_row q q_below) three_first;
      right = right_after;
      both = both_after;
    }
