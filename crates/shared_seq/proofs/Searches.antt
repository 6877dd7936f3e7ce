-- The parts of a list that is searched by halves.
use Rattle.std.proofs.Common.{◌≡◌, sym, ap, ◌∙◌, ℕ, ◌+◌, ◌<◌, List, [], ◌∷◌, ◌++◌, length, slice_index, append_assoc, length-append, arith}
use Rattle.std.proofs.Math.Seq.{get_or-append_seam}
use Rattle.std.proofs.lemmas.List.{append-nil, get_or-append-add, get_or_append_left}
use Rattle.shared_seq.specs.Search.{AreHalves, ListPart}

-- the values of a part stand in the list, from its place on
pub record IsPartOf (list : List ℕ) (part : ListPart) : Type 0 where
  pub front : List ℕ
  pub back : List ℕ
  pub is : list ≡ front ++ (part.items ++ back)
  pub place : length front ≡ part.low

-- so do those of the whole list,
pub whole_is_part : (list : List ℕ) (part : ListPart) → part.low ≡ 0 → part.items ≡ list → IsPartOf list part
whole_is_part list part first all = record {
  front = [];
  back = [];
  is = sym (append-nil part.items ∙ all);
  place = sym first;
}

-- each at its place
pub part_at : (list : List ℕ) (part : ListPart) (i : ℕ) → IsPartOf list part → i < length part.items
    → slice_index list (part.low + i) ≡ slice_index part.items i
part_at list part i in_list within =
    ap (λ n. slice_index list (n + i)) (sym in_list.place)
    ∙ ap (λ items. slice_index items (length in_list.front + i)) in_list.is
    ∙ get_or-append-add in_list.front (part.items ++ in_list.back) i 0
    ∙ get_or_append_left part.items in_list.back 0 i within

module _ (part before after : ListPart) (value : ℕ) (halves : AreHalves part before value after) where
  -- a part has the values of its halves and one more,
  pub halves_length : length part.items ≡ length before.items + length after.items + 1
  halves_length = omega (arith, ap length halves.items, length-append before.items (value ∷ after.items))

  -- and ends where the half after the value ends
  pub after_end : part.low + length part.items ≡ after.low + length after.items
  after_end = omega (arith, halves.after_low, halves_length)

  module _ (list : List ℕ) (in_list : IsPartOf list part) where
    -- the value is the one of the list at the place between the halves,
    in_two : list ≡ in_list.front ++ (before.items ++ value ∷ (after.items ++ in_list.back))
    in_two = in_list.is ∙ ap (λ items. in_list.front ++ (items ++ in_list.back)) halves.items
        ∙ ap (λ items. in_list.front ++ items) (append_assoc before.items (value ∷ after.items) in_list.back)

    pub middle_is : slice_index list (part.low + length before.items) ≡ value
    middle_is = ap (λ n. slice_index list (n + length before.items)) (sym in_list.place)
        ∙ ap (λ items. slice_index items (length in_list.front + length before.items)) in_two
        ∙ get_or-append-add in_list.front (before.items ++ value ∷ (after.items ++ in_list.back)) (length before.items) 0
        ∙ get_or-append_seam before.items value (after.items ++ in_list.back) 0

    -- and the halves are parts of the list
    pub before_is_part : IsPartOf list before
    before_is_part = record {
      front = in_list.front;
      back = value ∷ (after.items ++ in_list.back);
      is = in_two;
      place = in_list.place ∙ sym halves.low;
    }

    pub after_is_part : IsPartOf list after
    after_is_part = record {
      front = in_list.front ++ (before.items ++ value ∷ []);
      back = in_list.back;
      is = in_two ∙ sym (append_assoc in_list.front (before.items ++ value ∷ []) (after.items ++ in_list.back)
          ∙ ap (λ items. in_list.front ++ items) (append_assoc before.items (value ∷ []) (after.items ++ in_list.back)));
      place = omega (
        arith,
        length-append in_list.front (before.items ++ value ∷ []),
        length-append before.items (value ∷ []),
        in_list.place,
        halves.after_low,
      );
    }
