-- A buffer into which items are put one by one.
use Rattle.std.proofs.Common.{◌≡◌, ◌∙◌, ap, sym, subst, ℕ, ◌+◌, ◌<◌, List, [], ◌∷◌, ◌++◌, append_assoc, append-nil, arith, drop, get_or, length}
use Rattle.std.proofs.Common.{length-append, slice_set, take}
use Rattle.std.proofs.lemmas.Grind.{flat_map-append}
use Rattle.std.proofs.lemmas.List.{drop_more, length-drop, length-take, set_at, take_all, take_more}
use Rattle.std.specs.Prelude.{flat_map}
use Rattle.geo_c.specs.Filled.{filled_by}
use Rattle.geo_c.specs.Put.{IsPut}

module _ {X : Type 0} (items before now : List X) (next : ℕ) (so : IsPut items before now next) where
  length_now : length now ≡ length before
  length_now =
      let parts = length-append (take (length before) items) (drop (length items) before) in
      let front = length-take (length before) items in
      let back = length-drop (length items) before in
      ap length so.filled ∙ omega (arith, parts, front, back)

  length_push : (x : X) → length (items ++ x ∷ []) ≡ length items + 1
  length_push x = length-append items (x ∷ [])

  -- one more is put behind them, where it fits,
  pub put_more : (x : X) (after : List X) (next' : ℕ) → next < length now → after ≡ slice_set now next x → next' ≡ next + 1
      → IsPut (items ++ x ∷ []) before after next'
  put_more x after next' fits is is' =
      let count = length_push x in
      let here : length items ≡ next = omega (arith, so.place, length_now, fits) in
      let room : length items < length before = omega (arith, so.place, length_now, fits) in
      let b = get_or before (length items) x in
      let rest = drop (length items + 1) before in
      let was : now ≡ items ++ b ∷ rest =
      so.filled ∙ ap (λ (l : List X). l ++ drop (length items) before) (take_all (length before) items (omega (arith, room)))
      ∙ ap (λ (l : List X). items ++ l) (drop_more before (length items) x room) in
      let set : slice_set now next x ≡ items ++ x ∷ rest = ap (λ (l : List X). slice_set l next x) was ∙ set_at items b rest x next here in
      let all : take (length before) (items ++ x ∷ []) ≡ items ++ x ∷ [] = take_all (length before) (items ++ x ∷ []) (omega (arith, count, room)) in
      let filled : filled_by (items ++ x ∷ []) before ≡ items ++ x ∷ rest =
      ap (λ (l : List X). l ++ drop (length (items ++ x ∷ [])) before) all ∙ ap (λ (n : ℕ). (items ++ x ∷ []) ++ drop n before) count ∙ append_assoc items (x ∷ []) rest in
      record { filled = is ∙ set ∙ sym filled; place = omega (arith, is', here, count, room) }

-- all items that a function makes of a list
module _ {X Y : Type 0} (xs : List X) (k : ℕ) (before now : List Y) (next : ℕ) where
  pub flat_put : (f : X → List Y) (d : X) → k < length xs → IsPut (flat_map f (take k xs) ++ f (get_or xs k d)) before now next → IsPut (flat_map f (take (k + 1) xs)) before now next
  flat_put f d below so =
      let x = get_or xs k d in
      let one : flat_map f (take (k + 1) xs) ≡ flat_map f (take k xs) ++ f x =
      ap (flat_map f) (take_more xs k d below) ∙ flat_map-append f (take k xs) (x ∷ []) ∙ ap (λ (l : List Y). flat_map f (take k xs) ++ l) (append-nil (f x)) in
      subst (λ (l : List Y). IsPut l before now next) (sym one) so

-- some items more of a list
pub items_put : {X : Type 0} (items xs : List X) (k : ℕ) (d : X) (before now : List X) (next : ℕ) → k < length xs
    → IsPut (items ++ take k xs ++ get_or xs k d ∷ []) before now next → IsPut (items ++ take (k + 1) xs) before now next
items_put {X = X} items xs k d before now next below so =
    let more : items ++ take k xs ++ get_or xs k d ∷ [] ≡ items ++ take (k + 1) xs =
    append_assoc items (take k xs) (get_or xs k d ∷ []) ∙ ap (λ (l : List X). items ++ l) (sym (take_more xs k d below)) in
    subst (λ (l : List X). IsPut l before now next) more so
