-- A list that a loop fills with what a function makes of each element of another, a text that it writes so, and the steps of that.
use Rattle.std.proofs.Common.{◌≡◌, ◌∙◌, ap, sym, arith, append_assoc, ℕ, ◌+◌, ◌*◌, ◌<◌, ◌≤◌, List, [], ◌∷◌, ◌++◌, get_or, length, map, take}
use Rattle.std.proofs.lemmas.List.{append-nil, flat_map_more, length-map, length-take-le, map_more, take_all, take_more}
use Rattle.std.proofs.lemmas.List.Sums.{sum_by-cons}
use Rattle.std.specs.List.{sum_by}
use Rattle.std.specs.Prelude.{flat_map}

module _ {X Y : Type 0} (f : X → Y) (xs : List X) (k : ℕ) (made : List Y) (front : made ≡ map f (take k xs)) where
  -- one more,
  pub map_pushed : (d : X) (y : Y) (more : List Y) → k < length xs → y ≡ f (get_or xs k d) → more ≡ made ++ y ∷ [] → more ≡ map f (take (k + 1) xs)
  map_pushed d y more below is pushed =
      pushed ∙ ap (λ l. l ++ y ∷ []) front ∙ ap (λ v. map f (take k xs) ++ v ∷ []) is ∙ sym (map_more f xs k d below)

  -- for which there is room,
  pub map_room : (room : ℕ) → k < length xs → length xs ≤ room → length made < room
  map_room room below fits =
      let count = ap length front ∙ length-map (take k xs) f ∙ length-take-le k xs (omega (arith, below)) in
      omega (arith, count, below, fits)

  -- and all of them at the end
  pub map_whole : length xs ≤ k → made ≡ map f xs
  map_whole end = front ∙ ap (map f) (take_all k xs end)

-- A text that a loop writes, a piece for each element.
module _ {X : Type 0} (f : X → List ℕ) (xs : List X) (old front : List ℕ) where
  pub flat_none : (mid : List ℕ) → mid ≡ old ++ front → mid ≡ old ++ (front ++ flat_map f (take 0 xs))
  flat_none mid written = written ∙ ap (λ t. old ++ t) (sym (append-nil front))

  module _ (k : ℕ) (mid : List ℕ) (inside : mid ≡ old ++ (front ++ flat_map f (take k xs))) where
    pub flat_pushed : (y : X) (out : List ℕ) → k < length xs → y ≡ get_or xs k y → out ≡ mid ++ f y
        → out ≡ old ++ (front ++ flat_map f (take (k + 1) xs))
    flat_pushed y out below is written =
        let longer : take k xs ++ y ∷ [] ≡ take (k + 1) xs = ap (λ v. take k xs ++ v ∷ []) is ∙ sym (take_more xs k y below) in
        written
        ∙ ap (λ t. t ++ f y) inside
        ∙ append_assoc old (front ++ flat_map f (take k xs)) (f y)
        ∙ ap (λ t. old ++ t) (flat_map_more f front (take k xs) y ∙ ap (λ l. front ++ flat_map f l) longer)

    pub flat_whole : length xs ≤ k → mid ≡ old ++ (front ++ flat_map f xs)
    flat_whole end = inside ∙ ap (λ l. old ++ (front ++ flat_map f l)) (take_all k xs end)

-- so many for each
pub same_for_each : {X : Type 0} (k : ℕ) (xs : List X) → sum_by (λ x. k) xs ≡ k * length xs
same_for_each k [] = omega arith
same_for_each k (x ∷ xs) = let more = sum_by-cons (λ x. k) x xs in let rest = same_for_each k xs in omega (arith, more, rest)
