-- The way back from a vertex to the first one of its row, by what comes before each vertex: the numbers that were given on it.
use Rattle.std.proofs.Common.{◌≡◌, ◌≢◌, refl, inl, inr, sym, ap, subst, ◌∙◌, ℕ, ◌+◌, ◌-◌, ◌<◌, ◌≤◌}
use Rattle.std.proofs.Common.{List, [], ◌∷◌, ◌++◌, length, map, reverse, take, arith}
use Rattle.std.proofs.lemmas.Bool.{cases_eq}
use Rattle.std.proofs.lemmas.List.{append_assoc, get_or-append-add, get_or-map, length-append, length-map, length-reverse, reverse-append}
use Rattle.std.proofs.lemmas.List.Elements.{All-cons, All-nil}
use Rattle.std.specs.List.{All}
use Rattle.plane.specs.Point.{Point}
use Rattle.rings.proofs.Inside.{vertex_in}
use Rattle.rings.specs.Chain.{IsPath}
use Rattle.rings.specs.Ring.{origin, vertex}
use Rattle.funnels.proofs.OneChain.{front_and_last}
use Rattle.funnels.proofs.Trees.{path_differs, path_goes_on, path_of_one}
use Rattle.plane.proofs.Lists.{few_numbers}
use Rattle.pair_cut.specs.Pairs.{IsMadeFor, IsPairPath, pair_before}
use Rattle.pair_cut.specs.Rows.{IsTable}

-- a path to the one vertex goes on over some, and so to the last
abbrev pub GoesOn : List Point → ℕ → ℕ → ℕ → List ℕ → Type 0
GoesOn ring i last at numbers = (front : List Point) → IsPath ring (vertex ring i) (vertex ring at) (front ++ vertex ring at ∷ [])
    → IsPath ring (vertex ring i) (vertex ring last) (front ++ map (vertex ring) (at ∷ numbers))

-- from the last vertex one has gone back to another, and has given the numbers of those on the way, the last one first
pub record IsGoneBack (before : List (List ℕ)) (i last at : ℕ) (names : List ℕ) : Type 0 where
  pub below : All (λ k. k < length before) (at ∷ reverse names)
  pub goes_on : (ring : List Point) → IsMadeFor ring before → GoesOn ring i last at (reverse names)

module _ (before : List (List ℕ)) (table : IsTable before) (i : ℕ) (first : i < length before) where
  -- the first vertex alone is the path to itself,
  alone : (ring : List Point) → IsMadeFor ring before → IsPath ring (vertex ring i) (vertex ring i) (vertex ring i ∷ [])
  alone ring made =
      path_of_one ring made.some made.simple (vertex ring i) (vertex_in ring i (omega (arith, first, made.rows)))

  -- and there is a path to each
  path_there : (ring : List Point) → IsMadeFor ring before → (at : ℕ) → at < length before
      → (front : List Point) × IsPath ring (vertex ring i) (vertex ring at) (front ++ vertex ring at ∷ [])
  path_there ring made at here = elim (cases_eq i at) [
    | inl e ↦ ([], subst (λ k. IsPath ring (vertex ring i) (vertex ring k) (vertex ring k ∷ [])) e (alone ring made))
    | inr differ ↦
        let found = (made.others i at (omega (arith, first, made.rows)) (omega (arith, here, made.rows)) differ).before in
        let taut = (found.is_path found.path).1 refl in (
          take (length found.path - 1) found.path,
          subst (IsPath ring (vertex ring i) (vertex ring at))
              (front_and_last found.path taut.bent.chain.some ∙ ap (λ p. take (length found.path - 1) found.path ++ p ∷ []) taut.last)
              found.is_path,
        )
  ]

  module _ (last : ℕ) where
    -- at first no number is given
    pub back_begins : last < length before → IsGoneBack before i last last []
    back_begins here = record {
      below = All-cons (λ k. k < length before) last [] here (All-nil (λ k. k < length before));
      goes_on = λ ring made front is. is;
    }

    module _ (at : ℕ) (names : List ℕ) (back : IsGoneBack before i last at names) where
      -- where one has not come to the first vertex, there is one before
      pub back_on : i ≢ at → IsGoneBack before i last (pair_before before i at) (names ++ at ∷ [])
      back_on differ =
          let more : reverse (names ++ at ∷ []) ≡ at ∷ reverse names = reverse-append names (at ∷ []) in
          let here : at < length before = back.below 0 0 (omega arith) in
          let m = table.made in
          let next = m.others i at (omega (arith, first, m.rows)) (omega (arith, here, m.rows)) differ in
          record {
            below = All-cons (λ k. k < length before) (pair_before before i at) (reverse (names ++ at ∷ [])) (omega (arith, next.in_ring, m.rows))
                (subst (All (λ k. k < length before)) (sym more) back.below);
            goes_on = λ ring made front is.
                let there = made.others i at (omega (arith, first, made.rows)) (omega (arith, here, made.rows)) differ in
                let s = vertex ring i in
                let x = vertex ring (pair_before before i at) in
                let on = path_goes_on ring made.some made.simple s (vertex ring at) x there.before (front ++ x ∷ []) is in
                subst (λ numbers. IsPath ring s (vertex ring last) (front ++ map (vertex ring) (pair_before before i at ∷ numbers))) (sym more)
                (subst (IsPath ring s (vertex ring last)) (append_assoc front (x ∷ []) (map (vertex ring) (at ∷ reverse names)))
                (back.goes_on ring made (front ++ x ∷ []) on));
          }

      -- no vertex comes twice, so there are no more than the table has
      pub back_few : length names + 1 ≤ length before
      back_few =
          let ring = table.ring in
          let m = table.made in
          let numbers = at ∷ reverse names in
          let (front, is) = path_there ring m at (back.below 0 0 (omega arith)) in
          let points = map (vertex ring) numbers in
          let all = back.goes_on ring m front is in
          let count = length-map numbers (vertex ring) in
          let point = λ (k : ℕ) (within : k < length numbers).
          get_or-append-add front points k origin ∙ get_or-map (vertex ring) numbers k 0 origin within in
          let few : length numbers ≤ length before = few_numbers numbers (length before) (λ k within. back.below k 0 within)
          (λ k l less within same.
          path_differs ring m.some m.simple (vertex ring i) (vertex ring last) (front ++ points) all (length front + k) (length front + l)
          (omega (arith, less)) (omega (arith, length-append front points, count, within))
          (point k (omega (arith, less, within)) ∙ ap (vertex ring) same ∙ sym (point l within))) in
          omega (arith, few, length-reverse names)

      -- at the first vertex, given too, the numbers from there on are those of the path
      pub back_ends : i ≡ at → (ring : List Point) → IsMadeFor ring before → IsPairPath ring i last (reverse (names ++ i ∷ []))
      back_ends same ring made =
          let given : at ∷ reverse names ≡ reverse (names ++ i ∷ []) =
          (λ t. sym same t ∷ reverse names) ∙ sym (reverse-append names (i ∷ [])) in
          let to_it = subst (λ k. IsPath ring (vertex ring i) (vertex ring k) (vertex ring k ∷ [])) same (alone ring made) in
          record {
            in_ring = subst (λ n. All (λ k. k < n) (reverse (names ++ i ∷ []))) made.rows (subst (All (λ k. k < length before)) given back.below);
            path = subst (λ numbers. IsPath ring (vertex ring i) (vertex ring last) (map (vertex ring) numbers)) given
                (back.goes_on ring made [] to_it);
          }
