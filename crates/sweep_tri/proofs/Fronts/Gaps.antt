-- The edges below and above some gaps, as one list: the edge below gap j is at place 2j, the one above it at the next.
use Rattle.std.proofs.Common.{◌≡◌, refl, sym, ap, ◌∙◌, ℕ, zero, suc, ◌+◌, ◌*◌, ◌<◌, ◌≤◌, List, [], ◌∷◌, ◌++◌, length, take, drop, set, arith}
use Rattle.std.proofs.lemmas.List.{drop-set-lt, drop_at, drop_more, length-take-le, set-get_or, set_split, take-append-drop}
use Rattle.std.proofs.lemmas.List.{take-append-le, take-take}
use Rattle.std.proofs.lemmas.List.{take_more_set}
use Rattle.std.proofs.lemmas.List.Edits.{length-remove}
use Rattle.std.specs.List.{insert, remove}
use Rattle.sweep_tri.specs.Frontier.{front_at}
use Rattle.sweep_tri.specs.Gaps.{fronts, gap_at, low_front, no_gap, up_front}
use Rattle.sweep_tri.specs.declared.gap.Gap.{Gap}

-- ---- their number and their places

pub length-fronts : (gaps : List Gap) → length (fronts gaps) ≡ 2 * length gaps
length-fronts [] = refl
length-fronts (g ∷ gs) = omega (arith, length-fronts gs)

pub low_at : (gaps : List Gap) (j : ℕ) → j < length gaps → front_at (fronts gaps) (2 * j) ≡ low_front (gap_at gaps j)
low_at [] j h = absurd (omega (arith, h))
low_at (g ∷ gs) zero h = refl
low_at (g ∷ gs) (suc j) h =
    let next : 2 * suc j ≡ suc (suc (2 * j)) = omega arith in
    rw next (low_at gs j (omega (arith, h)))

pub up_at : (gaps : List Gap) (j : ℕ) → j < length gaps → front_at (fronts gaps) (2 * j + 1) ≡ up_front (gap_at gaps j)
up_at [] j h = absurd (omega (arith, h))
up_at (g ∷ gs) zero h = refl
up_at (g ∷ gs) (suc j) h =
    let next : 2 * suc j + 1 ≡ suc (suc (2 * j + 1)) = omega arith in
    rw next (up_at gs j (omega (arith, h)))

-- ---- parts of the list

pub fronts-append : (G H : List Gap) → fronts (G ++ H) ≡ fronts G ++ fronts H
fronts-append [] H = refl
fronts-append (g ∷ G) H = ap (λ fs. low_front g ∷ up_front g ∷ fs) (fronts-append G H)

module _ (gaps : List Gap) (j : ℕ) where
  -- the edges before gap j
  pub length_before : j ≤ length gaps → length (fronts (take j gaps)) ≡ 2 * j
  length_before h = length-fronts (take j gaps) ∙ ap (λ n. 2 * n) (length-take-le j gaps h)

  -- the edges before gap j, and from there on
  pub fronts_parts : fronts gaps ≡ fronts (take j gaps) ++ fronts (drop j gaps)
  fronts_parts = ap fronts (sym (take-append-drop j gaps)) ∙ fronts-append (take j gaps) (drop j gaps)

  -- where another gap is put in,
  pub fronts_inserted : (g : Gap) → fronts (insert gaps j g) ≡ fronts (take j gaps) ++ (low_front g ∷ up_front g ∷ fronts (drop j gaps))
  fronts_inserted g = fronts-append (take j gaps) (g ∷ drop j gaps)

  -- stands in the place of gap j,
  pub fronts_set : (g : Gap) → j < length gaps
      → fronts (set gaps j g) ≡ fronts (take j gaps) ++ (low_front g ∷ up_front g ∷ fronts (drop (suc j) gaps))
  fronts_set g h = ap fronts (set_split gaps j g h) ∙ fronts-append (take j gaps) (g ∷ drop (suc j) gaps)

  -- where that is gap j itself,
  pub fronts_round : j < length gaps
      → fronts gaps ≡ fronts (take j gaps) ++ (low_front (gap_at gaps j) ∷ up_front (gap_at gaps j) ∷ fronts (drop (suc j) gaps))
  fronts_round h = ap fronts (sym (set-get_or gaps j no_gap)) ∙ fronts_set (gap_at gaps j) h

  -- and where gap j is taken out
  pub fronts_removed : fronts (remove gaps j) ≡ fronts (take j gaps) ++ fronts (drop (suc j) gaps)
  fronts_removed = fronts-append (take j gaps) (drop (suc j) gaps)

  -- where a gap stands in its place, and another comes after it,
  pub fronts_divided : (g h : Gap) → j < length gaps
      → fronts (insert (set gaps j g) (j + 1) h)
      ≡ fronts (take j gaps ++ g ∷ []) ++ (low_front h ∷ up_front h ∷ fronts (drop (j + 1) gaps))
  fronts_divided g h at =
      fronts_inserted_of
      ∙ (λ i. fronts (take_more_set gaps j g at i) ++ (low_front h ∷ up_front h ∷ fronts (drop-set-lt (j + 1) gaps j g (omega arith) i)))
    where
      fronts_inserted_of : fronts (insert (set gaps j g) (j + 1) h)
          ≡ fronts (take (j + 1) (set gaps j g)) ++ (low_front h ∷ up_front h ∷ fronts (drop (j + 1) (set gaps j g)))
      fronts_inserted_of = fronts-append (take (j + 1) (set gaps j g)) (h ∷ drop (j + 1) (set gaps j g))

  -- where one stands in its place and in that of the next
  pub fronts_joined : (g : Gap) → j + 1 < length gaps
      → fronts (set (remove gaps (j + 1)) j g) ≡ fronts (take j gaps) ++ (low_front g ∷ up_front g ∷ fronts (drop (suc (j + 1)) gaps))
  fronts_joined g h =
      let size : length (take (j + 1) gaps) ≡ j + 1 = length-take-le (j + 1) gaps (omega (arith, h)) in
      let rest : List Gap = remove gaps (j + 1) in
      let front : take j rest ≡ take j gaps =
      take-append-le j (take (j + 1) gaps) (drop (suc (j + 1)) gaps) (omega (arith, size)) ∙ take-take j (j + 1) gaps (omega arith) in
      let back : drop (suc j) rest ≡ drop (suc (j + 1)) gaps =
      drop_at (take (j + 1) gaps) (drop (suc (j + 1)) gaps) (suc j) (omega (arith, size)) in
      let long : j < length rest = omega (arith, h, length-remove gaps (j + 1) h) in
      ap fronts (set_split rest j g long) ∙ fronts-append (take j rest) (g ∷ drop (suc j) rest)
      ∙ (λ i. fronts (front i) ++ (low_front g ∷ up_front g ∷ fronts (back i)))

  -- the next gap among the edges
  pub fronts_next : j + 1 < length gaps
      → fronts (drop (suc j) gaps) ≡ low_front (gap_at gaps (j + 1)) ∷ up_front (gap_at gaps (j + 1)) ∷ fronts (drop (suc (j + 1)) gaps)
  fronts_next h =
      let next : suc j ≡ j + 1 = omega arith in
      let after : j + 1 + 1 ≡ suc (j + 1) = omega arith in
      ap (λ i. fronts (drop i gaps)) next ∙ ap fronts (drop_more gaps (j + 1) no_gap h)
      ∙ ap (λ i. low_front (gap_at gaps (j + 1)) ∷ up_front (gap_at gaps (j + 1)) ∷ fronts (drop i gaps)) after
