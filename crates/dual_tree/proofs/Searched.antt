-- A search along a sleeve for the vertices that a path touches: what holds where it has come to a diagonal.
use Rattle.std.proofs.Common.{◌≡◌, inl, inr, refl, sym, subst, ap, ◌∙◌, ℕ, ◌+◌, ◌-◌, ◌<◌, ◌≤◌, List, [], ◌∷◌, ◌++◌, length, get_or, arith}
use Rattle.std.proofs.lemmas.List.{append_assoc, get_or_default, length-append}
use Rattle.plane.specs.Point.{Point, whole}
use Rattle.rings.proofs.Vertices.{has_number, vertex_in_range}
use Rattle.rings.specs.Chain.{IsBentChain, IsPath, point_at}
use Rattle.rings.specs.Edge.{Has}
use Rattle.rings.specs.Ring.{origin, vertex}
use Rattle.meshes.specs.Fits.{Fits, IsInTri}
use Rattle.meshes.specs.Laws.{CrossesSide, walk_tri}
use Rattle.meshes.specs.Side.{HasSide}
use Rattle.meshes.specs.Sleeve.{IsOneOf, Sleeve, diagonal_at}
use Rattle.meshes.specs.declared.tri.Tri.{Tri}
use Rattle.funnels.proofs.Touched.{IsEntered, IsFoundOnce, IsNow, ahead_cases, entering, found_all, found_few, found_rest, looked_at, number_below}
use Rattle.funnels.proofs.Touched.{once_begins, once_looked, search_begins, search_goes_on}
use Rattle.funnels.proofs.Vertices.{fitted_long, fitted_simple}
use Rattle.funnels.specs.Touched.{HasCome, IsLookedAt}
use Rattle.dual_tree.specs.Touched.{AppendsFull}

-- what is read at a place of a list is what is there
pub index_is : (chain : List Point) (i : ℕ) (p : Point) → i < length chain → p ≡ get_or chain i p → p ≡ point_at chain i
index_is chain i p within is = is ∙ get_or_default chain i p origin within

-- the corners of a sleeve's diagonals
abbrev pub lefts : Sleeve → ℕ → ℕ
lefts sleeve i = (diagonal_at sleeve i).left

abbrev pub rights : Sleeve → ℕ → ℕ
rights sleeve i = (diagonal_at sleeve i).right

-- after the points that were given come those that were found before diagonal i, to place k of the chain and on to the last point
pub record IsSearched (corners : List Point) (tris : List Tri) (sleeve : Sleeve) (chain given : List Point) (i k : ℕ) (last : Point) (items : List Point) : Type 0 where
  pub start : ℕ → ℕ
  pub entered : IsEntered corners tris sleeve.walk (rights sleeve) (lefts sleeve) start chain
  pub found : List Point
  pub parts : items ≡ given ++ found
  pub come : HasCome corners (rights sleeve) (lefts sleeve) start chain i i k last found
  pub once : IsFoundOnce corners chain k last found

-- after a look too they come after those that were given
record IsLookedPast (chain : List Point) (v : Point) (k : ℕ) (last : Point) (given found : List Point) (k' : ℕ) (last' : Point) (items' : List Point) : Type 0 where
  found' : List Point
  parts' : items' ≡ given ++ found'
  look : IsLookedAt chain v k last found k' last' found'

looked_past : (chain : List Point) (v : Point) (k : ℕ) (last : Point) (given found items : List Point) (k' : ℕ) (last' : Point) (items' : List Point)
    → items ≡ given ++ found → IsLookedAt chain v k last items k' last' items' → IsLookedPast chain v k last given found k' last' items'
looked_past chain v k last given found items k' last' items' parts look = elim (ahead_cases chain k last v) [
  | inr behind ↦ record {
    found' = found;
    parts' = (look.stays behind).2 ∙ parts;
    look = record {
      stays = λ b. ((look.stays b).0, (look.stays b).1, refl);
      found_more = λ a. absurd (behind a);
      passes = look.passes;
      arrives = look.arrives;
    };
  }
  | inl ahead ↦ record {
    found' = found ++ v ∷ [];
    parts' = (look.found_more ahead).1 ∙ ap (λ ps. ps ++ v ∷ []) parts ∙ append_assoc given found (v ∷ []);
    look = record {
      stays = λ b. absurd (b ahead);
      found_more = λ a. ((look.found_more a).0, refl);
      passes = look.passes;
      arrives = look.arrives;
    };
  }
]

module _ {corners : List Point} {tris : List Tri} (fits : Fits corners tris) {sleeve : Sleeve} (one : IsOneOf tris sleeve) where
  crosses : (m : ℕ) → m + 1 < length sleeve.walk → CrossesSide tris sleeve.walk m (rights sleeve m) (lefts sleeve m)
  crosses m next =
      let d = one.diagonals m (omega (arith, one.count)) in
      record { has_next = next; of_this = inl d.of_first; of_next = inr d.of_second }

  sides : (m : ℕ) → m + 1 < length sleeve.walk → HasSide (walk_tri tris sleeve.walk m) (rights sleeve m) (lefts sleeve m)
  sides m next = (one.diagonals m (omega (arith, one.count))).of_first

  -- the corners of a diagonal are vertices
  pub left_below : (i : ℕ) → i < length sleeve.diagonals → lefts sleeve i < length corners
  left_below i within =
      number_below corners tris fits sleeve.walk one.walk (rights sleeve) (lefts sleeve) crosses sides i (lefts sleeve i) (rights sleeve i)
      (omega (arith, one.count)) (inr (sides i (omega (arith, one.count))))

  pub right_below : (i : ℕ) → i < length sleeve.diagonals → rights sleeve i < length corners
  right_below i within =
      number_below corners tris fits sleeve.walk one.walk (rights sleeve) (lefts sleeve) crosses sides i (rights sleeve i) (lefts sleeve i)
      (omega (arith, one.count)) (inl (sides i (omega (arith, one.count))))

  has_vertex : (x : ℕ) → x < length corners → Has corners (vertex corners x)
  has_vertex x within = subst (Has corners) (sym (vertex_in_range corners x origin within)) (has_number corners x origin within)

  module _ (chain : List Point) (path : IsPath corners (point_at chain 0) (point_at chain (length chain - 1)) chain) where
    -- a path bends at its inner points
    bent : IsBentChain corners chain
    bent = ((path chain).1 refl).bent

    -- the search begins with the first point
    pub searched_first : (given : List Point) → IsInTri corners (walk_tri tris sleeve.walk 0) (whole (point_at chain 0))
        → IsInTri corners (walk_tri tris sleeve.walk (length sleeve.walk - 1)) (whole (point_at chain (length chain - 1)))
        → IsSearched corners tris sleeve chain given 0 0 (point_at chain 0) (given ++ point_at chain 0 ∷ [])
    searched_first given in_first in_last =
        let e = entering corners tris fits sleeve.walk one.walk (rights sleeve) (lefts sleeve) crosses sides chain bent in_first in_last in
        record {
          start = e.start;
          entered = e.entered;
          found = point_at chain 0 ∷ [];
          parts = refl;
          come = search_begins corners (rights sleeve) (lefts sleeve) e.start chain bent e.first;
          once = once_begins corners chain;
        }

    module _ {given : List Point} {i k : ℕ} {last : Point} {items : List Point} (now : IsSearched corners tris sleeve chain given i k last items) where
      -- there is room for a point and the end
      pub searched_few : length items ≤ length given + length corners + 1
      searched_few = let few = found_few corners chain k last now.found now.once in omega (arith, few, ap length now.parts, length-append given now.found)

      module _ (within : i < length sleeve.diagonals) {k' : ℕ} {last' : Point} {items' : List Point}
          (first : IsLookedAt chain (vertex corners (lefts sleeve i)) k last items k' last' items') where
        abbrev past : IsLookedPast chain (vertex corners (lefts sleeve i)) k last given now.found k' last' items'
        past = looked_past chain (vertex corners (lefts sleeve i)) k last given now.found items k' last' items' now.parts first

        half : IsNow corners tris sleeve.walk (rights sleeve) (lefts sleeve) now.start chain i k last (lefts sleeve i) k' last' past.found'
        half =
            looked_at corners tris fits sleeve.walk one.walk (rights sleeve) (lefts sleeve) now.start crosses chain bent now.entered i i (lefts sleeve i)
            (omega (arith, one.count)) (omega arith) (left_below i within) (inr refl) k last now.found now.come k' last' past.found' past.look

        once_half : IsFoundOnce corners chain k' last' past.found'
        once_half =
            once_looked corners (fitted_long corners tris fits) (fitted_simple corners tris fits) chain bent k last now.found now.once
            (vertex corners (lefts sleeve i)) (has_vertex _ (left_below i within)) (λ more. (now.come.goes_on more).on) k' last' past.found' past.look

        -- so there is after a look at the left corner,
        pub half_few : length items' ≤ length given + length corners + 1
        half_few =
            let few = found_few corners chain k' last' past.found' once_half in omega (arith, few, ap length past.parts', length-append given past.found')

        pub half_within : k' < length chain
        half_within = half.come.within

        -- and after one at the right corner too the search has come to the next diagonal
        pub searched_next : {k'' : ℕ} {last'' : Point} {items'' : List Point}
            → IsLookedAt chain (vertex corners (rights sleeve i)) k' last' items' k'' last'' items''
            → IsSearched corners tris sleeve chain given (i + 1) k'' last'' items''
        searched_next {k''} {last''} {items''} second =
            let beyond = looked_past chain (vertex corners (rights sleeve i)) k' last' given past.found' items' k'' last'' items'' past.parts' second in
            record {
              start = now.start;
              entered = now.entered;
              found = beyond.found';
              parts = beyond.parts';
              come = search_goes_on corners tris fits sleeve.walk one.walk (rights sleeve) (lefts sleeve) now.start crosses sides chain bent now.entered
                  i k last now.found (omega (arith, one.count)) now.come k' last' past.found' past.look k'' last'' beyond.found' beyond.look;
              once = once_looked corners (fitted_long corners tris fits) (fitted_simple corners tris fits) chain bent k' last' past.found' once_half
                  (vertex corners (rights sleeve i)) (has_vertex _ (right_below i within)) (λ more. (half.come.goes_on more).on) k'' last'' beyond.found'
                  beyond.look;
            }

      module _ (all : i ≡ length sleeve.diagonals)
          (in_last : IsInTri corners (walk_tri tris sleeve.walk (length sleeve.walk - 1)) (whole (point_at chain (length chain - 1)))) where
        in_this : IsInTri corners (walk_tri tris sleeve.walk i) (whole (point_at chain (length chain - 1)))
        in_this =
            subst (λ n. IsInTri corners (walk_tri tris sleeve.walk n) (whole (point_at chain (length chain - 1)))) (omega (arith, all, one.count)) in_last

        -- behind the last diagonal all is found,
        pub searched_all : last ≡ point_at chain (length chain - 1) → AppendsFull corners chain given items
        searched_all there = record {
          full = now.found;
          is_full = found_all corners tris fits sleeve.walk one.walk (rights sleeve) (lefts sleeve) now.start crosses sides chain bent now.entered i k last
              now.found (omega (arith, all, one.count)) in_this now.come there;
          appended = now.parts;
        }

        -- or all but the end
        pub searched_rest : ¬ (last ≡ point_at chain (length chain - 1))
            → AppendsFull corners chain given (items ++ point_at chain (length chain - 1) ∷ [])
        searched_rest short = record {
          full = now.found ++ point_at chain (length chain - 1) ∷ [];
          is_full = found_rest corners tris fits sleeve.walk one.walk (rights sleeve) (lefts sleeve) now.start crosses sides chain bent now.entered i k last
              now.found (omega (arith, all, one.count)) in_this now.come short;
          appended = ap (λ ps. ps ++ point_at chain (length chain - 1) ∷ []) now.parts
              ∙ append_assoc given now.found (point_at chain (length chain - 1) ∷ []);
        }
