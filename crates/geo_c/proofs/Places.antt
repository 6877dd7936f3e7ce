-- Points that have their places in a buffer.
use Rattle.std.proofs.Common.{◌≡◌, sym, subst, ◌∙◌, ℕ, ◌+◌, List, [], ◌∷◌, ◌++◌, length, ◌<◌, slice_set, slice_index_or, inl, inr, arith}
use Rattle.std.proofs.lemmas.List.{length-take, take_all}
use Rattle.std.specs.Ordering.{ord_min, nat_cmp}
use Rattle.std.specs.Prelude.{take}
use Rattle.plane.specs.Point.{Point}
use Rattle.geo_script.specs.Dialog.{Talk}
use Rattle.geo_c.specs.Many.{ArePlacesTold, IsPlaceFound, place_number}
use Rattle.geo_c.specs.Told.{TellsResult}
use Rattle.geo_c.proofs.Behind.{all_zip_length, all_zip_more, none_filled, one_mapped}
use Rattle.geo_c.proofs.Filling.{least_is, least_of}

-- none has one yet
pub no_places : (talk : Talk) (points : List Point) (before : List ℕ) → ArePlacesTold talk (take 0 points) before before
no_places talk points before = record { founds = []; hold = tt; told = none_filled before }

-- one more has its place
pub one_place : (talk talk' : Talk) (points : List Point) (before now : List ℕ) (i : ℕ) (p : Point) (place : ℕ) → i < length points → i < length before
    → p ≡ slice_index_or points i p → talk' ≡ talk → ArePlacesTold talk (take i points) before now
    → TellsResult (IsPlaceFound talk' p) (λ found. place ≡ place_number found) → ArePlacesTold talk (take (i + 1) points) before (slice_set now i place)
one_place talk talk' points before now i p place few fits is same all one =
    let holds : IsPlaceFound talk p one.found = subst (λ t. IsPlaceFound t p one.found) same one.holds in
    let many : length all.founds ≡ i = omega (arith, all_zip_length (IsPlaceFound talk) (take i points) all.founds all.hold, length-take i points, few) in
    record {
      founds = all.founds ++ one.found ∷ [];
      hold = all_zip_more (IsPlaceFound talk) points all.founds i p one.found few is all.hold holds;
      told = one_mapped place_number all.founds one.found before now i place many fits one.given all.told;
    }

-- as many as fit have them
pub all_places : (talk : Talk) (points : List Point) (before now : List ℕ) (n : ℕ) → n ≡ ord_min nat_cmp (length points) (length before)
    → ArePlacesTold talk (take n points) before now → ArePlacesTold talk (take (length before) points) before now
all_places talk points before now n least told =
    let fits = least_of (length points) (length before) n least in
    elim (least_is (length points) (length before) n least) [
      | inl full ↦ let same : n ≡ length before = omega (arith, full, fits.1) in subst (λ k. ArePlacesTold talk (take k points) before now) same told
      | inr few ↦ let same : take n points ≡ take (length before) points = take_all n points few ∙ sym (take_all (length before) points (omega (arith, few, fits.1))) in
          subst (λ ps. ArePlacesTold talk ps before now) same told
    ]
