-- A piece read from its least vertex on, and the same piece read from another vertex on.
use Rattle.std.proofs.Common.{◌≡◌, inl, inr, sym, ap, ◌∙◌, ℕ, ◌+◌, ◌-◌, ◌<◌, ◌≤◌, List, ◌++◌, length, get_or, take, drop, arith}
use Rattle.std.proofs.lemmas.Bool.{cases_lt}
use Rattle.std.proofs.Math.Seq.{drop-append-add, take-append-add}
use Rattle.std.proofs.lemmas.List.{append-nil, append_assoc, drop-append-le, get_or-drop, get_or_append_left, length-append, length-drop}
use Rattle.std.proofs.lemmas.List.{take-append-le}
use Rattle.plane.specs.Point.{Point}
use Rattle.meshes.specs.declared.tri.Tri.{Tri}
use Rattle.cut_tri.specs.Cut.{IsCutTriangle, IsReadFromLeast}
use Rattle.cut_tri.specs.Cut.IsCutTriangle.{first, rest, second, triangle}
use Rattle.cut_tri.specs.Cutting.{IsCutInto}
use Rattle.cut_tri.specs.Piece.{IsLeastBelow}

-- a piece whose first vertex is its least is so read as it stands
pub read_from_first : (corners : List Point) (xs : List ℕ) → 0 < length xs → IsLeastBelow corners xs (length xs) 0 → IsReadFromLeast corners xs xs
read_from_first corners xs some least = record { place = 0; within = some; turned = sym (append-nil xs); least = least }

-- a list read from place k on begins with the number there
pub first_turned : (xs : List ℕ) (k : ℕ) → k < length xs → get_or (drop k xs ++ take k xs) 0 0 ≡ get_or xs k 0
first_turned xs k within =
    let same : k + 0 ≡ k = omega arith in
    get_or_append_left (drop k xs) (take k xs) 0 0 (omega (arith, length-drop k xs))
    ∙ get_or-drop k xs 0 0
    ∙ ap (λ j. get_or xs j 0) same

-- two lists together, read from a place in the second on, are the two in the other order, read from that place on
same_reading : (xs ys : List ℕ) (k : ℕ) → k ≤ length ys
    → drop k (ys ++ xs) ++ take k (ys ++ xs) ≡ drop (length xs + k) (xs ++ ys) ++ take (length xs + k) (xs ++ ys)
same_reading xs ys k within =
    ap (λ zs. zs ++ take k (ys ++ xs)) (drop-append-le k ys xs within)
    ∙ ap (λ zs. (drop k ys ++ xs) ++ zs) (take-append-le k ys xs within)
    ∙ append_assoc (drop k ys) xs (take k ys)
    ∙ ap (λ zs. zs ++ (xs ++ take k ys)) (sym (drop-append-add xs ys k))
    ∙ ap (λ zs. drop (length xs + k) (xs ++ ys) ++ zs) (sym (take-append-add xs ys k))

module _ (corners : List Point) (xs ys : List ℕ) where
  -- so, wherever it begins, a piece is read from its least vertex on as one list
  pub read_of_rotated : (read : List ℕ) → IsReadFromLeast corners (ys ++ xs) read → IsReadFromLeast corners (xs ++ ys) read
  read_of_rotated read is = elim (cases_lt is.place (length ys)) [
    | inl below ↦ record {
      place = length xs + is.place;
      within = omega (arith, below, length-append xs ys);
      turned = is.turned ∙ same_reading xs ys is.place (omega (arith, below));
      least = is.least;
    }
    | inr past ↦
        let k : ℕ = is.place - length ys in
        let within : k < length xs = omega (arith, past, is.within, length-append ys xs) in
        let place_is : is.place ≡ length ys + k = omega (arith, past) in
        record {
          place = k;
          within = omega (arith, within, length-append xs ys);
          turned = is.turned ∙ ap (λ p. drop p (ys ++ xs) ++ take p (ys ++ xs)) place_is ∙ sym (same_reading ys xs k (omega (arith, within)));
          least = is.least;
        }
  ]

-- pieces that are read in one way have the same triangles
cut_of_reading : (corners : List Point) (i j k : ℕ) (piece other : List ℕ)
    → ((read : List ℕ) → IsReadFromLeast corners piece read → IsReadFromLeast corners other read)
    → IsCutTriangle corners i j k piece → IsCutTriangle corners i j k other
cut_of_reading corners i j k piece other reads (triangle p read is some empty round) = triangle other read (reads read is) some empty round
cut_of_reading corners i j k piece other reads (rest p read is more empty cut) = rest other read (reads read is) more empty cut
cut_of_reading corners i j k piece other reads (first p read place is far cut) = first other read place (reads read is) far cut
cut_of_reading corners i j k piece other reads (second p read place is far cut) = second other read place (reads read is) far cut

-- so the piece is cut into the same triangles
pub cut_of_rotated : (corners : List Point) (xs ys : List ℕ) (ts : List Tri) → IsCutInto corners (ys ++ xs) ts → IsCutInto corners (xs ++ ys) ts
cut_of_rotated corners xs ys ts cut = λ i j k. (
  λ has. cut_of_reading corners i j k (ys ++ xs) (xs ++ ys) (read_of_rotated corners xs ys) ((cut i j k).0 has),
  λ is. (cut i j k).1 (cut_of_reading corners i j k (xs ++ ys) (ys ++ xs) (read_of_rotated corners ys xs) is),
)
