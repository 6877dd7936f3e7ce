-- What a list with a gap is after a move of the gap, and after two items were taken out beside it.
use Rattle.std.proofs.Common.{◌≡◌, ◌∙◌, sym, ap, refl, ℕ, suc, ◌+◌, ◌-◌, ◌≤◌, List, ◌++◌, length, take, drop, arith}
use Rattle.std.proofs.Math.Seq.{take-add}
use Rattle.std.proofs.lemmas.List.{append_assoc, drop-drop, drop_at, length-drop, length-take-le, take-append-drop, take-append-le, take-take, take_at}
use Rattle.std.proofs.lemmas.Slice.{put_mid-paste, take-put_mid}
use Rattle.std.proofs.lemmas.List.Edits.{length-paste}
use Rattle.std.specs.List.{remove}
use borrow.Rule.Slice.PartMut.{put_mid}

-- a write to a part of a Vec: what the Vec holds is as long as before
pub part_written : {X : Type 0} (xs ys : List X) (a k n : ℕ) → a + k ≤ length xs → length ys ≡ k → n ≡ length xs
    → take n (put_mid a k xs ys ++ drop (length (put_mid a k xs ys)) xs) ≡ put_mid a k xs ys
part_written xs ys a k n within long size =
    let same : length (put_mid a k xs ys) ≡ length xs
    = ap length (put_mid-paste a k xs ys ys k refl refl (sym long)) ∙ length-paste xs a ys k within (omega (arith, long)) in
    take_at (put_mid a k xs ys) _ n (same ∙ sym size)

module _ {X : Type 0} (front back : List X) (low place skip : ℕ) where
  -- after the items from `place` up to `low` were written into the back
  pub moved_down : place ≤ low → low ≤ length front → low + skip ≤ length back
      → take place front ++ drop (place + skip) (put_mid (place + skip) (low + skip - (place + skip)) back (take (low - place) (drop place front)))
      ≡ take low front ++ drop (low + skip) back
  moved_down down within room =
      let k : ℕ = low + skip - (place + skip) in
      let moved : List X = take (low - place) (drop place front) in
      let rest : drop k (drop (place + skip) back) ≡ drop (low + skip) back
      = drop-drop k (place + skip) back ∙ ap (λ n. drop n back) (omega (arith, down)) in
      let whole : take place front ++ moved ≡ take low front
      = sym (take-add place (low - place) front) ∙ ap (λ n. take n front) (omega (arith, down)) in
      ap (λ l. take place front ++ l)
      (drop_at (take (place + skip) back) _ (place + skip) (length-take-le (place + skip) back (omega (arith, down, room))) ∙ ap (λ l. moved ++ l) rest)
      ∙ sym (append_assoc (take place front) moved (drop (low + skip) back)) ∙ ap (λ l. l ++ drop (low + skip) back) whole

  -- after the items from `low` up to `place` were written into the front
  pub moved_up : low ≤ place → place ≤ length front → place + skip ≤ length back
      → take place (put_mid low (place - low) front (take (place + skip - (low + skip)) (drop (low + skip) back))) ++ drop (place + skip) back
      ≡ take low front ++ drop (low + skip) back
  moved_up up within room =
      let k : ℕ = place + skip - (low + skip) in
      let moved : List X = take k (drop (low + skip) back) in
      let long : length moved ≡ k = length-take-le k (drop (low + skip) back) (omega (arith, up, room, length-drop (low + skip) back)) in
      let rest : drop (place + skip) back ≡ drop k (drop (low + skip) back)
      = sym (drop-drop k (low + skip) back ∙ ap (λ n. drop n back) (omega (arith, up))) in
      ap (λ l. l ++ drop (place + skip) back) (take-put_mid low (place - low) front moved place (omega (arith, long, up)) (omega (arith, up, within)))
      ∙ append_assoc (take low front) moved (drop (place + skip) back)
      ∙ ap (λ l. take low front ++ l) (ap (λ l. moved ++ l) rest ∙ take-append-drop k (drop (low + skip) back))

-- what is left of a list without two items that follow one another
left_by : {X : Type 0} (xs : List X) (i : ℕ) → i ≤ length xs → remove (remove xs i) i ≡ take i xs ++ drop (i + 2) xs
left_by xs i within =
    let long = length-take-le i xs within in
    let one_on : i + 1 ≡ suc i = omega arith in
    let two_on : suc i + 1 ≡ i + 2 = omega arith in
    let before : take i (remove xs i) ≡ take i xs = take_at (take i xs) (drop (suc i) xs) i long in
    let after : drop (suc i) (remove xs i) ≡ drop (i + 2) xs
    = sym (drop-drop 1 i (remove xs i) ∙ ap (λ n. drop n (remove xs i)) one_on) ∙ ap (drop 1) (drop_at (take i xs) (drop (suc i) xs) i long)
    ∙ drop-drop 1 (suc i) xs ∙ ap (λ n. drop n xs) two_on in
    ap (λ l. l ++ drop (suc i) (remove xs i)) before ∙ ap (λ l. take i xs ++ l) after

-- where the gap is before, between or behind the two, it grows over them
pub grown_over : {X : Type 0} (front back xs : List X) (place near skip : ℕ) → place ≤ near → near ≤ place + 2 → near ≤ length front
    → take near front ++ drop (near + skip) back ≡ xs → place ≤ length xs → take place front ++ drop (place + (skip + 2)) back ≡ remove (remove xs place) place
grown_over front back xs place near skip from to within is inside =
    let k : ℕ = place + 2 - near in
    let on : near + k ≡ place + 2 = omega (arith, to) in
    let past : near + skip + k ≡ place + (skip + 2) = omega (arith, to) in
    let long = length-take-le near front within in
    let before : take place xs ≡ take place front
    = ap (take place) (sym is) ∙ take-append-le place (take near front) _ (omega (arith, long, from)) ∙ take-take place near front from in
    let after : drop (place + 2) xs ≡ drop (place + (skip + 2)) back
    = sym (drop-drop k near xs ∙ ap (λ n. drop n xs) on) ∙ ap (λ l. drop k (drop near l)) (sym is)
    ∙ ap (drop k) (drop_at (take near front) _ near long) ∙ drop-drop k (near + skip) back ∙ ap (λ n. drop n back) past in
    sym (left_by xs place inside ∙ ap (λ l. l ++ drop (place + 2) xs) before ∙ ap (λ l. take place front ++ l) after)
