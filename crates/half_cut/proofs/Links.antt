-- Corners linked by lines: the first some of them, one more, and from another one on.
use Rattle.std.proofs.Common.{◌≡◌, ◌≢◌, inl, inr, refl, sym, subst, ap, ◌∙◌, ℕ, ◌+◌, ◌-◌, ◌%◌, ◌<◌, ◌≤◌, arith, List, [], ◌∷◌, ◌++◌, length, take, drop, get_or}
use Rattle.std.proofs.Math.Nat.{add-mod_left, mod-eq_of_lt, mod-lt, mod_self}
use Rattle.std.proofs.lemmas.Bool.{cases_lt}
use Rattle.std.proofs.lemmas.List.{get_or-append_right, get_or-drop, get_or-take, get_or_append_left, get_or_push, length-append, length-drop, length-take-le, length_push, take_more}
use Rattle.plane.proofs.Regions.{new_corner, old_corner}
use Rattle.plane.specs.Convex.{corner}
use Rattle.plane.specs.Point.{Triple}
use Rattle.half_cut.proofs.Blocks.{mod_add}
use Rattle.half_cut.specs.Outline.{AreLinked, AreLinkedRound, IsOnLine, Line, line_at}

-- ---- one more

-- equal points are on equal lines
pub on_at : {l k : Line} {p q : Triple} → k ≡ l → q ≡ p → IsOnLine l p → IsOnLine k q
on_at el ep h = subst (λ t. t) (sym (λ i. IsOnLine (el i) (ep i))) h

-- the lines stay, and the new one is the last
old_line : (ls : List Line) (line : Line) (i : ℕ) → i < length ls → line_at (ls ++ line ∷ []) i ≡ line_at ls i
old_line ls line i less = get_or_append_left ls (line ∷ []) _ i less

new_line : (ls : List Line) (line : Line) (i : ℕ) → length ls ≡ i → line_at (ls ++ line ∷ []) i ≡ line
new_line ls line i e = get_or_push ls line _ i e

-- one more corner, which the line before comes to and this line begins with
pub linked_more : (cs : List Triple) (ls : List Line) (x : Triple) (line : Line) → AreLinked cs ls → line.0 ≢ line.1 → IsOnLine line x
    → (0 < length cs → IsOnLine (line_at ls (length ls - 1)) x) → AreLinked (cs ++ x ∷ []) (ls ++ line ∷ [])
linked_more cs ls x line h two here before =
    let corners = length_push cs x in
    let lines = length_push ls line in
    record {
      as_many = omega (arith, corners, lines, h.as_many);
      two_points = λ i within. elim (cases_lt i (length ls)) [
        | inl less ↦ subst (λ (l : Line). l.0 ≢ l.1) (sym (old_line ls line i less)) (h.two_points i less)
        | inr not ↦ subst (λ (l : Line). l.0 ≢ l.1) (sym (new_line ls line i (omega (arith, not, within, lines)))) two
      ];
      begins = λ i within. elim (cases_lt i (length cs)) [
        | inl less ↦ on_at (old_line ls line i (omega (arith, less, h.as_many))) (old_corner cs x i less) (h.begins i less)
        | inr not ↦
            let e : length cs ≡ i = omega (arith, not, within, corners) in
            on_at (new_line ls line i (omega (arith, e, h.as_many))) (new_corner cs x i e) here
      ];
      goes_on = λ i within. elim (cases_lt (i + 1) (length cs)) [
        | inl less ↦ on_at (old_line ls line i (omega (arith, less, h.as_many))) (old_corner cs x (i + 1) less) (h.goes_on i less)
        | inr not ↦
            let e : length cs ≡ i + 1 = omega (arith, not, within, corners) in
            let last : i ≡ length ls - 1 = omega (arith, e, h.as_many) in
            on_at (old_line ls line i (omega (arith, e, h.as_many)) ∙ ap (λ k. line_at ls k) last) (new_corner cs x (i + 1) e)
            (before (omega (arith, e)))
      ];
    }

-- ---- the first some

pub linked_first : (cs : List Triple) (ls : List Line) (m : ℕ) → AreLinked cs ls → m ≤ length cs → AreLinked (take m cs) (take m ls)
linked_first cs ls m h within =
    let corners = length-take-le m cs within in
    let lines = length-take-le m ls (omega (arith, within, h.as_many)) in
    record {
      as_many = lines ∙ sym corners;
      two_points = λ i in_i.
          let less : i < m = omega (arith, in_i, lines) in
          subst (λ (l : Line). l.0 ≢ l.1) (sym (get_or-take m ls i _ less)) (h.two_points i (omega (arith, less, within, h.as_many)));
      begins = λ i in_i.
          let less : i < m = omega (arith, in_i, corners) in
          on_at (get_or-take m ls i _ less) (get_or-take m cs i _ less) (h.begins i (omega (arith, less, within)));
      goes_on = λ i in_i.
          let less : i + 1 < m = omega (arith, in_i, corners) in
          on_at (get_or-take m ls i _ (omega (arith, less))) (get_or-take m cs (i + 1) _ less) (h.goes_on i (omega (arith, less, within)));
    }

-- ---- what a cut leaves

module _ (cs : List Triple) (ls : List Line) (m : ℕ) (line : Line) (h : AreLinked cs ls) (some : 0 < m) (rest : m ≤ length cs)
    (two : line.0 ≢ line.1) where
  -- the first some corners, the last with another line
  pub kept_alone : IsOnLine line (corner cs (m - 1)) → AreLinked (take m cs) (take (m - 1) ls ++ line ∷ [])
  kept_alone on =
      let last : take m cs ≡ take (m - 1) cs ++ corner cs (m - 1) ∷ [] =
      ap (λ k. take k cs) (omega (arith, some)) ∙ take_more cs (m - 1) _ (omega (arith, some, rest)) in
      let count : length (take (m - 1) cs) ≡ m - 1 = length-take-le (m - 1) cs (omega (arith, rest)) in
      let lines : length (take (m - 1) ls) ≡ m - 1 = length-take-le (m - 1) ls (omega (arith, rest, h.as_many)) in
      subst (λ (t : List Triple). AreLinked t (take (m - 1) ls ++ line ∷ [])) (sym last)
      (linked_more (take (m - 1) cs) (take (m - 1) ls) (corner cs (m - 1)) line (linked_first cs ls (m - 1) h (omega (arith, rest))) two on
      (λ more.
      let before : m - 1 - 1 + 1 ≡ m - 1 = omega (arith, more, count) in
      on_at (ap (λ k. line_at (take (m - 1) ls) (k - 1)) lines ∙ get_or-take (m - 1) ls (m - 1 - 1) _ (omega (arith, before)))
      (sym (ap (λ k. corner cs k) before)) (h.goes_on (m - 1 - 1) (omega (arith, before, rest, some)))))

  -- and one more
  pub kept_and_one : (x : Triple) → IsOnLine line x → IsOnLine (line_at ls (m - 1)) x → AreLinked (take m cs ++ x ∷ [])
      (take m ls ++ line ∷ [])
  kept_and_one x on before =
      let lines : length (take m ls) ≡ m = length-take-le m ls (omega (arith, rest, h.as_many)) in
      linked_more (take m cs) (take m ls) x line (linked_first cs ls m h rest) two on
      (λ more. on_at {p = x} (ap (λ k. line_at (take m ls) (k - 1)) lines ∙ get_or-take m ls (m - 1) _ (omega (arith, some))) refl before)

-- ---- from another corner on

-- an item of a list that is read from another on
pub rotated_at : {X : Type 0} (xs : List X) (t i : ℕ) (d : X) → t ≤ length xs → i < length xs
    → get_or (drop t xs ++ take t xs) i d ≡ get_or xs ((t + i) % length xs) d
rotated_at xs t i d in_t in_i =
    let behind : length (drop t xs) ≡ length xs - t = length-drop t xs in
    elim (cases_lt (t + i) (length xs)) [
      | inl less ↦
          get_or_append_left (drop t xs) (take t xs) d i (omega (arith, behind, less)) ∙ get_or-drop t xs i d
          ∙ sym (ap (λ k. get_or xs k d) (mod-eq_of_lt less))
      | inr past ↦
          let k = t + i - length xs in
          let round : t + i ≡ length xs + k = omega (arith, past) in
          let place : i - (length xs - t) ≡ k = omega (arith, past, in_t, in_i) in
          get_or-append_right (drop t xs) (take t xs) (length xs - t) i d behind (omega (arith, past)) ∙ ap (λ n. get_or (take t xs) n d)
          place
          ∙ get_or-take t xs k d (omega (arith, past, in_t, in_i))
          ∙ sym (ap (λ n. get_or xs n d)
          (ap (λ n. n % length xs) round ∙ add-mod_left (length xs) k ∙ mod-eq_of_lt (omega (arith, past, in_t, in_i))))
    ]

-- the number stays
pub length_rotated : {X : Type 0} (xs : List X) (t : ℕ) → t ≤ length xs → length (drop t xs ++ take t xs) ≡ length xs
length_rotated xs t in_t = omega (arith, length-append (drop t xs) (take t xs), length-drop t xs, length-take-le t xs in_t)

-- linked round, they are so from another one on
module _ (cs : List Triple) (ls : List Line) (t : ℕ) (h : AreLinkedRound cs ls) (in_t : t ≤ length cs) where
  -- each line comes to the next corner, counted round
  pub comes_to : (k : ℕ) → k < length cs → IsOnLine (line_at ls k) (corner cs ((k + 1) % length cs))
  comes_to k in_k = elim (cases_lt (k + 1) (length cs)) [
    | inl more ↦ on_at {l = line_at ls k} refl (ap (λ n. corner cs n) (mod-eq_of_lt more)) (h.linked.goes_on k more)
    | inr end ↦
        let last : k + 1 ≡ length cs = omega (arith, end, in_k) in
        on_at (ap (λ n. line_at ls n) (omega (arith, last, h.linked.as_many)))
        (ap (λ n. corner cs n) (ap (λ n. n % length cs) last ∙ mod_self (length cs))) (h.closes (omega (arith, in_k)))
  ]

  abbrev cs' : List Triple
  cs' = drop t cs ++ take t cs

  abbrev ls' : List Line
  ls' = drop t ls ++ take t ls

  line_there : (i : ℕ) → i < length cs → line_at ls' i ≡ line_at ls ((t + i) % length cs)
  line_there i in_i =
      rotated_at ls t i _ (omega (arith, in_t, h.linked.as_many)) (omega (arith, in_i, h.linked.as_many))
      ∙ ap (λ n. line_at ls ((t + i) % n)) h.linked.as_many

  corner_there : (i : ℕ) → i < length cs → corner cs' i ≡ corner cs ((t + i) % length cs)
  corner_there i in_i = rotated_at cs t i _ in_t in_i

  there : (i : ℕ) → i < length cs → (t + i) % length cs < length cs
  there i in_i = mod-lt (t + i) (omega (arith, in_i))

  pub linked_rotated : AreLinkedRound cs' ls'
  linked_rotated =
      let corners = length_rotated cs t in_t in
      let lines = length_rotated ls t (omega (arith, in_t, h.linked.as_many)) in
      record {
        linked = record {
          as_many = lines ∙ h.linked.as_many ∙ sym corners;
          two_points = λ i within.
              let in_i : i < length cs = omega (arith, within, lines, h.linked.as_many) in
              subst (λ (l : Line). l.0 ≢ l.1) (sym (line_there i in_i))
              (h.linked.two_points ((t + i) % length cs) (omega (arith, there i in_i, h.linked.as_many)));
          begins = λ i within.
              let in_i : i < length cs = omega (arith, within, corners) in
              on_at (line_there i in_i) (corner_there i in_i) (h.linked.begins ((t + i) % length cs) (there i in_i));
          goes_on = λ i within.
              let in_next : i + 1 < length cs = omega (arith, within, corners) in
              let in_i : i < length cs = omega (arith, in_next) in
              let next : (t + (i + 1)) % length cs ≡ ((t + i) % length cs + 1) % length cs =
              ap (λ n. n % length cs) (omega arith) ∙ sym (mod_add (t + i) 1 (length cs)) in
              on_at (line_there i in_i) (corner_there (i + 1) in_next ∙ ap (λ n. corner cs n) next)
              (comes_to ((t + i) % length cs) (there i in_i));
        };
        closes = λ some.
            let many : 0 < length cs = omega (arith, some, corners) in
            let last : length ls' - 1 ≡ length cs - 1 = omega (arith, lines, h.linked.as_many) in
            let in_last : length cs - 1 < length cs = omega (arith, many) in
            let next : (t + 0) % length cs ≡ ((t + (length cs - 1)) % length cs + 1) % length cs =
            sym (add-mod_left (length cs) (t + 0)) ∙ ap (λ n. n % length cs) (omega (arith, many)) ∙ sym
            (mod_add (t + (length cs - 1)) 1 (length cs)) in
            on_at (ap (λ n. line_at ls' n) last ∙ line_there (length cs - 1) in_last) (corner_there 0 many ∙ ap (λ n. corner cs n) next)
            (comes_to ((t + (length cs - 1)) % length cs) (there (length cs - 1) in_last));
      }

-- ---- one more before the first

-- one more corner, to which the last line comes, and from which this line comes to the first
pub closed_more : (cs : List Triple) (ls : List Line) (x : Triple) (line : Line) → AreLinked cs ls → 0 < length cs → line.0 ≢ line.1
    → IsOnLine (line_at ls (length ls - 1)) x → IsOnLine line x → IsOnLine line (corner cs 0) → AreLinkedRound (cs ++ x ∷ [])
    (ls ++ line ∷ [])
closed_more cs ls x line h some two before here round = record {
  linked = linked_more cs ls x line h two here (λ _. before);
  closes = λ _.
      let last : length ls ≡ length (ls ++ line ∷ []) - 1 = omega (arith, length_push ls line) in
      on_at (new_line ls line (length (ls ++ line ∷ []) - 1) last) (old_corner cs x 0 some) round;
}
