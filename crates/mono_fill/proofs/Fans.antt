-- The triangles that leave the stack.
-- The triangles of a fan, one after another.
-- A stack from which some items are gone, and one more.
use Rattle.std.specs.List.{All, Contains}
use Rattle.std.proofs.Common.{◌≡◌, refl, subst, ap, ap₂, ◌∙◌, ℕ, ◌+◌, ◌-◌, ◌<◌, ◌≤◌, List, [], ◌∷◌, ◌++◌, length, take, drop, get_or}
use Rattle.std.proofs.Common.{reverse, append_assoc, arith, sym, append-nil, length-take-le}
use Rattle.std.proofs.Math.Numerals.{add-one}
use Rattle.std.proofs.lemmas.List.{get_or-reverse, length-reverse, get_or-take, get_or_default, reverse-append, take_all, take_more}
use Rattle.std.proofs.lemmas.List.Elements.{All-cons, All-nil, All-push}
use Rattle.plane.specs.Point.{Point}
use Rattle.meshes.specs.Fits.{IsTriOf, IsCounterclockwiseTri}
use Rattle.meshes.specs.declared.tri.Tri.{Tri}
use Rattle.mono_fill.specs.Sides.{fan, triangle, fan_from}
use Rattle.mono_fill.specs.Stacks.{Extends, ArePopped, last_of}
use Rattle.mono_fill.specs.declared.side.Side.{Side}
use Rattle.mono_fill.specs.declared.side.Side.TheVariants.{Lower, Upper}

-- an item behind the first
next_item : (p : ℕ) (qs : List ℕ) (k : ℕ) → get_or (p ∷ qs) (k + 1) 0 ≡ get_or qs k 0
next_item p qs k = ap (λ m. get_or (p ∷ qs) m 0) (add-one k)

module _ (side : Side) (x : ℕ) where
  -- a list of one item has none
  pub fan_short : (rest : List ℕ) → length rest < 2 → fan side x rest ≡ []
  fan_short [] h = refl
  fan_short (p ∷ []) h = refl
  fan_short (p ∷ q ∷ rest) h = absurd (omega arith)

  -- the first triangle has the first two items, as they are read through a window
  pub fan_window : (rest window : List ℕ) (size : ℕ) → size ≡ 2 → size ≤ length rest → window ≡ take size rest
      → fan side x rest ≡ triangle side (get_or window 0 0) (get_or window 1 0) x ∷ fan side x (drop 1 rest)
  fan_window [] window size e h w = absurd (omega arith)
  fan_window (p ∷ []) window size e h w = absurd (omega arith)
  fan_window (p ∷ q ∷ rest) window size e h w =
      let k : window ≡ p ∷ q ∷ [] = w ∙ ap (λ n. take n (p ∷ q ∷ rest)) e in
      rw k refl

  -- what holds of the triangle of each two neighbours holds of all triangles
  pub fan_each : (P : Tri → Type 0) (stack : List ℕ)
      → ((k : ℕ) → k + 1 < length stack → P (triangle side (get_or stack k 0) (get_or stack (k + 1) 0) x)) → All P (fan side x stack)
  fan_each P [] h = All-nil P
  fan_each P (p ∷ []) h = All-nil P
  fan_each P (p ∷ q ∷ rest) h =
      All-cons P (triangle side p q x) (fan side x (q ∷ rest)) (h 0 (omega arith))
      (fan_each P (q ∷ rest) (λ k lt.
      subst P (ap₂ (λ i j. triangle side i j x) (next_item p (q ∷ rest) k) (next_item p (q ∷ rest) (k + 1))) (h (k + 1) (omega arith))))

-- what holds of all items of a list holds of those of the list in the other order
pub all_reversed : {A : Type 0} (P : A → Type 0) (xs : List A) → All P xs → All P (reverse xs)
all_reversed P xs h k d lt =
    let in_list : k < length xs = omega (arith, length-reverse xs) in
    rw (get_or-reverse xs k d in_list) (h (length xs - 1 - k) d (omega arith))

-- one more triangle behind some
pub extends_more : (old new : List Tri) (t : Tri) → Extends old new → Extends old (new ++ t ∷ [])
extends_more old new t (more, e) = (more ++ t ∷ [], ap (λ ts. ts ++ t ∷ []) e ∙ append_assoc old more (t ∷ []))

-- the corners of the triangle are vertices of the piece
pub record HasCornersIn (piece : List ℕ) (t : Tri) : Type 0 where
  pub has_a : Contains piece t.a
  pub has_b : Contains piece t.b
  pub has_c : Contains piece t.c

pub corners_in : (piece : List ℕ) (side : Side) (p q x : ℕ) → Contains piece p → Contains piece q → Contains piece x
    → HasCornersIn piece (triangle side p q x)
corners_in piece Lower p q x hp hq hx = record { has_a = hp; has_b = hq; has_c = hx }
corners_in piece Upper p q x hp hq hx = record { has_a = hq; has_b = hp; has_c = hx }

-- it is one of the piece, where they run counterclockwise
pub tri_of : (corners : List Point) (piece : List ℕ) (t : Tri) → HasCornersIn piece t → IsCounterclockwiseTri corners t → IsTriOf corners piece t
tri_of corners piece t has left = record { has_a = has.has_a; has_b = has.has_b; has_c = has.has_c; counterclockwise = left }

-- a list of two items or more without its last one
module _ (now : List ℕ) (some : 1 < length now) where
  abbrev rest : List ℕ
  rest = take (length now - 1) now

  -- it is one shorter,
  length_rest : length rest ≡ length now - 1
  length_rest = length-take-le (length now - 1) now (omega arith)

  -- its last item is the last but one,
  last_of_rest : last_of rest ≡ get_or now (length now - 1 - 1) 0
  last_of_rest = rw length_rest (get_or-take (length now - 1) now (length now - 1 - 1) 0 (omega arith))

  -- and the other one stands behind it
  rest_and_last : now ≡ rest ++ get_or now (length now - 1) 0 ∷ []
  rest_and_last =
      let e : length now - 1 + 1 ≡ length now = omega arith in
      sym (take_all (length now) now (omega arith)) ∙ subst (λ n. take n now ≡ rest ++ get_or now (length now - 1) 0 ∷ []) e
      (take_more now (length now - 1) 0 (omega arith))

module _ (corners : List Point) (side : Side) (x : ℕ) (old : List ℕ) where
  -- at first none is
  pub none_popped : 0 < length old → ArePopped corners side x old old []
  none_popped some = record {
    some = some;
    gone = [];
    parts = sym (append-nil old);
    fan = refl;
    counterclockwise = All-nil (IsCounterclockwiseTri corners);
  }

  -- one more, where its triangle is counterclockwise
  pub one_popped : (now new : List ℕ) (tris : List Tri) (t : Tri) → 1 < length now → new ≡ take (length now - 1) now
      → t ≡ triangle side (get_or now (length now - 1 - 1) 0) (get_or now (length now - 1) 0) x → IsCounterclockwiseTri corners t
      → ArePopped corners side x old now tris → ArePopped corners side x old new (tris ++ t ∷ [])
  one_popped now new tris t some e f left popped =
      let top = get_or now (length now - 1) 0 in
      let ts = fan_from side x top popped.gone in
      let last : last_of new ≡ get_or now (length now - 1 - 1) 0 = ap last_of e ∙ last_of_rest now some in
      let first : fan_from side x (last_of new) (top ∷ popped.gone) ≡ t ∷ ts = ap (λ p. triangle side p top x ∷ ts) last ∙ ap (λ u. u ∷ ts) (sym f) in
      record {
        some = rw e (rw (length_rest now some) (omega arith));
        gone = top ∷ popped.gone;
        parts = popped.parts ∙ ap (λ xs. xs ++ popped.gone) (rest_and_last now some) ∙ append_assoc (rest now some) (top ∷ []) popped.gone
            ∙ ap (λ xs. xs ++ top ∷ popped.gone) (sym e);
        fan = ap (λ us. us ++ t ∷ []) popped.fan ∙ sym (reverse-append (t ∷ []) ts) ∙ ap reverse (sym first);
        counterclockwise = All-push (IsCounterclockwiseTri corners) tris t popped.counterclockwise left;
      }

-- the triangle of the two topmost items, as they are read from the stack
pub top_triangle : (side side' : Side) (now : List ℕ) (n p q x : ℕ) (t : Tri) → t ≡ triangle side' p q x → side' ≡ side → n ≡ length now → 1 < n
    → p ≡ get_or now (n - 1 - 1) p → q ≡ get_or now (n - 1) q
    → t ≡ triangle side (get_or now (length now - 1 - 1) 0) (get_or now (length now - 1) 0) x
top_triangle side side' now n p q x t e s l some f h =
    let f' = f ∙ get_or_default now (n - 1 - 1) p 0 (omega arith) in
    let h' = h ∙ get_or_default now (n - 1) q 0 (omega arith) in
    e ∙ ap (λ k. triangle k p q x) s ∙ ap (λ k. triangle side k q x) (f' ∙ ap (λ m. get_or now (m - 1 - 1) 0) l)
    ∙ ap (λ k. triangle side (get_or now (length now - 1 - 1) 0) k x) (h' ∙ ap (λ m. get_or now (m - 1) 0) l)
