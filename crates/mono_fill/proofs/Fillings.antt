-- The loop: the cursors, the stack and the triangles, as the code tells them.
-- The loop of a filling: the cursors, the stack and the triangles so far.
-- The steps of the loop, as the code tells them: the values before and after by equations.
use Rattle.std.specs.List.{Contains, All}
use Rattle.std.proofs.Common.{◌≡◌, refl, sym, ap, ◌∙◌, ℕ, ◌+◌, ◌<◌, ◌≤◌, ℤ, pos, List, [], ◌∷◌, ◌++◌, length, take, append_assoc}
use Rattle.std.proofs.Common.{append-nil, arith, Bool, true, false, subst, drop}
use Rattle.std.proofs.lemmas.Int.{ints}
use Rattle.std.proofs.lemmas.List.Elements.{All-cons, All-get_or, All-nil, All-push, All-same, All-take}
use Rattle.std.specs.Prelude.{slice_index}
use Rattle.std.proofs.lemmas.List.{length-append, length-drop, length-take, take_at}
use Rattle.plane.specs.Point.{Point}
use Rattle.meshes.proofs.Boundaries.{fits_bounded}
use Rattle.meshes.specs.Boundary.{sum_along}
use Rattle.meshes.specs.Fits.{FitsPiece, IsTriOf}
use Rattle.meshes.specs.Piece.{IsPolygonPiece}
use Rattle.meshes.specs.declared.tri.Tri.{Tri}
use Rattle.mono_fill.proofs.Outlines.{at, before, IsMerge, IsOutline, merge_begins, merge_goes_on, merge_swapped, rank_at, read_outline}
use Rattle.mono_fill.proofs.Outlines.{strictly_next}
use Rattle.mono_fill.proofs.Stages.{all_cancel, all_triangles, IsStage, stage_crosses, stage_goes_on}
use Rattle.mono_fill.proofs.Sums.{met}
use Rattle.mono_fill.specs.Cursors.{Cursors, ahead, along_chain, at_least, one_more, read_from, taken}
use Rattle.mono_fill.specs.Fillable.{IsFillable}
use Rattle.mono_fill.specs.Filled.{IsFilled}
use Rattle.mono_fill.specs.Sides.{fan, other_chain_side}
use Rattle.mono_fill.specs.Stacks.{ArePopped, IsSettled, last_of, Extends}
use Rattle.mono_fill.specs.contracts.side.Side.{the_type}
use Rattle.mono_fill.specs.declared.side.Side.{Side}
use Rattle.mono_fill.specs.declared.side.Side.TheVariants.{Lower, Upper}
use denote.Enum.Bare.{sameb}

-- so far the triangles behind the old ones are those of the stages
pub record IsFilling (corners : List Point) (ranks piece : List ℕ) (c : Cursors) (side : Side) (stack : List ℕ) (old new : List Tri) : Type 0 where
  pub outline : IsOutline corners ranks piece c.ring
  pub merge : IsMerge outline side (other_chain_side side) (taken side c) (taken (other_chain_side side) c)
  pub tris : List Tri
  pub added : new ≡ old ++ tris
  pub stage : IsStage outline side (other_chain_side side) (taken side c) (taken (other_chain_side side) c) stack tris

-- more triangles behind them
add_more : (old : List Tri) {new newer : List Tri} (tris more : List Tri) → new ≡ old ++ tris → newer ≡ new ++ more → newer ≡ old ++ (tris ++ more)
add_more old tris more e f = f ∙ ap (λ ts. ts ++ more) e ∙ append_assoc old tris more

-- ---- at first

-- along one item there is nothing to sum
none_summed : (φ : ℕ → ℕ → ℤ) (xs : List ℕ) → sum_along φ (take 1 xs) ≡ pos 0
none_summed φ [] = refl
none_summed φ (x ∷ xs) = refl

pub filling_begins : (corners : List Point) (ranks piece : List ℕ) (old : List Tri) → IsFillable corners ranks piece → (place : ℕ)
    → place < length piece
    → ((k : ℕ) → k < length piece → slice_index ranks (slice_index piece place) ≤ slice_index ranks (slice_index piece k))
    → IsFilling corners ranks piece (at_least ranks (read_from place piece)) Lower (slice_index (read_from place piece) 0 ∷ []) old old
filling_begins corners ranks piece old f place within least =
    let o = read_outline corners ranks piece f place within least in
    let ring = read_from place piece in
    let s = slice_index ring 0 in
    record {
      outline = o;
      merge = merge_begins o;
      tris = [];
      added = sym (append-nil old);
      stage = record {
        some = omega arith;
        bottom = o.begins;
        top = refl;
        members = All-cons (Contains piece) s [] (o.members Lower 0 (omega arith)) (All-nil (Contains piece));
        numbers = All-cons (λ i. i < length corners) s [] (o.numbers Lower 0 (omega arith)) (All-nil (λ i. i < length corners));
        rises = λ k h. absurd (omega arith);
        flat = λ k h. absurd (omega arith);
        inward = λ k h l. absurd (omega arith);
        triangles = All-nil (IsTriOf corners piece);
        sums = λ φ odd. let a = none_summed (met Lower φ) (along_chain Lower ring) in let b = none_summed (met Upper φ) (along_chain Upper ring) in
            omega (arith, ints);
      };
    }

-- ---- the next vertex is on the chain of the stack

module _ {corners : List Point} {ranks piece ring : List ℕ} (o : IsOutline corners ranks piece ring) (side : Side) (own other : ℕ)
    (m : IsMerge o side (other_chain_side side) own other) (more : own + other + 2 < length ring)
    (next : rank_at ranks ring side (own + 1) ≤ rank_at ranks ring (other_chain_side side) (other + 1))
    (stack kept : List ℕ) (tris popped : List Tri) (s : IsStage o side (other_chain_side side) own other stack tris)
    (are : ArePopped corners side (at ring side (own + 1)) stack kept popped) (settled : IsSettled corners side (at ring side (own + 1)) kept) where
  on_stage : IsStage o side (other_chain_side side) (own + 1) other (kept ++ at ring side (own + 1) ∷ []) (tris ++ popped)
  on_stage =
      let hb = o.numbers side (own + 1) (omega (arith, m.own_inside)) in
      let hd = o.numbers (other_chain_side side) (other + 1) (omega (arith, m.other_inside)) in
      stage_goes_on o side (other_chain_side side) own other stack kept tris popped (omega (arith, m.own_inside)) s are settled
      (o.rises side own m.own_inside)
      (m.inward.own (before o _ _ hb hd (strictly_next o side own other m more next)))

-- it is on the other chain

module _ {corners : List Point} {ranks piece ring : List ℕ} (o : IsOutline corners ranks piece ring) (side : Side) (own other : ℕ)
    (m : IsMerge o side (other_chain_side side) own other) (sooner : rank_at ranks ring (other_chain_side side) (other + 1) < rank_at ranks ring side (own + 1))
    (stack : List ℕ) (tris : List Tri) (s : IsStage o side (other_chain_side side) own other stack tris) where
  on_crossing : IsStage o (other_chain_side side) side (other + 1) own (last_of stack ∷ at ring (other_chain_side side) (other + 1) ∷ [])
      (tris ++ fan side (at ring (other_chain_side side) (other + 1)) stack)
  on_crossing =
      let hb = o.numbers side (own + 1) (omega (arith, m.own_inside)) in
      let hd = o.numbers (other_chain_side side) (other + 1) (omega (arith, m.other_inside)) in
      stage_crosses o side own other stack tris (omega (arith, m.other_inside)) s m.own_first (m.inward.other (before o _ _ hd hb sooner))

-- it is the greatest

module _ {corners : List Point} {ranks piece ring : List ℕ} (o : IsOutline corners ranks piece ring) (side : Side) (own other : ℕ)
    (m : IsMerge o side (other_chain_side side) own other) (own_last : own + 1 ≡ o.edges side) (other_last : other + 1 ≡ o.edges (other_chain_side side))
    (stack : List ℕ) (tris : List Tri) (s : IsStage o side (other_chain_side side) own other stack tris) (polygon : IsPolygonPiece corners piece) where
  on_end : FitsPiece corners piece (tris ++ fan side (at ring (other_chain_side side) (other + 1)) stack)
  on_end =
      let all = tris ++ fan side (at ring (other_chain_side side) (other + 1)) stack in
      let inside : other + 1 ≤ o.edges (other_chain_side side) = omega arith in
      fits_bounded corners piece all polygon
      (λ k h. All-get_or (IsTriOf corners piece) all k _ h (all_triangles o side own other stack tris inside s m.own_first own_last other_last))
      (all_cancel o side own other stack tris inside s m.own_first own_last other_last)

-- ---- the loop

module _ (corners : List Point) (ranks piece : List ℕ) (old new newer : List Tri) where
  pub filling_goes_on : (c : Cursors) (side : Side) (stack kept : List ℕ) (popped : List Tri) → IsFilling corners ranks piece c side stack old new
      → c.lower + c.upper + 2 < length c.ring → slice_index ranks (ahead side c) ≤ slice_index ranks (ahead (other_chain_side side) c)
      → newer ≡ new ++ popped → ArePopped corners side (ahead side c) stack kept popped → IsSettled corners side (ahead side c) kept
      → IsFilling corners ranks piece (one_more side c) side (kept ++ ahead side c ∷ []) old newer
  filling_goes_on c Lower stack kept popped f more next e are settled = record {
    outline = f.outline;
    merge = merge_goes_on f.outline Lower c.lower c.upper f.merge more next;
    tris = f.tris ++ popped;
    added = add_more old f.tris popped f.added e;
    stage = on_stage f.outline Lower c.lower c.upper f.merge more next stack kept f.tris popped f.stage are settled;
  }
  filling_goes_on c Upper stack kept popped f more next e are settled =
      let more' : c.upper + c.lower + 2 < length c.ring = omega arith in
      record {
        outline = f.outline;
        merge = merge_goes_on f.outline Upper c.upper c.lower f.merge more' next;
        tris = f.tris ++ popped;
        added = add_more old f.tris popped f.added e;
        stage = on_stage f.outline Upper c.upper c.lower f.merge more' next stack kept f.tris popped f.stage are settled;
      }

  -- ---- it is on the other chain

  pub filling_crosses : (c : Cursors) (side : Side) (stack : List ℕ) → IsFilling corners ranks piece c side stack old new
      → c.lower + c.upper + 2 < length c.ring → slice_index ranks (ahead (other_chain_side side) c) ≤ slice_index ranks (ahead side c)
      → newer ≡ new ++ fan side (ahead (other_chain_side side) c) stack
      → IsFilling corners ranks piece (one_more (other_chain_side side) c) (other_chain_side side) (last_of stack ∷ ahead (other_chain_side side) c ∷ []) old newer
  filling_crosses c Lower stack f more next e =
      let more' : c.upper + c.lower + 2 < length c.ring = omega arith in
      let swapped = merge_swapped f.outline Lower Upper c.lower c.upper f.merge in
      record {
        outline = f.outline;
        merge = merge_goes_on f.outline Upper c.upper c.lower swapped more' next;
        tris = f.tris ++ fan Lower (ahead Upper c) stack;
        added = add_more old f.tris _ f.added e;
        stage = on_crossing f.outline Lower c.lower c.upper f.merge
            (strictly_next f.outline Upper c.upper c.lower swapped more' next) stack f.tris f.stage;
      }
  filling_crosses c Upper stack f more next e =
      let swapped = merge_swapped f.outline Upper Lower c.upper c.lower f.merge in
      record {
        outline = f.outline;
        merge = merge_goes_on f.outline Lower c.lower c.upper swapped more next;
        tris = f.tris ++ fan Upper (ahead Lower c) stack;
        added = add_more old f.tris _ f.added e;
        stage = on_crossing f.outline Upper c.upper c.lower f.merge
            (strictly_next f.outline Lower c.lower c.upper swapped more next) stack f.tris f.stage;
      }

  -- ---- it is the greatest

  pub filling_ends : (c : Cursors) (side : Side) (stack : List ℕ) → IsPolygonPiece corners piece → IsFilling corners ranks piece c side stack old new
      → c.lower + c.upper + 2 ≡ length c.ring → newer ≡ new ++ fan side (ahead Lower c) stack → IsFilled corners piece old newer
  filling_ends c Lower stack polygon f all e =
      let o = f.outline in
      let low : c.lower + 1 ≡ o.edges Lower = omega (arith, o.all, f.merge.own_inside, f.merge.other_inside) in
      let high : c.upper + 1 ≡ o.edges Upper = omega (arith, o.all, f.merge.own_inside, f.merge.other_inside) in
      let same : ahead Lower c ≡ ahead Upper c = ap (at c.ring Lower) low ∙ o.ends ∙ ap (at c.ring Upper) (sym high) in (
        f.tris ++ fan Lower (ahead Upper c) stack,
        add_more old f.tris _ f.added (e ∙ ap (λ x. new ++ fan Lower x stack) same),
        on_end o Lower c.lower c.upper f.merge low high stack f.tris f.stage polygon,
      )
  filling_ends c Upper stack polygon f all e =
      let o = f.outline in
      let low : c.lower + 1 ≡ o.edges Lower = omega (arith, o.all, f.merge.own_inside, f.merge.other_inside) in
      let high : c.upper + 1 ≡ o.edges Upper = omega (arith, o.all, f.merge.own_inside, f.merge.other_inside) in (
        f.tris ++ fan Upper (ahead Lower c) stack,
        add_more old f.tris _ f.added e,
        on_end o Upper c.upper c.lower f.merge high low stack f.tris f.stage polygon,
      )

-- of two chains one is the other or the opposite one
pub other_side : (a b : Side) → ¬ (a ≡ b) → a ≡ other_chain_side b
other_side Lower Lower n = absurd (n refl)
other_side Lower Upper n = refl
other_side Upper Lower n = refl
other_side Upper Upper n = absurd (n refl)

-- they are compared
pub told_same : (a b : Side) (is : Bool) → is ≡ sameb the_type a b → is ≡ true → a ≡ b
told_same Lower Lower is e h = refl
told_same Lower Upper is e h = cc
told_same Upper Lower is e h = cc
told_same Upper Upper is e h = refl

pub told_other : (a b : Side) (is : Bool) → is ≡ sameb the_type a b → is ≡ false → ¬ (a ≡ b)
told_other Lower Lower is e h = cc
told_other Lower Upper is e h = λ k. cc
told_other Upper Lower is e h = λ k. cc
told_other Upper Upper is e h = cc

-- the opposite of the opposite chain
twice : (a : Side) → other_chain_side (other_chain_side a) ≡ a
twice Lower = refl
twice Upper = refl

-- a list read from a place on is as long
pub length_read : (place : ℕ) (xs : List ℕ) → place < length xs → length (read_from place xs) ≡ length xs
length_read place xs h = let e = length-append (drop place xs) (take place xs) in omega (arith, length-drop place xs, length-take place xs)

-- one more vertex is taken: the ranks and the ring stay
pub one_more_ranks : (side : Side) (c d : Cursors) → d ≡ one_more side c → d.ranks ≡ c.ranks
one_more_ranks Lower c d e = ap (λ (k : Cursors). k.ranks) e
one_more_ranks Upper c d e = ap (λ (k : Cursors). k.ranks) e

pub one_more_ring : (side : Side) (c d : Cursors) → d ≡ one_more side c → length d.ring ≡ length c.ring
one_more_ring Lower c d e = ap (λ (k : Cursors). length k.ring) e
one_more_ring Upper c d e = ap (λ (k : Cursors). length k.ring) e

pub one_more_taken : (side : Side) (c d : Cursors) → d ≡ one_more side c → d.lower + d.upper ≡ c.lower + c.upper + 1
one_more_taken Lower c d e = let h = ap (λ (k : Cursors). k.lower + k.upper) e in omega arith
one_more_taken Upper c d e = let h = ap (λ (k : Cursors). k.lower + k.upper) e in omega arith

-- what is popped leaves a stack with numbers of the kind that they had
pub kept_all : (P : ℕ → Type 0) (corners : List Point) (side : Side) (x : ℕ) (stack kept new : List ℕ) (tris : List Tri)
    → ArePopped corners side x stack kept tris → new ≡ kept ++ x ∷ [] → All P stack → P x → All P new
kept_all P corners side x stack kept new tris are e all h =
    let first = ap (take (length kept)) are.parts ∙ take_at kept are.gone (length kept) refl in
    All-same P new (kept ++ x ∷ []) e (All-push P kept x (subst (All P) first (All-take P (length kept) stack all)) h)

-- a filling at other names of the same values
moved : (corners : List Point) (ranks piece : List ℕ) (old new : List Tri) {c d : Cursors} {side side' : Side} {stack stack' : List ℕ}
    → d ≡ c → side' ≡ side → stack' ≡ stack → IsFilling corners ranks piece c side stack old new
    → IsFilling corners ranks piece d side' stack' old new
moved corners ranks piece old new {c} {d} {side} {side'} {stack} {stack'} e h k f =
    subst (λ xs. IsFilling corners ranks piece d side' xs old new) (sym k)
    (subst (λ s. IsFilling corners ranks piece d s stack old new) (sym h)
    (subst (λ q. IsFilling corners ranks piece q side stack old new) (sym e) f))

-- what extends what extends a list extends it
pub extends_on : (old new newer : List Tri) → Extends old new → Extends new newer → Extends old newer
extends_on old new newer (ts, e) (us, h) = (ts ++ us, h ∙ ap (λ vs. vs ++ us) e ∙ append_assoc old ts us)

module _ (corners : List Point) (ranks piece : List ℕ) (old : List Tri) where
  pub begun : IsFillable corners ranks piece → (c : Cursors) (side : Side) (x : ℕ) (stack : List ℕ) (place : ℕ) → place < length piece
      → c ≡ at_least ranks (read_from place piece)
      → ((k : ℕ) → k < length piece → slice_index ranks (slice_index piece place) ≤ slice_index ranks (slice_index piece k))
      → side ≡ Lower → x ≡ slice_index c.ring 0 → stack ≡ x ∷ [] → IsFilling corners ranks piece c side stack old old
  begun f c side x stack place within e least is_lower is_first is_stack =
      let x_is = is_first ∙ ap (λ (k : Cursors). slice_index k.ring 0) e in
      let stack_is = is_stack ∙ ap (λ i. i ∷ []) x_is in
      moved corners ranks piece old old e is_lower stack_is (filling_begins corners ranks piece old f place within least)

  module _ (c d : Cursors) (side at side' : Side) (x : ℕ) (stack stack' : List ℕ) (new newer : List Tri)
      (f : IsFilling corners ranks piece c side stack old new) (more : c.lower + c.upper + 2 < length c.ring) (same_ranks : c.ranks ≡ ranks)
      (vertex : x ≡ ahead at c) (cursors : d ≡ one_more at c) (next : slice_index c.ranks x ≤ slice_index c.ranks (ahead (other_chain_side at) c)) where
    -- x is the next vertex
    x_next : slice_index ranks (ahead at c) ≤ slice_index ranks (ahead (other_chain_side at) c)
    x_next = subst (λ i. slice_index ranks i ≤ slice_index ranks (ahead (other_chain_side at) c)) vertex
        (subst (λ rs. slice_index rs x ≤ slice_index rs (ahead (other_chain_side at) c)) same_ranks next)

    -- on the chain of the stack,
    pub gone_on : at ≡ side → side' ≡ side → (kept : List ℕ) (popped : List Tri) → stack' ≡ kept ++ x ∷ [] → IsSettled corners side x kept
        → newer ≡ new ++ popped → ArePopped corners side x stack kept popped → IsFilling corners ranks piece d side' stack' old newer
    gone_on on stays kept popped is_stack settled is_new are =
        let v : x ≡ ahead side c = vertex ∙ ap (λ s. ahead s c) on in
        let n = subst (λ s. slice_index ranks (ahead s c) ≤ slice_index ranks (ahead (other_chain_side s) c)) on x_next in
        moved corners ranks piece old newer (cursors ∙ ap (λ s. one_more s c) on) stays (is_stack ∙ ap (λ i. kept ++ i ∷ []) v)
        (filling_goes_on corners ranks piece old new newer c side stack kept popped f more n is_new
        (subst (λ i. ArePopped corners side i stack kept popped) v are) (subst (λ i. IsSettled corners side i kept) v settled))

    -- or on the other one
    pub crossed : ¬ (at ≡ side) → side' ≡ other_chain_side side → stack' ≡ last_of stack ∷ x ∷ [] → newer ≡ new ++ fan side x stack
        → IsFilling corners ranks piece d side' stack' old newer
    crossed off turns is_stack is_new =
        let on = other_side at side off in
        let v : x ≡ ahead (other_chain_side side) c = vertex ∙ ap (λ s. ahead s c) on in
        let n = subst (λ s. slice_index ranks (ahead s c) ≤ slice_index ranks (ahead (other_chain_side s) c)) on x_next in
        let n' = subst (λ s. slice_index ranks (ahead (other_chain_side side) c) ≤ slice_index ranks (ahead s c)) (twice side) n in
        moved corners ranks piece old newer (cursors ∙ ap (λ s. one_more s c) on) turns (is_stack ∙ ap (λ i. last_of stack ∷ i ∷ []) v)
        (filling_crosses corners ranks piece old new newer c side stack f more n' (is_new ∙ ap (λ i. new ++ fan side i stack) v))
