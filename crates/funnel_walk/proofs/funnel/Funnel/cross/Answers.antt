use Rattle.std.proofs.Common.{◌≡◌, ◌≢◌, sym, ap, subst, ◌∙◌, ℕ, ◌+◌, ◌-◌, ◌++◌, [], ◌∷◌, length, take, drop, arith}
use Rattle.std.proofs.lemmas.List.{length-append}
use Rattle.meshes.specs.Sleeve.{diagonal_at}
use Rattle.exact_plane.specs.declared.turns.Spot.TheVariants.{Corner}
use Rattle.funnel_walk.proofs.CrossedSides.{goes_left, goes_right}
use Rattle.funnel_walk.proofs.FirstNamed.{one_before, one_behind}
use Rattle.funnel_walk.proofs.PathNames.{apex_below, count_right, no_more}
use Rattle.funnel_walk.proofs.Opened.{diagonal_below}
use Rattle.funnel_walk.proofs.funnel.Funnel.cross.Goals as goal
use Rattle.funnel_walk.specs.Walked.{IsWalked}

-- the number before the next one
one_back : (at : ℕ) → at ≡ at + 1 - 1
one_back at = omega arith

pub narrow_right-self-requires-clause-y_named : goal.narrow_right-self-requires-clause-y_named
narrow_right-self-requires-clause-y_named g c =
    rw c.right.ensures (diagonal_below _ _ c.requires.sleeve.fits _ c.requires.sleeve.of_mesh (c.args.self.now.at + 1) c.requires.within).1

pub narrow_left-self-requires-clause-y_named : goal.narrow_left-self-requires-clause-y_named
narrow_left-self-requires-clause-y_named g c =
    rw c.left-else-left.ensures (diagonal_below _ _ c.requires.sleeve.fits _ c.requires.sleeve.of_mesh (c.args.self.now.at + 1) c.requires.within).0

pub returns-then-left-clause-walked : goal.returns-then-left-clause-walked
returns-then-left-clause-walked g c =
    let sleeve = c.args.sleeve.now in
    let i = c.args.self.now.at + 1 in
    let names = c.args.self.now.names.items in
    let narrowed = c.narrow_right-self in
    let n = length narrowed.new.names.items in
    let before = one_back c.args.self.now.at in
    let same : (diagonal_at sleeve i).left ≡ (diagonal_at sleeve (i - 1)).left =
    sym c.left.ensures ∙ c.if-left.true ∙ c.left-2.ensures ∙ ap (λ k. (diagonal_at sleeve k).left) before in
    let pushed : c.push_back.new.self.items ≡ take n names ++ Corner (diagonal_at sleeve i).right ∷ [] =
    one_behind narrowed.new.names c.push_back.new.self (Corner c.right.result)
    (omega (arith, narrowed.ensures.fewer, narrowed.ensures.same_room, c.requires.room)) c.push_back.ensures.items
    ∙ ap (λ ns. ns ++ Corner c.right.result ∷ []) narrowed.ensures.kept ∙ ap (λ r. take n names ++ Corner r ∷ []) c.right.ensures in
    rw (narrowed.ensures.behind, pushed, narrowed.ensures.apex) (goes_right _ c.requires.sleeve.tris c.requires.sleeve.fits sleeve
    c.requires.sleeve.of_mesh _ _ i (omega arith) c.requires.within c.args.self.now.given c.args.out.now.items names c.args.self.now.apex c.requires.given
    (subst (λ k. IsWalked (g.T.Turns.corners c.args.board.now) (g.T.Turns.start c.args.board.now) (g.T.Turns.goal c.args.board.now)
    (drop c.args.self.now.given c.args.out.now.items) names c.args.self.now.apex (diagonal_at sleeve k).left (diagonal_at sleeve k).right) before c.requires.walked) same n narrowed.ensures.some narrowed.ensures.fewer (rw c.right.ensures at narrowed.ensures.reached))

pub returns-then-left-clause-one_more : goal.returns-then-left-clause-one_more
returns-then-left-clause-one_more g c =
    let names = c.args.self.now.names.items in
    let narrowed = c.narrow_right-self in
    let left = narrowed.new.names.items in
    let pushed = ap length (one_behind narrowed.new.names c.push_back.new.self (Corner c.right.result)
    (omega (arith, narrowed.ensures.fewer, narrowed.ensures.same_room, c.requires.room)) c.push_back.ensures.items)
    ∙ length-append left (Corner c.right.result ∷ []) in
    let count = no_more c.args.out.now.items _ names c.args.self.now.apex (length left) narrowed.ensures.behind (apex_below c.requires.walked)
    narrowed.ensures.some narrowed.ensures.fewer in
    omega (arith, count, pushed)

pub returns-else-left-clause-walked : goal.returns-else-left-clause-walked
returns-else-left-clause-walked g c =
    let sleeve = c.args.sleeve.now in
    let i = c.args.self.now.at + 1 in
    let names = c.args.self.now.names.items in
    let narrowed = c.narrow_left-self in
    let h = length names - length narrowed.new.names.items in
    let before = one_back c.args.self.now.at in
    let other : (diagonal_at sleeve i).left ≢ (diagonal_at sleeve (i - 1)).left =
    λ same. c.if-left.false (c.left.ensures ∙ same ∙ sym (c.left-2.ensures ∙ ap (λ k. (diagonal_at sleeve k).left) before)) in
    let pushed : c.push_front.new.self.items ≡ Corner (diagonal_at sleeve i).left ∷ drop h names =
    one_before narrowed.new.names c.push_front.new.self (Corner c.left-else-left.result)
    (omega (arith, narrowed.ensures.fewer, narrowed.ensures.same_room, c.requires.room)) c.push_front.ensures.items
    ∙ ap (λ ns. Corner c.left-else-left.result ∷ ns) narrowed.ensures.kept ∙ ap (λ r. Corner r ∷ drop h names) c.left-else-left.ensures in
    rw (narrowed.ensures.behind, pushed, narrowed.ensures.apex) (goes_left _ c.requires.sleeve.tris c.requires.sleeve.fits sleeve
    c.requires.sleeve.of_mesh _ _ i (omega arith) c.requires.within c.args.self.now.given c.args.out.now.items names c.args.self.now.apex c.requires.given
    (subst (λ k. IsWalked (g.T.Turns.corners c.args.board.now) (g.T.Turns.start c.args.board.now) (g.T.Turns.goal c.args.board.now)
    (drop c.args.self.now.given c.args.out.now.items) names c.args.self.now.apex (diagonal_at sleeve k).left (diagonal_at sleeve k).right) before c.requires.walked) other h (omega (arith, narrowed.ensures.some, narrowed.ensures.fewer)) (rw c.left-else-left.ensures at narrowed.ensures.reached))

pub returns-else-left-clause-one_more : goal.returns-else-left-clause-one_more
returns-else-left-clause-one_more g c =
    let names = c.args.self.now.names.items in
    let narrowed = c.narrow_left-self in
    let left = narrowed.new.names.items in
    let pushed = ap length (one_before narrowed.new.names c.push_front.new.self (Corner c.left-else-left.result)
    (omega (arith, narrowed.ensures.fewer, narrowed.ensures.same_room, c.requires.room)) c.push_front.ensures.items) in
    let count = ap length narrowed.ensures.behind
    ∙ count_right c.args.out.now.items names c.args.self.now.apex ((length names - length left) - c.args.self.now.apex) in
    omega (arith, count, pushed, narrowed.ensures.fewer, narrowed.ensures.some)
