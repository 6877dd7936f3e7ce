use Rattle.std.proofs.Common.{◌≡◌, ap, ◌∙◌, ◌-◌, ◌≤◌, ◌<◌, ◌++◌, [], ◌∷◌, length, take, arith}
use Rattle.std.proofs.lemmas.List.{get_or_read}
use Rattle.std.specs.List.{insert}
use Rattle.std.specs.Prelude.{slice_index, slice_set}
use Rattle.sweep_tri.proofs.Slots.{free_apart, free_below, gaps_count, gaps_inserted, gaps_reused, slots_added, slots_reused}
use Rattle.sweep_tri.proofs.status.Status.insert.Goals as goal
use Rattle.sweep_tri.specs.Slots.{gaps_of}

pub invariant_of-self-then-left-gt0 : goal.invariant_of-self-then-left-gt0
invariant_of-self-then-left-gt0 c =
    let slots = c.self.inside.slots.items in
    let numbers = c.self.inside.numbers.items in
    let free = c.self.inside.free.items in
    let j = c.args.j in
    let within : j ≤ length numbers = omega (arith, c.requires.place, gaps_count slots numbers, ap length c.self.view_is) in
    let some : 0 < length free = omega (arith, c.if-left-gt0.true, c.len-left.ensures, c.self.inside.free.ok) in
    let place : c.len-left.result - 1 ≡ length free - 1 = omega (arith, c.len-left.ensures, c.self.inside.free.ok) in
    let number : c.index-number.result.now ≡ slice_index free (length free - 1) =
    get_or_read free (c.len-left.result - 1) c.index-number.result.now (omega (arith, place, some)) c.index-number.ensures 0
    ∙ ap (slice_index free) place in
    let rest : c.pop.new.self.items ≡ take (length free - 1) free =
    c.pop.ensures.rest ∙ ap (λ n. take n free) (omega (arith, c.self.inside.free.ok)) in
    rw (c.in_ok-insert.ensures.items, rest, number) (slots_reused slots numbers free c.self.invariant some j within c.args.gap)

pub returns-then-left-gt0 : goal.returns-then-left-gt0
returns-then-left-gt0 c =
    let slots = c.self.inside.slots.items in
    let numbers = c.self.inside.numbers.items in
    let free = c.self.inside.free.items in
    let j = c.args.j in
    let gap = c.args.gap in
    let within : j ≤ length numbers = omega (arith, c.requires.place, gaps_count slots numbers, ap length c.self.view_is) in
    let some : 0 < length free = omega (arith, c.if-left-gt0.true, c.len-left.ensures, c.self.inside.free.ok) in
    let place : c.len-left.result - 1 ≡ length free - 1 = omega (arith, c.len-left.ensures, c.self.inside.free.ok) in
    let last = slice_index free (length free - 1) in
    let number : c.index-number.result.now ≡ last =
    get_or_read free (c.len-left.result - 1) c.index-number.result.now (omega (arith, place, some)) c.index-number.ensures 0
    ∙ ap (slice_index free) place in
    record {
      gaps = ap (gaps_of (slice_set slots c.index-number.result.now gap)) c.in_ok-insert.ensures.items
          ∙ ap (λ n. gaps_of (slice_set slots n gap) (insert numbers j n)) number
          ∙ gaps_reused slots numbers c.self.invariant.taken j within gap last (free_below slots numbers free c.self.invariant some)
          (free_apart slots numbers free c.self.invariant some)
          ∙ ap (λ gaps. insert gaps j gap) c.self.view_is;
    }

pub invariant_of-self-2 : goal.invariant_of-self-2
invariant_of-self-2 c =
    let slots = c.self.inside.slots.items in
    let numbers = c.self.inside.numbers.items in
    let free = c.self.inside.free.items in
    let j = c.args.j in
    let within : j ≤ length numbers = omega (arith, c.requires.place, gaps_count slots numbers, ap length c.self.view_is) in
    let none : length free ≡ 0 = omega (arith, c.if-left-gt0.false, c.len-left.ensures, c.self.inside.free.ok) in
    let number : c.len-number.result ≡ length slots = omega (arith, c.len-number.ensures, c.self.inside.slots.ok) in
    rw (c.in_ok-insert-2.ensures.items, c.reserve.ensures.items, c.in_ok-push.ensures.items, number)
    (slots_added slots numbers free c.self.invariant none j within c.args.gap)

pub returns : goal.returns
returns c =
    let slots = c.self.inside.slots.items in
    let numbers = c.self.inside.numbers.items in
    let j = c.args.j in
    let within : j ≤ length numbers = omega (arith, c.requires.place, gaps_count slots numbers, ap length c.self.view_is) in
    let number : c.len-number.result ≡ length slots = omega (arith, c.len-number.ensures, c.self.inside.slots.ok) in
    record {
      gaps = ap (gaps_of c.push.new.self.items) (c.in_ok-insert-2.ensures.items ∙ ap (λ ns. insert ns j c.len-number.result) c.reserve.ensures.items)
          ∙ ap (λ gs. gaps_of gs (insert numbers j c.len-number.result)) c.in_ok-push.ensures.items
          ∙ ap (λ n. gaps_of (slots ++ c.args.gap ∷ []) (insert numbers j n)) number
          ∙ gaps_inserted slots numbers c.self.invariant.taken j within c.args.gap
          ∙ ap (λ gaps. insert gaps j c.args.gap) c.self.view_is;
    }
