use Rattle.std.proofs.Common.{◌≡◌, ◌-◌, length, take, drop, true, Some, ap, arith, rules, sym, ◌∙◌}
use Rattle.std.proofs.lemmas.Grind.{common_steps}
use Rattle.std.proofs.lemmas.Int.{ints}
use Rattle.std.specs.Str.Parse.{starts_with_minus}
use Rattle.geo_text.proofs.CappedNumber.{capped-neg, only_if}
use Rattle.geo_text.proofs.number.number.Goals as goal

pub returns-in_ok-size-in-45 : goal.returns-in_ok-size-in-45
returns-in_ok-size-in-45 c =
    let field = c.args.field.now in
    let minus : starts_with_minus field ≡ true = search rules in
    let tail : take (length field - 1) (drop 1 field) ≡ drop 1 field = grind (arith, common_steps) in
    let read = rw tail at (only_if _ _ _ (sym c.in_ok-size-in-45.was ∙ c.size.ensures)) in
    rw (minus, read.0, capped-neg, ← read.1) (ap Some (omega (arith, ints)))
