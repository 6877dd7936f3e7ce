use Rattle.std.proofs.Common.{◌≡◌, true, pos, min, ◌+◌, take}
use Rattle.std.specs.Char.{is_ascii_digit}
use Rattle.std.specs.List.{list_all}
use Rattle.std.specs.Str.Parse.{digits_value}
use Rattle.plane.specs.declared.limits.TheConstants.{MAX_COORDINATE}
use Rattle.geo_text.proofs.number.long_size.Given as goal

abbrev pub invariant-loop-digit : goal.invariant-loop-digit
invariant-loop-digit l =
    (list_all is_ascii_digit (take l.digit-index l.digits) ≡ true)
    × (l.size ≡ pos (min (digits_value 10 (take l.digit-index l.digits)) (MAX_COORDINATE + 1)))
