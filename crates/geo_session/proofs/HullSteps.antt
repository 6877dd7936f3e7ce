-- How many steps the hull of some points takes, and its round.
use Rattle.std.proofs.Common.{ℕ, ◌+◌, ◌*◌, ◌<◌, ◌≤◌, List, length, arith}
use Rattle.std.proofs.lemmas.Nat.{mul-le}
use Rattle.plane.specs.Point.{Point}
use Rattle.meshes.specs.declared.tri.Tri.{Tri}
use Rattle.geo_text.specs.Version.{by_version}
use Rattle.geo_text.specs.declared.version.Version.{Version}
use Rattle.geo_text.specs.declared.version.Version.TheVariants as version
use Rattle.rel_hull.specs.Table.{HasChainsBelow, chain_at}
use Rattle.geo_session.proofs.HullTable.{short_chain}
use Rattle.geo_session.specs.Span.{IsSpan}
use Rattle.geo_session.specs.declared.span.Span.{Span}

-- a chain of a span has fewer than 2^15 points
pub chains_below : (ring : List Point) (tris : List Tri) (points : List Point) (span : Span) → IsSpan ring tris points span
    → HasChainsBelow 15 span.chains
chains_below ring tris points span is i j at_i at_j =
    let within_i : i < length span.numbers.items = omega (arith, at_i, is.table.count) in
    let within_j : j < length span.numbers.items = omega (arith, at_j, is.table.count) in
    let short : length (chain_at span.chains i j) ≤ 16385 = (short_chain ring tris points span is i j within_i within_j).short in
    omega (arith, short)

-- the triangles of m points in a ring of n, the k first numbers, and the chains between these
pub span_paid : (start held numbered done n m k : ℕ) → held ≤ start + m * (3 * n) → numbered ≤ held + m * m → done ≤ numbered + k * k * (4 * n)
    → k ≤ m → done ≤ start + m * (3 * n + m * (4 * n + 1))
span_paid start held numbered done n m k one two three few =
    let square : k * k ≤ m * m = mul-le k k m m few few in
    let all : k * k * (4 * n) ≤ m * m * (4 * n) = mul-le (k * k) (4 * n) (m * m) (4 * n) square (omega arith) in
    omega (arith, one, two, three, all)

-- and p sides that are told, each in so many steps a vertex
told_paid : (start spanned found done n m k p each : ℕ) → spanned ≤ start + m * (3 * n + m * (4 * n + 1))
    → found ≤ spanned + k * k * (3 * k + 2 * (15 + 8)) → done ≤ found + p * (each * n) → k ≤ m → p ≤ m
    → done ≤ start + m * ((3 + each) * n + m * (4 * n + 3 * m + 47))
told_paid start spanned found done n m k p each one two three few no_more =
    let square : k * k ≤ m * m = mul-le k k m m few few in
    let all : k * k * (3 * k + 46) ≤ m * m * (3 * m + 46) = mul-le (k * k) (3 * k + 46) (m * m) (3 * m + 46) square (omega (arith, few)) in
    let told : p * (each * n) ≤ m * (each * n) = mul-le p (each * n) m (each * n) no_more (omega arith) in
    omega (arith, one, two, three, all, told)

pub hull_paid : (version : Version) (start spanned found done n m k p : ℕ) → spanned ≤ start + m * (3 * n + m * (4 * n + 1))
    → found ≤ spanned + k * k * (3 * k + 2 * (15 + 8)) → done ≤ found + p * (by_version version 0 20 * n) → k ≤ m → p ≤ m
    → done ≤ start + m * (by_version version 3 23 * n + m * (4 * n + 3 * m + 47))
hull_paid version.One start spanned found done n m k p one two three few no_more =
    told_paid start spanned found done n m k p 0 one two three few no_more
hull_paid version.Two start spanned found done n m k p one two three few no_more =
    told_paid start spanned found done n m k p 20 one two three few no_more

-- and where no round is found yet, or it is
pub closed_paid : (start spanned found n m k : ℕ) → spanned ≤ start + m * (3 * n + m * (4 * n + 1)) → found ≤ spanned + 3 * k * k * (k + 15 + 8)
    → k ≤ m → found ≤ start + m * (3 * n + m * (4 * n + 3 * m + 70))
closed_paid start spanned found n m k one two few =
    let square : k * k ≤ m * m = mul-le k k m m few few in
    let all : k * k * (3 * k + 69) ≤ m * m * (3 * m + 69) = mul-le (k * k) (3 * k + 69) (m * m) (3 * m + 69) square (omega (arith, few)) in
    omega (arith, one, two, all)
