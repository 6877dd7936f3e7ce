-- How many entries the chains of regions have in all: what bounds the work to close them. No public clause cites this module.
use Rattle.std.specs.Prelude.{ℕ, ◌+◌, ◌*◌, ◌≤◌, OnOk, Option, Some, None, Result, List, [], ◌∷◌, length}
use Rattle.sweep_tri.specs.Region.{Chains}
use Rattle.sweep_tri.specs.declared.gap.Gap.{Gap}

-- of one region
abbrev pub entries : Chains → ℕ
entries c = length c.lower + length c.upper

-- of some
abbrev pub entries_of_all : List Chains → ℕ
entries_of_all [] = 0
entries_of_all (c ∷ cs) = entries c + entries_of_all cs

-- of a region that may be there
abbrev pub entries_if : Option Chains → ℕ
entries_if None = 0
entries_if (Some c) = entries c

-- of a gap
abbrev pub gap_entries : Gap → ℕ
gap_entries g = entries g.low + entries_if g.high

-- of a list of gaps
abbrev pub status_entries : List Gap → ℕ
status_entries [] = 0
status_entries (g ∷ gs) = gap_entries g + status_entries gs

-- the steps that one event takes at most, but for the place of its vertex and for the entries of the regions that it closes
abbrev pub event_work : ℕ
event_work = 57

-- the steps s after an event that began at s_old are paid for by the entries of the gaps that were there, eight for each, and some more
abbrev pub IsWithinAccount : List Gap → ℕ → ℕ → ℕ → Type 0
IsWithinAccount old more s_old s = s ≤ s_old + 8 * status_entries old + more

-- and by those that are gone
abbrev pub IsPaid : List Gap → List Gap → ℕ → ℕ → ℕ → Type 0
IsPaid old new more s_old s = s + 8 * status_entries new ≤ s_old + 8 * status_entries old + more

-- by the former in any case, and where it was not refused by the latter
abbrev pub IsAccounted : {A E : Type 0} → Result A E → List Gap → List Gap → ℕ → ℕ → ℕ → Type 0
IsAccounted result old new more s_old s = IsWithinAccount old more s_old s × OnOk result (IsPaid old new more s_old s)
