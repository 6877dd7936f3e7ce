-- Determinants, and what they have to do with turns.

-- Determinants and linear functionals as written polynomials, by the numbers of their triples.
mod Written
pub use Rattle.plane.proofs.Turns.Written.{determinant, written_determinant}
-- Laws of determinants: rows that change places, equal rows, the relations of four and of five triples, whole points.
mod Determinants
pub use Rattle.plane.proofs.Turns.Determinants.{areas_add, determinant_of_whole, determinant_same_ends, determinant_same_first, determinant_same_last}
pub use Rattle.plane.proofs.Turns.Determinants.{determinant_shift, determinant_shift_back, determinant_swap_ends, determinant_swap_first}
pub use Rattle.plane.proofs.Turns.Determinants.{determinant_swap_last, five_triples, four_triples, four_triples_in_W, four_triples_in_X}
pub use Rattle.plane.proofs.Turns.Determinants.{four_triples_in_Y, linear, parts, straight_shift, straight_shift_back, straight_swap_first}
pub use Rattle.plane.proofs.Turns.Determinants.{straight_swap_last}
pub use Rattle.plane.proofs.Turns.Vectors.{determinant_same, IsCombination, combination_of, combination_of_ends, determinant_along}
pub use Rattle.plane.proofs.Turns.Vectors.{determinant_along_first, determinant_is_linear, linear_along, on_of_combination}
pub use Rattle.plane.proofs.Turns.Vectors.{weights_positive}
-- Points on a segment, as vectors: a positive multiple of the point is a sum of multiples of the ends.
mod Vectors
