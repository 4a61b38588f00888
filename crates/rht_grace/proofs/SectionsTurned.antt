-- An addition of 1 turns the lowest bit, also where the word begins again, since 2^64 is even.
use Rattle.std.proofs.Common.{arith}
use Rattle.rht_grace.specs.Laws.{TurnSections}

pub turn_sections : TurnSections
turn_sections = record {
  enters = λ m old even. omega (arith, even);
  leaves = λ m old odd. omega (arith, odd);
  enter_changes = λ m old fits same. absurd (omega (arith, fits, same));
  leave_changes = λ m old fits same. absurd (omega (arith, fits, same));
}
