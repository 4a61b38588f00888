use Rattle.std.proofs.Common.{◌≡◌, ◌<◌, ◌^◌, true, fold, drop}
use Rattle.std.specs.Char.{is_ascii_digit}
use Rattle.std.specs.List.{list_all}
use Rattle.rht_script.specs.Spelling.{value_of}
use Rattle.rht_script.proofs.NumberLemmas.{with_digit}
use Rattle.rht_script.proofs.reader.numbers.value.Given as goal

-- the digits that are left carry the value so far on to that of all
abbrev pub invariant-loop-digit : goal.invariant-loop-digit
invariant-loop-digit l = record {
  digits : list_all is_ascii_digit (drop l.digit-index l.digits) ≡ true;
  value : fold with_digit l.value (drop l.digit-index l.digits) ≡ value_of l.digits;
  small : l.value < 2 ^ 64;
}
