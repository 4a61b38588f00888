-- Entering a caller's read section, and leaving it: each has one operation, an addition of 1 to the caller's section word.
use Rattle.std.specs.Prelude.{◌≡◌, ℕ, ◌<◌}
use Rattle.rht_words.specs.declared.op.Op.{Op}
use Rattle.rht_words.specs.declared.op.Op.TheVariants.{Add}
use Rattle.rht_words.specs.Places.{section_place}
use Rattle.rht_grace.specs.declared.sections.Enter.{Enter}
use Rattle.rht_grace.specs.declared.sections.Leave.{Leave}

-- the operation on the section word of this caller
abbrev pub turning : ℕ → Op
turning caller = Add (section_place caller) 1

-- what entering performs, and leaving
abbrev pub enter_plan : Enter → Op
enter_plan m = turning m.caller

abbrev pub leave_plan : Leave → Op
leave_plan m = turning m.caller

-- the section is this caller's, which has a section word
pub record IsSectionOf (caller section : ℕ) : Type 0 where
  pub own : section ≡ caller
  pub within : caller < 16

abbrev pub IsEnterIn : ℕ → Enter → Type 0
IsEnterIn caller m = IsSectionOf caller m.caller

abbrev pub IsLeaveIn : ℕ → Leave → Type 0
IsLeaveIn caller m = IsSectionOf caller m.caller
