use Rattle.std.proofs.Common.{◌≡◌, length}
use Rattle.rht_check.specs.Reading.{asked_from}
use Rattle.rht_check.proofs.ClaimsRead.{with_commands}
use Rattle.rht_check.proofs.reader.commands_above.Given as goal

-- the commands so far, and what the lines ask that are left, are what all lines ask
abbrev pub invariant-loop-next : goal.invariant-loop-next
invariant-loop-next l =
    with_commands l.commands.items (asked_from l.lines.number l.table l.lines.lines)
    ≡ asked_from l.initial.lines.number l.table l.initial.lines.lines

-- the lines that are left
abbrev pub decreases-loop-next : goal.decreases-loop-next
decreases-loop-next l = length l.lines.lines
