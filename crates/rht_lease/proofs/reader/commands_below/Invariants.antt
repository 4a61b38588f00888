use Rattle.std.proofs.Common.{◌≡◌, length}
use Rattle.rht_script.specs.Grammar.{lines_by}
use Rattle.rht_script.proofs.LinesSoFar.{with_items}
use Rattle.rht_lease.specs.LeaseLines.{lease_line_of}
use Rattle.rht_lease.proofs.reader.commands_below.Given as goal

-- the commands so far, and those of the lines that are left, are the commands of all lines
abbrev pub invariant-loop-next : goal.invariant-loop-next
invariant-loop-next l =
    with_items l.commands.items (lines_by lease_line_of l.lines.number l.table l.lines.lines)
    ≡ lines_by lease_line_of l.initial.lines.number l.table l.initial.lines.lines

-- the lines that are left
abbrev pub decreases-loop-next : goal.decreases-loop-next
decreases-loop-next l = length l.lines.lines
