use Rattle.std.proofs.Common.{◌≡◌, length}
use Rattle.rht_script.specs.Cursors.{table_from}
use Rattle.rht_script.proofs.reader.table_in.Given as goal

-- the lines so far were skipped, so the table line is that of the lines that are left
abbrev pub invariant-loop-next : goal.invariant-loop-next
invariant-loop-next l = table_from l.lines.number l.lines.lines ≡ table_from l.initial.lines.number l.initial.lines.lines

-- the lines that are left
abbrev pub decreases-loop-next : goal.decreases-loop-next
decreases-loop-next l = length l.lines.lines
