use Rattle.std.proofs.Common.{◌≡◌, length}
use Rattle.rht_script.specs.Grammar.{below_by, lines_by}
use Rattle.rht_script.specs.Dealt.{line_as}
use Rattle.rht_script.specs.Reading.{said_by}
use Rattle.rht_script.proofs.LinesSoFar.{with_front}
use Rattle.rht_script.proofs.reader.script_below.Given as goal

-- what is said so far and in the lines that are left is said in all lines
abbrev pub invariant-loop-next : goal.invariant-loop-next
invariant-loop-next l =
    with_front (said_by l.script) (lines_by (line_as l.below) l.lines.number l.table l.lines.lines)
    ≡ below_by (line_as l.below) l.table l.initial.lines.number l.initial.lines.lines

-- the lines that are left
abbrev pub decreases-loop-next : goal.decreases-loop-next
decreases-loop-next l = length l.lines.lines
