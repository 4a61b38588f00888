use Rattle.std.proofs.Common.{sym, arith}
use Rattle.std.proofs.lemmas.List.{length-take-le}
use Rattle.rht_script.proofs.reader.too_long.Goals as goal

pub slice_bounds-line_feeds-end : goal.slice_bounds-line_feeds-end
slice_bounds-line_feeds-end c = sym (length-take-le 16777216 c.args.bytes.now (omega arith))

pub line_feeds-requires : goal.line_feeds-requires
line_feeds-requires c = omega (arith, length-take-le 16777216 c.args.bytes.now (omega arith))
