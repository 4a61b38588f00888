use Rattle.std.proofs.Common.{arith}
use Rattle.rht_words.proofs.OpenedWords.{first_pages-fit, map_bits-rise}
use Rattle.rht_words.proofs.opening.page_bits.Goals as goal

pub overflow_sub-result : goal.overflow_sub-result
overflow_sub-result c =
    rw (c.map_bits.ensures, c.map_bits-2.ensures) (map_bits-rise _ _ c.args.index
    (omega (arith, first_pages-fit c.args.env)))
