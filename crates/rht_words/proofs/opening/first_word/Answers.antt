use Rattle.std.proofs.Common.{◌∙◌, ap, arith}
use Rattle.rht_words.specs.Places.{NextSerial, Slot, ShapeWord, SeedWord, StateWord}
use Rattle.rht_words.specs.Shapes.{packed}
use Rattle.rht_words.proofs.OpenedWords.{opening_word-at, opening_word-zero}
use Rattle.rht_words.proofs.PlacesApart.{parts_in_order}
use Rattle.rht_words.proofs.opening.first_word.Goals as goal

pub returns-then-place-next_serial : goal.returns-then-place-next_serial
returns-then-place-next_serial c = opening_word-at c.args.env c.args.place NextSerial tt (omega arith)

pub returns-then-place-shape : goal.returns-then-place-shape
returns-then-place-shape c =
    c.into.ensures ∙ ap packed c.first_shape.ensures ∙ opening_word-at c.args.env c.args.place
    (Slot 0 ShapeWord) (omega arith, tt) (omega arith)

pub returns-then-place-seed : goal.returns-then-place-seed
returns-then-place-seed c =
    c.into-then-place-seed.ensures ∙ opening_word-at c.args.env c.args.place (Slot 0 SeedWord)
    (omega arith, tt) (omega arith)

pub returns-then-place-state : goal.returns-then-place-state
returns-then-place-state c = opening_word-at c.args.env c.args.place (Slot 0 StateWord) (omega arith, tt)
    (omega arith)

pub returns-else-place-state : goal.returns-else-place-state
returns-else-place-state c =
    let parts = parts_in_order c.args.env.geometry in
    opening_word-zero c.args.env c.args.place (omega arith) record {
      serial = omega arith;
      shape = omega arith;
      seed = omega arith;
      state = omega arith;
      maps = λ past within. omega arith;
    }
