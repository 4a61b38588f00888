use Rattle.std.proofs.Common.{◌+◌, length, sym, ◌∙◌, ap, subst, arith, inl, inr}
use Rattle.std.proofs.lemmas.Bool.{cases_lt}
use Rattle.rht_check.specs.CommandsLeft.{Left}
use Rattle.rht_check.proofs.NextCommands.{HasWorkers, left_of-outside, is_left}
use Rattle.rht_check.proofs.commands_left.CommandsLeft.unfinished.Goals as goal

pub loop-number-init : goal.loop-number-init
loop-number-init c = λ worker none.
    let workers : HasWorkers c.args.self.now = subst HasWorkers c.self.view_is c.self.invariant.workers in
    left_of-outside c.args.self.now worker workers (inl (omega arith))

pub returns-then-is_some : goal.returns-then-is_some
returns-then-is_some c = record {
  some = is_left c.args.self.now (c.loop-number.number + 1) c.next_place.result c.next_place.ensures
      (sym c.is_some.ensures ∙ c.if-is_some.true);
  first = λ other before. c.loop-number.invariant other (omega arith);
}

pub returns : goal.returns
returns c = λ worker.
    let workers : HasWorkers c.args.self.now = subst HasWorkers c.self.view_is c.self.invariant.workers in
    elim (cases_lt c.loop-number.number worker) [
      | inl above ↦
          left_of-outside c.args.self.now worker workers
          (inr (omega (
            arith,
            c.loop-number-test.false,
            c.len-number-end.ensures,
            c.self.inside.places.ok.0,
            ap (λ (l : Left). length l.places) c.self.view_is,
          )))
      | inr within ↦ c.loop-number.invariant worker within
    ]
