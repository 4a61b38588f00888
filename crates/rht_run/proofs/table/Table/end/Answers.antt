use Rattle.std.proofs.Common.{◌<◌, ◌∙◌, inr, length, sym, subst, arith}
use Rattle.rht_run.specs.declared.pass.Pass.{Pass}
use Rattle.rht_run.specs.Rule.{held_at}
use Rattle.rht_run.specs.Passes.{Among, HasTaken, seen_by}
use Rattle.rht_run.proofs.ViewLists.{in_one}
use Rattle.rht_run.proofs.ClosedTables.{first_split, first_is, all_taken, closes}
use Rattle.rht_run.proofs.table.Table.end.Goals as goal

pub absorb_all-requires-clause-seat : goal.absorb_all-requires-clause-seat
absorb_all-requires-clause-seat g c =
    let some : 0 < length c.args.passes.items = omega (arith, c.args.passes.ok.0, c.requires.some) in
    let is = first_is g.M.Mix.mix_of c.args.self c.args.passes.items c.remove-first.result some c.remove-first.ensures.value
    c.requires.passes in
    (is.table, is.slots, is.same_env)

pub absorb_all-requires-clause-passes : goal.absorb_all-requires-clause-passes
absorb_all-requires-clause-passes g c p a =
    let some : 0 < length c.args.passes.items = omega (arith, c.args.passes.ok.0, c.requires.some) in
    c.requires.passes p
    (subst (Among p)
    (sym (first_split c.args.passes.items c.remove-first.result some c.remove-first.ensures.value))
    (inr (subst (Among p) c.remove-first.ensures.items a)))

pub close_with-requires : goal.close_with-requires
close_with-requires g c =
    let some : 0 < length c.args.passes.items = omega (arith, c.args.passes.ok.0, c.requires.some) in
    let is = first_is g.M.Mix.mix_of c.args.self c.args.passes.items c.remove-first.result some c.remove-first.ensures.value
    c.requires.passes in
    c.absorb_all.ensures.seat.0 ∙ is.table

pub returns-clause-words : goal.returns-clause-words
returns-clause-words g c =
    let some : 0 < length c.args.passes.items = omega (arith, c.args.passes.ok.0, c.requires.some) in
    let is = first_is g.M.Mix.mix_of c.args.self c.args.passes.items c.remove-first.result some c.remove-first.ensures.value
    c.requires.passes in
    (c.close_with.ensures.counts.0 ∙ is.fit.count, c.close_with.ensures.values.0)

pub returns-clause-slots : goal.returns-clause-slots
returns-clause-slots g c =
    let some : 0 < length c.args.passes.items = omega (arith, c.args.passes.ok.0, c.requires.some) in
    let is = first_is g.M.Mix.mix_of c.args.self c.args.passes.items c.remove-first.result some c.remove-first.ensures.value
    c.requires.passes in
    c.close_with.ensures.counts.1 ∙ is.fit.slots

pub returns-clause-end : goal.returns-clause-end
returns-clause-end g c =
    let some : 0 < length c.args.passes.items = omega (arith, c.args.passes.ok.0, c.requires.some) in
    let first : Pass g.row.M.Denot = c.remove-first.result in
    let is = first_is g.M.Mix.mix_of c.args.self c.args.passes.items first some c.remove-first.ensures.value c.requires.passes in
    let seat = c.absorb_all.new.seat in
    let taken : HasTaken c.args.passes.items seat =
    all_taken c.args.passes.items first seat some c.remove-first.ensures.value
    (c.absorb_all.ensures.old (held_at first.number (seen_by first))
    (in_one (held_at first.number (seen_by first)) first.seat.me.0.held is.held))
    (λ p a. c.absorb_all.ensures.taken p (subst (Among p) (sym c.remove-first.ensures.items) a)) in
    closes g.M.Mix.mix_of c.args.self seat c.args.passes.items _ _ is.fit taken c.close_with.ensures.values.2
