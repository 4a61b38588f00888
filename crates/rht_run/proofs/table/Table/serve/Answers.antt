use Rattle.std.proofs.Common.{◌≡◌, ◌⊎◌, false, sym, ◌∙◌, inl, inr}
use Rattle.rht_core.specs.Serving.{asks_for_work}
use Rattle.rht_run.proofs.ServedCommands.{tried_rightly, serves_alone, serves_find, serves_works, served_caused}
use Rattle.rht_run.proofs.table.Table.serve.Goals.{else-auto-via-then-auto+else-asks_for_work, else-auto-via-else-auto}
use Rattle.rht_run.proofs.table.Table.serve.Goals as goal

-- ---- a look-up

pub returns-in-Find-clause-served : goal.returns-in-Find-clause-served
returns-in-Find-clause-served g c =
    serves_find g.M.Mix.mix_of c.args.self.now c.args.auto c.args.call c.find.result c.args.pass.now c.in-Find.port
    c.find.new.pass c.in-Find.is c.find.ensures.reply c.find.ensures.called

pub returns-in-Find-clause-reply : goal.returns-in-Find-clause-reply
returns-in-Find-clause-reply g c = rw c.in-Find.is c.find.ensures.reply

pub returns-in-Find-clause-cause : goal.returns-in-Find-clause-cause
returns-in-Find-clause-cause g c =
    served_caused g.M.Mix.mix_of c.args.self.now c.args.auto c.args.call c.find.result c.args.pass.now
    c.find.new.pass (returns-in-Find-clause-served g c)

-- ---- with the work behind the call

pub returns-then-asks_for_work-clause-served : goal.returns-then-asks_for_work-clause-served
returns-then-asks_for_work-clause-served g c =
    serves_works g.M.Mix.mix_of c.args.self.now c.args.auto c.args.call c.tried-reply.result c.args.pass.now
    c.tried-reply.new.pass c.work_off.new.pass c.if-auto.true (sym c.asks_for_work.ensures ∙ c.if-asks_for_work.true)
    c.tried-reply.ensures c.work_off.ensures

pub returns-then-asks_for_work-clause-reply : goal.returns-then-asks_for_work-clause-reply
returns-then-asks_for_work-clause-reply g c =
    (tried_rightly g.M.Mix.mix_of c.args.self.now c.args.call c.tried-reply.result c.args.pass.now c.tried-reply.new.pass
    c.tried-reply.ensures).reply

pub returns-then-asks_for_work-clause-cause : goal.returns-then-asks_for_work-clause-cause
returns-then-asks_for_work-clause-cause g c =
    served_caused g.M.Mix.mix_of c.args.self.now c.args.auto c.args.call c.tried-reply.result c.args.pass.now
    c.work_off.new.pass (returns-then-asks_for_work-clause-served g c)

-- ---- without it

pub returns-else-auto-clause-served : goal.returns-else-auto-clause-served
returns-else-auto-clause-served g c =
    let none : (c.args.auto ≡ false) ⊎ (asks_for_work c.args.call c.tried-reply.result ≡ false) = elim c.else-auto.branch [
      | else-auto-via-then-auto+else-asks_for_work w ↦ inr (sym w.asks_for_work.ensures ∙ w.if-asks_for_work.false)
      | else-auto-via-else-auto w ↦ inl w.if-auto.false
    ] in
    serves_alone g.M.Mix.mix_of c.args.self.now c.args.auto c.args.call c.tried-reply.result c.args.pass.now
    c.tried-reply.new.pass none c.tried-reply.ensures

pub returns-else-auto-clause-reply : goal.returns-else-auto-clause-reply
returns-else-auto-clause-reply g c =
    (tried_rightly g.M.Mix.mix_of c.args.self.now c.args.call c.tried-reply.result c.args.pass.now c.tried-reply.new.pass
    c.tried-reply.ensures).reply

pub returns-else-auto-clause-cause : goal.returns-else-auto-clause-cause
returns-else-auto-clause-cause g c =
    served_caused g.M.Mix.mix_of c.args.self.now c.args.auto c.args.call c.tried-reply.result c.args.pass.now
    c.tried-reply.new.pass (returns-else-auto-clause-served g c)
