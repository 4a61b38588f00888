use Rattle.std.proofs.Common.{◌≡◌, ℕ, true, ◌+◌, ◌<◌, length, take, get_or, sym, ◌∙◌, ap, subst, arith}
use Rattle.rht_run.proofs.ServedWorkers.{new-below}
use Rattle.rht_lease.specs.declared.lease.LeaseCall.{LeaseCall}
use Rattle.rht_lease.specs.declared.worker.Worker.{Worker}
use Rattle.rht_lease.specs.Answers.{commands_of, own_leases}
use Rattle.rht_lease.specs.Books.{LeaseBook}
use Rattle.rht_lease.specs.Scripts.{is_sound_ask}
use Rattle.rht_lease.proofs.SoundScripts.{sound-at}
use Rattle.rht_lease.proofs.WorkedCommands.{IsWorking-none, IsWorking-own, IsWorking-other, IsWorking-same, IsWorking-room}
use Rattle.rht_lease.proofs.leasing.LeasingJob.work.Goals.{then-command-name+in_ok-serve, else-command-name}
use Rattle.rht_lease.proofs.leasing.LeasingJob.work.Goals as goal

pub overflow_add-name : goal.overflow_add-name
overflow_add-name g c =
    let few = new-below g.M.Mix.mix_of c.args.table.now c.args.number c.args.pass c.requires.new in
    omega (arith, few)

pub loop-command-init : goal.loop-command-init
loop-command-init g c =
    let worker = c.in_ok-worker.worker in
    record {
      working =
          IsWorking-none g.M.Mix.mix_of c.args.table.now c.args.self.now.script.now.auto c.args.number c.args.pass worker c.own_leases.result
          c.requires.new c.in_ok-worker.ensures.pass c.in_ok-worker.ensures.book c.in_ok-worker.ensures.replies;
      capacity =
          ap (λ (b : LeaseBook). b.capacity) c.in_ok-worker.ensures.book ∙ c.own_leases.ensures
          ∙ ap (own_leases (c.args.number + 1)) (c.deref.ensures.value ∙ sym c.deref-command-items.ensures.value);
      items = c.deref-command-items.ensures.value;
      few = omega arith;
    }

pub serve-requires-clause-sound : goal.serve-requires-clause-sound
serve-requires-clause-sound g c =
    let script = c.args.self.now.script.now in
    let items = c.deref-command-items.result.now in
    let i = c.loop-command.command-index in
    let here = c.command-item.result in
    let all = c.loop-command.invariant.items in
    let within : i < length script.commands.items = omega (arith, ap length all) in
    let at : here ≡ get_or script.commands.items i here = c.command-item.is ∙ ap (λ l. get_or l i here) all in
    subst (λ (command : ℕ × LeaseCall). is_sound_ask command.1 ≡ true) (sym at)
    (sound-at script.config script.commands.items i here c.requires.can.sound.commands within)

pub serve-requires-clause-room : goal.serve-requires-clause-room
serve-requires-clause-room g c lease is full =
    let items = c.deref-command-items.result.now in
    let i = c.loop-command.command-index in
    let here = c.command-item.result in
    let before = c.loop-command.invariant in
    let within : i < length items = omega arith in
    let own : here.0 ≡ c.args.number + 1 = omega (arith, c.if-command-name.true) in
    IsWorking-room g.M.Mix.mix_of c.args.table.now c.args.self.now.script.now.auto c.args.number items i here lease c.loop-command.worker within
    (sym (ap (λ (command : ℕ × LeaseCall). command.0) c.command-item.is) ∙ own)
    (sym (ap (λ (command : ℕ × LeaseCall). command.1) c.command-item.is) ∙ is) before.working before.capacity full

pub loop-command-preserved : goal.loop-command-preserved
loop-command-preserved g c =
    let mix = g.M.Mix.mix_of in
    let table = c.args.table.now in
    let auto = c.args.self.now.script.now.auto in
    let number = c.args.number in
    let items = c.deref-command-items.result.now in
    let i = c.loop-command.command-index in
    let before = c.loop-command.invariant in
    let few = before.few in
    let within : i < length items = omega arith in
    let here = c.command-item.result in
    let worker = c.if-command-name.worker in
    let asked = commands_of (number + 1) (take (i + 1) items) in
    elim c.if-command-name.branch [
      | then-command-name+in_ok-serve w ↦
          let own : here.0 ≡ number + 1 = omega (arith, w.if-command-name.true) in
          let done = w.in_ok-serve.ensures in
          let index_is = w.index-is in
          record {
            working =
                IsWorking-same mix table auto number asked w.serve.new.self worker w.worker-is
                (IsWorking-own mix table auto number items i here c.command-item.is within c.loop-command.worker w.serve.new.self own
                before.working done);
            capacity =
                ap (λ (v : Worker g.row.M.Denot). v.book.capacity) w.worker-is ∙ ap (λ (b : LeaseBook). b.capacity) done.book
                ∙ before.capacity;
            items = before.items;
            few = omega (arith, few, index_is);
          }
      | else-command-name w ↦
          let other = w.if-command-name.false in
          let index_is = w.index-is in
          record {
            working =
                IsWorking-same mix table auto number asked c.loop-command.worker worker w.worker-is
                (IsWorking-other mix table auto number items i here c.command-item.is within c.loop-command.worker
                (λ same. absurd (omega (arith, same, other))) before.working);
            capacity = ap (λ (v : Worker g.row.M.Denot). v.book.capacity) w.worker-is ∙ before.capacity;
            items = before.items;
            few = omega (arith, few, index_is);
          }
    ]
