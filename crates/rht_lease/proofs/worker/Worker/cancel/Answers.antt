use Rattle.std.proofs.Common.{◌≡◌, true, false, cond, [], ◌∷◌, refl, ap, sym, subst, inl, inr}
use Rattle.std.proofs.lemmas.Bool.{cases_Bool}
use Rattle.std.proofs.lemmas.Result.{on_ok_weaker}
use Rattle.rht_model.specs.declared.history.Call.TheVariants.{Release}
use Rattle.rht_lease.specs.declared.lease.LeaseCall.TheVariants.{Cancel}
use Rattle.rht_lease.specs.declared.lease.LeaseReply.TheVariants.{Plain, NoLease}
use Rattle.rht_lease.specs.declared.worker.Worker.{Worker}
use Rattle.rht_lease.specs.Answers.{IsCancelAnswer}
use Rattle.rht_lease.specs.Books.{has_lease}
use Rattle.rht_lease.proofs.WorkedCommands.{HasDone-served, HasDone-bare}
use Rattle.rht_lease.proofs.worker.Worker.cancel.Goals as goal

pub returns-in-Some : goal.returns-in-Some
returns-in-Some g c =
    let after : Worker g.row.M.Denot = record {
      pass = c.cancel.new.pass;
      book = c.cancel.new.self;
      replies = c.push.new.self;
    } in
    let port = c.args.port in
    let owner = c.args.owner in
    let leases = c.args.self.now.book.leases in
    let has : has_lease port owner leases ≡ true = elim (cases_Bool (has_lease port owner leases)) [
      | inl is ↦ is
      | inr missing ↦ let none = c.in-Some.ensures.none.1 missing in absurd (cc)
    ] in
    on_ok_weaker c.push.result
    (λ (kept : _). HasDone-served g.M.Mix.mix_of c.args.table.now c.args.auto (Cancel port owner) c.args.self.now after
    (Release port owner) c.in-Some.reply c.owners.result.now (ap (λ b. cond b (Release port owner ∷ []) []) has) refl
    c.in-Some.ensures.served c.owners.ensures.owners kept c.in-Some.ensures.book
    (λ endings own. subst (λ b. IsCancelAnswer b (Plain c.in-Some.reply, c.owners.result.now) endings) (sym has) own))
    c.push.ensures.ok

pub returns-in-None : goal.returns-in-None
returns-in-None g c =
    let after : Worker g.row.M.Denot = record {
      pass = c.cancel.new.pass;
      book = c.cancel.new.self;
      replies = c.push_bare.new.self;
    } in
    let port = c.args.port in
    let owner = c.args.owner in
    let leases = c.args.self.now.book.leases in
    let missing : has_lease port owner leases ≡ false = c.in-None.ensures.none.0 refl in
    on_ok_weaker c.push_bare.result
    (λ (kept : _). HasDone-bare g.M.Mix.mix_of c.args.table.now c.args.auto (Cancel port owner) c.args.self.now after NoLease
    (ap (λ b. cond b (Release port owner ∷ []) []) missing) c.in-None.ensures.served c.requires.pass c.requires.idle kept
    c.in-None.ensures.book
    (subst (λ b. IsCancelAnswer b (NoLease, []) []) (sym missing) (record { bare = refl; none = refl })))
    c.push_bare.ensures.ok
