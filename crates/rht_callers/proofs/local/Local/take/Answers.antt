use Rattle.std.proofs.Common.{ℕ, ap, ◌∙◌, sym, subst}
use Rattle.std.specs.Prelude.{Option}
use Rattle.rht_grace.specs.Batch.{BatchModel}
use Rattle.rht_model.specs.declared.history.Reply.{Reply}
use Rattle.rht_model.specs.Rooms.{Kept}
use Rattle.rht_callers.specs.declared.local.Doing.{Doing}
use Rattle.rht_walk.specs.Walk.{Pairs}
use Rattle.rht_callers.specs.Locals.{doing_after, owners_room, pairs_room}
use Rattle.rht_callers.specs.Batches.{IsBatchIn, batch_room}
use Rattle.rht_callers.proofs.BatchesOfCallers.{batch_after-in}
use Rattle.rht_callers.proofs.RoomsOfCallers.{owners_after-limit, pairs_after-limit}
use Rattle.rht_callers.proofs.local.Local.take.Goals as goal

pub returns-clause-env : goal.returns-clause-env
returns-clause-env g c env of =
    let local = c.args.self.now in
    let old = c.args.old in
    let mix = g.M.Mix.mix_of in
    let room = c.take.new.owners in
    record {
      doing = c.take.ensures.env env of.doing;
      owners =
          ap (λ (next : Doing g.row.M.Denot × Option Reply). (owners_room next.0 room).limit)
          c.take.ensures.taken
          ∙ ap (λ (owners : Kept ℕ). (owners_room (doing_after mix local.doing old).0 owners).limit)
          c.take.ensures.owners
          ∙ owners_after-limit g.row.M.Denot mix local.doing local.owners old
          ∙ of.owners;
      pairs =
          ap (λ (next : Doing g.row.M.Denot × Option Reply). (pairs_room next.0 c.take.new.pairs).limit)
          c.take.ensures.taken
          ∙ ap (λ (pairs : Pairs). (pairs_room (doing_after mix local.doing old).0 pairs).limit)
          c.take.ensures.pairs
          ∙ pairs_after-limit g.row.M.Denot mix local.doing local.pairs old
          ∙ of.pairs;
      batch =
          subst (λ (next : Doing g.row.M.Denot × Option Reply). IsBatchIn env (batch_room next.0 c.take.new.batch))
          (sym c.take.ensures.taken)
          (subst (λ (batch : Option BatchModel). IsBatchIn env (batch_room (doing_after mix local.doing old).0 batch))
          (sym c.take.ensures.batch)
          (batch_after-in g.row.M.Denot mix env local.doing local.batch old of.batch));
    }
