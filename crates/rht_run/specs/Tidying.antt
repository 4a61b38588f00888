-- What a tidying makes of its pass's own batch. No run is spoken of: it is the machine's, whatever words its operations found.
use Rattle.std.specs.Prelude.{List}
use Rattle.rht_words.specs.Machines.{Performed}
use Rattle.rht_model.specs.declared.history.Reply.{Reply}
use Rattle.rht_grace.specs.Batch.{BatchModel}
use Rattle.rht_grace.specs.TidyLaws.{EndsRightly}
use Rattle.rht_core.specs.Tidied.{batch_or}
use Rattle.rht_run.specs.declared.pass.Pass.{Pass}
use Rattle.rht_run.specs.declared.table.Table.{Table}

-- There are operations by which a tidying of the batch before answers this, and leaves the other one.
pub record TidiesBatch (reply : Reply) (before after : BatchModel) : Type 0 where
  pub steps : List Performed
  pub ends : EndsRightly before (record { reply = reply; batch = after }) steps

-- so it is of the batches that a pass had before the call, and has now
abbrev pub HasTidiedBatch : {M : Type 0} → Table M → Reply → Pass M → Pass M → Type 0
HasTidiedBatch t reply before now =
    TidiesBatch reply (batch_or t.env.geometry before.local.batch) (batch_or t.env.geometry now.local.batch)
