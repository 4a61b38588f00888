-- What the calls of a command leave of their pass.
use Rattle.std.specs.Prelude.{◌≡◌, ℕ, Bool, true, List, [], ◌++◌}
use Rattle.rht_model.specs.declared.history.Call.{Call}
use Rattle.rht_model.specs.declared.history.Reply.{Reply}
use Rattle.rht_model.specs.declared.finished.Finished.{Finished}
use Rattle.rht_model.specs.Endings.{replied}
use Rattle.rht_core.specs.Locals.{is_idle}
use Rattle.rht_core.specs.Serving.{AreWorks, AreTries, AreForCommand}
use Rattle.rht_run.specs.declared.table.Table.{Table}
use Rattle.rht_run.specs.declared.pass.Pass.{Pass}
use Rattle.rht_run.specs.Passes.{IsPassOf, IsSamePass, book_of}

-- The pass is in no call. Its finished calls are those of `before`, and behind them those of one command, which ended with this
-- reply and with the lists that are in the rooms of the pass.
pub record HasServed {M : Type 0} (mix : ℕ → ℕ → ℕ → ℕ) (t : Table M) (auto : Bool) (call : Call) (reply : Reply)
    (before now : Pass M) : Type 0 where
  pub pass : IsPassOf mix t now
  pub same : IsSamePass before now
  pub idle : is_idle now.local ≡ true
  pub more : List Finished
  pub finished : (book_of now).finished ≡ (book_of before).finished ++ more
  pub made : AreForCommand auto call (replied reply now.local.owners.items now.local.pairs.items) more

-- The pass is in no call. Its finished calls are those of `before`, and behind them those that were made until this call had its reply,
-- which came with the lists that are in the rooms of the pass.
pub record HasTried {M : Type 0} (mix : ℕ → ℕ → ℕ → ℕ) (t : Table M) (call : Call) (reply : Reply) (before now : Pass M) : Type 0 where
  pub pass : IsPassOf mix t now
  pub same : IsSamePass before now
  pub idle : is_idle now.local ≡ true
  pub tries : List Finished
  pub finished : (book_of now).finished ≡ (book_of before).finished ++ tries
  pub are_tries : AreTries call (replied reply now.local.owners.items now.local.pairs.items) tries

-- The pass is in no call. Its finished calls are those of `before`, and behind them `work`, until that didn't answer that it is to
-- be made again; so no lists are in its rooms.
pub record HasWorked {M : Type 0} (mix : ℕ → ℕ → ℕ → ℕ) (t : Table M) (before now : Pass M) : Type 0 where
  pub pass : IsPassOf mix t now
  pub same : IsSamePass before now
  pub idle : is_idle now.local ≡ true
  pub works : List Finished
  pub finished : (book_of now).finished ≡ (book_of before).finished ++ works
  pub are_works : AreWorks works
  pub owners : now.local.owners.items ≡ []
  pub pairs : now.local.pairs.items ≡ []
