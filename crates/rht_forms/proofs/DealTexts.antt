-- What is printed of a script that was dealt is what the form `deal` prints.
use Rattle.std.proofs.Common.{◌≡◌, ℕ, List, Option, refl}
use Rattle.rht_words.specs.declared.config.Hash.{Hash}
use Rattle.rht_model.specs.declared.bindings.Closed.{Closed}
use Rattle.rht_run.specs.ServedRuns.{tag_of}
use Rattle.rht_script.specs.declared.script.Script.{Script}
use Rattle.rht_script.specs.Grammar.{Said}
use Rattle.rht_script.specs.declared.done.Done.{Done}
use Rattle.rht_deal.specs.declared.dealt.Dealt.{Dealt}
use Rattle.rht_deal.specs.DoneCommands.{as_done, all_endings}
use Rattle.rht_deal.specs.Dealing.{IsDealtBy, IsDealing}
use Rattle.rht_script.specs.Text.{dones_text}
use Rattle.rht_deal.proofs.DoneLaws.{AreAllDone-calls, AreAllDone-of_one}
use Rattle.rht_forms.specs.declared.form.Form.TheVariants.{Deal}
use Rattle.rht_forms.specs.Input.{IsDealRead}
use Rattle.rht_forms.specs.Forms.{Prints}
use Rattle.rht_forms.proofs.RunTexts.{HasRun-hash}

-- what was dealt by the hash that the config names was dealt rightly, and all that follows for its run is so
pub IsDealing-hash : (hash : Hash) (script : Script) (dealt : Dealt) → script.config.hash ≡ hash → IsDealtBy (tag_of hash) script dealt
    → IsDealing script.config script.auto script.commands.items dealt.done.items dealt.closed
IsDealing-hash hash script dealt is dealing = record {
  done = dealing.done;
  run = HasRun-hash hash script.config script.auto (as_done dealt.done.items script.commands.items)
      (all_endings script.config.callers dealt.done.items) dealt.closed is dealing.served;
}

pub Prints-dealt : (left left_after : Option (List ℕ)) (said : Said) (dones : List Done) (closed : Closed)
    → IsDealRead left left_after said → IsDealing said.config said.auto said.commands dones closed
    → Prints Deal left left_after (dones_text dones closed)
unfolding Prints
Prints-dealt left left_after said dones closed read dealing = record {
  said = said;
  read = read;
  is_text = record {
    dones = dones;
    closed = closed;
    dealing = dealing;
    same_calls = AreAllDone-calls said.config said.commands dones dealing.done;
    in_script_order = AreAllDone-of_one said.config said.commands dones dealing.done;
    written = refl;
  };
}
