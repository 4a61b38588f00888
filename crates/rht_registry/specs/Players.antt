-- What a program that replays keeps, as the replay that it stands for, and what it has written.
use Rattle.std.specs.Prelude.{◌≡◌, ℕ, ◌+◌, ◌≤◌, Option, Some, None, Result, Err, OnOk, OnErr, List, [], ◌∷◌, length, drop, replicate, slice_index}
use Rattle.std.specs.Io.KnownBytes.{Appends}
use Rattle.rht_words.specs.declared.env.Env.{Env}
use Rattle.rht_words.specs.Settled.{plain_ways}
use Rattle.rht_io.specs.Told.{Rose, AppendsPrefix, Puts}
use Rattle.rht_model.specs.declared.history.Call.{Call}
use Rattle.rht_core.specs.declared.event.Event.TheVariants.{Enroll}
use Rattle.rht_core.specs.Runs.{Core, run_of}
use Rattle.rht_core.specs.Serving.{calls_of}
use Rattle.rht_script.specs.declared.script.Script.{Script}
use Rattle.rht_script.specs.declared.script.Sched.{Sched}
use Rattle.rht_script.specs.declared.script.Sched.TheVariants.{Step, Skip, Finish}
use Rattle.rht_registry.specs.declared.replaying.ReplayError.{ReplayError}
use Rattle.rht_registry.specs.declared.replaying.ReplayError.TheVariants.{Write}
use Rattle.rht_registry.specs.declared.replaying.player.Player.{Player}
use Rattle.rht_registry.specs.Replays.{Playing, left_at, replay_text, IsInRun}

module _ {M : Type 0} where
  -- the replay of these commands that it stands for: what is left of a caller's begins where its next command is looked for
  abbrev pub playing_of : List (ℕ × Call) → Player M → Playing M
  playing_of commands player = record {
    core = player.state;
    left = λ c. calls_of (c + 1) (drop (slice_index player.next.items c) commands);
    made = player.made;
    over = player.over;
  }

  -- all callers have enrolled in the table that was opened
  abbrev pub AreEnrolled : (ℕ → ℕ → ℕ → ℕ) → Core M → Type 0
  AreEnrolled mix core = core ≡ (run_of mix core.env (replicate core.env.geometry.callers Enroll)).core

  -- each caller has a place
  pub record CanPlay (player : Player M) : Type 0 where
    pub places : length player.next.items ≡ player.state.env.geometry.callers

  -- a caller took its next command, where it had one
  abbrev pub Takes : Playing M → Playing M → ℕ → Option Call → Type 0
  Takes before after c None = (before.left c ≡ []) × (after ≡ before)
  Takes before after c (Some call) =
      (calls : List Call) × (before.left c ≡ call ∷ calls) × (after ≡ record before { left = left_at before.left c calls })

  -- A part of a replay was played: its lines were put, and the program stands where that leaves it. On Failed a prefix of them was put.
  pub record Plays {S E : Type 0} (held : S → Option (List ℕ)) (faults : S → ℕ) (old new : S) (r : Result (Unit {0}) E)
      (commands : List (ℕ × Call)) (part : Playing M × List ℕ) (before after : Player M) : Type 0 where
    pub put : Puts held faults old new r part.1
    pub now : OnOk r (playing_of commands after ≡ part.0)
    pub can : OnOk r (CanPlay after)
    pub env : OnOk r (after.state.env ≡ before.state.env)

-- the line is one of so many workers'
abbrev pub IsLineFor : ℕ → Sched → Type 0
IsLineFor callers (Step worker number) = (1 ≤ worker) × (worker ≤ callers)
IsLineFor callers (Skip worker number) = (1 ≤ worker) × (worker ≤ callers)
IsLineFor callers (Finish worker number) = (1 ≤ worker) × (worker ≤ callers)

-- The text was written. After a refusal a prefix of it was, and the sink's faults rose unless that was for want of memory.
pub record Writes {S : Type 0} (held : S → Option (List ℕ)) (faults : S → ℕ) (old new : S) (r : Result (Unit {0}) ReplayError)
    (text : List ℕ) : Type 0 where
  pub whole : OnOk r (Appends (held old) (held new) text)
  pub prefix : OnErr r (AppendsPrefix (held old) (held new) text)
  pub write : r ≡ Err Write → Rose (faults old) (faults new)
  pub kept : faults old ≤ faults new

-- The text of the script's replay was written, on a table of its config in the plain ways, and the replay is a run. The text is the
-- script's alone: every such environment gives the same one.
pub record IsReplayed {S : Type 0} (M : Type 0) (mix : ℕ → ℕ → ℕ → ℕ) (script : Script) (held : S → Option (List ℕ)) (faults : S → ℕ)
    (old new : S) (r : Result (Unit {0}) ReplayError) : Type 0 where
  pub env : Env
  pub config_same : env.config ≡ script.config
  pub ways_plain : env.ways ≡ plain_ways
  pub text : Writes held faults old new r (replay_text M mix env script)
  pub in_run : IsInRun M mix env script
  pub one_text : (other : Env) → other.config ≡ script.config → other.ways ≡ plain_ways
      → replay_text M mix other script ≡ replay_text M mix env script
