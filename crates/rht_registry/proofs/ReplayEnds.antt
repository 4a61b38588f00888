-- The end of a replay, and the whole of it, in plain variables.
use Rattle.std.proofs.Common.{◌≡◌, ℕ, Bool, true, false, cond, List, [], ◌∷◌, ◌++◌, refl, sym, ◌∙◌, ap, subst}
use Rattle.std.specs.List.{AllByRecursion, list_all, flat_map}
use Rattle.std.proofs.lemmas.Bool.{and_parts, leb-true}
use Rattle.rht_words.specs.declared.config.Config.{Config}
use Rattle.rht_words.specs.declared.env.Env.{Env}
use Rattle.rht_words.specs.Settled.{IsSettled, plain_ways}
use Rattle.rht_model.specs.declared.history.Call.{Call}
use Rattle.rht_core.specs.Locals.{is_idle}
use Rattle.rht_core.specs.Runs.{Core, local_of}
use Rattle.rht_core.specs.Closing.{current_size}
use Rattle.rht_script.specs.declared.script.Script.{Script}
use Rattle.rht_script.specs.declared.script.Sched.{Sched}
use Rattle.rht_script.specs.declared.script.Sched.TheVariants.{Step, Skip, Finish}
use Rattle.rht_script.specs.Sound.{IsSoundScript, is_sound_line}
use Rattle.rht_script.specs.Text.{bound_text}
use Rattle.rht_script.specs.OperationText.{size_line}
use Rattle.rht_registry.specs.declared.replaying.player.Player.{Player}
use Rattle.rht_registry.specs.Replays.{Playing, schedule_played, playing_from, bound_in, callers_of, open_text, end_text, replay_text, IsInRun}
use Rattle.rht_registry.specs.Players.{playing_of, IsLineFor}
use Rattle.rht_registry.proofs.OneEnvironment.{Env-same}
use Rattle.rht_registry.proofs.SoundCommands.{sound-calls}
use Rattle.rht_registry.proofs.ReplayRuns.{replay-runs}

-- ---- the lines at the end

module _ {M : Type 0} (core : Core M) where
  abbrev size : ℕ
  size = current_size core.env.geometry core.words

  abbrev at_rest : List ℕ
  at_rest = bound_text (bound_in core.env.geometry core.words) size

  abbrev in_calls : List ℕ
  in_calls = flat_map (open_text core) (callers_of core) ++ size_line size

  abbrev are_idle : Bool
  are_idle = list_all (λ c. is_idle (local_of core c)) (callers_of core)

  -- where no caller is in a call
  pub end_text-idle : are_idle ≡ true → end_text core ≡ at_rest
  end_text-idle idle = ap (λ t. cond t at_rest in_calls) idle

  -- where one is
  pub end_text-busy : are_idle ≡ false → end_text core ≡ in_calls
  end_text-busy busy = ap (λ t. cond t at_rest in_calls) busy

-- ---- what a sound script gives

-- its config has an environment
pub env_of : (config : Config) → IsSettled config → Env
env_of config settled = record {
  geometry = record { nodes = config.nodes; pages = config.pages; callers = config.callers; within = settled.geometry };
  config = config;
  ways = plain_ways;
  settled = settled;
  agrees = record { nodes_same = refl; pages_same = refl; callers_same = refl };
}

pub env_of-config : (config : Config) (settled : IsSettled config) → (env_of config settled).config ≡ config
unfolding env_of
env_of-config config settled = refl

pub env_of-ways : (config : Config) (settled : IsSettled config) → (env_of config settled).ways ≡ plain_ways
unfolding env_of
env_of-ways config settled = refl

-- and no other, so the text of a replay is one
pub replay_text-one : (M : Type 0) (mix : ℕ → ℕ → ℕ → ℕ) (script : Script) (env : Env) → env.config ≡ script.config → env.ways ≡ plain_ways
    → (other : Env) → other.config ≡ script.config → other.ways ≡ plain_ways → replay_text M mix other script ≡ replay_text M mix env script
replay_text-one M mix script env is plain other too as_plain =
    ap (λ (e : Env). replay_text M mix e script) (Env-same other env (too ∙ sym is) (as_plain ∙ sym plain))

-- each line is a worker's
sound-line : (config : Config) (line : Sched) → is_sound_line config line ≡ true → IsLineFor config.callers line
sound-line config (Step worker number) sound =
    let bounds = and_parts _ _ (and_parts _ _ sound).0 in (leb-true _ _ bounds.0, leb-true _ _ bounds.1)
sound-line config (Skip worker number) sound =
    let bounds = and_parts _ _ (and_parts _ _ sound).0 in (leb-true _ _ bounds.0, leb-true _ _ bounds.1)
sound-line config (Finish worker number) sound =
    let bounds = and_parts _ _ (and_parts _ _ sound).0 in (leb-true _ _ bounds.0, leb-true _ _ bounds.1)

sound-lines : (config : Config) (schedule : List Sched) → list_all (is_sound_line config) schedule ≡ true
    → AllByRecursion (IsLineFor config.callers) schedule
sound-lines config [] sound = tt
sound-lines config (line ∷ schedule) sound =
    let both = and_parts (is_sound_line config line) (list_all (is_sound_line config) schedule) sound in
    (sound-line config line both.0, sound-lines config schedule both.1)

pub lines-for : (config : Config) (env : Env) (schedule lines : List Sched) → env.config ≡ config → lines ≡ schedule
    → list_all (is_sound_line config) schedule ≡ true → AllByRecursion (IsLineFor env.geometry.callers) lines
lines-for config env schedule lines same is sound =
    let callers : config.callers ≡ env.geometry.callers = sym (env.agrees.callers_same ∙ ap (λ (k : Config). k.callers) same) in
    subst (λ l. AllByRecursion (IsLineFor env.geometry.callers) l) (sym is)
    (subst (λ n. AllByRecursion (IsLineFor n) schedule) callers (sound-lines config schedule sound))

-- ---- its run

-- the replay of a sound script is a run
pub replay-in_run : (M : Type 0) (mix : ℕ → ℕ → ℕ → ℕ) (env : Env) (script : Script) → env.config ≡ script.config
    → IsSoundScript script → IsInRun M mix env script
replay-in_run M mix env script same sound =
    replay-runs M mix env script
    (sound-calls script.form script.config script.commands.items sound.settled sound.commands)
    (lines-for script.config env script.schedule.items script.schedule.items same refl sound.schedule)

-- ---- the whole

module _ {M : Type 0} (mix named : ℕ → ℕ → ℕ → ℕ) (env : Env) (script : Script) (commands : List (ℕ × Call)) (schedule : List Sched)
    (player : Player M) (mix_is : mix ≡ named) (commands_is : commands ≡ script.commands.items)
    (schedule_is : schedule ≡ script.schedule.items) (begins : playing_of commands player ≡ playing_from mix env commands) where
  abbrev text_of : Playing M × List ℕ → List ℕ
  text_of played = played.1 ++ end_text played.0.core

  -- the lines of the schedule, and then those of the end
  pub replay_text-is : text_of (schedule_played mix schedule (playing_of commands player)) ≡ replay_text M named env script
  replay_text-is =
      ap (λ p. text_of (schedule_played mix schedule p)) begins
      ∙ ap (λ l. text_of (schedule_played mix l (playing_from mix env commands))) schedule_is
      ∙ ap (λ l. text_of (schedule_played {M = M} mix script.schedule.items (playing_from mix env l))) commands_is
      ∙ ap (λ m. text_of (schedule_played {M = M} m script.schedule.items (playing_from m env script.commands.items))) mix_is
