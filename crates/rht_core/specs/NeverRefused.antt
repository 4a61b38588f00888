-- Of the commands that a run serves none about bindings is refused where four things are so: at most 15 different ports among the binds,
-- 64 first buckets or more, no shrinking, and a node for each bind and each rebind.
-- And where one worker's commands leave fewer than 16 ports bound, each about bindings is answered as the model answers it.
-- It is said in the words of the commands alone: no word of a table and no event of the run.
use Rattle.std.specs.Prelude.{◌≡◌, ℕ, ◌+◌, ◌<◌, ◌≤◌, is_some, IfSome, Bool, true, false, List, [], ◌∷◌, length, take, count_by}
use Rattle.std.specs.List.{AllByRecursion}
use Rattle.rht_words.specs.declared.config.Config.{Config}
use Rattle.rht_words.specs.declared.config.Kind.{Kind}
use Rattle.rht_words.specs.Sizes.{first_size}
use Rattle.rht_model.specs.declared.bindings.Closed.{Closed}
use Rattle.rht_model.specs.declared.history.Call.{Call}
use Rattle.rht_model.specs.Multimap.{Port, Multimap, unbound}
use Rattle.rht_model.specs.Answers.{port_of, answer_of, bindings_after, is_refusal}
use Rattle.rht_model.specs.Endings.{Ending}
use Rattle.rht_model.specs.Histories.{without_kick}
use Rattle.rht_model.specs.Listing.{Lists}
use Rattle.rht_model.specs.declared.history.Reply.{Reply}
use Rattle.rht_core.specs.FewPorts.{BindsAmong, IsCallTaken}
use Rattle.rht_core.specs.NodesUsed.{needs_node}
use Rattle.rht_core.specs.Serving.{calls_of, IsServedRun}
use Rattle.rht_stands.specs.StandsFor.{AreBound}
use Rattle.rht_core.specs.ToldHistories.{endings_by}

-- ---- all workers of a table, of whom a run has 1 to 16

-- The table begins with 64 buckets or more and doesn't shrink, it has as many nodes as there are commands that bind or rebind, or more,
-- and the commands that bind name 15 ports at most.
pub record IsRoomyFor (config : Config) (commands : List (ℕ × Call)) : Type 0 where
  pub first : 64 ≤ first_size config
  pub keeps_size : config.shrink ≡ false
  pub nodes : count_by (λ command. needs_node command.1) commands ≤ config.nodes
  pub ports : List Port
  pub few : length ports ≤ 15
  pub among : AllByRecursion (λ command. BindsAmong ports command.1) commands

-- each of these calls ended so, none of those about bindings in a refusal; how the others ended isn't said
abbrev pub NoneRefused : List Call → List Ending → Type 0
NoneRefused [] [] = Unit {0}
NoneRefused [] (ending ∷ endings) = ⊥
NoneRefused (call ∷ calls) [] = ⊥
NoneRefused (call ∷ calls) (ending ∷ endings) =
    (is_some (port_of call) ≡ true → is_refusal ending.answer.reply ≡ false) × NoneRefused calls endings

-- each of these calls ended with such a reply
abbrev pub EndWith : (Call → Reply → Type 0) → List Call → List Ending → Type 0
EndWith Is [] [] = Unit {0}
EndWith Is [] (ending ∷ endings) = ⊥
EndWith Is (call ∷ calls) [] = ⊥
EndWith Is (call ∷ calls) (ending ∷ endings) = Is call ending.answer.reply × EndWith Is calls endings

-- No command about bindings was refused, no walk from the first bucket on had to begin anew, and each resizing that was refused found another
-- caller at work. The table that was closed has the size with which it began.
pub record AreAllTaken (config : Config) (commands : List (ℕ × Call)) (endings : List (List Ending)) (closed : Closed) : Type 0 where
  pub taken : (caller : ℕ) → caller < config.callers → NoneRefused (calls_of (caller + 1) commands) (endings_by caller endings)
  pub calls : (caller : ℕ) → caller < config.callers → EndWith IsCallTaken (calls_of (caller + 1) commands) (endings_by caller endings)
  pub size : closed.size ≡ first_size config

-- ---- one worker

-- the bindings that these calls leave where each is answered; one that isn't about bindings changes none
abbrev pub bindings_after_all : Kind → Multimap → List Call → Multimap
bindings_after_all kind bindings [] = bindings
bindings_after_all kind bindings (call ∷ calls) = bindings_after_all kind (bindings_after kind bindings call) calls

-- The table has one caller, begins with 16 buckets or more and doesn't shrink, it has as many nodes as there are calls that bind or
-- rebind, or more, and after each call fewer than 16 ports are bound by the model.
pub record IsSmallFor (config : Config) (calls : List Call) : Type 0 where
  pub one : config.callers ≡ 1
  pub first : 16 ≤ first_size config
  pub keeps_size : config.shrink ≡ false
  pub nodes : count_by needs_node calls ≤ config.nodes
  pub few : (n : ℕ) → ¬ AreBound (bindings_after_all config.kind unbound (take n calls)) 16

-- The call ended with the model's answer on these bindings, where a kick isn't looked at. One that isn't about bindings has none, and may
-- end in any way.
abbrev pub EndsAsAnswered : Kind → Multimap → Call → Ending → Type 0
EndsAsAnswered kind bindings call ending =
    IfSome (answer_of kind bindings call)
    (λ answer. answer ≡ record { reply = without_kick ending.answer.reply; owners = ending.answer.owners })

-- each of these calls did, one after another from these bindings on
abbrev pub EndAsAnswered : Kind → Multimap → List Call → List Ending → Type 0
EndAsAnswered kind bindings [] [] = Unit {0}
EndAsAnswered kind bindings [] (ending ∷ endings) = ⊥
EndAsAnswered kind bindings (call ∷ calls) [] = ⊥
EndAsAnswered kind bindings (call ∷ calls) (ending ∷ endings) =
    EndsAsAnswered kind bindings call ending × EndAsAnswered kind (bindings_after kind bindings call) calls endings

-- each command was answered as the model answers it, in their order, and what was closed is what the model leaves
pub record AreAsModel (kind : Kind) (calls : List Call) (endings : List Ending) (closed : Closed) : Type 0 where
  pub answered : EndAsAnswered kind unbound calls endings
  pub leaves : Lists closed.bindings.pairs (bindings_after_all kind unbound calls)

-- ---- the law

module _ (M : Type 0) (mix : ℕ → ℕ → ℕ → ℕ) where
  -- in every run that serves commands for which its table is roomy no command about bindings is refused, no walk from the first bucket on has to
  -- begin anew, and the size stays as it began
  abbrev pub RoomyTakesAll : Type 0
  RoomyTakesAll =
      (config : Config) (auto : Bool) (commands : List (ℕ × Call)) (endings : List (List Ending)) (closed : Closed)
      → IsServedRun M mix config auto commands endings closed → IsRoomyFor config commands
      → AreAllTaken config commands endings closed

  -- and in every run that serves the commands of one worker, who binds few ports at a time, each is answered as the model answers it
  abbrev pub OneWorkerAsModel : Type 0
  OneWorkerAsModel =
      (config : Config) (auto : Bool) (commands : List (ℕ × Call)) (endings : List (List Ending)) (closed : Closed)
      → IsServedRun M mix config auto commands endings closed → IsSmallFor config (calls_of 1 commands)
      → AreAsModel config.kind (calls_of 1 commands) (endings_by 0 endings) closed
