-- What clauses say of sessions: what is said of a table and its passes, said of the table and the pass of a session.
use Rattle.std.specs.Prelude.{◌≡◌, ℕ, ◌+◌, ◌<◌, ◌≤◌, Bool, Option, Some, MatchOption, IfNone, is_some, List, [], ◌∷◌, length, map}
use Rattle.std.specs.Arc.{arc_value}
use Rattle.rht_words.specs.declared.config.Config.{Config}
use Rattle.rht_words.specs.declared.config.Hash.{Hash}
use Rattle.rht_words.specs.declared.config.Hash.TheVariants as hashes
use Rattle.rht_words.specs.Settled.{plain_ways}
use Rattle.rht_policy.specs.declared.mix.Lookup3.{Lookup3}
use Rattle.rht_policy.specs.declared.mix.Low.{Low}
use Rattle.rht_policy.specs.Mix.{final_mix, low_mix}
use Rattle.rht_model.specs.declared.history.Call.{Call}
use Rattle.rht_model.specs.declared.history.Reply.{Reply}
use Rattle.rht_core.specs.Locals.{is_idle}
use Rattle.rht_core.specs.Replies.{IsRightlyAnswered}
use Rattle.rht_core.specs.Runs.{View}
use Rattle.rht_core.specs.Laws.{view_stepped}
use Rattle.rht_run.specs.declared.table.Table.{Table}
use Rattle.rht_run.specs.declared.pass.Pass.{Pass}
use Rattle.rht_run.specs.Passes.{IsPassOf, IsSamePass, IsCalling, HasCalled, HasGone, IsNew, seen_by}
use Rattle.rht_run.specs.Caused.{IsCaused, HasLookedUp}
use Rattle.rht_run.specs.Untidied.{untidied}
use Rattle.rht_session.specs.declared.shared.Shared.{Shared}
use Rattle.rht_session.specs.declared.session.Session.{Session}
use Rattle.rht_session.specs.declared.session.Session.TheVariants as sessions

-- ---- a pass that is in a call, or has ended one

-- The pass has ended this call with this reply, which is one that the call gives. The lists in its rooms are those that come with the
-- reply, and the operations of the call have what the reply has to show.
pub record HasEnded {M : Type 0} (mix : ℕ → ℕ → ℕ → ℕ) (t : Table M) (call : Call) (reply : Reply) (before now : Pass M)
    : Type 0 where
  pub called : HasCalled mix t call reply before now
  pub answered :
      IsRightlyAnswered record { call = call; reply = reply; owners = now.local.owners.items; pairs = now.local.pairs.items }
  pub caused : IsCaused mix t call reply before now

-- the call has ended with this reply, or goes on once so many of its operations are made
abbrev pub HasComeTo : {M : Type 0} → (ℕ → ℕ → ℕ → ℕ) → Table M → Call → ℕ → Pass M → Option Reply → Pass M → Type 0
HasComeTo mix t call steps before reply now =
    MatchOption reply (IsCalling mix t call steps before now) (λ answer. HasEnded mix t call answer before now)

-- what a caller sees of itself after operations that found these words, one after another
abbrev pub view_behind : {M : Type 0} → (ℕ → ℕ → ℕ → ℕ) → List ℕ → View M → View M
view_behind mix [] view = view
view_behind mix (found ∷ others) view = view_behind mix others (view_stepped mix found view)

-- The pass has begun this call by one operation, and may have ended it with that.
pub record HasBegun {M : Type 0} (mix : ℕ → ℕ → ℕ → ℕ) (t : Table M) (call : Call) (before : Pass M) (reply : Option Reply) (now : Pass M)
    : Type 0 where
  pub pass : IsPassOf mix t now
  pub come_to : HasComeTo mix t call 1 before reply now
  pub one : HasGone mix t (Some call) before reply now

-- The pass has begun this call and made some operations of it, which ended it or left the pass in the middle. From there it goes on as after
-- any operation of the call.
pub record HasSetOut {M : Type 0} (mix : ℕ → ℕ → ℕ → ℕ) (t : Table M) (call : Call) (before : Pass M) (reply : Option Reply) (now : Pass M)
    : Type 0 where
  pub pass : IsPassOf mix t now
  pub steps : ℕ
  pub come_to : HasComeTo mix t call steps before reply now

-- The pass has gone on with its call, by so many operations at most and one at least; these found words, from which alone it is what it
-- is now. Where the call hasn't ended it has gone on by so many. The call may have any number of operations behind it, and have begun on
-- any state of the pass.
pub record HasGoneOn {M : Type 0} (mix : ℕ → ℕ → ℕ → ℕ) (t : Table M) (most : ℕ) (before : Pass M) (reply : Option Reply) (now : Pass M)
    : Type 0 where
  pub pass : IsPassOf mix t now
  pub same : IsSamePass before now
  pub found : List ℕ
  pub some : 0 < length found
  pub few : length found ≤ most
  pub all : IfNone reply (length found ≡ most)
  pub seen : seen_by now ≡ view_behind mix found (seen_by before)
  pub ended : is_idle now.local ≡ is_some reply
  pub turned : (call : Call) (steps : ℕ) (p : Pass M) → IsCalling mix t call steps p before
      → HasComeTo mix t call (steps + length found) p reply now

-- ---- sessions

-- the table of a caller that shares one
abbrev pub table_of : {M : Type 0} → Shared M → Table M
table_of shared = arc_value shared.table

-- what may be so of a table and one of its passes, whatever the hash is
abbrev pub Fact : Type 1
Fact = (M : Type 0) → (ℕ → ℕ → ℕ → ℕ) → Table M → Pass M → Type 0

-- and of the pass before something and behind it
abbrev pub Change : Type 1
Change = (M : Type 0) → (ℕ → ℕ → ℕ → ℕ) → Table M → Pass M → Pass M → Type 0

-- it is so of the session's table and pass
abbrev pub Is : Fact → Session → Type 0
Is fact (sessions.Mix shared) = fact Lookup3 final_mix (table_of shared) shared.pass
Is fact (sessions.Low shared) = fact Low low_mix (table_of shared) shared.pass

-- it is so of the session's pass before and behind; the table is the same
abbrev pub Does : Change → Session → Session → Type 0
Does change (sessions.Mix old) (sessions.Mix new) = (new.table ≡ old.table) × change Lookup3 final_mix (table_of old) old.pass new.pass
Does change (sessions.Low old) (sessions.Low new) = (new.table ≡ old.table) × change Low low_mix (table_of old) old.pass new.pass
Does change (sessions.Mix old) (sessions.Low new) = ⊥
Does change (sessions.Low old) (sessions.Mix new) = ⊥

-- the session's pass is one of its table
abbrev pub IsFit : Session → Type 0
IsFit = Is (λ M mix t pass. IsPassOf mix t pass)

-- whether the session is in no call
abbrev pub is_free : Session → Bool
is_free (sessions.Mix shared) = is_idle shared.pass.local
is_free (sessions.Low shared) = is_idle shared.pass.local

-- how many nodes its calls took out that aren't given back
abbrev pub untidied_of : Session → ℕ
untidied_of (sessions.Mix shared) = untidied shared.pass
untidied_of (sessions.Low shared) = untidied shared.pass

-- the lists that came with its last call
abbrev pub owners_of : Session → List ℕ
owners_of (sessions.Mix shared) = shared.pass.local.owners.items
owners_of (sessions.Low shared) = shared.pass.local.owners.items

abbrev pub pairs_of : Session → List (ℕ × ℕ)
pairs_of (sessions.Mix shared) = shared.pass.local.pairs.items
pairs_of (sessions.Low shared) = shared.pass.local.pairs.items

-- the session has ended this call with this reply
abbrev pub Ends : Call → Reply → Session → Session → Type 0
Ends call reply = Does (λ M mix t before now. HasEnded mix t call reply before now)

-- the session has looked this port up with this reply
abbrev pub LooksUp : ℕ → Reply → Session → Session → Type 0
LooksUp port reply = Does (λ M mix t before now. HasLookedUp mix t port reply before now)

-- the session has begun this call by its first operation, and may have ended it with that
abbrev pub Begins : Call → Option Reply → Session → Session → Type 0
Begins call reply = Does (λ M mix t before now. HasBegun mix t call before reply now)

-- the session has begun this call and made some operations of it, which may have ended it
abbrev pub SetsOut : Call → Option Reply → Session → Session → Type 0
SetsOut call reply = Does (λ M mix t before now. HasSetOut mix t call before reply now)

-- the session has gone on with its call by so many operations, unless it ended before
abbrev pub GoesOn : ℕ → Option Reply → Session → Session → Type 0
GoesOn most reply = Does (λ M mix t before now. HasGoneOn mix t most before reply now)

-- ---- opening

module _ {M : Type 0} where
  -- these share the table, have its passes from this number on, and have made no call
  abbrev pub AreNewFrom : (ℕ → ℕ → ℕ → ℕ) → Table M → ℕ → List (Shared M) → Type 0
  AreNewFrom mix t n [] = Unit {0}
  AreNewFrom mix t n (shared ∷ others) = (table_of shared ≡ t) × IsNew mix t n shared.pass × AreNewFrom mix t (n + 1) others

  -- and there is one for each of the table's callers, whose config this is
  pub record AreAllNew (mix : ℕ → ℕ → ℕ → ℕ) (config : Config) (all : List (Shared M)) : Type 0 where
    pub table : Table M
    pub config_same : table.env.config ≡ config
    pub ways_plain : table.env.ways ≡ plain_ways
    pub new : AreNewFrom mix table 0 all
    pub count : length all ≡ config.callers

-- the sessions of a table that has just been opened with this config, by the hash that it names
abbrev pub AreOpened : Config → Hash → List Session → Type 0
AreOpened config hashes.Mix opened = (all : List (Shared Lookup3)) × (opened ≡ map sessions.Mix all) × AreAllNew final_mix config all
AreOpened config hashes.Low opened = (all : List (Shared Low)) × (opened ≡ map sessions.Low all) × AreAllNew low_mix config all
