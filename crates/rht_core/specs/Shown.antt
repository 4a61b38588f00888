-- What walks show, in every run: full ones, and each call that has ended.
use Rattle.std.specs.Prelude.{◌≡◌, ◌≢◌, ℕ, ◌^◌, ◌<◌, ◌≤◌, ◌⊎◌, Some, None, Option, List, [], ◌∷◌, length, map}
use Rattle.std.specs.List.{AllByRecursion, flat_map}
use Rattle.rht_words.specs.declared.env.Env.{Env}
use Rattle.rht_words.specs.declared.op.Op.TheVariants.{Add}
use Rattle.rht_words.specs.Members.{In, IsDistinct}
use Rattle.rht_words.specs.Places.{NextSerial, place_of}
use Rattle.rht_model.specs.declared.history.Call.TheVariants.{Walk}
use Rattle.rht_model.specs.declared.history.Cursor.{Cursor}
use Rattle.rht_model.specs.declared.history.Reply.TheVariants.{Walked}
use Rattle.rht_core.specs.declared.event.Event.{Event}
use Rattle.rht_core.specs.Laws.{IsRecorded}
use Rattle.rht_core.specs.ListedOwners.{owners_loaded}
use Rattle.rht_core.specs.RunHistories.{bindings_behind}
use Rattle.rht_core.specs.Runs.{IsAdmitted}
use Rattle.rht_core.specs.Traces.{Past, traced_of, behind_call}

-- the call is a walk from this cursor, and ended with that one
pub record WalksFrom (from next : Option Cursor) (past : Past) : Type 0 where
  pub limit : ℕ
  pub call : past.done.call ≡ Walk from limit
  pub len : ℕ
  pub reply : past.done.reply ≡ Walked len next

-- calls one behind the other, of which each goes on where the one before ended, and the last one has come to
-- the end
abbrev pub AreWalks : Option Cursor → List Past → Type 0
AreWalks from [] = ⊥
AreWalks from (past ∷ []) = WalksFrom from None past
AreWalks from (past ∷ next ∷ pasts) =
    (cursor : Cursor) × WalksFrom from (Some cursor) past × AreWalks (Some cursor) (next ∷ pasts)

-- these calls are among those, in their order
abbrev pub AreAmong : List Past → List Past → Type 0
AreAmong [] all = Unit {0}
AreAmong (past ∷ pasts) [] = ⊥
AreAmong (past ∷ pasts) (one ∷ all) = ((past ≡ one) × AreAmong pasts all) ⊎ AreAmong (past ∷ pasts) all

abbrev pub pairs_of : List Past → List (ℕ × ℕ)
pairs_of pasts = flat_map (λ past. past.done.pairs) pasts

-- the event behind the last one of these calls; this one where there is none
abbrev pub ends_behind : ℕ → List Past → ℕ
ends_behind from [] = from
ends_behind from (past ∷ pasts) = ends_behind (behind_call past) pasts

-- a walk that has ended and hasn't to begin anew shows the owner of each node that it loaded, in the order of its loads
abbrev pub ShowsLoaded : Env → Past → Type 0
ShowsLoaded env past =
    (from : Option Cursor) (limit len : ℕ) (next : Option Cursor) → past.done.call ≡ Walk from limit → past.done.reply ≡ Walked len next
    → map (λ pair. pair.1) past.done.pairs ≡ owners_loaded env.geometry past.steps

module _ (M : Type 0) (mix : ℕ → ℕ → ℕ → ℕ) where
  -- Of the bindings behind the events from the one on with this number, up to that: each port that is bound
  -- behind all of them is shown; a pair that is shown is a port and its first owner behind one of them; and
  -- no port is shown twice.
  pub record ShowsRightly (env : Env) (events : List Event) (begin behind : ℕ)
      (pairs : List (ℕ × ℕ)) : Type 0 where
    pub throughout : (port : ℕ)
        → ((i : ℕ) → begin < i → i ≤ behind → bindings_behind M mix env events i port ≢ [])
        → In port (map (λ pair. pair.0) pairs)
    pub bound : AllByRecursion (λ pair. (i : ℕ) × (rest : List ℕ) × (begin < i) × (i ≤ behind)
        × (bindings_behind M mix env events i pair.0 ≡ pair.1 ∷ rest)) pairs
    pub once : IsDistinct (map (λ pair. pair.0) pairs)

  -- fewer than 2^63 serials were taken
  abbrev pub AreFewMade : Env → List Event → Type 0
  AreFewMade env events =
      (indexes : List ℕ) → IsDistinct indexes
      → AllByRecursion (λ index. (c : ℕ) × (old : ℕ)
      × IsRecorded M mix env events c record {
        index = index;
        op = Add (place_of env.geometry NextSerial) 1;
        old = old;
      }) indexes
      → length indexes < 2 ^ 63

  -- in every run each full walk shows rightly the bindings from the beginning of its first call to behind its
  -- last one; of one that has several calls that is said where few serials were taken
  abbrev pub Shown : Type 0
  Shown =
      (env : Env) (events : List Event) (c : ℕ) (first : Past) (pasts : List Past)
      → IsAdmitted events
      → (pasts ≢ [] → AreFewMade env events)
      → AreWalks None (first ∷ pasts)
      → AreAmong (first ∷ pasts) ((traced_of {M = M} mix env events).traces c).past
      → ShowsRightly env events first.begin (ends_behind (behind_call first) pasts) (pairs_of (first ∷ pasts))

  -- in every run each call that has ended shows what it loaded
  abbrev pub ShownWhole : Type 0
  ShownWhole =
      (env : Env) (events : List Event) (c : ℕ) → IsAdmitted events
      → AllByRecursion (ShowsLoaded env) ((traced_of {M = M} mix env events).traces c).past

  -- a walk that has ended and hasn't to begin anew shows ports with their first owners, each behind some event of it
  abbrev pub ShowsBound : Env → List Event → Past → Type 0
  ShowsBound env events past =
      (from : Option Cursor) (limit len : ℕ) (next : Option Cursor) → past.done.call ≡ Walk from limit → past.done.reply ≡ Walked len next
      → AllByRecursion (λ pair. (i : ℕ) × (rest : List ℕ) × (past.begin < i) × (i ≤ behind_call past)
      × (bindings_behind M mix env events i pair.0 ≡ pair.1 ∷ rest)) past.done.pairs

  -- in every run it is so of each call that has ended
  abbrev pub ShownBound : Type 0
  ShownBound =
      (env : Env) (events : List Event) (c : ℕ) → IsAdmitted events
      → AllByRecursion (ShowsBound env events) ((traced_of {M = M} mix env events).traces c).past
