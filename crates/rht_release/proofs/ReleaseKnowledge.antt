-- What a release knows in each state, and how its pieces are for its port there.
use Rattle.std.proofs.Common.{◌≡◌, ℕ, ◌-◌, ◌/◌, List, Option, Some, None, Bool, true, false, refl, sym, ap, arith}
use Rattle.rht_words.specs.declared.env.Env.{Env}
use Rattle.rht_words.specs.declared.machine.Next.{Next}
use Rattle.rht_words.specs.declared.machine.Next.TheVariants.{Go, Done}
use Rattle.rht_words.specs.Held as held
use Rattle.rht_words.specs.Links.{link_of}
use Rattle.rht_words.specs.Operations.{old_of, applied}
use Rattle.rht_words.proofs.Memory.{Memory}
use Rattle.rht_chain.specs.Relink.{RelinkModel}
use Rattle.rht_chain.specs.declared.unlock.Unlock.{Unlock}
use Rattle.rht_model.specs.declared.history.Call.TheVariants as calls
use Rattle.rht_model.specs.declared.history.Reply.{Reply}
use Rattle.rht_model.specs.Answers.{plain}
use Rattle.rht_release.specs.Release.{plan_at, after_at, promoting}
use Rattle.rht_release.specs.ReleaseHeld.{held_of_release, holds_bucket, holds_relinking}
use Rattle.rht_chain.specs.Relink.{has_relinked}
use Rattle.rht_release.specs.FoundPort.{relink_of}
use Rattle.rht_release.specs.declared.found_port.FoundPort.{FoundPort}
use Rattle.rht_release.specs.declared.release.ReleaseAt.{ReleaseAt}
use Rattle.rht_release.specs.declared.release.ReleaseAt.TheVariants as at
use Rattle.rht_ghost.proofs.Pieces.Locates.{IsThereFor}
use Rattle.rht_ghost.proofs.Theory.Ghosts.{Ghost}
use Rattle.rht_ghost.proofs.Theory.Knowns.{KnownBucket, Nowhere, Locks, TakenOut, LocksTakenOut, KnownList, Matching, LinkBehind, Leads, LeadsTo, Promotes, Known}
use Rattle.rht_ghost.proofs.Theory.Knowledge.{plainly, Knowing}
use Rattle.rht_ghost.proofs.Theory.Steps.{Holding, mem, StepWhere}
use Rattle.rht_ghost.proofs.Pieces.Relinks.{relinking, unstored}
use Rattle.rht_release.proofs.Seeks as seeks
use Rattle.rht_ghost.proofs.Theory.Knowns.{known_nothing}
use Rattle.rht_release.proofs.ListSearches.{known_search}
use Rattle.rht_release.proofs.ReleaseStores.{here, listed, locks_taken}
use Rattle.rht_release.proofs.ReleaseStores as stores

-- the node to which a link leads
abbrev pub led_to : ℕ → ℕ
led_to link = link / 2 - 1

-- what is known while the bucket is unlocked, and in the end: the node that was taken out, where one was
abbrev known_unlocking : Unlock → Option ℕ → KnownBucket
known_unlocking unlock None = Locks unlock.place unlock.word
known_unlocking unlock (Some node) = LocksTakenOut unlock.place unlock.word node

abbrev pub known_removed : Option ℕ → Known
known_removed None = known_nothing
known_removed (Some node) = here (TakenOut node)

-- nothing of a table
pub removed_nowhere : (removed : Option ℕ) → (known_removed removed).table ≡ Nowhere
removed_nowhere None = refl
removed_nowhere (Some node) = refl

-- whoever knows so knows what a caller knows in no call
pub nothing_known : (env : Env) (mix : ℕ → ℕ → ℕ → ℕ) (c : ℕ) (h : Holding) (removed : Option ℕ)
    (M : Memory) (G : Ghost) → Knowing env mix c h (known_removed removed) M G
    → Knowing env mix c h known_nothing M G
nothing_known env mix c h None M G k = k
nothing_known env mix c h (Some node) M G k = plainly env mix k.only tt tt tt

-- the port was found, and its first node has another one before it in the chain, or none
abbrev pub behind_node : FoundPort → Option ℕ → FoundPort
behind_node found before = record found { before = before }

module _ (port owner : ℕ) where
  -- while the chain is changed: this of the list, or that the first node was taken out
  abbrev pub known_relinking : FoundPort → KnownList → Bool → Known
  known_relinking found known false = listed port found known
  known_relinking found known true = here (locks_taken found found.node)

  -- what a release knows in a state
  abbrev pub known_of_release : ReleaseAt → Known
  known_of_release at.Opening = known_nothing
  known_of_release (at.Seeking seek) = seeks.known_of_seek port None seek.at
  known_of_release (at.Searching found search) = listed port found (known_search owner search)
  known_of_release (at.LinkBehind found node before) = listed port found (Matching node before owner)
  known_of_release (at.CuttingOut found node before link) =
      listed port found (LinkBehind node (Some before) link owner)
  known_of_release (at.ChainLink found second) = listed port found (Leads second owner)
  known_of_release (at.SecondLink found second link) =
      listed port found (LeadsTo (Some second) link owner)
  known_of_release (at.Promoting found relink) =
      known_relinking found (Promotes (led_to relink.link) owner) (has_relinked found.before relink.at)
  known_of_release (at.Unlinking found relink) =
      known_relinking found (LeadsTo None relink.link owner) (has_relinked found.before relink.at)
  known_of_release (at.Lowering node shape) = here (TakenOut node)
  known_of_release (at.Unlocking table unlock removed) = here (known_unlocking unlock removed)
  known_of_release (at.Closing reply removed) = known_removed removed

module _ (env : Env) where
  -- a relinking of this link in the bucket of the port, before its first store or behind it
  abbrev pub relinks : FoundPort → ℕ → Option ℕ → Bool → RelinkModel
  relinks found link before stored =
      relinking env.geometry found.bucket.place found.bucket.word before link stored

  abbrev pub IsRelinking : FoundPort → RelinkModel → Type 0
  IsRelinking found relink =
      relink ≡ relinks found relink.link found.before (has_relinked found.before relink.at)

  -- before its first store a relinking holds the bucket
  pub begins_held : (found : FoundPort) (raised : Bool) (link : ℕ)
      → holds_relinking found raised (has_relinked found.before (relink_of env.geometry found link).at)
      ≡ holds_bucket found
  begins_held found raised link =
      ap (holds_relinking found raised) (unstored found.bucket.place link found.before)

module _ (env : Env) (mix : ℕ → ℕ → ℕ → ℕ) (c : ℕ) (port owner : ℕ) where
  -- how its pieces are for the port
  abbrev pub fits_release : ReleaseAt → Type 0
  fits_release at.Opening = Unit {0}
  fits_release (at.Seeking seek) = seeks.fits_seek port seek.at
  fits_release (at.Searching found search) = Unit {0}
  fits_release (at.LinkBehind found node before) = Unit {0}
  fits_release (at.CuttingOut found node before link) = Unit {0}
  fits_release (at.ChainLink found second) = Unit {0}
  fits_release (at.SecondLink found second link) = Unit {0}
  fits_release (at.Promoting found relink) =
      IsRelinking env found relink × (relink.link ≡ link_of (led_to relink.link))
  fits_release (at.Unlinking found relink) = IsRelinking env found relink
  fits_release (at.Lowering node shape) = Unit {0}
  fits_release (at.Unlocking table unlock removed) = Unit {0}
  fits_release (at.Closing reply removed) = Unit {0}

  pub record ReleaseKnows (at : ReleaseAt) (M : Memory) (G : Ghost) : Type 0 where
    pub knowing : Knowing env mix c (held_of_release at) (known_of_release port owner at) M G
    pub fits : fits_release at

  -- what it holds and knows after an operation
  abbrev pub release_holds : ReleaseAt × Next (Reply × Option ℕ) → Holding
  release_holds (at, Go) = held_of_release at
  release_holds (at, Done end) = held.ended_with (plain end.0)

  abbrev pub ReleaseNext : ReleaseAt × Next (Reply × Option ℕ) → Memory → Ghost → Type 0
  ReleaseNext (at, Go) M G = ReleaseKnows at M G
  ReleaseNext (at, Done end) M G =
      Knowing env mix c (held.ended_with (plain end.0)) (known_removed end.1) M G

  -- ---- before its first store a relinking knows what was known of the list

  abbrev KnowsList : FoundPort → KnownList → Memory → Ghost → Type 0
  KnowsList = stores.KnowsList env mix c port owner

  pub unlinking_knows : (M : Memory) (G : Ghost) (found : FoundPort) (link : ℕ)
      → KnowsList found (LeadsTo None link owner) M G
      → ReleaseKnows (at.Unlinking found (relink_of env.geometry found link)) M G
  unlinking_knows M G found link k = go found.before (record { only = k.only; means = k.means }) where
    go : (b : Option ℕ) → let f = behind_node found b in
        KnowsList f (LeadsTo None link owner) M G
        → ReleaseKnows (at.Unlinking f (relink_of env.geometry f link)) M G
    go None k = record { knowing = k; fits = refl }
    go (Some node) k = record { knowing = k; fits = refl }

  pub promoting_knows : (M : Memory) (G : Ghost) (found : FoundPort) (second : ℕ)
      → KnowsList found (Promotes second owner) M G → ReleaseKnows (promoting env.geometry found second) M G
  promoting_knows M G found second k = go found.before (record { only = k.only; means = k.means }) where
    led : led_to (link_of second) ≡ second
    led = omega arith

    go : (b : Option ℕ) → let f = behind_node found b in
        KnowsList f (Promotes second owner) M G → ReleaseKnows (promoting env.geometry f second) M G
    go None k = record { knowing = rw led k; fits = (refl, ap link_of (sym led)) }
    go (Some node) k = record { knowing = rw led k; fits = (refl, ap link_of (sym led)) }

  module _ (words : List ℕ) (G : Ghost) where
    -- what an operation leads to from a state
    abbrev pub ReleaseMoved : ReleaseAt → ReleaseAt × Next (Reply × Option ℕ) → Type 0
    ReleaseMoved at r =
        StepWhere env mix
        (IsThereFor (held_of_release at).early (known_of_release port owner at).table (mem env mix words))
        (IsThereFor (release_holds r).early (known_of_release port owner r.0).table
        (mem env mix (applied words (plan_at env c at)))) c (calls.Release port owner)
        words G (plan_at env c at) (held_of_release at) (release_holds r) (ReleaseNext r)

    abbrev pub ReleaseStep : ReleaseAt → Type 0
    ReleaseStep at = ReleaseMoved at (after_at mix env port owner at (old_of words (plan_at env c at)))
