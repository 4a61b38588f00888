-- What a rebind knows in each state, and how its pieces are for its port and its owners there.
use Rattle.std.proofs.Common.{◌≡◌, ◌≢◌, ℕ, List, [], Option, Some, None, Bool, true, false}
use Rattle.rht_words.specs.declared.env.Env.{Env}
use Rattle.rht_words.specs.declared.machine.Next.{Next}
use Rattle.rht_words.specs.declared.machine.Next.TheVariants.{Go, Done}
use Rattle.rht_words.specs.Held as held
use Rattle.rht_words.specs.Links.{link_of}
use Rattle.rht_words.specs.Operations.{old_of, applied}
use Rattle.rht_words.proofs.Memory.{Memory}
use Rattle.rht_chain.specs.Relink.{RelinkModel}
use Rattle.rht_model.specs.declared.history.Call.TheVariants as calls
use Rattle.rht_model.specs.declared.history.Reply.{Reply}
use Rattle.rht_model.specs.declared.history.Reply.TheVariants.{NoNode}
use Rattle.rht_model.specs.Answers.{plain}
use Rattle.rht_chain.specs.Relink.{has_relinked}
use Rattle.rht_release.specs.Rebind.{plan_at, after_at}
use Rattle.rht_release.specs.RebindHeld.{held_of_rebind}
use Rattle.rht_release.specs.declared.found_port.FoundPort.{FoundPort}
use Rattle.rht_release.specs.declared.rebind.RebindEnd.TheVariants as ends
use Rattle.rht_release.specs.declared.rebind.RebindAt.{RebindAt}
use Rattle.rht_release.specs.declared.rebind.RebindAt.TheVariants as at
use Rattle.rht_model.specs.Replies.{IsRebindReply, AreOwnersWith}
use Rattle.rht_ghost.proofs.Pieces.Locates.{IsThereFor}
use Rattle.rht_ghost.proofs.Theory.Ghosts.{Ghost}
use Rattle.rht_ghost.proofs.Theory.Knowns.{KnownNode, Nowhere, KnownBucket, Unlocked, Locks, LocksTakenOut, Matching, LinkBehind, Copied, CopiedTo, Succeeds, Known, knows_plain, KnownList}
use Rattle.rht_ghost.proofs.Theory.Knowledge.{Knowing}
use Rattle.rht_ghost.proofs.Theory.Answering.{IsRight}
use Rattle.rht_ghost.proofs.Theory.Steps.{Holding, mem, StepWhere}
use Rattle.rht_ghost.proofs.Pieces.NewNodes as nodes
use Rattle.rht_release.proofs.Seeks as seeks
use Rattle.rht_release.proofs.ListSearches.{knows_list, known_search}
use Rattle.rht_ghost.proofs.Pieces.Relinks.{relinking}
use Rattle.rht_release.proofs.ReleaseStores.{here, locks_taken}
use Rattle.rht_release.proofs.ReleaseKnowledge.{known_removed}

module _ (port owner new : ℕ) where
  -- the node with all its words, but for its link in a chain
  abbrev pub own : ℕ → KnownNode
  own n = nodes.filled n port new

  -- and with another list link, which is the one behind the old node
  abbrev pub copied : ℕ → KnownNode
  copied n = record (own n) { list = None }

  -- what it knows of its node, and of the bucket that it has locked
  abbrev pub knows_of : ℕ → KnownBucket → Known
  knows_of n bucket = knows_plain (Some (own n)) Nowhere bucket

  -- and of the list of the port, to whose bucket it has come
  abbrev pub listed : KnownNode → FoundPort → KnownList → Known
  listed node found known = knows_list (Some node) port found known

  -- before the store that puts its node in the place of the old one; and behind it, when that is taken out
  abbrev pub known_replacing : ℕ → FoundPort → Bool → Known
  known_replacing n found false = listed (copied n) found (Succeeds n owner)
  known_replacing n found true = here (locks_taken found found.node)

  -- what a rebind knows in a state
  abbrev pub known_of_rebind : RebindAt → Known
  known_of_rebind (at.Filling fresh) =
      knows_plain (nodes.known_at port new fresh.at) Nowhere Unlocked
  known_of_rebind (at.Opening n) = knows_of n Unlocked
  known_of_rebind (at.Seeking n seek) = seeks.known_of_seek port (Some (own n)) seek.at
  known_of_rebind (at.Searching n found search) = listed (own n) found (known_search owner search)
  known_of_rebind (at.LinkBehind n found old before) = listed (own n) found (Matching old before owner)
  known_of_rebind (at.OwnListLink n found old before link) = listed (own n) found (LinkBehind old before link owner)
  known_of_rebind (at.Swapping n found old before) = listed (copied n) found (Copied old (Some before) n owner)
  known_of_rebind (at.ChainLink n found) = listed (copied n) found (Copied found.node None n owner)
  known_of_rebind (at.Link n found link) = listed (copied n) found (CopiedTo n link owner)
  known_of_rebind (at.Replacing n found relink) =
      known_replacing n found (has_relinked found.before relink.at)
  known_of_rebind (at.Unlocking table unlock (ends.Rebound removed)) =
      here (LocksTakenOut unlock.place unlock.word removed)
  known_of_rebind (at.Unlocking table unlock (ends.Absent n)) = knows_of n (Locks unlock.place unlock.word)
  known_of_rebind (at.Closing (ends.Rebound removed)) = known_removed (Some removed)
  known_of_rebind (at.Closing (ends.Absent n)) = knows_of n Unlocked
  known_of_rebind (at.Giving give) = knows_of give.node Unlocked

-- the relinking that puts its node in the place of the old one
abbrev pub replaces : Env → ℕ → FoundPort → Bool → RelinkModel
replaces env n found stored =
    relinking env.geometry found.bucket.place found.bucket.word found.before (link_of n) stored

-- a rebind that has a node is answered so
pub with_node : {port owner new : ℕ} (n : ℕ) (reply : Reply) → IsRebindReply reply → AreOwnersWith reply []
    → reply ≢ NoNode → IsRight (calls.Rebind port owner new) (Some n) (plain reply)
with_node n reply is none_named other = record {
  replied = record { reply = is; owners = none_named };
  tells = (λ none. absurd (cc), λ no_node. absurd (other no_node));
}

module _ (env : Env) (mix : ℕ → ℕ → ℕ → ℕ) (c : ℕ) (port owner new : ℕ) where
  -- how its pieces are for the port and the owner
  abbrev pub fits_rebind : RebindAt → Type 0
  fits_rebind (at.Filling fresh) = (fresh.key ≡ port) × (fresh.owner ≡ new)
  fits_rebind (at.Opening n) = Unit {0}
  fits_rebind (at.Seeking n seek) = seeks.fits_seek port seek.at
  fits_rebind (at.Searching n found search) = Unit {0}
  fits_rebind (at.LinkBehind n found old before) = Unit {0}
  fits_rebind (at.OwnListLink n found old before link) = Unit {0}
  fits_rebind (at.Swapping n found old before) = Unit {0}
  fits_rebind (at.ChainLink n found) = Unit {0}
  fits_rebind (at.Link n found link) = Unit {0}
  fits_rebind (at.Replacing n found relink) =
      relink ≡ replaces env n found (has_relinked found.before relink.at)
  fits_rebind (at.Unlocking table unlock end) = Unit {0}
  fits_rebind (at.Closing end) = Unit {0}
  fits_rebind (at.Giving give) = Unit {0}

  pub record RebindKnows (at : RebindAt) (M : Memory) (G : Ghost) : Type 0 where
    pub knowing : Knowing env mix c (held_of_rebind at) (known_of_rebind port owner new at) M G
    pub fits : fits_rebind at

  -- what it holds and knows after an operation; at its end which node it has taken out, where it has
  abbrev pub rebind_holds : RebindAt × Next (Reply × Option ℕ) → Holding
  rebind_holds (at, Go) = held_of_rebind at
  rebind_holds (at, Done end) = held.ended_with (plain end.0)

  abbrev pub RebindNext : RebindAt × Next (Reply × Option ℕ) → Memory → Ghost → Type 0
  RebindNext (at, Go) M G = RebindKnows at M G
  RebindNext (at, Done end) M G =
      Knowing env mix c (held.ended_with (plain end.0)) (known_removed end.1) M G

  module _ (words : List ℕ) (G : Ghost) where
    -- what an operation leads to from a state
    abbrev pub RebindMoved : RebindAt → RebindAt × Next (Reply × Option ℕ) → Type 0
    RebindMoved at r =
        StepWhere env mix
        (IsThereFor (held_of_rebind at).early (known_of_rebind port owner new at).table (mem env mix words))
        (IsThereFor (rebind_holds r).early (known_of_rebind port owner new r.0).table
        (mem env mix (applied words (plan_at env c at)))) c (calls.Rebind port owner new)
        words G (plan_at env c at) (held_of_rebind at) (rebind_holds r) (RebindNext r)

    abbrev pub RebindStep : RebindAt → Type 0
    RebindStep at = RebindMoved at (after_at mix env port owner at (old_of words (plan_at env c at)))
