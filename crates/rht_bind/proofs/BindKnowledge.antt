-- What a bind knows in each state, and how its pieces are for its port and its owner there.
-- Each of its operations leads from what it knows to what it knows next, which the other files say.
use Rattle.std.proofs.Common.{◌≡◌, ◌≢◌, ℕ, List, [], length, Option, Some, None, Bool, true, false, refl, inr}
use Rattle.std.specs.Prelude.{option_map}
use Rattle.rht_words.specs.declared.env.Env.{Env}
use Rattle.rht_words.specs.declared.config.Kind.TheVariants.{Single, Listed}
use Rattle.rht_words.specs.declared.machine.Next.{Next}
use Rattle.rht_words.specs.declared.machine.Next.TheVariants.{Go, Done}
use Rattle.rht_words.specs.Held as held
use Rattle.rht_words.specs.Links.{link_of, head_of, plain_of}
use Rattle.rht_words.specs.Operations.{old_of}
use Rattle.rht_words.specs.Places.{ChainLink, ListLink}
use Rattle.rht_words.proofs.Memory.{Memory}
use Rattle.rht_nest.specs.Unmake.{pages_of_unmake}
use Rattle.rht_nest.specs.Grow.{pages_of_grow}
use Rattle.rht_nest.specs.Place.{entry_place}
use Rattle.rht_chain.specs.Relink.{RelinkModel, relink_new, has_relinked}
use Rattle.rht_chain.specs.declared.relink.RelinkAt.{RelinkAt}
use Rattle.rht_chain.specs.declared.relink.RelinkAt.TheVariants as relinks
use Rattle.rht_model.specs.declared.history.Call.TheVariants as calls
use Rattle.rht_model.specs.declared.history.Reply.{Reply}
use Rattle.rht_model.specs.declared.history.Reply.TheVariants.{NoNode}
use Rattle.rht_model.specs.Answers.{plain}
use Rattle.rht_model.specs.Answers as answers
use Rattle.rht_bind.specs.Bind.{plan_at, after_at}
use Rattle.rht_bind.specs.BindHeld.{holds_node, node_of_ending, held_of_bind}
use Rattle.rht_bind.specs.declared.bind.Claimed.{Claimed}
use Rattle.rht_bind.specs.declared.bind.growth.Growing.{Growing}
use Rattle.rht_bind.specs.declared.bind.FoundList.{FoundList}
use Rattle.rht_bind.specs.declared.bind.BindAt.{BindAt}
use Rattle.rht_bind.specs.declared.bind.BindAt.TheVariants as at
use Rattle.rht_ghost.proofs.Theory.Ghosts.{Ghost}
use Rattle.rht_ghost.proofs.Theory.Knowns.{KnownNode, KnownTable, KnownBucket, KnownList, Known, knows_plain, Nowhere, InSlot, AtHome, Unlocked, Locks, Missed, Found, Member, InList, FirstLink, Replaces, HasPages, HasTaken, HasMade, Unlocks, Armed}
use Rattle.rht_ghost.proofs.Theory.Knowledge.{Knowing}
use Rattle.rht_model.specs.Replies.{takes_out}
use Rattle.rht_model.specs.Replies.{IsBindReply, AreOwnersWith}
use Rattle.rht_ghost.proofs.Theory.Answering.{IsLegalOn, IsRight, Tells, learns}
use Rattle.rht_ghost.proofs.Theory.Steps.{Holding, mem, owners, Step}
use Rattle.rht_ghost.proofs.Pieces.NewNodes as nodes
use Rattle.rht_ghost.proofs.Pieces.Holdings.{bare_slot}
use Rattle.rht_ghost.proofs.Pieces.Makes.{known_of_make}
use Rattle.rht_ghost.proofs.Pieces.Locates.{known_locate}
use Rattle.rht_ghost.proofs.Pieces.OpenEntries.{known_growing}
use Rattle.rht_ghost.proofs.Pieces.Probes.{known_probe, place_of_probe, IsProbeFor}
use Rattle.rht_ghost.proofs.Theory.Knowns.{known_nothing, known_behind}

-- what a call holds that links its node next
abbrev pub holds_publishing : ℕ → ℕ → Holding
holds_publishing n place = record (holds_node (Some n) (Some place)) { raised = true }

module _ (port owner : ℕ) where
  -- the node with all its words, but for its link in a chain, and with that link
  abbrev pub own : ℕ → KnownNode
  own n = nodes.filled n port owner

  abbrev pub chained : ℕ → ℕ → ℕ → KnownNode
  chained n place word = nodes.with_word (own n) ChainLink (head_of place word)

  -- what it knows of its node, of the way to a bucket, and of the bucket that it has locked
  abbrev pub knows_of : KnownNode → KnownTable → KnownBucket → Known
  knows_of node table bucket = knows_plain (Some node) table bucket

  abbrev pub at_home : Claimed → KnownTable
  at_home claimed = AtHome port claimed.table (Some claimed.shape) claimed.bucket.place

  abbrev pub missed : Claimed → KnownBucket
  missed claimed = Missed claimed.bucket.place claimed.bucket.word port

  -- and once it is known that no table is behind it
  abbrev pub armed : Claimed → KnownBucket
  armed claimed = Armed claimed.bucket.place claimed.bucket.word port

  -- the node with the link to the first one of the port's list, and what is known of that list
  abbrev pub in_front : FoundList → KnownNode
  in_front list = nodes.with_word (own list.claimed.attempt.node) ListLink (link_of list.first)

  abbrev pub first_found : FoundList → KnownBucket
  first_found list = Found list.claimed.bucket.place list.claimed.bucket.word port list.first list.before

  abbrev pub of_list : FoundList → KnownList → KnownBucket
  of_list list = InList list.claimed.bucket.place list.claimed.bucket.word port list.first list.before

  -- while the node is put in front of the list: before the store of the link, and behind it
  abbrev pub known_replacing : FoundList → Bool → Known
  known_replacing list false =
      knows_of (in_front list) (at_home list.claimed) (of_list list (Replaces list.claimed.attempt.node))
  known_replacing list true =
      knows_plain None Nowhere (Locks list.claimed.bucket.place list.claimed.bucket.word)

  -- while it wants a further table: the slot of the last one
  abbrev pub wants_table : Growing → Known
  wants_table growing = knows_of (own growing.attempt.node) (InSlot growing.table) Unlocked

  -- what a bind knows in a state
  abbrev pub known_of_bind : BindAt → Known
  known_of_bind (at.Filling new) = knows_plain (nodes.known_at port owner new.at) Nowhere Unlocked
  known_of_bind (at.Opening attempt) = knows_of (own attempt.node) Nowhere Unlocked
  known_of_bind (at.CurrentTable attempt) = knows_of (own attempt.node) Nowhere Unlocked
  known_of_bind (at.Locating attempt locate) =
      knows_of (own attempt.node) (known_locate port locate.table locate.at) Unlocked
  known_of_bind (at.Entering attempt table shape place grow) =
      record (knows_of (own attempt.node) (known_growing port table shape place grow.at) Unlocked) {
        making = HasPages (pages_of_grow grow.at);
      }
  known_of_bind (at.Probing attempt table shape probe) =
      knows_of (own attempt.node) (AtHome port table (Some shape) (place_of_probe probe.at))
      (known_probe port probe.at)
  known_of_bind (at.FoundOwner claimed found) =
      knows_of (own claimed.attempt.node) (at_home claimed)
      (Member claimed.bucket.place claimed.bucket.word port found)
  known_of_bind (at.ListLink list) = knows_of (own list.claimed.attempt.node) (at_home list.claimed)
      (first_found list)
  known_of_bind (at.ChainLink list) = knows_of (in_front list) (at_home list.claimed) (first_found list)
  known_of_bind (at.LinkBehind list link) = knows_of (in_front list) (at_home list.claimed)
      (of_list list (FirstLink link))
  known_of_bind (at.Replacing list relink) = known_replacing list (has_relinked list.before relink.at)
  known_of_bind (at.Future claimed length) =
      knows_of (own claimed.attempt.node) (at_home claimed) (missed claimed)
  known_of_bind (at.Count claimed) = knows_of (own claimed.attempt.node) (at_home claimed) (armed claimed)
  known_of_bind (at.Link claimed) = knows_of (own claimed.attempt.node) (at_home claimed) (armed claimed)
  known_of_bind (at.Raise claimed) =
      knows_of (chained claimed.attempt.node claimed.bucket.place claimed.bucket.word) (at_home claimed)
      (armed claimed)
  known_of_bind (at.Publish n table relink kick) =
      knows_of (chained n relink.place relink.word) (AtHome port table None relink.place)
      (Armed relink.place relink.word port)
  known_of_bind (at.Unlocking attempt table unlock next) =
      knows_of (own attempt.node) (known_behind port next) (Unlocks unlock.place unlock.word)
  known_of_bind (at.UnlockingFull growing unlock) =
      knows_of (own growing.attempt.node) (InSlot growing.table) (Unlocks unlock.place unlock.word)
  known_of_bind (at.Root growing) = wants_table growing
  known_of_bind (at.GrowthCount growing root) = wants_table growing
  known_of_bind (at.Making growing size make) =
      record (wants_table growing) { making = known_of_make make.exponent make.seed make.at }
  known_of_bind (at.FutureAgain growing refusal) = wants_table growing
  known_of_bind (at.Attaching growing slot shape) =
      record (wants_table growing) { making = HasMade slot shape }
  known_of_bind (at.Unmaking attempt unmake answer) =
      record (knows_of (own attempt.node) Nowhere Unlocked) {
        making = HasTaken (bare_slot unmake.slot) (pages_of_unmake unmake.at);
      }
  known_of_bind (at.Closing ending) = knows_plain (option_map own (node_of_ending ending)) Nowhere Unlocked
  known_of_bind (at.Giving give reply) = knows_of (own give.node) Nowhere Unlocked

-- a state of the change of the place before, in a bucket whose word was this, to this link
abbrev pub IsRelinkAtOf : ℕ → ℕ → ℕ → Option ℕ → RelinkAt → Type 0
IsRelinkAtOf place word link None (relinks.ChainLink node) = ⊥
IsRelinkAtOf place word link None (relinks.Word stored) = stored ≡ plain_of place link
IsRelinkAtOf place word link (Some before) (relinks.ChainLink node) = node ≡ before
IsRelinkAtOf place word link (Some before) (relinks.Word stored) = stored ≡ word

module _ (env : Env) where
  -- the relinking that puts the node in front of the list, at this state of it
  abbrev pub front_relink : FoundList → RelinkAt → RelinkModel
  front_relink list state =
      let bucket = list.claimed.bucket in
      let link = link_of list.claimed.attempt.node in
      record (relink_new env.geometry bucket.place bucket.word list.before link) { at = state }

  -- a bind is at such a change only in a table of lists
  pub record IsRelinkFor (list : FoundList) (relink : RelinkModel) : Type 0 where
    pub listed : env.config.kind ≡ Listed
    pub relink_is : relink ≡ front_relink list relink.at
    pub at_is : IsRelinkAtOf list.claimed.bucket.place list.claimed.bucket.word
        (link_of list.claimed.attempt.node) list.before relink.at

module _ (env : Env) (mix : ℕ → ℕ → ℕ → ℕ) (c : ℕ) (port owner : ℕ) (once : Bool) where
  -- how its pieces are for the port, the owner and the kind of the table
  abbrev pub fits_bind : BindAt → Type 0
  fits_bind (at.Filling new) = (new.key ≡ port) × (new.owner ≡ owner)
  fits_bind (at.Opening attempt) = Unit {0}
  fits_bind (at.CurrentTable attempt) = Unit {0}
  fits_bind (at.Locating attempt locate) = Unit {0}
  fits_bind (at.Entering attempt table shape place grow) = grow.entry ≡ entry_place place
  fits_bind (at.Probing attempt table shape probe) = (probe.key ≡ port) × IsProbeFor port probe.at
  fits_bind (at.FoundOwner claimed found) = env.config.kind ≡ Single
  fits_bind (at.ListLink list) = env.config.kind ≡ Listed
  fits_bind (at.ChainLink list) = env.config.kind ≡ Listed
  fits_bind (at.LinkBehind list link) = env.config.kind ≡ Listed
  fits_bind (at.Replacing list relink) = IsRelinkFor env list relink
  fits_bind (at.Future claimed length) = Unit {0}
  fits_bind (at.Count claimed) = Unit {0}
  fits_bind (at.Link claimed) = Unit {0}
  fits_bind (at.Raise claimed) = Unit {0}
  fits_bind (at.Publish n table relink kick) =
      relink ≡ relink_new env.geometry relink.place relink.word None (link_of n)
  fits_bind (at.Unlocking attempt table unlock next) = Unit {0}
  fits_bind (at.UnlockingFull growing unlock) = Unit {0}
  fits_bind (at.Root growing) = Unit {0}
  fits_bind (at.GrowthCount growing root) = Unit {0}
  fits_bind (at.Making growing size make) = Unit {0}
  fits_bind (at.FutureAgain growing refusal) = Unit {0}
  fits_bind (at.Attaching growing slot shape) = Unit {0}
  fits_bind (at.Unmaking attempt unmake answer) = Unit {0}
  fits_bind (at.Closing ending) = Unit {0}
  fits_bind (at.Giving give reply) = Unit {0}

  pub record BindKnows (at : BindAt) (M : Memory) (G : Ghost) : Type 0 where
    pub knowing : Knowing env mix c (held_of_bind at) (known_of_bind port owner at) M G
    pub fits : fits_bind at

  -- what it holds and knows after an operation
  abbrev pub bind_holds : BindAt × Next Reply → Holding
  bind_holds (at, Go) = held_of_bind at
  bind_holds (at, Done reply) = held.ended_with (plain reply)

  abbrev pub BindNext : BindAt × Next Reply → Memory → Ghost → Type 0
  BindNext (at, Go) M G = BindKnows at M G
  BindNext (at, Done reply) M G = Knowing env mix c (held.ended_with (plain reply)) known_nothing M G

  module _ (words : List ℕ) (G : Ghost) where
    -- what an operation leads to from a state
    abbrev pub BindMoved : BindAt → BindAt × Next Reply → Type 0
    BindMoved at r =
        Step env mix c (calls.Bind port owner once) words G (plan_at env c at) (held_of_bind at)
        (bind_holds r) (BindNext r)

    abbrev pub BindStep : BindAt → Type 0
    BindStep at = BindMoved at (after_at mix env port once at (old_of words (plan_at env c at)))

    -- ---- what a bind is told

    -- a bind that has a node is answered so
    pub with_node : (n : ℕ) (reply : Reply) → IsBindReply once reply → AreOwnersWith reply []
        → reply ≢ NoNode
        → IsRight (calls.Bind port owner once) (Some n) (plain reply)
    with_node n reply is none_named other = record {
      replied = record { reply = is; owners = none_named };
      tells = (λ none. absurd (cc), λ no_node. absurd (other no_node));
    }

    -- a refusal is legal on all bindings, and leaves them
    pub refusal : (reply : Reply) → answers.IsBindRefusal reply → answers.is_refusal reply ≡ true
        → IsLegalOn env.config.kind c (calls.Bind port owner once) (owners env mix (mem env mix words) G)
        (plain reply)
    refusal reply may refuses = record { legal = inr (may, refl); leaves = λ p. rw refuses refl }

    -- so one that has a node is told it
    pub refused : (n : ℕ) (reply : Reply) → IsBindReply once reply → AreOwnersWith reply []
        → reply ≢ NoNode → takes_out reply ≡ false → answers.IsBindRefusal reply
        → answers.is_refusal reply ≡ true
        → Tells env.config.kind c (calls.Bind port owner once) (Some n)
        (owners env mix (mem env mix words) G) None (Some (plain reply))
    refused n reply is none_named other stays may refuses =
        learns env.config.kind c (calls.Bind port owner once) (Some n)
        (owners env mix (mem env mix words) G)
        (plain reply) (with_node n reply is none_named other) stays (refusal reply may refuses)
