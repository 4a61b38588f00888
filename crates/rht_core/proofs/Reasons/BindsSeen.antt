-- What a bind has seen so far, in each of its states, and what it saw once it has a reply.
--
-- While it takes a node, each node below the one at which it stands was taken. Before the load of a table's
-- shape it has come to that table, and from there on this is the last table that it walked, while it wants a
-- further table too. While it enters a page, it loaded the table's future as none, and then the entry at
-- which the way to its port's bucket ends, and these pages were seen taken. Before the raise of the count it
-- has seen that there is room, and behind it there was that; and while its state holds a refusal, what the refusal says. What is seen for a reply stays
-- so while it unlocks a bucket, closes its section and gives its node back.
use Rattle.std.proofs.Common.{◌≡◌, ◌⊎◌, ℕ, ◌≤◌, List, [], ◌∷◌, ◌++◌, map, sym, ap, ◌∙◌, append_assoc, subst, inl, inr}
use Rattle.std.specs.Prelude.{Option, Some, None, IfSome}
use Rattle.std.specs.List.{AllByRecursion}
use Rattle.std.proofs.lemmas.List.{map-append}
use Rattle.rht_words.specs.declared.op.Op.TheVariants.{Load}
use Rattle.rht_words.specs.declared.env.Env.{Env}
use Rattle.rht_words.specs.declared.config.Kind.TheVariants.{Single}
use Rattle.rht_words.specs.declared.machine.Next.{Next}
use Rattle.rht_words.specs.declared.machine.Next.TheVariants.{Go}
use Rattle.rht_words.specs.Places.{PortCount, place_of}
use Rattle.rht_policy.specs.Sizes.{most_ports}
use Rattle.rht_model.specs.declared.history.Reply.{Reply}
use Rattle.rht_model.specs.declared.history.Reply.TheVariants.{Bound, Exists, TooBig, Again, Busy, NoTable, NoNode}
use Rattle.rht_chain.specs.declared.locked.Then.{Then}
use Rattle.rht_chain.specs.declared.locked.Then.TheVariants.{Table, Answer}
use Rattle.rht_arena.proofs.NodesSeen.{SawAllBelow, SawAllBelow-push}
use Rattle.rht_bind.specs.declared.bind.Claimed.{Claimed}
use Rattle.rht_bind.specs.BindHeld.{answer_of_ending}
use Rattle.rht_bind.specs.declared.bind.BindAt.{BindAt}
use Rattle.rht_bind.specs.declared.bind.BindAt.TheVariants as at
use Rattle.rht_core.specs.Traces.{Did, performed_of}
use Rattle.rht_core.specs.Seen.{CameTo, IsNoShapeLoad, LastWalked, StaysInSection, TurnsNoSection}
use Rattle.rht_core.specs.ResizeCauses.{IsUnboundAt}
use Rattle.rht_words.specs.Machines.{GoesOrEnds}
use Rattle.rht_core.proofs.Reasons.PagesMissed.{SawGrowing, SeesMissing, NoPageSeen, NoPageSeen-push}
use Rattle.rht_core.proofs.Reasons.UnboundSeen.{SeesNoFuture}
use Rattle.rht_core.proofs.Reasons.TablesWalked.{CameTo-append, LastWalked-push, Walked, WalkedSeeing, WalkedAt}
use Rattle.rht_core.proofs.Reasons.ChainsCounted.{HasWalked, WalkCounted}
use Rattle.rht_core.proofs.Reasons.RefusedBinds.{Behind, SawWhy, SawRoot, SawRefusal, SawToMake, SawToAttach, FollowedSeen, FollowedSeen-push, BusySeen, BusySeen-push, NoTableSeen, NoTableSeen-push}
use Rattle.rht_core.proofs.Reasons.NewNodesSeen.{SawNew}
use Rattle.rht_core.proofs.Reasons.RoomSeen.{ShortSeen, RoomSeen}
use Rattle.rht_core.proofs.Reasons.RaisesSeen.{Raised, IsStill, Raised-push}
use Rattle.rht_core.specs.Attached.{HasTakenSlot}

-- the operation loaded this count of ports, which is as many as the table may hold or more
pub record LoadedFull (env : Env) (count : ℕ) (did : Did) : Type 0 where
  pub loaded : did.op ≡ Load (place_of env.geometry PortCount)
  pub found : did.old ≡ count
  pub full : most_ports env.config.max ≤ count

-- where these are the words before the event with each number
module _ (env : Env) (words_at : ℕ → List ℕ) (mix : ℕ → ℕ → ℕ → ℕ) (port : ℕ) where
  -- behind the load of the last table's shape, in the same section, this count was loaded, while the port had no owner
  pub record TooBigSeen (count : ℕ) (steps : List Did) : Type 0 where
    pub table : ℕ
    pub shape : ℕ
    pub walked : LastWalked env.geometry table shape steps
    pub before : List Did
    pub at : Did
    pub rest : List Did
    pub split : walked.behind ≡ before ++ at ∷ rest
    pub inside : AllByRecursion (TurnsNoSection env.geometry) before
    pub unbound : IsUnboundAt env.geometry words_at port at
    pub full : LoadedFull env count at

  TooBigSeen-push : (count : ℕ) (steps : List Did) (did : Did) → IsNoShapeLoad env.geometry did
      → TooBigSeen count steps → TooBigSeen count (steps ++ did ∷ [])
  unfolding LastWalked-push
  TooBigSeen-push count steps did none saw = record {
    table = saw.table;
    shape = saw.shape;
    walked = LastWalked-push env.geometry saw.table saw.shape steps did none saw.walked;
    before = saw.before;
    at = saw.at;
    rest = saw.rest ++ did ∷ [];
    split = ap (λ l. l ++ did ∷ []) saw.split ∙ append_assoc saw.before (saw.at ∷ saw.rest) (did ∷ []);
    inside = saw.inside;
    unbound = saw.unbound;
    full = saw.full;
  }

  -- what the operations of a bind saw for it to have this reply; nothing can be seen for a reply that it
  -- never has
  abbrev pub SawFor : Reply → List Did → Type 0
  SawFor NoNode steps = SawAllBelow env.geometry env.geometry.nodes (map performed_of steps)
  SawFor (TooBig count) steps = TooBigSeen count steps
  SawFor (Bound kick) steps = Raised env words_at mix port kick steps
  SawFor (Exists owner) steps = env.config.kind ≡ Single
  SawFor (Again table) steps = FollowedSeen env words_at mix port table steps
  SawFor (Busy root last) steps = BusySeen env words_at mix port root last steps
  SawFor (NoTable size) steps =
      NoTableSeen env words_at mix port size steps ⊎ NoPageSeen env words_at mix port size steps
  SawFor _ steps = ⊥

  abbrev pub SawForReply : Option Reply → List Did → Type 0
  SawForReply reply steps = IfSome reply (λ r. SawFor r steps)

  -- behind an unlocking it goes on in a table that it came to, or gives its answer
  abbrev pub SawThen : Then Reply → List Did → Type 0
  SawThen (Table table) steps = CameTo env.geometry table steps
  SawThen (Answer reply) steps = SawFor reply steps

  -- the caller is this one
  module _ (c : ℕ) where
    -- once the walk has ended: how many nodes it counted in the bucket
    abbrev pub SawCounted : Claimed → ℕ → List Did → Type 0
    SawCounted claimed length steps =
        let counted = HasWalked env.geometry words_at mix port claimed.table claimed.shape c claimed.bucket.place length in
        WalkedSeeing env.geometry claimed.table claimed.shape counted steps

    -- what it has seen in each state
    abbrev pub SawAt : BindAt → List Did → Type 0
    SawAt (at.Filling new) steps = SawNew env new.at steps
    SawAt (at.Opening attempt) steps = Unit {0}
    SawAt (at.CurrentTable attempt) steps = Unit {0}
    SawAt (at.Locating attempt locate) steps =
        WalkedAt env.geometry (SeesNoFuture env.geometry words_at mix c port) locate.table locate.at steps
    SawAt (at.Entering attempt table shape place grow) steps =
        WalkedSeeing env.geometry table shape
        (SeesMissing env words_at mix port table shape (SawGrowing env.geometry grow.at)) steps
    SawAt (at.Probing attempt table shape probe) steps =
        WalkedSeeing env.geometry table shape (WalkCounted env.geometry words_at mix port table shape c probe.at) steps
    SawAt (at.FoundOwner claimed found) steps = Unit {0}
    SawAt (at.ListLink list) steps = Walked env.geometry list.claimed.table list.claimed.shape steps
    SawAt (at.ChainLink list) steps = Walked env.geometry list.claimed.table list.claimed.shape steps
    SawAt (at.LinkBehind list link) steps = Walked env.geometry list.claimed.table list.claimed.shape steps
    SawAt (at.Replacing list relink) steps = Walked env.geometry list.claimed.table list.claimed.shape steps
    SawAt (at.Future claimed length) steps = SawCounted claimed length steps
    SawAt (at.Count claimed) steps =
        WalkedSeeing env.geometry claimed.table claimed.shape (ShortSeen env words_at mix port claimed.table claimed.shape) steps
    SawAt (at.Link claimed) steps =
        WalkedSeeing env.geometry claimed.table claimed.shape (RoomSeen env words_at mix port claimed.table claimed.shape) steps
    SawAt (at.Raise claimed) steps =
        WalkedSeeing env.geometry claimed.table claimed.shape (RoomSeen env words_at mix port claimed.table claimed.shape) steps
    SawAt (at.Publish node table relink kick) steps = Raised env words_at mix port kick steps
    SawAt (at.Unlocking attempt table unlock next) steps = SawThen next steps
    SawAt (at.UnlockingFull growing unlock) steps =
        Behind env.geometry growing.table growing.shape (SawWhy env words_at mix port growing.table growing.why growing.shape) steps
    SawAt (at.Root growing) steps =
        Behind env.geometry growing.table growing.shape (SawWhy env words_at mix port growing.table growing.why growing.shape) steps
    SawAt (at.GrowthCount growing root) steps =
        Behind env.geometry growing.table growing.shape (SawRoot env words_at mix port growing root) steps
    SawAt (at.Making growing size make) steps =
        Behind env.geometry growing.table growing.shape
        (SawToMake env words_at mix port growing size make.exponent make.nested (make.at, Go)) steps
    SawAt (at.FutureAgain growing refusal) steps =
        Behind env.geometry growing.table growing.shape (SawRefusal env words_at mix port growing refusal) steps
    SawAt (at.Attaching growing slot shape) steps =
        Behind env.geometry growing.table growing.shape (SawToAttach env words_at mix port growing slot shape) steps
    SawAt (at.Unmaking attempt unmake answer) steps = SawForReply answer steps × HasTakenSlot env.geometry unmake.slot steps
    SawAt (at.Closing ending) steps = SawForReply (answer_of_ending ending) steps
    SawAt (at.Giving give reply) steps = SawFor reply steps

    -- what it has seen once it goes on, and once it has answered
    abbrev pub SawNext : List Did → BindAt × Next Reply → Type 0
    SawNext steps next = GoesOrEnds (λ state. SawAt state steps) (λ reply. SawFor reply steps) next

  pub SawFor-push : (reply : Reply) (steps : List Did) (did : Did) → IsStill env did → SawFor reply steps
      → SawFor reply (steps ++ did ∷ [])
  SawFor-push NoNode steps did none saw =
      let before = map performed_of steps in
      subst (SawAllBelow env.geometry env.geometry.nodes) (sym (map-append performed_of steps (did ∷ [])))
      (SawAllBelow-push env.geometry env.geometry.nodes before (performed_of did) saw)
  SawFor-push (TooBig count) steps did none saw = TooBigSeen-push count steps did none.no_shape saw
  SawFor-push (Bound kick) steps did none saw = Raised-push env words_at mix port kick steps did none saw
  SawFor-push (Exists owner) steps did none saw = saw
  SawFor-push (Again table) steps did none saw =
      FollowedSeen-push env words_at mix port table steps did none.no_shape saw
  SawFor-push (Busy root last) steps did none saw =
      BusySeen-push env words_at mix port root last steps did none.no_shape saw
  SawFor-push (NoTable size) steps did none saw = elim saw [
    | inl full ↦ inl (NoTableSeen-push env words_at mix port size steps did none.no_shape full)
    | inr missed ↦ inr (NoPageSeen-push env words_at mix port size steps did none.no_shape missed)
  ]
  SawFor-push _ steps did none saw = absurd saw

  pub SawForReply-push : (reply : Option Reply) (steps : List Did) (did : Did) → IsStill env did
      → SawForReply reply steps → SawForReply reply (steps ++ did ∷ [])
  SawForReply-push None steps did none saw = tt
  SawForReply-push (Some reply) steps did none saw = SawFor-push reply steps did none saw

  pub SawThen-push : (next : Then Reply) (steps : List Did) (did : Did) → IsStill env did
      → StaysInSection env.geometry did → SawThen next steps → SawThen next (steps ++ did ∷ [])
  SawThen-push (Table table) steps did none stays came = CameTo-append env.geometry table steps (did ∷ []) (stays, tt) came
  SawThen-push (Answer reply) steps did none stays saw = SawFor-push reply steps did none saw
