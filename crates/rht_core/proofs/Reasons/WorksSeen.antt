-- What a resizing has seen so far, in each of its states, and what it saw once it has a reply.
--
-- What was chosen is kept behind the choice, with whether a table of its size was attached since. Where one
-- was due there is a future to be found, by what the caller knows then. For each entry the last table is
-- looked for anew, and where that is nested the move stops. In the end it is kept which table the resizing
-- made the current one.
use Rattle.std.proofs.Common.{◌≡◌, ◌≢◌, ◌⊎◌, ℕ, ◌<◌, ◌^◌, Bool, true, false, List, [], ◌∷◌, ◌++◌, map, append_assoc, ap, ◌∙◌, subst, sym}
use Rattle.std.specs.Prelude.{Option, Some, None}
use Rattle.std.specs.List.{AllByRecursion, Any}
use Rattle.rht_words.specs.declared.env.Env.{Env}
use Rattle.rht_words.specs.declared.machine.Next.{Next}
use Rattle.rht_words.specs.declared.machine.Next.TheVariants.{Go}
use Rattle.rht_words.specs.Links.{table_of, slot_of}
use Rattle.rht_words.specs.Machines.{GoesOrEnds}
use Rattle.rht_words.specs.Operations.{op_place}
use Rattle.rht_words.specs.Places.{CurrentTable, WorkLock, Slot, ShapeWord, FutureWord, place_of, word_at}
use Rattle.rht_words.specs.Sizes.{IsSizeUpTo}
use Rattle.rht_words.proofs.EachElement.{Any-append_left, AllByRecursion-push}
use Rattle.rht_model.specs.declared.history.Reply.{Reply}
use Rattle.rht_model.specs.declared.history.Reply.TheVariants.{NoTable, Elsewhere, Idle, Moved}
use Rattle.rht_nest.specs.Make.{MakeModel}
use Rattle.rht_nest.specs.declared.make.MakeAt.{MakeAt}
use Rattle.rht_nest.specs.Tables.{is_nested}
use Rattle.rht_move.specs.declared.last_table.LastTableAt.{LastTableAt}
use Rattle.rht_move.specs.declared.rehash.Rehash.{Rehash}
use Rattle.rht_move.specs.declared.work.choice.Choice.{Choice}
use Rattle.rht_move.specs.declared.work.choice.Choice.TheVariants.{Attach, Later, Nothing}
use Rattle.rht_move.specs.declared.work.Wanted.{Wanted}
use Rattle.rht_move.specs.declared.work.Due.{Due}
use Rattle.rht_move.specs.declared.work.Due.TheVariants as dues
use Rattle.rht_move.specs.declared.work.Outcome.{Outcome}
use Rattle.rht_move.specs.declared.work.Outcome.TheVariants as outcomes
use Rattle.rht_move.specs.declared.work.ending.Ending.TheVariants as endings
use Rattle.rht_move.specs.declared.work.WorkAt.{WorkAt}
use Rattle.rht_move.specs.declared.work.WorkAt.TheVariants as at
use Rattle.rht_move.specs.Work.{reply_of}
use Rattle.rht_core.specs.Traces.{Did, performed_of}
use Rattle.rht_core.specs.Seen.{LoadsWord, TurnsSection, TurnsNoSection, AnyInSection}
use Rattle.rht_core.specs.ResizeCauses.{Loaded, Attaches}
use Rattle.rht_core.specs.WorkCauses.{SawElsewhere, ReadsFuture, AreFuturesRead, HasChosen, HasPublished, IsSized, HasAttached, SawNoTableDue, StoresOther, HasTried, HasTriedIfNeeded}
use Rattle.rht_core.proofs.Tracing.LoneCalls.{Spares}
use Rattle.rht_core.proofs.Reasons.AttachedTables.{IsNoAttach}
use Rattle.rht_core.proofs.Reasons.MakesSeen.{SawMade}
use Rattle.rht_core.proofs.Reasons.ChoicesMade.{AreFuturesAt, Chosen, Returns, HasReturned, HasOpened, SeekSaw, Measures, Since, SinceSome, SinceSome-push}
use Rattle.rht_core.specs.Refused.{StoresLast}
use Rattle.rht_core.specs.Attached.{HasTakenSlot, StoresDrawn, HasGoneOn}
use Rattle.rht_core.proofs.Reasons.WordsKept.{KeepsSoFar}
use Rattle.rht_core.proofs.Reasons.SlotsTaken.{Owns, slot_taken-behind}
use Rattle.rht_words.specs.Shapes.{unpacked, size_of}

module _ (env : Env) (c : ℕ) where
  -- no operation opened or closed a read section
  abbrev pub StaysInside : List Did → Type 0
  StaysInside steps = AllByRecursion (TurnsNoSection env.geometry) steps

  -- an operation attaches no table, and neither opens nor closes a read section
  pub record IsPlain (did : Did) : Type 0 where
    pub attaches : IsNoAttach env.geometry did
    pub turns : TurnsNoSection env.geometry did

  pub StaysInside-push : (steps : List Did) (did : Did) → TurnsNoSection env.geometry did → StaysInside steps → StaysInside (steps ++ did ∷ [])
  StaysInside-push steps did none inside = AllByRecursion-push (TurnsNoSection env.geometry) steps did inside none

  -- ---- what has become of what was chosen

  -- no operation attached a table behind that of this slot
  abbrev pub NoneAttached : ℕ → List Did → Type 0
  NoneAttached last steps = AllByRecursion (λ did. (slot : ℕ) → Attaches env.geometry last slot did → ⊥) steps

  -- a table of this size is wanted behind the last one
  pub record Wants (wanted : Wanted) (of : Chosen) : Type 0 where
    pub root_same : of.root ≡ wanted.root
    pub last_same : of.last ≡ wanted.last.table
    pub shape_same : of.shape ≡ wanted.last.shape
    pub size_in : IsSizeUpTo (2 ^ 17) wanted.size

  -- and none is attached there, while it is made
  pub record IsMaking (wanted : Wanted) (exponent : ℕ) (next : MakeAt × Next (Option (ℕ × ℕ))) (of : Chosen)
      (behind : List Did) : Type 0 where
    pub wants : Wants wanted of
    pub inside : StaysInside behind
    pub none : NoneAttached of.last behind
    pub made : SawMade env.geometry exponent false next (map performed_of behind)
    pub own : Owns env.geometry exponent next behind

  abbrev pub Makes : Wanted → MakeModel → List Did → Type 0
  Makes wanted make = Since env c (Attach wanted.size) (IsMaking wanted make.exponent (make.at, Go))

  -- none was due, or a table of the size that was is attached
  abbrev pub IsSupplied : ℕ → Choice → List Did → Type 0
  IsSupplied last (Attach size) behind = HasAttached env.geometry last size behind
  IsSupplied last Later behind = ⊥
  IsSupplied last Nothing behind = Unit {0}

  -- one was due, and none is
  abbrev pub IsMissing : ℕ → Choice → List Did → Type 0
  IsMissing last choice behind = (choice ≢ Nothing) × NoneAttached last behind

  -- none was due; one was and is attached; or it isn't. Where none was it has performed nothing since
  abbrev pub DueSaw : Due → ℕ → Choice → List Did → Type 0
  DueSaw dues.Nothing last choice behind = choice ≡ Nothing
  DueSaw dues.Attached last choice behind = IsSupplied last choice behind
  DueSaw dues.Later last choice behind = IsMissing last choice behind

  -- where the current one can't be moved without the table that was due, it was tried to attach that
  abbrev pub IsTried : Choice → Chosen → List Did → Type 0
  IsTried choice of behind = HasTriedIfNeeded env.geometry of.root of.last of.shape choice behind

  pub record IsDue (root : ℕ) (due : Due) (choice : Choice) (of : Chosen) (behind : List Did) : Type 0 where
    pub root_same : of.root ≡ root
    pub inside : StaysInside behind
    pub saw : DueSaw due of.last choice behind
    pub tried : IsTried choice of behind
    pub at_once : due ≡ dues.Nothing → behind ≡ []

  abbrev pub HasDue : ℕ → Due → List Did → Type 0
  HasDue root due = SinceSome env c (IsDue root due)

  -- a table of the size that was due, in a slot that was taken and has this shape, is to be attached behind this one
  pub record IsMade (root last slot shape size : ℕ) (of : Chosen) (behind : List Did) : Type 0 where
    pub root_same : of.root ≡ root
    pub last_same : of.last ≡ last
    pub inside : StaysInside behind
    pub none : NoneAttached of.last behind
    pub sized : IsSized env.geometry slot size (map performed_of behind)
    pub taken : HasTakenSlot env.geometry slot behind
    pub stored : StoresLast env.geometry slot shape behind
    pub numbered : StoresDrawn env.geometry slot behind
    pub size_is : size_of (unpacked shape) ≡ size

  abbrev pub IsToAttach : ℕ → ℕ → ℕ → ℕ → List Did → Type 0
  IsToAttach root last slot shape steps = (size : ℕ) × Since env c (Attach size) (IsMade root last slot shape size) steps

  -- its slot was taken
  pub to_attach-taken : (root last slot shape : ℕ) (steps : List Did) → IsToAttach root last slot shape steps
      → HasTakenSlot env.geometry slot steps
  to_attach-taken root last slot shape steps (size, since) =
      let chose = since.chose in
      subst (HasTakenSlot env.geometry slot) (sym chose.split)
      (slot_taken-behind env.geometry slot
      ((chose.lock ∷ chose.sooner) ++ (chose.opening ∷ chose.current ∷ chose.futures)) chose.shape (chose.count ∷ chose.behind)
      (slot_taken-behind env.geometry slot [] chose.count chose.behind since.so.taken))

  -- whether it is to say that the table that was due isn't attached
  abbrev pub SaysMissing : Bool → ℕ → Choice → List Did → Type 0
  SaysMissing true last choice behind = IsMissing last choice behind
  SaysMissing false last choice behind = IsSupplied last choice behind

  -- it has loaded this table as the future of the current one, which it moves
  pub record IsMoving (root future : ℕ) (again : Bool) (choice : Choice) (of : Chosen)
      (behind : List Did) : Type 0 where
    pub root_same : of.root ≡ root
    pub inside : StaysInside behind
    pub followed : Any (ReadsFuture env.geometry of.root (Some future)) behind
    pub apart : of.root ≢ future
    pub says : SaysMissing again of.last choice behind
    pub tried : IsTried choice of behind

  abbrev pub Moves : ℕ → ℕ → Bool → List Did → Type 0
  Moves root future again = SinceSome env c (IsMoving root future again)

  -- it has made a table the current one that wasn't, and has left it so since
  pub record IsPublished (of : Chosen) (behind : List Did) : Type 0 where
    pub table : ℕ
    pub later : List Did
    pub published : HasPublished env.geometry table later behind
    pub inside : StaysInside published.before
    pub followed : Any (ReadsFuture env.geometry of.root (Some table)) published.before
    pub another : of.root ≢ table
    pub leave : AllByRecursion (Spares (place_of env.geometry CurrentTable)) later

  -- by its last operation
  pub record IsMoved (rehash : Rehash) (choice : Choice) (of : Chosen) (behind : List Did) : Type 0 where
    pub published : IsPublished of behind
    pub same : published.table ≡ rehash.future
    pub says : SaysMissing rehash.again of.last choice behind
    pub last : published.later ≡ []

  abbrev pub HasMoved : Rehash → List Did → Type 0
  HasMoved rehash = SinceSome env c (IsMoved rehash)

  -- the operation finds that the table of this slot has a future
  abbrev pub FindsFurther : ℕ → Did → Type 0
  FindsFurther table did = (next : ℕ) × ReadsFuture env.geometry table (Some next) did

  abbrev pub FindsNoneFurther : ℕ → Did → Type 0
  FindsNoneFurther table did = FindsFurther table did → ⊥

  -- and then it has looked for a further one: it found one, or says what it was to say
  pub record IsReplaced (again : Bool) (choice : Choice) (of : Chosen) (behind : List Did) : Type 0 where
    pub published : IsPublished of behind
    pub looked : AnyInSection env.geometry (LoadsWord env.geometry (Slot published.table FutureWord)) published.later
    pub says :
        ((again ≡ true) × AnyInSection env.geometry (FindsFurther published.table) published.later)
        ⊎ (SaysMissing again of.last choice behind
        × AllByRecursion (FindsNoneFurther published.table) published.later)

  abbrev pub SawReplaced : Bool → List Did → Type 0
  SawReplaced again = SinceSome env c (IsReplaced again)

  -- the operation is on the work lock, or opens or closes the caller's read section
  abbrev pub IsBesideTables : Did → Type 0
  IsBesideTables did = (op_place did.op ≡ place_of env.geometry WorkLock) ⊎ TurnsSection env.geometry c did

  -- it found nothing due, loaded that the current table has no future, and has left the words of tables alone
  -- since
  pub record IsIdle (of : Chosen) (behind : List Did) : Type 0 where
    pub future : Did
    pub rest : List Did
    pub behind_is : behind ≡ future ∷ rest
    pub future_read : Loaded env.geometry (Slot of.root FutureWord) future.old future
    pub none : slot_of future.old ≡ None
    pub beside : AllByRecursion IsBesideTables rest
    pub few : c < 16

  abbrev pub SawIdle : List Did → Type 0
  SawIdle = Since env c Nothing IsIdle

  abbrev pub RehashSaw : Rehash → List Did → Type 0
  RehashSaw rehash = Moves rehash.root rehash.future rehash.again

  -- for an entry it looks anew for the last table, or has found it
  pub record LooksAnew (at : LastTableAt) (root : ℕ) (behind : List Did) : Type 0 where
    pub before : List Did
    pub futures : List Did
    pub behind_is : behind ≡ before ++ futures
    pub are : AreFuturesAt env.geometry at root futures

  abbrev pub IsAnew : Rehash → LastTableAt → Choice → Chosen → List Did → Type 0
  IsAnew rehash at choice of behind =
      IsMoving rehash.root rehash.future rehash.again choice of behind × LooksAnew at of.root behind

  abbrev pub AnewSaw : Rehash → LastTableAt → List Did → Type 0
  AnewSaw rehash at = SinceSome env c (IsAnew rehash at)

  -- ---- with an operation more that attaches no table

  pub NoneAttached-push : (last : ℕ) (steps : List Did) (did : Did) → IsNoAttach env.geometry did
      → NoneAttached last steps
      → NoneAttached last (steps ++ did ∷ [])
  NoneAttached-push last steps did quiet none =
      AllByRecursion-push (λ did. (slot : ℕ) → Attaches env.geometry last slot did → ⊥) steps did none
      (λ slot attaches. quiet (record { table = last; slot = slot; attaches = attaches }))

  -- what is attached stays so
  HasAttached-push : (last size : ℕ) (steps : List Did) (did : Did) → HasAttached env.geometry last size steps
      → HasAttached env.geometry last size (steps ++ did ∷ [])
  HasAttached-push last size steps did has = record {
    slot = has.slot;
    before = has.before;
    at = has.at;
    behind = has.behind ++ did ∷ [];
    split = ap (λ s. s ++ did ∷ []) has.split ∙ append_assoc has.before (has.at ∷ has.behind) (did ∷ []);
    attached = has.attached;
    sized = has.sized;
  }

  IsSupplied-push : (last : ℕ) (choice : Choice) (behind : List Did) (did : Did)
      → IsSupplied last choice behind
      → IsSupplied last choice (behind ++ did ∷ [])
  IsSupplied-push last (Attach size) behind did has = HasAttached-push last size behind did has
  IsSupplied-push last Later behind did none = none
  IsSupplied-push last Nothing behind did is = tt

  pub IsMissing-push : (last : ℕ) (choice : Choice) (behind : List Did) (did : Did)
      → IsNoAttach env.geometry did
      → IsMissing last choice behind → IsMissing last choice (behind ++ did ∷ [])
  IsMissing-push last choice behind did quiet missing =
      (missing.0, NoneAttached-push last behind did quiet missing.1)

  pub SaysMissing-push : (again : Bool) (last : ℕ) (choice : Choice) (behind : List Did) (did : Did)
      → IsNoAttach env.geometry did
      → SaysMissing again last choice behind → SaysMissing again last choice (behind ++ did ∷ [])
  SaysMissing-push true last choice behind did quiet saw = IsMissing-push last choice behind did quiet saw
  SaysMissing-push false last choice behind did quiet saw = IsSupplied-push last choice behind did saw

  -- what it has tried to attach it has tried later too
  HasTried-push : (last size : ℕ) (steps : List Did) (did : Did) → HasTried env.geometry last size steps
      → HasTried env.geometry last size (steps ++ did ∷ [])
  HasTried-push last size steps did has = record {
    slot = has.slot;
    before = has.before;
    at = has.at;
    behind = has.behind ++ did ∷ [];
    split = ap (λ s. s ++ did ∷ []) has.split ∙ append_assoc has.before (has.at ∷ has.behind) (did ∷ []);
    tries = has.tries;
    sized = has.sized;
  }

  pub IsTried-push : (choice : Choice) (of : Chosen) (behind : List Did) (did : Did)
      → IsTried choice of behind
      → IsTried choice of (behind ++ did ∷ [])
  IsTried-push choice of behind did tried size is stays =
      HasTried-push of.last size behind did (tried size is stays)

  pub HasDue-push : (root : ℕ) (steps : List Did) (did : Did) → IsPlain did
      → HasDue root dues.Later steps → HasDue root dues.Later (steps ++ did ∷ [])
  HasDue-push root steps did plain has = SinceSome-push env c steps did has (λ choice of behind due. record {
    root_same = due.root_same;
    inside = StaysInside-push behind did plain.turns due.inside;
    saw = IsMissing-push of.last choice behind did plain.attaches due.saw;
    tried = IsTried-push choice of behind did due.tried;
    at_once = λ e. absurd (cc);
  })

  pub IsMoving-push : (root future : ℕ) (again : Bool) (choice : Choice) (of : Chosen) (behind : List Did)
      (did : Did)
      → IsPlain did → IsMoving root future again choice of behind
      → IsMoving root future again choice of (behind ++ did ∷ [])
  IsMoving-push root future again choice of behind did plain moving = record {
    root_same = moving.root_same;
    inside = StaysInside-push behind did plain.turns moving.inside;
    followed = Any-append_left _ behind (did ∷ []) moving.followed;
    apart = moving.apart;
    says = SaysMissing-push again of.last choice behind did plain.attaches moving.says;
    tried = IsTried-push choice of behind did moving.tried;
  }

  pub Moves-push : (root future : ℕ) (again : Bool) (steps : List Did) (did : Did)
      → IsPlain did
      → Moves root future again steps → Moves root future again (steps ++ did ∷ [])
  Moves-push root future again steps did plain moves = SinceSome-push env c steps did moves
      (λ choice of behind moving. IsMoving-push root future again choice of behind did plain moving)

-- where these are the words before the event with each number
module _ (env : Env) (c : ℕ) (words_at : ℕ → List ℕ) where
  -- it has stored words, and not that of the current table
  abbrev pub Stores : List Did → Type 0
  Stores steps = AllByRecursion (StoresOther env.geometry) steps

  -- and among these operations it has closed its section
  pub record StoresAndCloses (steps : List Did) : Type 0 where
    pub front : List Did
    pub closing : Did
    pub rest : List Did
    pub split : steps ≡ front ++ closing ∷ rest
    pub front_stores : Stores front
    pub closes : TurnsSection env.geometry c closing
    pub rest_stores : Stores rest

  -- it stops before a nested table, and that is so of its operations behind the load by which it does
  pub record HasStopped (Ends : List Did → Type 0) (again : Bool) (steps : List Did) : Type 0 where
    pub more : again ≡ true
    pub choice : Choice
    pub chose : HasChosen env c choice steps
    pub tried : HasTriedIfNeeded env.geometry chose.root chose.last chose.shape.old choice chose.behind
    pub last : ℕ
    pub before : List Did
    pub futures : List Did
    pub shape : Did
    pub behind : List Did
    pub split : chose.behind ≡ (before ++ futures) ++ shape ∷ behind
    pub inside : AllByRecursion (TurnsNoSection env.geometry) before
    pub futures_read : AreFuturesRead env.geometry chose.root last futures
    pub apart : chose.root ≢ last
    pub shape_read : Loaded env.geometry (Slot last ShapeWord) shape.old shape
    pub nested : is_nested shape.old ≡ true
    pub current : table_of (word_at env.geometry (words_at shape.index) CurrentTable) ≡ chose.root
    pub ends : Ends behind

  abbrev pub UnlockingSaw : Rehash → Bool → List Did → Type 0
  UnlockingSaw rehash true steps = HasStopped Stores true steps
  UnlockingSaw rehash false steps = RehashSaw env c rehash steps

  -- for an answer
  abbrev pub SawForWork : Reply → List Did → Type 0
  SawForWork Elsewhere steps = SawElsewhere env.geometry steps
  SawForWork (NoTable size) steps = SawNoTableDue env c size steps
  SawForWork Idle steps = SawIdle env c steps
  SawForWork (Moved again) steps = SawReplaced env c again steps ⊎ HasStopped StoresAndCloses again steps
  SawForWork _ steps = Unit {0}

  -- before it closes its section for that answer
  abbrev pub SawToClose : Outcome → List Did → Type 0
  SawToClose outcomes.Idle steps = SawIdle env c steps
  SawToClose (outcomes.NoTable size) steps = SawNoTableDue env c size steps
  SawToClose (outcomes.Moved again) steps = SawReplaced env c again steps ⊎ HasStopped Stores again steps

  abbrev pub SawAtWork : WorkAt → List Did → Type 0
  SawAtWork at.WorkLock steps = steps ≡ []
  SawAtWork (at.Returning returns) steps = Returns env c returns steps
  SawAtWork at.Opening steps = HasReturned env c steps
  SawAtWork at.CurrentTable steps = HasOpened env c steps
  SawAtWork (at.LastTable root seek) steps = SeekSaw env c root seek.at steps
  SawAtWork (at.Count root last) steps = Measures env c root last steps
  SawAtWork (at.Making wanted make) steps = Makes env c wanted make steps
  SawAtWork (at.Attaching root last slot shape) steps = IsToAttach env c root last slot shape steps
  SawAtWork (at.Unmaking root unmake) steps = HasDue env c root dues.Later steps × HasTakenSlot env.geometry unmake.slot steps
  SawAtWork (at.RootFuture root due) steps = HasDue env c root due steps
  SawAtWork (at.RootShape root future again) steps = Moves env c root future again steps
  SawAtWork (at.Entry rehash number place) steps = RehashSaw env c rehash steps
  SawAtWork (at.Locking rehash number lock) steps = RehashSaw env c rehash steps
  SawAtWork (at.EntryTable emptying seek) steps = AnewSaw env c emptying.rehash seek.at steps
  SawAtWork (at.Seed emptying last) steps = RehashSaw env c emptying.rehash steps
  SawAtWork (at.BucketWord emptying target) steps = RehashSaw env c emptying.rehash steps
  SawAtWork (at.Walking emptying target walk) steps = RehashSaw env c emptying.rehash steps
  SawAtWork (at.Key emptying target entry) steps = RehashSaw env c emptying.rehash steps
  SawAtWork (at.LockingSecond emptying entry table lock) steps = RehashSaw env c emptying.rehash steps
  SawAtWork (at.EntryLink emptying entry second) steps = RehashSaw env c emptying.rehash steps
  SawAtWork (at.Linking emptying entry second) steps = RehashSaw env c emptying.rehash steps
  SawAtWork (at.CuttingOff emptying entry) steps = RehashSaw env c emptying.rehash steps
  SawAtWork (at.Unlocking rehash number unlock stop) steps = UnlockingSaw rehash stop steps
  SawAtWork (at.Publishing rehash) steps = RehashSaw env c rehash steps
  SawAtWork (at.NewFuture rehash) steps = HasMoved env c rehash steps × HasGoneOn env.geometry rehash.root steps
  SawAtWork (at.Closing (endings.Retiring root again)) steps = SawReplaced env c again steps × HasGoneOn env.geometry root steps
  SawAtWork (at.Closing (endings.LettingGo outcome)) steps = SawToClose outcome steps
  SawAtWork (at.Retiring root again) steps = SawReplaced env c again steps × HasGoneOn env.geometry root steps
  SawAtWork (at.KeepingSections keep again) steps = SawReplaced env c again steps × KeepsSoFar env.geometry keep steps
  SawAtWork (at.LettingGo outcome) steps = SawForWork (reply_of outcome) steps

  abbrev pub SawNextWork : List Did → WorkAt × Next Reply → Type 0
  SawNextWork all next = GoesOrEnds (λ state. SawAtWork state all) (λ reply. SawForWork reply all) next
