-- The way to a port, operation by operation, for any call in its read section. It leads from the current table on to the bucket in which
-- the port is found, or to a future that leads nowhere, where the port is bound to nothing. Where the bucket of a nested table turns out
-- to be missing, and no table was behind, the answer is that of the load of the future before.
use Rattle.std.proofs.Common.{◌≡◌, ℕ, List, [], length, Option, Some, None, false, refl, sym, ap, subst, inl}
use Rattle.rht_words.specs.declared.env.Env.{Env}
use Rattle.rht_words.specs.declared.machine.Next.{Next}
use Rattle.rht_words.specs.declared.machine.Next.TheVariants.{Go, Done}
use Rattle.rht_words.specs.declared.op.Op.{Op}
use Rattle.rht_words.specs.Links.{table_of, slot_of}
use Rattle.rht_words.specs.Operations.{old_of, applied}
use Rattle.rht_words.specs.Places.{CurrentTable, Slot, FutureWord, words_in}
use Rattle.rht_words.proofs.Memory.{Memory}
use Rattle.rht_nest.specs.Locate.{LocateModel, locate_plan, locate_after}
use Rattle.rht_nest.specs.declared.locate.Located.{Located}
use Rattle.rht_nest.specs.declared.locate.LocatedBucket.{LocatedBucket}
use Rattle.rht_nest.specs.declared.locate.LocatedBucket.TheVariants as buckets
use Rattle.rht_chain.specs.Probe.{ProbeModel, probe_new, probe_plan, probe_after, lock_of_probe}
use Rattle.rht_chain.specs.declared.probe.Probed.{Probed}
use Rattle.rht_chain.specs.declared.locked.Locked.{Locked}
use Rattle.rht_model.specs.declared.history.Call.{Call}
use Rattle.rht_model.specs.Multimap.{Multimap}
use Rattle.rht_model.specs.Answers.{Answer}
use Rattle.rht_release.specs.Seek.{SeekModel, seek_plan_at, seek_after_at, seek_plan, seek_after, located, bucket_or_early, locating, found_or_future, probed, leaving, holds_section, lock_of_seek, answer_of_seek, early_of_seek, early_of_locate, IsSeekAtIn, IsSeekIn}
use Rattle.rht_release.specs.declared.found_port.FoundPort.{FoundPort}
use Rattle.rht_release.specs.declared.seek.SeekAt.{SeekAt}
use Rattle.rht_release.specs.declared.seek.SeekAt.TheVariants as at
use Rattle.rht_model.specs.Replies.{takes_out}
use Rattle.rht_ghost.proofs.Theory.Ghosts.{Ghost}
use Rattle.rht_ghost.proofs.Theory.Wholes.{Whole}
use Rattle.rht_ghost.proofs.Theory.Knowns.{KnownNode, KnownTable, Nowhere, Passes, AtHome, KnownBucket, Unlocked, Locks, Missed, Found, InList, KnownList, Known, knows_plain}
use Rattle.rht_ghost.proofs.Theory.Knowledge.{plainly, Knowing}
use Rattle.rht_ghost.proofs.Theory.Answering.{IsLegalOn, IsRight, TellsOrRecalls, none_early, keeps, learns, recalls}
use Rattle.rht_ghost.proofs.Theory.Steps.{answered-map, Holding, mem, owners, owners_in, SilentStep, silent-map, StepWhere, answered_where, answered, reads, still_has}
use Rattle.rht_ghost.proofs.Pieces.Locates.{known_locate, IsThereFor, first_passed, locate_step, LocateKnows, LocatedKnows, LocateSays, Recalls, locate_says, FutureIs, future_is}
use Rattle.rht_ghost.proofs.Pieces.Locks.{unlock_step}
use Rattle.rht_ghost.proofs.Pieces.Probes.{known_probe, known_found, place_of_probe, IsProbeFor, probed_by, ProbeKnows, probe_step}

-- what is known behind the load of a future: the port has been passed in the table to which it leads
abbrev pub known_future : ℕ → Option ℕ → KnownTable
known_future port None = Nowhere
known_future port (Some next) = Passes port next

-- what is known where the port was found
abbrev pub known_port : ℕ → FoundPort → KnownBucket
known_port port found = Found found.bucket.place found.bucket.word port found.node found.before

-- and of its list
abbrev pub in_list : ℕ → FoundPort → KnownList → KnownBucket
in_list port found known = InList found.bucket.place found.bucket.word port found.node found.before known

abbrev pub home_of : ℕ → FoundPort → KnownTable
home_of port found = AtHome port found.table (Some found.shape) found.bucket.place

-- how the pieces of the way are for the port
abbrev pub fits_seek : ℕ → SeekAt → Type 0
fits_seek port at.CurrentTable = Unit {0}
fits_seek port (at.Locating locate) = Unit {0}
fits_seek port (at.Probing table shape probe) = (probe.key ≡ port) × IsProbeFor port probe.at
fits_seek port (at.Future table bucket) = Unit {0}
fits_seek port (at.Leaving table unlock future) = Unit {0}

module _ (port : ℕ) (own : Option KnownNode) where
  -- what is known of the way to a bucket, and of the bucket that is locked; of the call's node the same
  -- throughout
  abbrev pub knows_of : KnownTable → KnownBucket → Known
  knows_of table bucket = knows_plain own table bucket

  -- what is known on the way
  abbrev pub known_of_seek : SeekAt → Known
  known_of_seek at.CurrentTable = knows_of Nowhere Unlocked
  known_of_seek (at.Locating locate) = knows_of (known_locate port locate.table locate.at) Unlocked
  known_of_seek (at.Probing table shape probe) =
      knows_of (AtHome port table (Some shape) (place_of_probe probe.at)) (known_probe port probe.at)
  known_of_seek (at.Future table bucket) =
      knows_of (AtHome port table None bucket.place) (Missed bucket.place bucket.word port)
  known_of_seek (at.Leaving table unlock future) =
      knows_of (known_future port future) (Locks unlock.place unlock.word)

module _ (hn : Option ℕ) (absent : Answer) where
  -- what a call holds on the way beside its node and its read section: at most a lock, and the answer once it is known that the
  -- port is bound nowhere
  abbrev pub holds_seeking : Option ℕ → Option Answer → Holding
  holds_seeking lock answer = record holds_section { node = hn; lock = lock; answer = answer }

  abbrev pub held_of_seek : SeekAt → Holding
  held_of_seek at = record (holds_seeking (lock_of_seek at) (answer_of_seek absent at)) { early = early_of_seek absent at }

  -- what it holds after an operation
  abbrev pub seek_holds : SeekAt × Next (Option FoundPort) → Holding
  seek_holds (at, Go) = held_of_seek at
  seek_holds (at, Done None) = holds_seeking None (Some absent)
  seek_holds (at, Done (Some found)) = holds_seeking (Some found.bucket.place) None

  -- the bucket is there that it may find missing, before an operation and after it
  abbrev pub seek_there : ℕ → Option KnownNode → SeekAt → Memory → Type 0
  seek_there port own at = IsThereFor (early_of_seek absent at) (known_of_seek port own at).table

  abbrev pub seek_there_next : ℕ → Option KnownNode → SeekAt × Next (Option FoundPort) → Memory → Type 0
  seek_there_next port own r = IsThereFor (seek_holds r).early (known_of_seek port own r.0).table

module _ (env : Env) (mix : ℕ → ℕ → ℕ → ℕ) (c : ℕ) (call : Call) (port : ℕ) (hn : Option ℕ)
    (own : Option KnownNode) (absent : Answer) where
  abbrev pub knowing : Option ℕ → Option Answer → KnownTable → KnownBucket → Memory → Ghost → Type 0
  knowing lock answer table bucket M G =
      Knowing env mix c (holds_seeking hn absent lock answer) (knows_of port own table bucket) M G

  pub record SeekKnows (at : SeekAt) (M : Memory) (G : Ghost) : Type 0 where
    pub knowing : Knowing env mix c (held_of_seek hn absent at) (known_of_seek port own at) M G
    pub fits : fits_seek port at

  -- what is known after an operation
  abbrev pub SeekNext : SeekAt × Next (Option FoundPort) → Memory → Ghost → Type 0
  SeekNext (at, Go) M G = SeekKnows at M G
  SeekNext (at, Done None) M G = knowing None (Some absent) Nowhere Unlocked M G
  SeekNext (at, Done (Some found)) M G =
      knowing (Some found.bucket.place) None (home_of port found) (known_port port found) M G

  module _ (words : List ℕ) (G : Ghost) (all : length words ≡ words_in env.geometry)
      (whole : Whole env mix (mem env mix words) G)
      (legal : let bound = owners env mix (mem env mix words) G in
      bound port ≡ [] → IsLegalOn env.config.kind c call bound absent)
      (right : IsRight call hn absent) (takes_none : takes_out absent.reply ≡ false) where
    abbrev M : Memory
    M = mem env mix words

    -- the owners of each port now
    abbrev now : Multimap
    now = owners env mix M G

    -- nothing but a lock, or none
    abbrev at_lock : Option ℕ → Holding
    at_lock lock = holds_seeking hn absent lock None

    -- what an operation leads to from a state
    abbrev pub SeekMoved : SeekAt → SeekAt × Next (Option FoundPort) → Type 0
    SeekMoved at r =
        let op = seek_plan_at env.geometry at in
        StepWhere env mix (seek_there hn absent port own at M)
        (seek_there_next hn absent port own r (mem env mix (applied words op))) c call words G op
        (held_of_seek hn absent at) (seek_holds hn absent r) (SeekNext r)

    -- an operation of a piece after which the answer isn't known
    moves_on : {There There' : Type 0} (op : Op) (lock after : Option ℕ) (Knows : Memory → Ghost → Type 0)
        (r : SeekAt × Next (Option FoundPort))
        → ((M' : Memory) (G' : Ghost) → Whole env mix M' G' → Knows M' G' → SeekNext r M' G')
        → SilentStep env mix c words G op (at_lock lock) (at_lock after) Knows
        → StepWhere env mix There There' c call words G op (at_lock lock) (at_lock after) (SeekNext r)
    moves_on op lock after Knows r more step =
        answered-map env mix None (inl refl) (still_has refl)
        more step

    -- the way to the bucket
    abbrev LocateMoved : LocateModel → (Memory → Ghost → Type 0) → Type 0
    LocateMoved locate Knows =
        let h = held_of_seek hn absent (at.Locating locate) in SilentStep env mix c words G (locate_plan locate) h h Knows

    -- what is known on it and what it says early, behind an operation
    abbrev KnowsThen : LocateModel → LocateModel × Next Located → Memory → Ghost → Type 0
    KnowsThen locate r = LocateKnows env mix c (held_of_seek hn absent (at.Locating locate)) own Unlocked port r

    abbrev SaysThen : LocateModel → LocateModel × Next Located → Type 0
    SaysThen locate r =
        LocateSays env mix c (held_of_seek hn absent (at.Locating locate)) own Unlocked words G whole port call absent legal
        locate.table locate.at (applied words (locate_plan locate)) r

    -- an operation after which nothing is known early
    goes_from : (locate : LocateModel) (r : SeekAt × Next (Option FoundPort)) (Knows : Memory → Ghost → Type 0)
        → seek_holds hn absent r ≡ at_lock None
        → ((M' : Memory) (G' : Ghost) → Knows M' G' → SeekNext r M' G') → LocateMoved locate Knows
        → SeekMoved (at.Locating locate) r
    goes_from locate r Knows none more step =
        let h = held_of_seek hn absent (at.Locating locate) in
        rw none (answered-map env mix None (inl refl) (still_has refl)
        (λ M' G' w k. more M' G' k) step)

    -- the bucket was looked for
    found_bucket : (locate next : LocateModel) (shape : ℕ) (bucket : LocatedBucket)
        → Recalls env mix c (held_of_seek hn absent (at.Locating locate)) own Unlocked words G whole port call absent legal
        locate.table locate.at bucket
        → LocateMoved locate (LocatedKnows env mix c (held_of_seek hn absent (at.Locating locate)) own Unlocked port next.table
        shape bucket)
        → SeekMoved (at.Locating locate) (bucket_or_early env.geometry port next shape bucket)
    found_bucket locate next shape (buckets.At place) says step =
        goes_from locate (at.Probing next.table shape (probe_new env.geometry place port), Go) _ refl
        (λ M' G' k. record { knowing = record { only = k.only; means = k.means }; fits = (refl, tt) }) step
    found_bucket locate next shape (buckets.Missing place (Some table)) says step =
        goes_from locate (locating env.geometry table, Go) _ refl
        (λ M' G' k. record { knowing = record { only = k.only; means = k.means }; fits = tt }) step
    found_bucket locate next shape (buckets.Missing place None) says step =
        let h = held_of_seek hn absent (at.Locating locate) in
        let There = seek_there hn absent port own (at.Locating locate) M in
        let kind = env.config.kind in
        answered_where env mix There ⊥ c call words G (locate_plan locate) h h (Some absent) None
        (SeekNext (at.Locating next, Done None))
        (subst (λ early. TellsOrRecalls kind c call hn early There now None (Some absent)) (sym says.known_early)
        (recalls kind c call hn There now absent right takes_none says.missing))
        (none_early kind c call There ⊥ now h.early None refl) (still_has refl)
        (silent-map env mix (λ M' G' w k. plainly env mix k.only k.means.node tt tt) step)

    found_place : (locate : LocateModel) (r : LocateModel × Next Located)
        → LocateMoved locate (KnowsThen locate r) → SaysThen locate r
        → SeekMoved (at.Locating locate) (located env.geometry port r.0 r.1)
    found_place locate (next, Go) step says =
        let h = held_of_seek hn absent (at.Locating locate) in
        let Knows : Memory → Ghost → Type 0 = SeekNext (at.Locating next, Go) in
        answered_where env mix (seek_there hn absent port own (at.Locating locate) M)
        (seek_there hn absent port own (at.Locating next) (mem env mix (applied words (locate_plan locate))))
        c call words G (locate_plan locate) h h None
        (early_of_locate absent next.at) Knows (inl (inl refl)) says (still_has refl)
        (silent-map env mix (λ M' G' w k. record { knowing = record { only = k.only; means = k.means }; fits = tt }) step)
    found_place locate (next, Done there) step says = found_bucket locate next there.shape there.bucket says step

    -- the end of a walk
    seen_knows : (table shape : ℕ) (probe : ProbeModel) (end : Probed) (found : Option ℕ) (M' : Memory)
        (G' : Ghost)
        → knowing (Some end.bucket.place) None (AtHome port table (Some shape) end.bucket.place)
        (known_found end.bucket.place end.bucket.word port end.seen.before found) M' G'
        → SeekNext (found_or_future table shape probe end found) M' G'
    seen_knows table shape probe end None M' G' k =
        let table = k.means.table in
        record {
          knowing = plainly env mix k.only k.means.node (record {
            passing = table.passing;
            shape_is = tt;
            bucket = table.bucket;
            here = table.here;
          }) k.means.bucket;
          fits = tt;
        }
    seen_knows table shape probe end (Some node) M' G' k = k

    seen_holds : (table shape : ℕ) (probe : ProbeModel) (end : Probed) (found : Option ℕ)
        → seek_holds hn absent (found_or_future table shape probe end found) ≡ at_lock (Some end.bucket.place)
    seen_holds table shape probe end None = refl
    seen_holds table shape probe end (Some node) = refl

    walked : (table shape : ℕ) (probe : ProbeModel) (r : ProbeModel × Next Probed) → r.0.key ≡ port
        → SilentStep env mix c words G (probe_plan probe) (at_lock (lock_of_probe probe.at))
        (at_lock (probed_by (r.0.at, r.1)))
        (ProbeKnows env mix c (at_lock None) own port table (Some shape) words G all whole (r.0.at, r.1))
        → SeekMoved (at.Probing table shape probe) (probed table shape r.0 r.1)
    walked table shape probe (next, Go) key step =
        moves_on (probe_plan probe) (lock_of_probe probe.at) (lock_of_probe next.at)
        (ProbeKnows env mix c (at_lock None) own port table (Some shape) words G all whole (next.at, Go))
        (at.Probing table shape next, Go)
        (λ M' G' w k. record { knowing = k.0; fits = (key, k.1) }) step
    walked table shape probe (next, Done end) key step =
        let found = end.seen.found in
        rw (seen_holds table shape next end found)
        (moves_on (probe_plan probe) (lock_of_probe probe.at) (Some end.bucket.place)
        (ProbeKnows env mix c (at_lock None) own port table (Some shape) words G all whole (next.at, Done end))
        (found_or_future table shape next end found)
        (λ M' G' w k. seen_knows table shape next end found M' G' k) step)

    -- the future of a table in which the port was looked for in vain
    future_next : (table : ℕ) (bucket : Locked) (future : Option ℕ)
        → FutureIs env mix c (at_lock (Some bucket.place)) own (Missed bucket.place bucket.word port) words G
        whole port future
        → SeekKnows (at.Future table bucket) M G
        → SeekMoved (at.Future table bucket) (leaving table bucket future, Go)
    future_next table bucket None unbound known =
        let next = leaving table bucket None in
        reads env mix whole refl refl
        (learns env.config.kind c call hn now absent right takes_none
        (legal (ap (owners_in env mix M) unbound)))
        (record { knowing = plainly env mix known.knowing.only known.knowing.means.node tt known.knowing.means.bucket.lock; fits = tt })
    future_next table bucket (Some slot) passing known =
        let next = leaving table bucket (Some slot) in
        reads env mix whole refl refl
        (inl refl)
        (record { knowing = plainly env mix known.knowing.only known.knowing.means.node passing known.knowing.means.bucket.lock; fits = tt })

    seek_step_at : (at : SeekAt) → IsSeekAtIn env.geometry at → SeekKnows at M G
        → SeekMoved at (seek_after_at mix env.geometry port at (old_of words (seek_plan_at env.geometry at)))
    seek_step_at at.CurrentTable is known =
        let next = locating env.geometry (table_of (M CurrentTable)) in
        reads env mix whole refl refl (inl refl)
        (record {
          knowing = plainly env mix known.knowing.only known.knowing.means.node
              (first_passed env mix c (at_lock None) own Unlocked words G whole known.knowing.only.reads port) tt;
          fits = tt;
        })
    seek_step_at (at.Locating locate) is known =
        let h = held_of_seek hn absent (at.Locating locate) in
        found_place locate (locate_after mix port locate (old_of words (locate_plan locate)))
        (locate_step env mix c h own Unlocked words G whole port locate is known.knowing)
        (locate_says env mix c h own Unlocked words G whole port call absent legal locate is known.knowing)
    seek_step_at (at.Probing table shape probe) is known =
        walked table shape probe (probe_after probe (old_of words (probe_plan probe))) known.fits.0
        (probe_step env mix c (at_lock None) own port table (Some shape) words G all whole probe
        is.probe_in known.fits.0 known.fits.1 known.knowing)
    seek_step_at (at.Future table bucket) is known =
        future_next table bucket (slot_of (M (Slot table FutureWord)))
        (future_is env mix c (at_lock (Some bucket.place)) own (Missed bucket.place bucket.word port) words G
        whole port table bucket.place bucket.word None
        known.knowing known.knowing.means.bucket) known
    seek_step_at (at.Leaving table unlock (Some next)) is known =
        let op = seek_plan_at env.geometry (at.Leaving table unlock (Some next)) in
        moves_on op (Some unlock.place) None _ (locating env.geometry next, Go)
        (λ M' G' w k. record { knowing = k; fits = tt })
        (unlock_step env mix c (at_lock None) own (Passes port next) words G all whole refl unlock.place
        unlock.word known.knowing)
    seek_step_at (at.Leaving table unlock None) is known =
        let op = seek_plan_at env.geometry (at.Leaving table unlock None) in
        let told = holds_seeking hn absent None (Some absent) in
        answered env mix (Some absent) (inl (keeps (Some absent))) (still_has refl)
        (unlock_step env mix c told own Nowhere words G all whole refl unlock.place unlock.word known.knowing)

    -- each operation leads from what is known to what is known next
    abbrev pub SeekStep : SeekModel → Type 0
    SeekStep m =
        let r = seek_after mix port m (old_of words (seek_plan m)) in
        StepWhere env mix (seek_there hn absent port own m.at M)
        (seek_there_next hn absent port own (r.0.at, r.1) (mem env mix (applied words (seek_plan m))))
        c call words G (seek_plan m)
        (held_of_seek hn absent m.at) (seek_holds hn absent (r.0.at, r.1)) (SeekNext (r.0.at, r.1))

    pub seek_step : (m : SeekModel) → IsSeekIn env.geometry m → SeekKnows m.at M G → SeekStep m
    seek_step m is known =
        subst (λ g. SeekStep (record { geometry = g; at = m.at })) (sym is.geometry_same)
        (seek_step_at m.at is.at_in known)
