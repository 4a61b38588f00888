-- What a bind that finds the last table full has seen for a refusal or for another attempt, while it makes up its mind and once
-- it is answered.
--
-- All of it lies behind the load of that table's shape: that the table is full, the load of the current table, that of the
-- count of ports, what the making of a table has seen, and the operation that comes last, the load of the future or the exchange
-- that attaches a table.
use Rattle.std.proofs.Common.{◌≤◌, ◌≡◌, ◌≢◌, ◌⊎◌, ◌^◌, ℕ, ◌<◌, Bool, true, false, nat_le, List, [], ◌∷◌, ◌++◌, map, min, refl, sym, ap, ◌∙◌, subst, inl, inr, append_assoc, arith}
use Rattle.std.specs.Prelude.{Option, None, Some}
use Rattle.std.specs.List.{Any, AllByRecursion}
use Rattle.std.proofs.lemmas.List.{map-append}
use Rattle.std.proofs.lemmas.List.Quantifiers.{Any-push}
use Rattle.rht_words.specs.Machines.{Performed}
use Rattle.rht_words.specs.declared.op.Op.{Op}
use Rattle.rht_words.specs.declared.op.Op.TheVariants.{Load}
use Rattle.rht_words.specs.declared.env.Env.{Env}
use Rattle.rht_words.specs.declared.geometry.Geometry.{Geometry}
use Rattle.rht_words.specs.declared.machine.Next.{Next}
use Rattle.rht_words.specs.declared.machine.Next.TheVariants.{Go, Done}
use Rattle.rht_words.specs.Places.{CurrentTable, PortCount, Slot, FutureWord, place_of}
use Rattle.rht_words.specs.Links.{table_of}
use Rattle.rht_words.specs.Shapes.{unpacked, size_of}
use Rattle.rht_words.proofs.EachElement.{Any-append_left, AllByRecursion-push}
use Rattle.rht_policy.specs.Thresholds.{is_above_75, is_above_100}
use Rattle.rht_nest.specs.Make.{MakeModel, may_nest, made_pages, make_plan_at, make_after_at, IsMakeIn, made_shape}
use Rattle.rht_nest.specs.MakeLaws.{pages_for}
use Rattle.rht_nest.specs.Tables.{exponent_made, is_nested}
use Rattle.rht_nest.specs.declared.make.MakeAt.{MakeAt}
use Rattle.rht_nest.specs.declared.make.MakeAt.TheVariants as makes
use Rattle.rht_bind.specs.declared.bind.growth.Full.{Full}
use Rattle.rht_bind.specs.declared.bind.growth.Full.TheVariants as full
use Rattle.rht_bind.specs.declared.bind.growth.Growing.{Growing}
use Rattle.rht_bind.specs.declared.bind.growth.Refusal.{Refusal}
use Rattle.rht_bind.specs.declared.bind.growth.Refusal.TheVariants as refusals
use Rattle.rht_core.specs.Traces.{Did, performed_of}
use Rattle.rht_core.specs.Seen.{LoadsCurrent, IsNoShapeLoad, LastWalked, TurnsNoSection}
use Rattle.rht_core.specs.ResizeCauses.{IsUnboundAt, SawNoneBehind, Loaded, Attaches, FindsFuture, wanted_size, AreNoPages, SawNoRoom, IsNoKeyLoad, SawLongChain}
use Rattle.rht_core.proofs.Reasons.TablesWalked.{nodes_behind, LastWalked-push}
use Rattle.rht_core.proofs.Reasons.KeyLoads.{no_key-before, no_key-make}
use Rattle.rht_core.proofs.Reasons.ChainsCounted.{SawChain-push}
use Rattle.rht_core.proofs.Reasons.MakesSeen.{SawMade, saw_nothing, make-saw}
use Rattle.rht_core.proofs.Reasons.MadeSizes.{nests-wanted, pages-wanted, size_of-wanted, made_nested}
use Rattle.rht_core.specs.Due.{pages_due}
use Rattle.rht_core.specs.Refused.{StoresLast}
use Rattle.rht_core.specs.Attached.{HasTakenSlot, StoresDrawn, SawNoRun}
use Rattle.rht_core.proofs.Reasons.SlotsTaken.{IsNoCount, Owns, make-own, slot_taken-behind}

module _ (g : Geometry) where
  -- behind the load of the last table's shape the operations opened and closed no section, and saw this
  pub record Behind (table shape : ℕ) (Saw : List Did → Type 0) (steps : List Did) : Type 0 where
    pub walked : LastWalked g table shape steps
    pub quiet : AllByRecursion (TurnsNoSection g) walked.behind
    pub saw : Saw walked.behind

  pub Behind-push : (table shape : ℕ) (Saw After : List Did → Type 0) (steps : List Did) (did : Did)
      → IsNoShapeLoad g did → TurnsNoSection g did → ((behind : List Did) → Saw behind → After (behind ++ did ∷ []))
      → Behind table shape Saw steps → Behind table shape After (steps ++ did ∷ [])
  unfolding LastWalked-push
  Behind-push table shape Saw After steps did none turns further is = record {
    walked = LastWalked-push g table shape steps did none is.walked;
    quiet = AllByRecursion-push (TurnsNoSection g) is.walked.behind did is.quiet turns;
    saw = further is.walked.behind is.saw;
  }

  -- the load of a future loads no key
  pub no_key-future : (did : Did) (table : ℕ) → table < 8 → did.op ≡ Load (place_of g (Slot table FutureWord))
      → IsNoKeyLoad g did
  no_key-future did table within is = no_key-before g did _ is (omega (arith, within, nodes_behind g))

-- where these are the words before the event with each number, of a bind of this port
module _ (env : Env) (words_at : ℕ → List ℕ) (mix : ℕ → ℕ → ℕ → ℕ) (port : ℕ) where
  abbrev g : Geometry
  g = env.geometry

  -- ---- what is seen

  -- the operation loaded a count of ports above the size of a table of this shape, which may grow, while the port had no owner
  pub record LoadedAbove (shape : ℕ) (did : Did) : Type 0 where
    pub loaded : did.op ≡ Load (place_of g PortCount)
    pub above : is_above_100 (min did.old 65536) (size_of (unpacked shape)) env.config.max ≡ true
    pub unbound : IsUnboundAt g words_at port did

  -- the table is full by the chain of the port's bucket, or by its count of ports
  abbrev pub SawCrowd : ℕ → Full → ℕ → List Did → Type 0
  SawCrowd table full.Chain shape behind = SawLongChain g words_at mix port table shape behind
  SawCrowd table full.Table shape behind = Any (LoadedAbove shape) behind

  -- and its future was loaded as none, while the port had no owner
  pub record SawWhy (table : ℕ) (why : Full) (shape : ℕ) (behind : List Did) : Type 0 where
    pub crowd : SawCrowd table why shape behind
    pub unbound : Any (SawNoneBehind g words_at port table) behind

  -- with this count a table of this shape is due to grow
  abbrev pub is_due : ℕ → ℕ → Bool
  is_due shape count = is_above_75 (min count 65536) (size_of (unpacked shape)) env.config.max

  -- a count was loaded by which a table of this size is wanted behind that of this slot, and these operations came behind that
  pub record SawWanted (shape table size : ℕ) (behind : List Did) : Type 0 where
    pub sooner : List Did
    pub counting : Did
    pub making : List Did
    pub parts : behind ≡ sooner ++ counting ∷ making
    pub count : ℕ
    pub counted : Loaded g PortCount count counting
    pub wanted : size ≡ wanted_size env shape (min count 65536)
    pub grows : (is_due shape count ≡ true) ⊎ Any (LoadsCurrent g table) sooner

  -- before the count is loaded
  pub record SawRoot (growing : Growing) (root : ℕ) (behind : List Did) : Type 0 where
    pub why : SawWhy growing.table growing.why growing.shape behind
    pub current : Any (LoadsCurrent g root) behind

  -- what a refusal says while it may be that the table has a future
  pub record SawOther (table root : ℕ) (why : Full) (shape : ℕ) (behind : List Did) : Type 0 where
    pub is_full : SawWhy table why shape behind
    pub current : Any (LoadsCurrent g root) behind
    pub other : root ≢ table
    pub count : ℕ
    pub counted : Any (Loaded g PortCount count) behind
    pub not_due : is_due shape count ≡ false

  pub record SawFullUp (table size : ℕ) (why : Full) (shape : ℕ) (behind : List Did) : Type 0 where
    pub is_full : SawWhy table why shape behind
    pub wanted : SawWanted shape table size behind
    pub room : SawNoRoom g size (nat_le 128 size) wanted.making

  abbrev pub SawRefusal : Growing → Refusal → List Did → Type 0
  SawRefusal growing (refusals.Busy root) behind = SawOther growing.table root growing.why growing.shape behind
  SawRefusal growing (refusals.NoTable size) behind = SawFullUp growing.table size growing.why growing.shape behind

  -- each says that the table is full
  pub refusal-why : (growing : Growing) (refusal : Refusal) (behind : List Did) → SawRefusal growing refusal behind
      → SawWhy growing.table growing.why growing.shape behind
  refusal-why growing (refusals.Busy root) behind saw = saw.is_full
  refusal-why growing (refusals.NoTable size) behind saw = saw.is_full

  -- while a table is made
  pub record SawToMake (growing : Growing) (size exponent : ℕ) (allowed : Bool) (next : MakeAt × Next (Option (ℕ × ℕ)))
      (behind : List Did) : Type 0 where
    pub why : SawWhy growing.table growing.why growing.shape behind
    pub wanted : SawWanted growing.shape growing.table size behind
    pub exponent_is : exponent ≡ exponent_made size
    pub allowed_is : allowed ≡ true
    pub made : SawMade g exponent (may_nest exponent allowed) next (map performed_of wanted.making)
    pub own : Owns g exponent next wanted.making

  -- A table of this shape was made in a slot that the call took: it has the size that was wanted, or the greatest one, and is to be attached.
  pub record SawToAttach (growing : Growing) (slot shape : ℕ) (behind : List Did) : Type 0 where
    pub why : SawWhy growing.table growing.why growing.shape behind
    pub size : ℕ
    pub wanted : SawWanted growing.shape growing.table size behind
    pub uncounted : AllByRecursion (IsNoCount g) wanted.making
    pub taken : HasTakenSlot g slot wanted.making
    pub stored : StoresLast g slot shape wanted.making
    pub numbered : StoresDrawn g slot wanted.making
    pub sized : size_of (unpacked shape) ≡ min size (2 ^ 17)
    pub no_run : is_nested shape ≡ true → SawNoRun g (pages_for size) (map performed_of wanted.making)

  -- its slot was taken
  pub attach-taken : (growing : Growing) (slot shape : ℕ) (steps : List Did)
      → Behind g growing.table growing.shape (SawToAttach growing slot shape) steps → HasTakenSlot g slot steps
  attach-taken growing slot shape steps saw =
      let behind = saw.walked in
      let wanted = saw.saw.wanted in
      subst (HasTakenSlot g slot) (sym behind.split)
      (slot_taken-behind g slot behind.before behind.at behind.behind
      (subst (HasTakenSlot g slot) (sym wanted.parts)
      (slot_taken-behind g slot wanted.sooner wanted.counting wanted.making saw.saw.taken)))

  -- The operations behind the load of the last table's shape saw this first, and that the table is full; and one comes behind
  -- these of which the rest is so. This settles the reply.
  pub record Settled (table : ℕ) (Saw : Full → ℕ → List Did → Type 0) (Last : Did → Type 0) (steps : List Did) : Type 0 where
    pub why : Full
    pub shape : ℕ
    pub walked : LastWalked g table shape steps
    pub before : List Did
    pub at : Did
    pub rest : List Did
    pub split : walked.behind ≡ before ++ at ∷ rest
    pub inside : AllByRecursion (TurnsNoSection g) before
    pub saw : Saw why shape before
    pub last : Last at

  -- the operation attached the table of this slot behind that of another, or found it there
  abbrev pub IsFollowing : ℕ → ℕ → Did → Type 0
  IsFollowing table slot did = Attaches g table slot did ⊎ FindsFuture g table slot did

  -- what the operations of a bind show that has to be made again
  pub record FollowedSeen (slot : ℕ) (steps : List Did) : Type 0 where
    pub table : ℕ
    pub settled : Settled table (SawWhy table) (IsFollowing table slot) steps

  -- of one that was refused while tables are moved
  abbrev pub BusySeen : ℕ → ℕ → List Did → Type 0
  BusySeen root last steps = Settled last (SawOther last root) (Loaded g (Slot last FutureWord) 0) steps

  -- and of one that was refused for want of a table
  pub record NoTableSeen (size : ℕ) (steps : List Did) : Type 0 where
    pub table : ℕ
    pub settled : Settled table (SawFullUp table size) (Loaded g (Slot table FutureWord) 0) steps

  -- ---- what was seen stays seen

  SawCrowd-push : (table : ℕ) (why : Full) (shape : ℕ) (behind : List Did) (did : Did) → IsNoKeyLoad g did
      → SawCrowd table why shape behind → SawCrowd table why shape (behind ++ did ∷ [])
  SawCrowd-push table full.Chain shape behind did no_key saw =
      SawChain-push g words_at mix port table shape (λ many. 16 ≤ many) behind did no_key saw
  SawCrowd-push table full.Table shape behind did no_key saw = Any-append_left (LoadedAbove shape) behind (did ∷ []) saw

  pub SawWhy-push : (table : ℕ) (why : Full) (shape : ℕ) (behind : List Did) (did : Did) → IsNoKeyLoad g did
      → SawWhy table why shape behind → SawWhy table why shape (behind ++ did ∷ [])
  SawWhy-push table why shape behind did no_key saw = record {
    crowd = SawCrowd-push table why shape behind did no_key saw.crowd;
    unbound = Any-append_left (SawNoneBehind g words_at port table) behind (did ∷ []) saw.unbound;
  }

  unfoldable SawWanted-push : (shape table size : ℕ) (behind : List Did) (did : Did) → SawWanted shape table size behind
      → SawWanted shape table size (behind ++ did ∷ [])
  SawWanted-push shape table size behind did saw = record {
    sooner = saw.sooner;
    counting = saw.counting;
    making = saw.making ++ did ∷ [];
    parts = ap (λ l. l ++ did ∷ []) saw.parts ∙ append_assoc saw.sooner (saw.counting ∷ saw.making) (did ∷ []);
    count = saw.count;
    counted = saw.counted;
    wanted = saw.wanted;
    grows = saw.grows;
  }

  -- whatever follows
  Settled-push : (table : ℕ) (Saw : Full → ℕ → List Did → Type 0) (Last : Did → Type 0) (steps : List Did) (did : Did)
      → IsNoShapeLoad g did → Settled table Saw Last steps → Settled table Saw Last (steps ++ did ∷ [])
  unfolding LastWalked-push
  Settled-push table Saw Last steps did none saw = record {
    why = saw.why;
    shape = saw.shape;
    walked = LastWalked-push g table saw.shape steps did none saw.walked;
    before = saw.before;
    at = saw.at;
    rest = saw.rest ++ did ∷ [];
    split = ap (λ l. l ++ did ∷ []) saw.split ∙ append_assoc saw.before (saw.at ∷ saw.rest) (did ∷ []);
    inside = saw.inside;
    saw = saw.saw;
    last = saw.last;
  }

  pub FollowedSeen-push : (slot : ℕ) (steps : List Did) (did : Did) → IsNoShapeLoad g did → FollowedSeen slot steps
      → FollowedSeen slot (steps ++ did ∷ [])
  FollowedSeen-push slot steps did none saw = record {
    table = saw.table;
    settled = Settled-push saw.table (SawWhy saw.table) (IsFollowing saw.table slot) steps did none saw.settled;
  }

  pub BusySeen-push : (root last : ℕ) (steps : List Did) (did : Did) → IsNoShapeLoad g did → BusySeen root last steps
      → BusySeen root last (steps ++ did ∷ [])
  BusySeen-push root last steps did none saw =
      Settled-push last (SawOther last root) (Loaded g (Slot last FutureWord) 0) steps did none saw

  pub NoTableSeen-push : (size : ℕ) (steps : List Did) (did : Did) → IsNoShapeLoad g did → NoTableSeen size steps
      → NoTableSeen size (steps ++ did ∷ [])
  NoTableSeen-push size steps did none saw = record {
    table = saw.table;
    settled =
        Settled-push saw.table (SawFullUp saw.table size) (Loaded g (Slot saw.table FutureWord) 0) steps did none saw.settled;
  }

  -- the operation that comes now settles it
  settled-saw : (growing : Growing) (Saw : Full → ℕ → List Did → Type 0) (Last : Did → Type 0) (steps : List Did) (did : Did)
      → IsNoShapeLoad g did → Last did → Behind g growing.table growing.shape (Saw growing.why growing.shape) steps
      → Settled growing.table Saw Last (steps ++ did ∷ [])
  unfolding LastWalked-push
  settled-saw growing Saw Last steps did none last saw = record {
    why = growing.why;
    shape = growing.shape;
    walked = LastWalked-push g growing.table growing.shape steps did none saw.walked;
    before = saw.walked.behind;
    at = did;
    rest = [];
    split = refl;
    inside = saw.quiet;
    saw = saw.saw;
    last = last;
  }

  -- ---- operations

  -- a count that is above the table's size was loaded by this operation
  pub above-why : (table shape : ℕ) (behind : List Did) (did : Did) → did.op ≡ Load (place_of g PortCount)
      → is_above_100 (min did.old 65536) (size_of (unpacked shape)) env.config.max ≡ true
      → IsUnboundAt g words_at port did → Any (SawNoneBehind g words_at port table) behind
      → SawWhy table full.Table shape (behind ++ did ∷ [])
  above-why table shape behind did is above now unbound = record {
    crowd = Any-push (LoadedAbove shape) behind did (record { loaded = is; above = above; unbound = now });
    unbound = Any-append_left (SawNoneBehind g words_at port table) behind (did ∷ []) unbound;
  }

  -- the load of the current table
  pub root-saw : (growing : Growing) (behind : List Did) (did : Did) → did.op ≡ Load (place_of g CurrentTable)
      → SawWhy growing.table growing.why growing.shape behind → SawRoot growing (table_of did.old) (behind ++ did ∷ [])
  root-saw growing behind did is why = record {
    why = SawWhy-push growing.table growing.why growing.shape behind did (no_key-before g did 0 is (omega (arith, nodes_behind g))) why;
    current =
        Any-push (LoadsCurrent g (table_of did.old)) behind did (record { there = tt; loads = is }, refl);
  }

  -- the load of the count
  unfoldable wanted-saw : (shape table root size : ℕ) (behind : List Did) (did : Did) → did.op ≡ Load (place_of g PortCount)
      → size ≡ wanted_size env shape (min did.old 65536) → (is_due shape did.old ≡ true) ⊎ (root ≡ table)
      → Any (LoadsCurrent g root) behind → SawWanted shape table size (behind ++ did ∷ [])
  wanted-saw shape table root size behind did is wanted grows current = record {
    sooner = behind;
    counting = did;
    making = [];
    parts = refl;
    count = did.old;
    counted = record { word = record { there = tt; loads = is }; found = refl };
    wanted = wanted;
    grows = elim grows [
      | inl due ↦ inl due
      | inr same ↦ inr (subst (λ slot. Any (LoadsCurrent g slot) behind) same current)
    ];
  }

  -- it loads no key
  no_key-count : (did : Did) → did.op ≡ Load (place_of g PortCount) → IsNoKeyLoad g did
  no_key-count did is = no_key-before g did 2 is (omega (arith, nodes_behind g))

  pub begins-making : (growing : Growing) (root size : ℕ) (behind : List Did) (did : Did)
      → did.op ≡ Load (place_of g PortCount) → size ≡ wanted_size env growing.shape (min did.old 65536)
      → (is_due growing.shape did.old ≡ true) ⊎ (root ≡ growing.table) → SawRoot growing root behind
      → SawToMake growing size (exponent_made size) true (makes.Slot 0, Go) (behind ++ did ∷ [])
  unfolding wanted-saw
  begins-making growing root size behind did is wanted grows saw = record {
    why = SawWhy-push growing.table growing.why growing.shape behind did (no_key-count did is) saw.why;
    wanted = wanted-saw growing.shape growing.table root size behind did is wanted grows saw.current;
    exponent_is = refl;
    allowed_is = refl;
    made = saw_nothing g (exponent_made size) (may_nest (exponent_made size) true) [] tt tt;
    own = record { slot = tt; uncounted = tt };
  }

  pub other-saw : (growing : Growing) (root : ℕ) (behind : List Did) (did : Did)
      → did.op ≡ Load (place_of g PortCount) → root ≢ growing.table → is_due growing.shape did.old ≡ false
      → SawRoot growing root behind → SawOther growing.table root growing.why growing.shape (behind ++ did ∷ [])
  other-saw growing root behind did is other not_due saw = record {
    is_full = SawWhy-push growing.table growing.why growing.shape behind did (no_key-count did is) saw.why;
    current = Any-append_left (LoadsCurrent g root) behind (did ∷ []) saw.current;
    other = other;
    count = did.old;
    counted = Any-push (Loaded g PortCount did.old) behind did
        (record { word = record { there = tt; loads = is }; found = refl });
    not_due = not_due;
  }

  -- an operation of the making of a table
  pub making-saw : (growing : Growing) (size : ℕ) (make : MakeModel) (behind : List Did) (did : Did) → IsMakeIn g make
      → did.op ≡ make_plan_at make.geometry make.exponent make.seed make.at
      → SawToMake growing size make.exponent make.nested (make.at, Go) behind
      → SawToMake growing size make.exponent make.nested
      (make_after_at make.geometry make.exponent make.nested make.at did.old) (behind ++ did ∷ [])
  unfolding SawWanted-push
  making-saw growing size make behind did within is saw =
      let making = saw.wanted.making in
      let before = map performed_of making in
      let step : Performed = record { op = make_plan_at g make.exponent make.seed make.at; old = did.old } in
      let op : did.op ≡ make_plan_at g make.exponent make.seed make.at =
      is ∙ ap (λ (h : Geometry). make_plan_at h make.exponent make.seed make.at) within.geometry_same in
      let by_op : Op → Performed = λ o. record { op = o; old = did.old } in
      let same : performed_of did ≡ step = ap by_op op in
      let all : map performed_of (making ++ did ∷ []) ≡ before ++ step ∷ [] =
      map-append performed_of making (did ∷ []) ∙ ap (λ (s : Performed). before ++ s ∷ []) same in
      let after = make-saw g make.exponent make.seed make.nested make.at before did.old within.at_in saw.made in
      let no_key = no_key-make g make.geometry make.exponent make.seed make.nested make.at did within.at_in is in
      record {
        why = SawWhy-push growing.table growing.why growing.shape behind did no_key saw.why;
        wanted = SawWanted-push growing.shape growing.table size behind did saw.wanted;
        exponent_is = saw.exponent_is;
        allowed_is = saw.allowed_is;
        made =
            subst (λ (h : Geometry). SawMade g make.exponent (may_nest make.exponent make.nested) (make_after_at h make.exponent make.nested make.at did.old)
            (map performed_of (making ++ did ∷ []))) (sym within.geometry_same)
            (subst (SawMade g make.exponent (may_nest make.exponent make.nested) (make_after_at g make.exponent make.nested make.at did.old)) (sym all) after);
        own = make-own g make.exponent make.geometry make.seed make.nested make.at making did is saw.own;
      }

  -- one was made
  pub to_attach-saw : (growing : Growing) (size exponent : ℕ) (allowed : Bool) (state : MakeAt) (slot shape : ℕ) (behind : List Did)
      → SawToMake growing size exponent allowed (state, Done (Some (slot, shape))) behind → SawToAttach growing slot shape behind
  to_attach-saw growing size exponent allowed state slot shape behind saw =
      let made = saw.own.slot in
      record {
        why = saw.why;
        size = size;
        wanted = saw.wanted;
        uncounted = saw.own.uncounted;
        taken = made.taken;
        stored = made.stored;
        numbered = made.numbered;
        no_run = λ nested.
            let seen = saw.made in
            let few : exponent ≤ 17 = let is = saw.exponent_is in omega (arith, is) in
            subst (λ e. SawNoRun g (made_pages e) (map performed_of saw.wanted.making)) saw.exponent_is
            (seen.5 (made_nested exponent seen.1 seen.0 few (sym (ap is_nested seen.4) ∙ nested)));
        sized =
            ap (λ word. size_of (unpacked word)) made.shape_is
            ∙ ap (λ e. size_of (unpacked (made_shape e made.nested made.page))) saw.exponent_is
            ∙ subst (λ s. size_of (unpacked (made_shape (exponent_made s) made.nested made.page)) ≡ min s (2 ^ 17)) (sym saw.wanted.wanted)
            (size_of-wanted env growing.shape (min saw.wanted.count 65536) made.page made.nested);
      }

  -- no table was made
  pub no_room-saw : (growing : Growing) (size exponent : ℕ) (allowed : Bool) (state : MakeAt) (behind : List Did)
      → SawToMake growing size exponent allowed (state, Done None) behind
      → SawFullUp growing.table size growing.why growing.shape behind
  no_room-saw growing size exponent allowed state behind saw = record {
    is_full = saw.why;
    wanted = saw.wanted;
    room = elim saw.made [
      | inl slots ↦ inl slots
      | inr none ↦
          let steps = map performed_of saw.wanted.making in
          let nests : may_nest (exponent_made size) true ≡ nat_le 128 size =
          subst (λ s. nat_le 7 (exponent_made s) ≡ nat_le 128 s) (sym saw.wanted.wanted)
          (nests-wanted env growing.shape (min saw.wanted.count 65536)) in
          let pages : pages_for size ≡ pages_due size =
          subst (λ s. pages_for s ≡ pages_due s) (sym saw.wanted.wanted)
          (pages-wanted env growing.shape (min saw.wanted.count 65536)) in
          inr (subst (λ p. AreNoPages g p (nat_le 128 size) steps) pages
          (subst (λ n. AreNoPages g (pages_for size) n steps) nests
          (subst (λ e. AreNoPages g (made_pages e) (may_nest e true) steps) saw.exponent_is
          (subst (λ a. AreNoPages g (made_pages exponent) (may_nest exponent a) steps) saw.allowed_is none))))
    ];
  }

  -- the future is loaded as none
  pub busy-saw : (growing : Growing) (root : ℕ) (steps : List Did) (did : Did) → IsNoShapeLoad g did → growing.table < 8
      → did.op ≡ Load (place_of g (Slot growing.table FutureWord)) → did.old ≡ 0
      → Behind g growing.table growing.shape (SawOther growing.table root growing.why growing.shape) steps
      → BusySeen root growing.table (steps ++ did ∷ [])
  busy-saw growing root steps did none within is zero saw =
      settled-saw growing (SawOther growing.table root) (Loaded g (Slot growing.table FutureWord) 0) steps did none
      (record { word = record { there = (within, tt); loads = is }; found = zero }) saw

  pub no_table-saw : (growing : Growing) (size : ℕ) (steps : List Did) (did : Did) → IsNoShapeLoad g did
      → growing.table < 8
      → did.op ≡ Load (place_of g (Slot growing.table FutureWord)) → did.old ≡ 0
      → Behind g growing.table growing.shape (SawFullUp growing.table size growing.why growing.shape) steps
      → NoTableSeen size (steps ++ did ∷ [])
  no_table-saw growing size steps did none within is zero saw = record {
    table = growing.table;
    settled =
        settled-saw growing (SawFullUp growing.table size) (Loaded g (Slot growing.table FutureWord) 0) steps did none
        (record { word = record { there = (within, tt); loads = is }; found = zero }) saw;
  }

  -- another table follows
  pub followed-saw : (growing : Growing) (slot : ℕ) (steps : List Did) (did : Did) → IsNoShapeLoad g did
      → IsFollowing growing.table slot did
      → Behind g growing.table growing.shape (SawWhy growing.table growing.why growing.shape) steps
      → FollowedSeen slot (steps ++ did ∷ [])
  followed-saw growing slot steps did none is saw = record {
    table = growing.table;
    settled = settled-saw growing (SawWhy growing.table) (IsFollowing growing.table slot) steps did none is saw;
  }
