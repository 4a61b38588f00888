-- Whoever makes a table has taken its slot by an operation of its own, and let it go by none behind that; and meanwhile it loads no count of
-- ports. What is so of each operation with those before it is so of one more.
use Rattle.std.proofs.Common.{◌≡◌, ◌≢◌, ℕ, Bool, true, false, List, [], ◌∷◌, ◌++◌, append_assoc, Option, Some, None, inl, inr, refl, sym, ap, ◌∙◌, subst, arith, ◌+◌}
use Rattle.std.specs.Prelude.{◌==◌, nat_lt}
use Rattle.std.specs.List.{AllByRecursion, Any}
use Rattle.std.proofs.lemmas.Bool.{cond_both, eqb-true}
use Rattle.std.proofs.lemmas.List.{append-nil}
use Rattle.std.proofs.lemmas.List.Quantifiers.{Any-push}
use Rattle.rht_words.specs.declared.op.Op.{Op}
use Rattle.rht_words.specs.declared.op.Op.TheVariants.{Load, Store, Exchange}
use Rattle.rht_words.specs.declared.machine.Next.{Next}
use Rattle.rht_words.specs.declared.machine.Next.TheVariants.{Go, Done}
use Rattle.rht_words.specs.declared.machine.Start.{Start}
use Rattle.rht_words.specs.declared.machine.Start.TheVariants as starts
use Rattle.rht_words.specs.declared.geometry.Geometry.{Geometry}
use Rattle.rht_words.specs.Places.{PortCount, Slot, ShapeWord, StateWord, PageMap, place_of}
use Rattle.rht_words.proofs.EachElement.{Any-append_left, AllByRecursion-push}
use Rattle.rht_words.proofs.PlacesApart.{parts_in_order}
use Rattle.rht_arena.specs.TakeRun.{TakeRunModel, take_run_new, take_run_plan_at, take_run_after}
use Rattle.rht_arena.specs.declared.take_run.TakeRunAt.{TakeRunAt}
use Rattle.rht_arena.specs.declared.take_run.TakeRunAt.TheVariants as takes
use Rattle.rht_nest.specs.Make.{make_plan_at, make_after_at, may_nest, made_pages, made_shape, no_run, run_taken, run_started, top_taken}
use Rattle.rht_nest.specs.MakeLaws.{TakesSerial}
use Rattle.rht_nest.specs.declared.make.MakeAt.{MakeAt}
use Rattle.rht_nest.specs.declared.make.MakeAt.TheVariants as makes
use Rattle.rht_core.specs.Traces.{Did, performed_of}
use Rattle.rht_core.specs.Refused.{IsNoShapeStore, StoresLast}
use Rattle.rht_core.specs.Attached.{LetsSlotGo, HasTakenSlot, StoresDrawn, EachBehind}
use Rattle.rht_nest.specs.Unmake.{unmake_plan_at, unmake_after_at}
use Rattle.rht_nest.specs.declared.unmake.UnmakeAt.{UnmakeAt}
use Rattle.rht_nest.specs.declared.unmake.UnmakeAt.TheVariants as unmakes

-- ---- each operation with those before it

pub each-push : (So : List Did → Did → Type 0) (before steps : List Did) (did : Did) → EachBehind So before steps
    → So (before ++ steps) did → EachBehind So before (steps ++ did ∷ [])
each-push So before [] did all here = (subst (λ b. So b did) (append-nil before) here, tt)
each-push So before (first ∷ steps) did all here = (
  all.0,
  each-push So (before ++ first ∷ []) steps did all.1
      (subst (λ b. So b did) (sym (append_assoc before (first ∷ []) steps)) here),
)

-- where something holds of all operations besides, and so of the first ones
pub each-map : (So To : List Did → Did → Type 0) (Hold : List Did → Type 0)
    → ((front rest : List Did) → Hold (front ++ rest) → Hold front)
    → ((before : List Did) (did : Did) → Hold (before ++ did ∷ []) → So before did → To before did)
    → (before steps : List Did) → Hold (before ++ steps) → EachBehind So before steps → EachBehind To before steps
each-map So To Hold cut leads before [] hold all = tt
each-map So To Hold cut leads before (did ∷ steps) hold all =
    let joined = subst Hold (sym (append_assoc before (did ∷ []) steps)) hold in (
      leads before did (cut (before ++ did ∷ []) steps joined) all.0,
      each-map So To Hold cut leads (before ++ did ∷ []) steps joined all.1,
    )

module _ (g : Geometry) where
  -- ---- a slot that was taken

  pub slot_taken-now : (slot : ℕ) (steps : List Did) (did : Did) → did.op ≡ Exchange (place_of g (Slot slot StateWord)) 0 1
      → did.old ≡ 0 → HasTakenSlot g slot (steps ++ did ∷ [])
  slot_taken-now slot steps did is free = record {
    before = steps;
    at = did;
    behind = [];
    split = refl;
    takes = record { taking = is; free = free };
    kept = tt;
  }

  pub slot_taken-push : (slot : ℕ) (steps : List Did) (did : Did) → ¬ LetsSlotGo g slot did → HasTakenSlot g slot steps
      → HasTakenSlot g slot (steps ++ did ∷ [])
  slot_taken-push slot steps did keeps taken = record {
    before = taken.before;
    at = taken.at;
    behind = taken.behind ++ did ∷ [];
    split = ap (λ s. s ++ did ∷ []) taken.split ∙ append_assoc taken.before (taken.at ∷ taken.behind) (did ∷ []);
    takes = taken.takes;
    kept = AllByRecursion-push (λ other. ¬ LetsSlotGo g slot other) taken.behind did taken.kept keeps;
  }

  -- and it was so where others came before
  pub slot_taken-behind : (slot : ℕ) (front : List Did) (at : Did) (steps : List Did) → HasTakenSlot g slot steps
      → HasTakenSlot g slot (front ++ at ∷ steps)
  slot_taken-behind slot front at steps taken = record {
    before = front ++ at ∷ taken.before;
    at = taken.at;
    behind = taken.behind;
    split = ap (λ s. front ++ at ∷ s) taken.split ∙ sym (append_assoc front (at ∷ taken.before) (taken.at ∷ taken.behind));
    takes = taken.takes;
    kept = taken.kept;
  }

  -- an operation that is no exchange, and stores elsewhere, lets no slot go
  keeps_slot : (slot : ℕ) (did : Did) (op : Op) → did.op ≡ op → op ≢ Store (place_of g (Slot slot StateWord)) 0
      → ((place old new : ℕ) → op ≢ Exchange place old new) → ¬ LetsSlotGo g slot did
  keeps_slot slot did op is stores exchanges (inl gives) = stores (sym is ∙ gives)
  keeps_slot slot did op is stores exchanges (inr (table, attaches)) = exchanges _ _ _ (sym is ∙ attaches.exchanges)

  store-keeps : (slot : ℕ) (did : Did) (place value : ℕ) → did.op ≡ Store place value → place ≢ place_of g (Slot slot StateWord)
      → ¬ LetsSlotGo g slot did
  store-keeps slot did place value is apart =
      keeps_slot slot did (Store place value) is
      (λ e. apart (let same : ◌≡◌ {A = Op} (Store place value) (Store (place_of g (Slot slot StateWord)) 0) = e in cc))
      (λ there old new e. cc)

  run-keeps : (slot : ℕ) (did : Did) (take : TakeRunModel) (at : TakeRunAt)
      → did.op ≡ take_run_plan_at take.geometry take.pages at → ¬ LetsSlotGo g slot did
  run-keeps slot did take (takes.MapWord first index) is = keeps_slot slot did _ is (λ e. cc) (λ place old new e. cc)
  run-keeps slot did take (takes.Claim first index) is = keeps_slot slot did _ is (λ e. cc) (λ place old new e. cc)
  run-keeps slot did take (takes.GiveBack first index bits) is = keeps_slot slot did _ is (λ e. cc) (λ place old new e. cc)

  -- an exchange that finds another word than 0 attaches nothing
  pub lost-keeps : (slot : ℕ) (did : Did) (place old new : ℕ) → did.op ≡ Exchange place old new → did.old ≢ 0 → ¬ LetsSlotGo g slot did
  lost-keeps slot did place old new is some (inl gives) = let both = sym is ∙ gives in cc
  lost-keeps slot did place old new is some (inr (table, attaches)) = some attaches.found

  -- while a table is given back its slot is given back last
  abbrev pub OwnUnmade : ℕ → Next (Unit {0}) → List Did → Type 0
  OwnUnmade slot Go steps = HasTakenSlot g slot steps
  OwnUnmade slot (Done done) steps = Unit {0}

  pub unmake-own : (h : Geometry) (slot : ℕ) (state : UnmakeAt) (steps : List Did) (did : Did) → did.op ≡ unmake_plan_at h slot state
      → HasTakenSlot g slot steps → OwnUnmade slot (unmake_after_at state did.old).1 (steps ++ did ∷ [])
  unmake-own h slot (unmakes.Giving give) steps did is own =
      slot_taken-push slot steps did (keeps_slot slot did _ is (λ e. cc) (λ place old new e. cc)) own
  unmake-own h slot unmakes.SlotBack steps did is own = tt

  -- ---- the shape that was stored last

  shape_stored-now : (slot shape : ℕ) (steps : List Did) (did : Did) → did.op ≡ Store (place_of g (Slot slot ShapeWord)) shape
      → StoresLast g slot shape (steps ++ did ∷ [])
  shape_stored-now slot shape steps did stores =
      record { before = steps; at = did; behind = []; split = refl; stores = stores; last = tt }

  shape_stored-push : (slot shape : ℕ) (steps : List Did) (did : Did) (place value : ℕ) → did.op ≡ Store place value
      → place ≢ place_of g (Slot slot ShapeWord) → StoresLast g slot shape steps → StoresLast g slot shape (steps ++ did ∷ [])
  shape_stored-push slot shape steps did place value stores apart is = record {
    before = is.before;
    at = is.at;
    behind = is.behind ++ did ∷ [];
    split = ap (λ s. s ++ did ∷ []) is.split ∙ append_assoc is.before (is.at ∷ is.behind) (did ∷ []);
    stores = is.stores;
    last = AllByRecursion-push (IsNoShapeStore g slot) is.behind did is.last
        (λ other e. apart (let same : Store place value ≡ Store (place_of g (Slot slot ShapeWord)) other = sym stores ∙ e in cc));
  }

  -- no operation loads the count of ports
  abbrev pub IsNoCount : Did → Type 0
  IsNoCount did = did.op ≢ Load (place_of g PortCount)

module _ (g : Geometry) (exponent : ℕ) where
  -- ---- the slot of a table that is made, of a size with this exponent

  -- the slot was taken, and this serial drawn
  pub record HasDrawn (slot serial : ℕ) (steps : List Did) : Type 0 where
    pub taken : HasTakenSlot g slot steps
    pub drawn : Any (λ other. TakesSerial g serial (performed_of other)) steps

  -- and the table's shape stored in it last
  pub record HasShaped (slot shape serial : ℕ) (steps : List Did) : Type 0 where
    pub has : HasDrawn slot serial steps
    pub stored : StoresLast g slot shape steps

  -- what is known of it in a state of the making
  abbrev pub OwnAt : MakeAt → List Did → Type 0
  OwnAt (makes.Slot slot) steps = Unit {0}
  OwnAt (makes.Taking slot take) steps = HasTakenSlot g slot steps
  OwnAt (makes.TakingTop slot take) steps = HasTakenSlot g slot steps
  OwnAt (makes.SlotBack slot) steps = HasTakenSlot g slot steps
  OwnAt (makes.NextSerial slot nested page) steps = HasTakenSlot g slot steps
  OwnAt (makes.Shape slot nested page serial) steps = HasDrawn slot serial steps
  OwnAt (makes.Seed slot nested page serial) steps = HasShaped slot (made_shape exponent nested page) serial steps
  OwnAt (makes.Future slot nested page serial) steps = HasShaped slot (made_shape exponent nested page) serial steps
  OwnAt (makes.Serial slot nested page serial) steps = HasShaped slot (made_shape exponent nested page) serial steps

  -- and once it has ended
  pub record HasMadeTable (slot shape : ℕ) (steps : List Did) : Type 0 where
    pub taken : HasTakenSlot g slot steps
    pub stored : StoresLast g slot shape steps
    pub numbered : StoresDrawn g slot steps
    pub nested : Bool
    pub page : ℕ
    pub shape_is : shape ≡ made_shape exponent nested page

  abbrev pub OwnMade : MakeAt × Next (Option (ℕ × ℕ)) → List Did → Type 0
  OwnMade (state, Go) steps = OwnAt state steps
  OwnMade (state, Done None) steps = Unit {0}
  OwnMade (state, Done (Some made)) steps = HasMadeTable made.0 made.1 steps

  -- what is known of the operations of a making
  pub record Owns (next : MakeAt × Next (Option (ℕ × ℕ))) (steps : List Did) : Type 0 where
    pub slot : OwnMade next steps
    pub uncounted : AllByRecursion (IsNoCount g) steps

  no_run-own : (h : Geometry) (nests : Bool) (slot : ℕ) (steps : List Did) → HasTakenSlot g slot steps
      → OwnAt (no_run h nests slot) steps
  no_run-own h true slot steps taken = taken
  no_run-own h false slot steps taken = taken

  started-own : (h : Geometry) (nests : Bool) (slot : ℕ) (start : Start TakeRunModel (Option ℕ)) (steps : List Did)
      → HasTakenSlot g slot steps → OwnAt (run_started h nests slot start) steps
  started-own h nests slot (starts.Running take) steps taken = taken
  started-own h nests slot (starts.Done None) steps taken = no_run-own h nests slot steps taken
  started-own h nests slot (starts.Done (Some page)) steps taken = taken

  taken-own : (h : Geometry) (nests : Bool) (slot : ℕ) (take : TakeRunModel) (next : Next (Option ℕ)) (steps : List Did)
      → HasTakenSlot g slot steps → OwnAt (run_taken h nests slot take next) steps
  taken-own h nests slot take Go steps taken = taken
  taken-own h nests slot take (Done None) steps taken = no_run-own h nests slot steps taken
  taken-own h nests slot take (Done (Some page)) steps taken = taken

  top-own : (slot : ℕ) (take : TakeRunModel) (next : Next (Option ℕ)) (steps : List Did) → HasTakenSlot g slot steps
      → OwnAt (top_taken slot take next) steps
  top-own slot take Go steps taken = taken
  top-own slot take (Done None) steps taken = taken
  top-own slot take (Done (Some page)) steps taken = taken

  drawn-push : (slot serial : ℕ) (steps : List Did) (did : Did) (place value : ℕ) → did.op ≡ Store place value
      → place ≢ place_of g (Slot slot StateWord) → HasDrawn slot serial steps → HasDrawn slot serial (steps ++ did ∷ [])
  drawn-push slot serial steps did place value is no_state has = record {
    taken = slot_taken-push g slot steps did (store-keeps g slot did place value is no_state) has.taken;
    drawn = Any-append_left (λ other. TakesSerial g serial (performed_of other)) steps (did ∷ []) has.drawn;
  }

  shaped-push : (slot shape serial : ℕ) (steps : List Did) (did : Did) (place value : ℕ) → did.op ≡ Store place value
      → place ≢ place_of g (Slot slot StateWord) → place ≢ place_of g (Slot slot ShapeWord) → HasShaped slot shape serial steps
      → HasShaped slot shape serial (steps ++ did ∷ [])
  shaped-push slot shape serial steps did place value is no_state no_shape shaped = record {
    has = drawn-push slot serial steps did place value is no_state shaped.has;
    stored = shape_stored-push g slot shape steps did place value is no_shape shaped.stored;
  }

  own-after : (h : Geometry) (seed : ℕ) (allowed : Bool) (state : MakeAt) (steps : List Did) (did : Did)
      → did.op ≡ make_plan_at h exponent seed state → OwnAt state steps
      → OwnMade (make_after_at h exponent allowed state did.old) (steps ++ did ∷ [])
  own-after h seed allowed (makes.Slot slot) steps did is own =
      let all = steps ++ did ∷ [] in
      let nests = may_nest exponent allowed in
      cond_both (did.old == 0) _ _ (λ next. OwnMade next all)
      (λ t.
      started-own h nests slot (take_run_new h (made_pages exponent)) all
      (slot_taken-now g slot steps did is (eqb-true did.old 0 t)))
      (λ f. cond_both (nat_lt (slot + 1) 8) _ _ (λ next. OwnMade next all) (λ t. tt) (λ last. tt))
  own-after h seed allowed (makes.Taking slot take) steps did is own =
      let r = take_run_after take did.old in
      taken-own h (may_nest exponent allowed) slot r.0 r.1 (steps ++ did ∷ [])
      (slot_taken-push g slot steps did (run-keeps g slot did take take.at is) own)
  own-after h seed allowed (makes.TakingTop slot take) steps did is own =
      let r = take_run_after take did.old in
      top-own slot r.0 r.1 (steps ++ did ∷ []) (slot_taken-push g slot steps did (run-keeps g slot did take take.at is) own)
  own-after h seed allowed (makes.SlotBack slot) steps did is own = tt
  own-after h seed allowed (makes.NextSerial slot nested page) steps did is own = record {
    taken = slot_taken-push g slot steps did (keeps_slot g slot did _ is (λ e. cc) (λ place old new e. cc)) own;
    drawn = Any-push (λ other. TakesSerial g did.old (performed_of other)) steps did (record { raises = is; found = refl });
  }
  own-after h seed allowed (makes.Shape slot nested page serial) steps did is own = record {
    has = drawn-push slot serial steps did _ _ is (λ same. absurd (omega (arith, same))) own;
    stored = shape_stored-now g slot (made_shape exponent nested page) steps did is;
  }
  own-after h seed allowed (makes.Seed slot nested page serial) steps did is own =
      shaped-push slot (made_shape exponent nested page) serial steps did _ _ is (λ same. absurd (omega (arith, same)))
      (λ same. absurd (omega (arith, same))) own
  own-after h seed allowed (makes.Future slot nested page serial) steps did is own =
      shaped-push slot (made_shape exponent nested page) serial steps did _ _ is (λ same. absurd (omega (arith, same)))
      (λ same. absurd (omega (arith, same))) own
  own-after h seed allowed (makes.Serial slot nested page serial) steps did is own =
      let shaped = shaped-push slot (made_shape exponent nested page) serial steps did _ _ is (λ same. absurd (omega (arith, same)))
      (λ same. absurd (omega (arith, same))) own in
      record {
        taken = shaped.has.taken;
        stored = shaped.stored;
        numbered = record {
          before = steps;
          at = did;
          behind = [];
          split = refl;
          serial = serial;
          drawn = own.has.drawn;
          stores = is;
          last = tt;
        };
        nested = nested;
        page = page;
        shape_is = refl;
      }

  -- no operation of a making loads the count
  run-uncounted : (did : Did) (take : TakeRunModel) (at : TakeRunAt)
      → did.op ≡ take_run_plan_at take.geometry take.pages at → IsNoCount g did
  run-uncounted did take (takes.MapWord first index) is loads =
      let both = sym is ∙ loads in
      let same : place_of take.geometry (PageMap index) ≡ 2 = cc in
      let order = parts_in_order take.geometry in
      absurd (omega (arith, same, order.page_map))
  run-uncounted did take (takes.Claim first index) is loads = let both = sym is ∙ loads in cc
  run-uncounted did take (takes.GiveBack first index bits) is loads = let both = sym is ∙ loads in cc

  uncounted : (h : Geometry) (seed : ℕ) (state : MakeAt) (did : Did) → did.op ≡ make_plan_at h exponent seed state
      → IsNoCount g did
  uncounted h seed (makes.Taking slot take) did is = run-uncounted did take take.at is
  uncounted h seed (makes.TakingTop slot take) did is = run-uncounted did take take.at is
  uncounted h seed _ did is = λ loads. let both = sym is ∙ loads in cc

  pub make-own : (h : Geometry) (seed : ℕ) (allowed : Bool) (state : MakeAt) (steps : List Did) (did : Did)
      → did.op ≡ make_plan_at h exponent seed state → Owns (state, Go) steps
      → Owns (make_after_at h exponent allowed state did.old) (steps ++ did ∷ [])
  make-own h seed allowed state steps did is owns = record {
    slot = own-after h seed allowed state steps did is owns.slot;
    uncounted = AllByRecursion-push (IsNoCount g) steps did owns.uncounted (uncounted h seed state did is);
  }
