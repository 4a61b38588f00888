-- A caller may hold its section open over its calls. Then none of them opens it, whatever its machine says: what a call holds of its own is the
-- rest. Each operation but one that turns a section word leads from this to this.
use Rattle.std.proofs.Common.{◌≡◌, ◌⊎◌, ℕ, List, Option, Some, None, Bool, true, false, refl, ap, inl, inr}
use Rattle.rht_words.specs.declared.env.Env.{Env}
use Rattle.rht_words.specs.declared.geometry.Geometry.{Geometry}
use Rattle.rht_words.specs.declared.op.Op.{Op}
use Rattle.rht_words.specs.declared.op.Op.TheVariants.{Add}
use Rattle.rht_words.specs.Held as held
use Rattle.rht_words.specs.Places.{Section, place_of}
use Rattle.rht_words.proofs.Memory.{Memory}
use Rattle.rht_model.specs.declared.history.Call.{Call}
use Rattle.rht_ghost.proofs.Theory.Ghosts.{Ghost}
use Rattle.rht_ghost.proofs.Theory.Knowns.{Known}
use Rattle.rht_ghost.proofs.Theory.Knowledge.{IsOpenAs, Knowing, reads-turned}
use Rattle.rht_ghost.proofs.Theory.Steps.{Holding, HasNodeInTime, IsAside, IsOnOwnNode, IsOnOwnSlot, Move, Quiet, TakesNode, GivesNode, TakesLock, DropsLock, Raises, Links, Lowers, Rebinds, LinksBehind, Arms, TakesSlot, GivesSlot, TakesPages, GivesPages, Attaches, Enters, TakesWork, GivesWork, BeginsMoving, TakesSecond, Leaves, Arrives, CutsOff, Publishes, Retires, KeepsWord, Settles, Withdraws, TakesBack, Opens, Closes, ReturnsNode, DoesQuiet, DoesKeepWord, Does, StepWhere}

-- what a call has opened itself, while its caller holds a section open and while it doesn't
abbrev pub opened_itself : Bool → Bool → Bool
opened_itself false section = section
opened_itself true section = false

-- what it holds of its own
abbrev pub of_its_own : Bool → Holding → Holding
of_its_own over h = record h { section = opened_itself over h.section }

-- it is in a section: its own, or its caller's
abbrev pub is_in : Bool → Bool → Bool
is_in false section = section
is_in true section = true

-- the caller knows the same whether its call's machine says that it is in its section or not
pub knowing-turned : {A : Type 0} (env : Env) (mix : ℕ → ℕ → ℕ → ℕ) (c : ℕ) (h : held.Held A) (known : Known) (section : Bool) (M : Memory) (G : Ghost)
    → IsOpenAs true (G.from c) → Knowing env mix c h known M G → Knowing env mix c (record h { section = section }) known M G
knowing-turned env mix c h known section M G open_over knows = record {
  only = record {
    nodes = knows.only.nodes;
    locks = knows.only.locks;
    raising = knows.only.raising;
    slots = knows.only.slots;
    pages_in = knows.only.pages_in;
    works = knows.only.works;
    reads = reads-turned h.section section (G.from c) G.current open_over knows.only.reads;
  };
  means = knows.means;
}

-- ---- operations

-- the operation turns no section word
abbrev pub TurnsNone : Geometry → Op → Type 0
TurnsNone g op = (d : ℕ) → op ≡ Add (place_of g (Section d)) 1 → ⊥

abbrev outside : Holding → Holding
outside h = of_its_own true h

module _ (g : Geometry) (op : Op) (old : ℕ) (h h' : Holding) where
  aside-own : IsAside g op h → IsAside g op (outside h)
  aside-own (inl own) = inl (record { node = own.node; word = own.word; has = own.has; place = own.place })
  aside-own (inr (inl own)) =
      inr (inl (record {
        slot = own.slot;
        word = own.word;
        within = own.within;
        of_table = own.of_table;
        has = own.has;
        place = own.place;
      }))
  aside-own (inr (inr serial)) = inr (inr serial)

  quiet-own : DoesQuiet g op old h h' → DoesQuiet g op old (outside h) (outside h')
  quiet-own does = record {
    holds = ap outside does.holds;
    leaves = elim does.leaves [
      | inl leaves ↦ inl leaves
      | inr aside ↦ inr (aside-own aside)
    ];
  }

  keep-own : (slot caller word : ℕ) → DoesKeepWord g slot caller word op h h' → DoesKeepWord g slot caller word op (outside h) (outside h')
  keep-own slot caller word does = record {
    within = does.within;
    caller_in = does.caller_in;
    keeping = does.keeping;
    moves = does.moves;
    holds = ap outside does.holds;
  }

module _ (env : Env) (mix : ℕ → ℕ → ℕ → ℕ) where
  module _ (op : Op) (old : ℕ) (h h' : Holding) (turns_none : TurnsNone env.geometry op) where
    pub does-own : (move : Move) → Does env mix move op old h h' → Does env mix move op old (outside h) (outside h')
    does-own Quiet does = quiet-own env.geometry op old h _ does
    does-own (Arms j) does = quiet-own env.geometry op old h _ does
    does-own (TakesNode n) does = record { taking = does.taking; none = does.none; holds = ap outside does.holds }
    does-own (GivesNode n) does = record { giving = does.giving; has = does.has; holds = ap outside does.holds }
    does-own (TakesLock j) does =
        record { on = does.on; even = does.even; locks = does.locks; none = does.none; holds = ap outside does.holds }
    does-own (DropsLock j) does =
        record { on = does.on; even = does.even; unlocks = does.unlocks; has = does.has; holds = ap outside does.holds }
    does-own Raises does = record { adds = does.adds; low = does.low; holds = ap outside does.holds }
    does-own (Links n port j) does =
        record { on = does.on; has = does.has; lock = does.lock; raised = does.raised; holds = ap outside does.holds }
    does-own Lowers does = record { subtracts = does.subtracts; high = does.high; holds = ap outside does.holds }
    does-own (Rebinds change) does = record {
      behind_maps = does.behind_maps;
      lock = does.lock;
      left_lock = does.left_lock;
      left_second = does.left_second;
      left_section = refl;
      left_worker = does.left_worker;
      left_node = does.left_node;
      raised_is = does.raised_is;
      changes = does.changes;
    }
    does-own (LinksBehind n) does =
        record { among = does.among; on = does.on; locked = does.locked; none = does.none; holds = ap outside does.holds }
    does-own (TakesSlot s) does =
        record { within = does.within; taking = does.taking; free = does.free; none = does.none; holds = ap outside does.holds }
    does-own (GivesSlot s) does =
        record { within = does.within; giving = does.giving; has = does.has; empty = does.empty; holds = ap outside does.holds }
    does-own (TakesPages index bits) does = record { clears = does.clears; pages = does.pages; holds = ap outside does.holds }
    does-own (GivesPages index bits) does = record { sets = does.sets; had = does.had; pages = does.pages; holds = ap outside does.holds }
    does-own (Attaches slot shape seed serial) does = record {
      last = does.last;
      within = does.within;
      attaching = does.attaching;
      found = does.found;
      has = does.has;
      holds = ap outside does.holds;
    }
    does-own (Enters j p) does =
        record { entering = does.entering; found = does.found; had = does.had; pages = does.pages; holds = ap outside does.holds }
    does-own TakesWork does = record { taking = does.taking; free = does.free; idle = does.idle; holds = ap outside does.holds }
    does-own GivesWork does = record { giving = does.giving; has = does.has; holds = ap outside does.holds }
    does-own BeginsMoving does = record { leaves = does.leaves; has = does.has; still = does.still; holds = ap outside does.holds }
    does-own (TakesSecond i) does = record {
      on = does.on;
      even = does.even;
      locks = does.locks;
      moves = does.moves;
      first = does.first;
      has = does.has;
      none = does.none;
      holds = ap outside does.holds;
    }
    does-own (Leaves j i entry nodes) does = record { on = does.on; moves = does.moves; holds = ap outside does.holds }
    does-own (Arrives j i entry) does = record { on = does.on; moves = does.moves; has = does.has; holds = ap outside does.holds }
    does-own (CutsOff j entry before) does =
        record { on = does.on; moves = does.moves; lock = does.lock; holds = ap outside does.holds }
    does-own Publishes does = record { on = does.on; moves = does.moves; holds = ap outside does.holds }
    does-own (Retires s) does =
        record { within = does.within; retiring = does.retiring; moves = does.moves; holds = ap outside does.holds }
    does-own (KeepsWord s d word) does = keep-own env.geometry op old h _ s d word does
    does-own (Settles s d word) does = keep-own env.geometry op old h _ s d word does
    does-own (Withdraws j p) does = record {
      within = does.within;
      clearing = does.clearing;
      found = does.found;
      works = does.works;
      none = does.none;
      pages = does.pages;
      holds = ap outside does.holds;
    }
    does-own (TakesBack s index bits) does = record {
      within = does.within;
      sets = does.sets;
      works = does.works;
      none = does.none;
      empty = does.empty;
      holds = ap outside does.holds;
    }
    does-own (Opens d) does = absurd (turns_none d does.turns)
    does-own (Closes d) does = absurd (turns_none d does.turns)
    does-own (ReturnsNode n) does = record { among = does.among; giving = does.giving; holds = ap outside does.holds }

  -- such an operation of a call is a step of it in a hold too
  pub step-own : {There There' : Type 0} {c : ℕ} {call : Call} {words : List ℕ} {G : Ghost} {op : Op} {h h' : Holding}
      {Knows : Memory → Ghost → Type 0} → TurnsNone env.geometry op
      → StepWhere env mix There There' c call words G op h h' Knows
      → StepWhere env mix There There' c call words G op (outside h) (outside h') Knows
  step-own {There} {There'} {c} {call} {words} {G} {op} {h} {h'} turns_none step = record {
    move = step.move;
    ready = step.ready;
    made = step.made;
    does = does-own op _ h h' turns_none step.move step.does;
    says = step.says;
    early = step.early;
    right = step.right;
    in_time = record { taken = step.in_time.taken; gone = step.in_time.gone };
    outs = step.outs;
    returning = step.returning;
    knows = step.knows;
  }

  -- and in no hold each is as it is: what the call holds of its own is what it holds
  pub own-none : (h : Holding) → of_its_own false h ≡ h
  own-none h = refl
