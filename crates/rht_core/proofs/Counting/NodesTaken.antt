-- In every run a bind or a rebind takes one node, or is answered that there was none, and no other call takes one.
--
-- What an operation does to the bits of nodes is told by its move (`took`): the move that takes a node clears that
-- one's bit, and any other is on another word, or sets a bit, or leaves each bit. So while its answer isn't known a call has
-- taken what it holds. A node is taken only then, and an answer tells of the node that the call has when it becomes known.
use Rattle.std.proofs.Common.{◌≡◌, ◌↔◌, ℕ, ◌+◌, ◌/◌, ◌<◌, ◌≤◌, ◌⊎◌, inl, inr, List, [], ◌∷◌, ◌++◌, refl, sym, ap, ◌∙◌, subst, arith}
use Rattle.std.specs.Prelude.{Option, Some, None, IfSome}
use Rattle.std.specs.Int.{bit_at}
use Rattle.std.proofs.lemmas.Bool.{cases_eq}
use Rattle.rht_words.specs.declared.op.Op.{Op}
use Rattle.rht_words.specs.declared.op.Op.TheVariants.{Or}
use Rattle.rht_words.specs.declared.env.Env.{Env}
use Rattle.rht_ghost.proofs.Pieces.HeldSections.{of_its_own}
use Rattle.rht_words.specs.declared.geometry.Geometry.{Geometry}
use Rattle.rht_words.specs.declared.machine.Next.{Next}
use Rattle.rht_words.specs.declared.machine.Next.TheVariants.{Go, Done}
use Rattle.rht_words.specs.Maps.{bit_of}
use Rattle.rht_words.specs.Operations.{op_place, word_after}
use Rattle.rht_words.specs.Places.{Section, Slot, SlotWord, FutureWord, StateWord, LoadedSection, PageMap, Node, ChainLink, nodes_at, slot_offset, place_of}
use Rattle.rht_words.proofs.BitChanges.{bit_at-set, bit_at-set_other}
use Rattle.rht_words.proofs.EachElement.{AllByRecursion-push}
use Rattle.rht_words.proofs.PlacesApart.{parts_in_order}
use Rattle.rht_model.specs.declared.history.Call.{Call}
use Rattle.rht_model.specs.declared.history.Call.TheVariants.{Bind, Rebind}
use Rattle.rht_model.specs.declared.history.Reply.{Reply}
use Rattle.rht_model.specs.declared.history.Reply.TheVariants.{NoNode}
use Rattle.rht_model.specs.Answers.{Answer}
use Rattle.rht_model.specs.Endings.{Ending}
use Rattle.rht_arena.specs.Laws.{map_bit}
use Rattle.rht_core.specs.Jobs.{Job, call_of, job_after, held_of, held_next, IsFirstJob}
use Rattle.rht_core.specs.declared.event.Event.{Event}
use Rattle.rht_core.specs.Runs.{IsAdmitted, view_of}
use Rattle.rht_core.specs.Traces.{Did, Traced, traced_of}
use Rattle.rht_core.specs.Laws.{IsNoTake, IsTakeOf, TakesNone, TakesOne, IsTakenBy, IsTakenIn, TakenAlone}
use Rattle.rht_core.specs.Refused.{IsTableWord}
use Rattle.rht_ghost.proofs.Theory.Wholes.{place_at}
use Rattle.rht_ghost.proofs.Theory.Answering.{TellsNode, TellsNode-same, known_so, unknown_before}
use Rattle.rht_ghost.proofs.Theory.Steps.{bare, Holding, Move, Quiet, TakesNode, GivesNode, TakesLock, DropsLock, Raises, Links, Lowers, Rebinds, LinksBehind, Arms, TakesSlot, GivesSlot, TakesPages, GivesPages, Attaches, Enters, TakesWork, GivesWork, BeginsMoving, TakesSecond, Leaves, Arrives, CutsOff, Publishes, Retires, KeepsWord, Settles, Withdraws, TakesBack, Opens, Closes, ReturnsNode, Does, IsAside, DoesQuiet, DoesKeepWord}
use Rattle.rht_core.proofs.Events.JobsOfCallers.{same_call, first_unknown, first_without}
use Rattle.rht_core.proofs.Tracing.TracedJobs.{Performs, LeadsOn, IsKeeping, jobs_keep}

-- ---- one more step

TakesOne-push : (g : Geometry) (node : ℕ) (steps : List Did) (did : Did) → TakesOne g node steps
    → IsNoTake g did → TakesOne g node (steps ++ did ∷ [])
TakesOne-push g node [] did takes takes_none = absurd takes
TakesOne-push g node (first ∷ steps) did (inl now) takes_none =
    inl (now.0, AllByRecursion-push (IsNoTake g) steps did now.1 takes_none)
TakesOne-push g node (first ∷ steps) did (inr later) takes_none =
    inr (later.0, TakesOne-push g node steps did later.1 takes_none)

TakesOne-last : (g : Geometry) (node : ℕ) (steps : List Did) (did : Did) → TakesNone g steps
    → IsTakeOf g node did → TakesOne g node (steps ++ did ∷ [])
TakesOne-last g node [] did none takes = inl (takes, tt)
TakesOne-last g node (first ∷ steps) did none takes = inr
    (none.0, TakesOne-last g node steps did none.1 takes)

-- ---- what an operation does to the bits of nodes

module _ (g : Geometry) (did : Did) where
  -- an operation before the map of nodes, or behind it, takes none
  off_map : ((op_place did.op < 280) ⊎ (nodes_at g ≤ op_place did.op)) → IsNoTake g did
  off_map where_it_is node clears =
      let parts = parts_in_order g in
      let on : op_place did.op ≡ 280 + node / 64 = clears.place in
      elim where_it_is [
        | inl before ↦ absurd (omega (arith, before, on))
        | inr behind ↦ absurd (omega (arith, behind, on, clears.within, parts.page_map, parts.nodes))
      ]

  -- and so does one that leaves each bit that it finds set
  keeps_bits : ((bit : ℕ) → bit < 64 → bit_at did.old bit ≡ 1 → bit_at (word_after did.old did.op) bit ≡ 1)
      → IsNoTake g did
  keeps_bits keeps node clears =
      let kept = keeps (map_bit node) (omega arith) clears.free in
      absurd (omega (arith, kept, clears.taken))

-- and so does one on a word of the map of pages, and one on a word of a slot
on_page_map : (g : Geometry) (did : Did) (index : ℕ) → op_place did.op ≡ place_of g (PageMap index)
    → IsNoTake g did
on_page_map g did index on node clears =
    let parts = parts_in_order g in
    let there : op_place did.op ≡ 280 + node / 64 = clears.place in
    absurd (omega (arith, on, there, clears.within, parts.page_map))

offset-less : (word : SlotWord) → IsTableWord word → slot_offset word < 4
offset-less StateWord of_table = absurd of_table
offset-less (LoadedSection caller) of_table = absurd of_table
offset-less _ of_table = omega arith

on_slot : (g : Geometry) (did : Did) (slot : ℕ) (word : SlotWord) → slot < 8 → slot_offset word < 32
    → op_place did.op ≡ place_of g (Slot slot word) → IsNoTake g did
on_slot g did slot word within few on = off_map g did (inl (omega (arith, on, within, few)))

-- and so does one on the section word of a caller
on_section : (g : Geometry) (did : Did) (caller : ℕ) → caller < 16 → op_place did.op ≡ place_of g (Section caller) → IsNoTake g did
on_section g did caller low on = off_map g did (inl (omega (arith, on, low)))

-- and so does one on the word of a bucket
on_bucket : (env : Env) (mix : ℕ → ℕ → ℕ → ℕ) (did : Did) (j : ℕ) → op_place did.op ≡ place_at env mix j
    → IsNoTake env.geometry did
on_bucket env mix did j on =
    let parts = parts_in_order env.geometry in
    off_map env.geometry did (inr (omega (arith, on, parts.pages)))

-- and so does one on the link of a node
on_node : (g : Geometry) (did : Did) (node : ℕ) → op_place did.op ≡ place_of g (Node node ChainLink) → IsNoTake g did
on_node g did node on = let parts = parts_in_order g in off_map g did (inr (omega (arith, on)))

-- setting a bit clears none
set_keeps : (old bit other : ℕ) → bit_at old other ≡ 1 → bit_at (word_after old (Or 0 (bit_of bit))) other ≡ 1
set_keeps old bit other set = elim (cases_eq other bit) [
  | inl same ↦ rw same (bit_at-set old bit)
  | inr differ ↦ bit_at-set_other old bit other differ ∙ set
]

-- the operation took no node, and the call holds the one that it held, or none
record TookNone (g : Geometry) (h h' : Holding) (did : Did) : Type 0 where
  none : IsNoTake g did
  left : (h'.node ≡ h.node) ⊎ (h'.node ≡ None)

-- the operation took the node that the call holds now, and it held none before
record TookOne (g : Geometry) (h h' : Holding) (did : Did) : Type 0 where
  node : ℕ
  before : h.node ≡ None
  now : h'.node ≡ Some node
  takes : IsTakeOf g node did

-- an operation that others don't see takes none
took_none : (env : Env) (mix : ℕ → ℕ → ℕ → ℕ) (did : Did) (h h' : Holding)
    → DoesQuiet env.geometry did.op did.old h (bare h') → TookNone env.geometry h h' did
took_none env mix did h h' does =
    let g = env.geometry in
    let parts = parts_in_order g in
    record {
      none = elim does.leaves [
        | inl leaves ↦ keeps_bits g did (λ bit l set. leaves bit l ∙ set)
        | inr beside ↦ aside_none beside
      ];
      left = inl (ap (λ (h : Holding). h.node) does.holds);
    }
  where
    aside_none : IsAside env.geometry did.op h → IsNoTake env.geometry did
    aside_none (inl own) =
        let parts = parts_in_order env.geometry in off_map env.geometry did (inr (omega (arith, own.place)))
    aside_none (inr (inl own)) = on_slot env.geometry did own.slot own.word own.within
        (let few = offset-less own.word own.of_table in omega (arith, few)) own.place
    aside_none (inr (inr serial)) = off_map env.geometry did
        (inl (let on : op_place did.op ≡ 3 = ap op_place serial in omega (arith, on)))

-- nor does one that keeps a section word in a slot
kept_word : (g : Geometry) (did : Did) (slot caller word : ℕ) (h h' : Holding)
    → DoesKeepWord g slot caller word did.op h (bare h') → TookNone g h h' did
kept_word g did slot caller word h h' does = record {
  none = on_slot g did slot (LoadedSection caller) does.within (let low = does.caller_in in omega (arith, low))
      (ap op_place does.keeping);
  left = inl (ap (λ (h : Holding). h.node) does.holds);
}

-- By the move.
took : (env : Env) (mix : ℕ → ℕ → ℕ → ℕ) (move : Move) (did : Did) (h h' : Holding)
    → Does env mix move did.op did.old h h'
    → TookNone env.geometry h h' did ⊎ TookOne env.geometry h h' did
took env mix Quiet did h h' does = inl (took_none env mix did h h' does)
took env mix (Arms j) did h h' does = inl (took_none env mix did h h' does)
took env mix (TakesNode n) did h h' does = inr record {
  node = n;
  before = does.none;
  now = ap (λ (h : Holding). h.node) does.holds;
  takes = record { within = does.taking.within; free = does.taking.free; clears = does.taking.clears };
}
took env mix (GivesNode n) did h h' does = inl record {
  none = keeps_bits env.geometry did (λ bit l set.
      subst (λ (op : Op). bit_at (word_after did.old op) bit ≡ 1) (sym does.giving)
      (set_keeps did.old (map_bit n) bit set));
  left = inr (ap (λ (h : Holding). h.node) does.holds);
}
took env mix (ReturnsNode n) did h h' does = inl record {
  none = keeps_bits env.geometry did (λ bit l set.
      subst (λ (op : Op). bit_at (word_after did.old op) bit ≡ 1) (sym does.giving)
      (set_keeps did.old (map_bit n) bit set));
  left = inl (ap (λ (h : Holding). h.node) does.holds);
}
took env mix (TakesLock j) did h h' does = inl record {
  none = on_bucket env mix did j does.on;
  left = inl (ap (λ (h : Holding). h.node) does.holds);
}
took env mix (DropsLock j) did h h' does = inl record {
  none = on_bucket env mix did j does.on;
  left = inl (ap (λ (h : Holding). h.node) does.holds);
}
took env mix Raises did h h' does = inl record {
  none = off_map env.geometry did (inl (let on : op_place did.op ≡ 2 = ap op_place does.adds in omega
      (arith, on)));
  left = inl (ap (λ (h : Holding). h.node) does.holds);
}
took env mix (Links n port j) did h h' does = inl record {
  none = on_bucket env mix did j does.on;
  left = inr (ap (λ (h : Holding). h.node) does.holds);
}
took env mix Lowers did h h' does = inl record {
  none = off_map env.geometry did (inl (let on : op_place did.op ≡ 2 = ap op_place does.subtracts in
      omega (arith, on)));
  left = inl (ap (λ (h : Holding). h.node) does.holds);
}
took env mix (Rebinds change) did h h' does =
    inl record { none = off_map env.geometry did (inr does.behind_maps); left = does.left_node }
took env mix (LinksBehind n) did h h' does = inl record {
  none = on_node env.geometry did n does.on;
  left = inl (ap (λ (h : Holding). h.node) does.holds);
}
took env mix (TakesSlot s) did h h' does = inl record {
  none = on_slot env.geometry did s StateWord does.within (omega arith) (ap op_place does.taking);
  left = inl (ap (λ (h : Holding). h.node) does.holds);
}
took env mix (GivesSlot s) did h h' does = inl record {
  none = on_slot env.geometry did s StateWord does.within (omega arith) (ap op_place does.giving);
  left = inl (ap (λ (h : Holding). h.node) does.holds);
}
took env mix (TakesPages index bits) did h h' does = inl record {
  none = on_page_map env.geometry did index does.clears.on;
  left = inl (ap (λ (h : Holding). h.node) does.holds);
}
took env mix (GivesPages index bits) did h h' does = inl record {
  none = on_page_map env.geometry did index does.sets.on;
  left = inl (ap (λ (h : Holding). h.node) does.holds);
}
took env mix (Attaches slot shape seed serial) did h h' does = inl record {
  none = on_slot env.geometry did does.last FutureWord does.within (omega arith) (ap op_place does.attaching);
  left = inl (ap (λ (h : Holding). h.node) does.holds);
}
took env mix (Enters j p) did h h' does = inl record {
  none = on_bucket env mix did j (ap op_place does.entering);
  left = inl (ap (λ (h : Holding). h.node) does.holds);
}
took env mix TakesWork did h h' does = inl record {
  none = off_map env.geometry did (inl (let on : op_place did.op ≡ 1 = ap op_place does.taking in omega
      (arith, on)));
  left = inl (ap (λ (h : Holding). h.node) does.holds);
}
took env mix GivesWork did h h' does = inl record {
  none = off_map env.geometry did (inl (let on : op_place did.op ≡ 1 = ap op_place does.giving in omega
      (arith, on)));
  left = inl (ap (λ (h : Holding). h.node) does.holds);
}
took env mix BeginsMoving did h h' does = inl record {
  none = keeps_bits env.geometry did (λ bit l set. ap (λ word. bit_at word bit) does.leaves ∙ set);
  left = inl (ap (λ (h : Holding). h.node) does.holds);
}
took env mix (TakesSecond i) did h h' does = inl record {
  none = on_bucket env mix did i does.on;
  left = inl (ap (λ (h : Holding). h.node) does.holds);
}
took env mix (Leaves j i entry nodes) did h h' does = inl record {
  none = on_node env.geometry did entry does.on;
  left = inl (ap (λ (h : Holding). h.node) does.holds);
}
took env mix (Arrives j i entry) did h h' does = inl record {
  none = on_bucket env mix did i does.on;
  left = inl (ap (λ (h : Holding). h.node) does.holds);
}
took env mix (CutsOff j entry None) did h h' does = inl record {
  none = on_bucket env mix did j does.on;
  left = inl (ap (λ (h : Holding). h.node) does.holds);
}
took env mix (CutsOff j entry (Some before)) did h h' does = inl record {
  none = on_node env.geometry did before does.on;
  left = inl (ap (λ (h : Holding). h.node) does.holds);
}
took env mix Publishes did h h' does = inl record {
  none = off_map env.geometry did (inl (let on = does.on in omega (arith, on)));
  left = inl (ap (λ (h : Holding). h.node) does.holds);
}
took env mix (Retires s) did h h' does = inl record {
  none = on_slot env.geometry did s StateWord does.within (omega arith) (ap op_place does.retiring);
  left = inl (ap (λ (h : Holding). h.node) does.holds);
}
took env mix (KeepsWord s d word) did h h' does = inl (kept_word env.geometry did s d word h h' does)
took env mix (Settles s d word) did h h' does = inl (kept_word env.geometry did s d word h h' does)
took env mix (Withdraws j p) did h h' does = inl record {
  none = on_bucket env mix did j (ap op_place does.clearing);
  left = inl (ap (λ (h : Holding). h.node) does.holds);
}
took env mix (TakesBack s index bits) did h h' does = inl record {
  none = on_page_map env.geometry did index does.sets.on;
  left = inl (ap (λ (h : Holding). h.node) does.holds);
}
took env mix (Opens d) did h h' does = inl record {
  none = on_section env.geometry did d does.within (ap op_place does.turns);
  left = inl (ap (λ (h : Holding). h.node) does.holds);
}
took env mix (Closes d) did h h' does = inl record {
  none = on_section env.geometry did d does.within (ap op_place does.turns);
  left = inl (ap (λ (h : Holding). h.node) does.holds);
}

-- ---- what a call has taken

-- the steps took the node that the call holds, and none where it holds none
abbrev pub HasTaken : Geometry → Option ℕ → List Did → Type 0
HasTaken g None steps = TakesNone g steps
HasTaken g (Some node) steps = TakesOne g node steps

HasTaken-push : (g : Geometry) (node : Option ℕ) (steps : List Did) (did : Did) → HasTaken g node steps
    → IsNoTake g did → HasTaken g node (steps ++ did ∷ [])
HasTaken-push g None steps did taken takes_none = AllByRecursion-push (IsNoTake g) steps did taken takes_none
HasTaken-push g (Some node) steps did taken takes_none = TakesOne-push g node steps did taken takes_none

module _ (mix : ℕ → ℕ → ℕ → ℕ) (env : Env) where
  abbrev g : Geometry
  g = env.geometry

  -- what is kept of a call, by what it holds: which node it has taken; while its answer isn't known it holds that node, and
  -- once it is known it tells of it
  pub record HasKept (call : Call) (h : Holding) (steps : List Did) : Type 0 where
    pub node : Option ℕ
    pub taken : HasTaken g node steps
    pub holds : h.answer ≡ None → h.node ≡ node
    pub told : IfSome h.answer (λ answer. TellsNode call node answer.reply)

  abbrev pub JobTakes : Job → List Did → Type 0
  JobTakes job steps = HasKept (call_of job) (held_of job) steps

  module _ (job : Job) (steps : List Did) (did : Did) (performs : Performs mix env job did)
      (kept : JobTakes job steps) where
    abbrev h : Holding
    h = held_of job

    abbrev after : Holding
    after = held_next (job_after mix env job did.old)

    abbrev all : List Did
    all = steps ++ did ∷ []

    took_by : TookNone g (of_its_own performs.over h) (of_its_own performs.over after) did
        ⊎ TookOne g (of_its_own performs.over h) (of_its_own performs.over after) did
    took_by =
        let step = performs.step in
        took env mix step.move did (of_its_own performs.over h) (of_its_own performs.over after)
        (subst (λ old. Does env mix step.move did.op old (of_its_own performs.over h) (of_its_own performs.over after)) (sym performs.found)
        step.does)

    unknown : after.answer ≡ None → h.answer ≡ None
    unknown none = unknown_before env.config.kind performs.caller (call_of job) _ _ _ _ h.answer after.answer
        performs.step.says none

    -- an operation that takes no node leaves what the call has taken
    kept_still : TookNone g h after did → HasKept (call_of job) after all
    kept_still none_now = record {
      node = kept.node;
      taken = HasTaken-push g kept.node steps did kept.taken none_now.none;
      holds = λ none. elim none_now.left [
        | inl same ↦ same ∙ kept.holds (unknown none)
        | inr gone ↦ holds_none kept.node (kept.holds (unknown none)) gone none
      ];
      told =
          known_so env.config.kind performs.caller (call_of job)
          (λ answer. TellsNode (call_of job) kept.node answer.reply)
          (TellsNode-same (call_of job) kept.node) _ _ _ _ h.answer after.answer performs.step.says
          (λ answer before known. subst (λ node. TellsNode (call_of job) node answer.reply)
          (kept.holds before)
          (performs.step.right answer before known).tells)
          kept.told;
    }
      where
        holds_none : (node : Option ℕ) → h.node ≡ node → after.node ≡ None → after.answer ≡ None
            → after.node ≡ node
        holds_none None had gone none = gone
        holds_none (Some node) had gone none = absurd (performs.step.in_time.gone node had gone none)

    -- one that takes a node is made while no answer is known, so the call had taken none
    kept_one : TookOne g h after did → HasKept (call_of job) after all
    kept_one one =
        let none = performs.step.in_time.taken one.node one.before one.now in
        let had_none : kept.node ≡ None = sym (kept.holds (unknown none)) ∙ one.before in
        record {
          node = Some one.node;
          taken = TakesOne-last g one.node steps did (subst (λ node. HasTaken g node steps) had_none
              kept.taken) one.takes;
          holds = λ still. one.now;
          told = subst (λ answer. IfSome answer (λ a. TellsNode (call_of job) (Some one.node) a.reply))
              (sym none) tt;
        }

    kept_next : HasKept (call_of job) after all
    kept_next = elim took_by [
      | inl none_now ↦ kept_still (record { none = none_now.none; left = none_now.left })
      | inr one ↦ kept_one (record { node = one.node; before = one.before; now = one.now; takes = one.takes })
    ]

  -- a call that ends has taken the node of which it tells
  by_none : (node : Option ℕ) (reply : Reply) (steps : List Did) → (node ≡ None) ↔ (reply ≡ NoNode)
      → HasTaken g node steps
      → IsTakenBy g reply steps
  by_none None reply steps tells taken = inl (tells.0 refl, taken)
  by_none (Some node) reply steps tells taken = inr (
    λ no_node. let none = tells.1 no_node in cc,
    (node, taken),
  )

  ends_taken : (call : Call) (node : Option ℕ) (reply : Reply) (steps : List Did)
      → TellsNode call node reply → HasTaken g node steps
      → IsTakenIn g call reply steps
  ends_taken (Bind port owner once) node reply steps tells taken = by_none node reply steps tells taken
  ends_taken (Rebind port owner new) node reply steps tells taken = by_none node reply steps tells taken
  ends_taken _ has reply steps none taken = subst (λ n. HasTaken g n steps) none taken

  abbrev pub Ended : Call → Ending → List Did → Type 0
  Ended call ending steps = IsTakenIn g call ending.answer.reply steps

  leads_taken : (M : Type 0) (job : Job) (all : List Did) (next : Job × Next Ending)
      → call_of next.0 ≡ call_of job
      → HasKept (call_of job) (held_next next) all → LeadsOn M mix env JobTakes Ended job all next
  leads_taken M job all (next, Go) same kept = subst (λ call. HasKept call (held_of next) all) (sym same) kept
  leads_taken M job all (next, Done ending) same kept =
      ends_taken (call_of job) kept.node ending.answer.reply all kept.told kept.taken

  -- at its beginning a call holds nothing
  begins_taken : (call : Call) (job : Job) → IsFirstJob env call job → JobTakes job []
  begins_taken call job is = record {
    node = None;
    taken = tt;
    holds = λ none. first_without env call job is;
    told = subst (λ (answer : Option Answer). IfSome answer (λ a. TellsNode (call_of job) None a.reply))
        (sym (first_unknown env call job is)) tt;
  }

-- what calls have taken is kept in every run
pub calls_take : (M : Type 0) (mix : ℕ → ℕ → ℕ → ℕ) (env : Env) (events : List Event) (c : ℕ) → IsAdmitted events
    → let r : Traced M = traced_of mix env events in
    IsKeeping M mix env (JobTakes mix env) (Ended mix env) (view_of r.world c) (r.traces c)
calls_take M mix env =
    jobs_keep M mix env (JobTakes mix env) (Ended mix env)
    record {
      begins = begins_taken mix env;
      goes = λ job steps did performs kept.
          leads_taken mix env M job (steps ++ did ∷ []) (job_after mix env job did.old)
          (same_call mix env job did.old)
          (kept_next mix env job steps did performs kept);
    }

pub taken_alone : (M : Type 0) (mix : ℕ → ℕ → ℕ → ℕ) → TakenAlone M mix
taken_alone M mix env events admitted c = (calls_take M mix env events c admitted).past
