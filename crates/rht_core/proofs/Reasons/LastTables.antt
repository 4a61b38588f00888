-- Which table is the last one, whatever is known of it: the words say so. It stays the last one while the words of tables stay, and
-- behind an operation that attaches none; and behind one that attaches a table it is that one.
use Rattle.rht_ghost.proofs.Pieces.HeldSections.{of_its_own}
use Rattle.std.proofs.Common.{◌≡◌, ◌⊎◌, ℕ, zero, suc, ◌+◌, ◌-◌, ◌<◌, cond, List, length, refl, sym, ap, ◌∙◌, subst, inl, inr, arith}
use Rattle.std.specs.Prelude.{Some, None}
use Rattle.std.proofs.lemmas.Bool.{cases_lt, lt-ltb, le-ltb}
use Rattle.std.proofs.lemmas.Bool.Decides.{nat_tests}
use Rattle.rht_words.specs.declared.env.Env.{Env}
use Rattle.rht_words.specs.declared.op.Op.{Op}
use Rattle.rht_words.specs.declared.op.Op.TheVariants.{Exchange}
use Rattle.rht_words.specs.Links.{slot_of, future_of}
use Rattle.rht_words.specs.Operations.{old_of, word_after, applied}
use Rattle.rht_words.specs.Places.{CurrentTable, Slot, ShapeWord, FutureWord, place_of, word_at}
use Rattle.rht_words.proofs.Memory.{Memory}
use Rattle.rht_words.proofs.PlacesApart.{place_of-below}
use Rattle.rht_words.proofs.WordChanges.{applied-same}
use Rattle.rht_move.specs.declared.work.WorkAt.TheVariants as at
use Rattle.rht_core.specs.Traces.{Did}
use Rattle.rht_core.specs.Jobs.{Job, works, held_of, held_next, job_after}
use Rattle.rht_ghost.proofs.Theory.Ghosts.{Table, Ghost, put-same, made_table, some-same}
use Rattle.rht_ghost.proofs.Theory.Wholes.{AreThereFrom, Whole, IsThere, force-there}
use Rattle.rht_ghost.proofs.Theory.Readiness.{IsAttaching}
use Rattle.rht_ghost.proofs.Theory.Steps.{bare, Move, Attaches, Holding, DoesAttach, ReadyFor, Does, ghost_after, mem}
use Rattle.rht_core.proofs.Tracing.TracedJobs.{Performs}
use Rattle.rht_core.proofs.Reasons.AttachedTables.{IsNoFutureExchange}

-- the same table is the current one in these words as in those, and the slots have the same shapes and futures
pub record AreSame (env : Env) (words now : List ℕ) : Type 0 where
  pub current : word_at env.geometry now CurrentTable ≡ word_at env.geometry words CurrentTable
  pub shape : (slot : ℕ) → slot < 8
      → word_at env.geometry now (Slot slot ShapeWord) ≡ word_at env.geometry words (Slot slot ShapeWord)
  pub future : (slot : ℕ) → slot < 8
      → word_at env.geometry now (Slot slot FutureWord) ≡ word_at env.geometry words (Slot slot FutureWord)

-- the last of the ghost's tables has this slot and this shape
pub record IsLast (G : Ghost) (slot shape : ℕ) : Type 0 where
  pub table : ℕ
  pub last : table + 1 ≡ G.attached
  pub slot_is : (G.table table).slot ≡ slot
  pub shape_is : (G.table table).shape ≡ shape

-- there is one last table
pub one_shape : (G : Ghost) (slot other shape second : ℕ) → IsLast G slot shape → IsLast G other second → shape ≡ second
one_shape G slot other shape second one two =
    let same : one.table ≡ two.table = omega (arith, one.last, two.last) in
    sym one.shape_is ∙ ap (λ τ. (G.table τ).shape) same ∙ two.shape_is

-- the move attaches a table
record IsAttach (move : Move) : Type 0 where
  slot : ℕ
  shape : ℕ
  seed : ℕ
  serial : ℕ
  is : move ≡ Attaches slot shape seed serial

module _ (env : Env) (mix : ℕ → ℕ → ℕ → ℕ) where
  -- this one has them, whatever ghost the words have
  abbrev pub IsLastIn : List ℕ → ℕ → ℕ → Type 0
  IsLastIn words slot shape = (G : Ghost) → Whole env mix (mem env mix words) G → IsLast G slot shape

  -- ---- along the futures

  module _ (M : Memory) (G : Ghost) (whole : Whole env mix M G) where
    -- the tables from the current one on are there
    current_on : AreThereFrom G G.current
    current_on = force-there env mix whole.tables

    slot_named : (next : ℕ) → next < 8 → slot_of (future_of next) ≡ Some next
    slot_named next l = grind (arith, nat_tests)

    -- the last table has no future
    future_none : (τ : ℕ) → τ + 1 ≡ G.attached → M (Slot (G.table τ).slot FutureWord) ≡ 0
    future_none τ last =
        let l = whole.tables.current_in in
        (whole.tables.each τ (current_on τ (omega (arith, last, l)) (omega (arith, last)))).future_is
        ∙ ap (λ t. cond t (future_of (G.table (τ + 1)).slot) 0) (le-ltb (τ + 1) G.attached (omega (arith, last)))

    -- another one has the next table
    future_some : (τ : ℕ) → AreThereFrom G τ → τ + 1 < G.attached
        → slot_of (M (Slot (G.table τ).slot FutureWord)) ≡ Some (G.table (τ + 1)).slot
    future_some τ there more =
        ap slot_of ((whole.tables.each τ (there τ (omega arith) (omega (arith, more)))).future_is
        ∙ ap (λ t. cond t (future_of (G.table (τ + 1)).slot) 0) (lt-ltb (τ + 1) G.attached more))
        ∙ slot_named (G.table (τ + 1)).slot (whole.tables.each (τ + 1) (there (τ + 1) (omega arith) more)).slot_in

    -- so one with no future is the last
    pub none_last : (τ : ℕ) → AreThereFrom G τ → τ < G.attached → slot_of (M (Slot (G.table τ).slot FutureWord)) ≡ None → τ + 1 ≡ G.attached
    none_last τ there l none = elim (cases_lt (τ + 1) G.attached) [
      | inl more ↦ let both = sym none ∙ future_some τ there more in absurd (cc)
      | inr last ↦ omega (arith, l, last)
    ]

    -- the last one's words
    pub last_shape : (slot shape : ℕ) → IsLast G slot shape → M (Slot slot ShapeWord) ≡ shape
    last_shape slot shape last =
        let ends = last.last in
        let l = whole.tables.current_in in
        ap (λ s. M (Slot s ShapeWord)) (sym last.slot_is)
        ∙ (whole.tables.each last.table (current_on last.table (omega (arith, ends, l)) (omega (arith, ends)))).shape_is
        ∙ last.shape_is

    pub last_future : (slot shape : ℕ) → IsLast G slot shape → M (Slot slot FutureWord) ≡ 0
    last_future slot shape last =
        ap (λ s. M (Slot s FutureWord)) (sym last.slot_is) ∙ future_none last.table last.last

  -- ---- in the same words of tables the same one is the last

  module _ (words now : List ℕ) (G G' : Ghost) (whole : Whole env mix (mem env mix words) G)
      (whole' : Whole env mix (mem env mix now) G') (same : AreSame env words now) where
    same_future : (τ τ' : ℕ) → IsThere G τ → (G'.table τ').slot ≡ (G.table τ).slot
        → mem env mix now (Slot (G'.table τ').slot FutureWord) ≡ mem env mix words (Slot (G.table τ).slot FutureWord)
    same_future τ τ' there slots =
        ap (λ s. mem env mix now (Slot s FutureWord)) slots
        ∙ same.future (G.table τ).slot (whole.tables.each τ there).slot_in

    same_walk : (left τ τ' : ℕ) → τ + left + 1 ≡ G.attached → τ' < G'.attached → AreThereFrom G τ → AreThereFrom G' τ'
        → (G'.table τ').slot ≡ (G.table τ).slot → (slot shape : ℕ) → IsLast G slot shape → IsLast G' slot shape
    same_walk zero τ τ' is l on on' slots slot shape last =
        let here : last.table ≡ τ = omega (arith, is, last.last) in
        let ends : τ + 1 ≡ G.attached = omega (arith, is) in
        let there = on τ (omega arith) (omega (arith, is)) in
        record {
          table = τ';
          last = none_last (mem env mix now) G' whole' τ' on' l
              (ap slot_of (same_future τ τ' there slots ∙ future_none (mem env mix words) G whole τ ends));
          slot_is = slots ∙ ap (λ t. (G.table t).slot) (sym here) ∙ last.slot_is;
          shape_is = sym (whole'.tables.each τ' (on' τ' (omega arith) l)).shape_is ∙ ap (λ s. mem env mix now (Slot s ShapeWord)) slots
              ∙ same.shape (G.table τ).slot (whole.tables.each τ there).slot_in ∙ (whole.tables.each τ there).shape_is
              ∙ ap (λ t. (G.table t).shape) (sym here) ∙ last.shape_is;
        }
    same_walk (suc left) τ τ' is l on on' slots slot shape last =
        let there = on τ (omega arith) (omega (arith, is)) in
        let more : τ + 1 < G.attached = omega (arith, is) in
        let leads = ap slot_of (same_future τ τ' there slots) ∙ future_some (mem env mix words) G whole τ on more in
        elim (cases_lt (τ' + 1) G'.attached) [
          | inl more' ↦
              same_walk left (τ + 1) (τ' + 1) (omega (arith, is)) more'
              (λ σ from. on σ (omega (arith, from))) (λ σ from. on' σ (omega (arith, from)))
              (some-same (G'.table (τ' + 1)).slot (G.table (τ + 1)).slot
              (sym (future_some (mem env mix now) G' whole' τ' on' more') ∙ leads)) slot shape last
          | inr last' ↦
              let none = ap slot_of (future_none (mem env mix now) G' whole' τ' (omega (arith, l, last'))) in
              let both = sym none ∙ leads in
              absurd (cc)
        ]

    pub same_last : (slot shape : ℕ) → IsLast G slot shape → IsLast G' slot shape
    same_last slot shape last =
        let within = whole.tables.current_in in
        same_walk (G.attached - 1 - G.current) G.current G'.current (omega (arith, within)) whole'.tables.current_in
        (current_on (mem env mix words) G whole) (current_on (mem env mix now) G' whole')
        (sym whole'.tables.current_is ∙ same.current ∙ whole.tables.current_is) slot shape last

  -- so one ghost shows it of all
  pub last_in : (words : List ℕ) (G : Ghost) → Whole env mix (mem env mix words) G → (slot shape : ℕ) → IsLast G slot shape
      → IsLastIn words slot shape
  last_in words G whole slot shape last G' whole' =
      same_last words words G G' whole whole' (record { current = refl; shape = λ s l. refl; future = λ s l. refl }) slot shape last

  -- ---- an operation

  -- no move adds a table but one that attaches it
  adds_none : (c : ℕ) (move : Move) (G : Ghost) → ((ghost_after env mix c move G).attached ≡ G.attached) ⊎ IsAttach move
  adds_none c (Attaches slot shape seed serial) G =
      inr (record { slot = slot; shape = shape; seed = seed; serial = serial; is = refl })
  adds_none c _ G = inl refl

  -- and that one exchanges a future
  attach_exchanges : (op : Op) (old : ℕ) (h h' : Holding) (move : Move) → IsAttach move → Does env mix move op old h h'
      → IsNoFutureExchange env.geometry op → ⊥
  attach_exchanges op old h h' move attach does none =
      let attaches = subst (λ m. Does env mix m op old h h') attach.is does in
      none attaches.last 0 (future_of attach.slot) attaches.within attaches.attaching

  module _ (job : Job) (did : Did) (does : Performs mix env job did) (now : List ℕ)
      (still : AreSame env (applied does.words did.op) now) where
    abbrev after : Ghost
    after = ghost_after env mix does.caller does.step.move does.ghost

    -- a last table that was one stays so where none is added
    still_last : (slot shape : ℕ) → after.attached ≡ does.ghost.attached → IsLast does.ghost slot shape
        → IsLast after slot shape
    still_last slot shape same was =
        let ends = was.last in
        let grow = (does.step.made.others (suc does.caller) (λ e. absurd (omega (arith, e)))).tables.grow in
        let stays = grow.tables was.table (omega (arith, ends)) in
        record {
          table = was.table;
          last = was.last ∙ sym same;
          slot_is = stays.slot ∙ was.slot_is;
          shape_is = stays.shape ∙ was.shape_is;
        }

    -- what is so behind the operation is so then
    last_now : (slot shape : ℕ) → IsLast after slot shape → IsLastIn now slot shape
    last_now slot shape last G whole =
        same_last (applied does.words did.op) now after G does.step.made.whole whole still slot shape last

    -- behind an operation that exchanges no future the last table stays
    pub last_stays : (slot shape : ℕ) → IsNoFutureExchange env.geometry did.op → IsLastIn does.words slot shape
        → IsLastIn now slot shape
    last_stays slot shape none last =
        let step = does.step in
        last_now slot shape (elim (adds_none does.caller step.move does.ghost) [
          | inl same ↦ still_last slot shape same (last does.ghost does.whole)
          | inr attach ↦ absurd (attach_exchanges did.op _ _ _ step.move attach step.does none)
        ])

  -- Where a resizing exchanges the future of the last table it finds that none follows, and the table that it has made is the last one.
  module _ (root last slot shape : ℕ) (did : Did) (does : Performs mix env (works (at.Attaching root last slot shape)) did)
      (now : List ℕ) (still : AreSame env (applied does.words did.op) now) (old : ℕ) (was : IsLastIn does.words last old) where
    pub finds_none : did.old ≡ 0
    finds_none =
        does.found ∙ ap (old_of does.words) does.planned
        ∙ last_future (mem env mix does.words) does.ghost does.whole last old (was does.ghost does.whole)

    -- the future of the last table isn't 0 any more
    leads_on : mem env mix (applied does.words did.op) (Slot last FutureWord) ≡ future_of slot
    leads_on =
        let op : Op = Exchange (place_of env.geometry (Slot last FutureWord)) 0 (future_of slot) in
        let zero : old_of does.words op ≡ 0 = sym (ap (old_of does.words) does.planned) ∙ sym does.found ∙ finds_none in
        let inside : place_of env.geometry (Slot last FutureWord) < length does.words =
        let all = does.all in
        let below = place_of-below env.geometry (Slot last FutureWord) (does.within.last_in, tt) in omega (arith, all, below) in
        ap (λ o. mem env mix (applied does.words o) (Slot last FutureWord)) does.planned
        ∙ applied-same does.words op inside
        ∙ ap (λ o. word_after o op) zero

    pub attached_last : IsLastIn now slot shape
    attached_last =
        let step = does.step in
        let G = does.ghost in
        let M = mem env mix does.words in
        last_now (works (at.Attaching root last slot shape)) did does now still slot shape (elim (adds_none does.caller step.move G) [
          | inl same ↦
              let none = last_future (mem env mix (applied does.words did.op)) _ step.made.whole last old
              (still_last (works (at.Attaching root last slot shape)) did does now still last old same (was G does.whole)) in
              let both : future_of slot ≡ 0 = sym leads_on ∙ none in
              absurd (omega (arith, both))
          | inr attach ↦
              let ready : IsAttaching env mix does.caller attach.slot attach.shape attach.seed attach.serial M G =
              subst (ReadyFor env mix does.caller M G) attach.is step.ready in
              let attaches : DoesAttach env.geometry attach.slot did.op (old_of does.words did.op)
              (of_its_own does.over (held_of (works (at.Attaching root last slot shape))))
              (bare (of_its_own does.over (held_next (job_after mix env (works (at.Attaching root last slot shape)) did.old)))) =
              subst (λ m. Does env mix m did.op (old_of does.words did.op) (of_its_own does.over (held_of (works (at.Attaching root last slot shape))))
              (of_its_own does.over (held_next (job_after mix env (works (at.Attaching root last slot shape)) did.old)))) attach.is step.does in
              let slots : attach.slot ≡ slot = some-same attach.slot slot (sym attaches.has) in
              let new = made_table attach.slot attach.shape attach.seed attach.serial in
              subst (λ (H : Ghost). IsLast H slot shape) (sym (ap (λ m. ghost_after env mix does.caller m G) attach.is)) (record {
                table = G.attached;
                last = refl;
                slot_is = ap (λ (t : Table). t.slot) (put-same G.table G.attached new) ∙ slots;
                shape_is = ap (λ (t : Table). t.shape) (put-same G.table G.attached new) ∙ sym ready.made.shape_is
                    ∙ ap (λ s. M (Slot s ShapeWord)) slots ∙ does.knows.knowing.means.making.shape_is;
              })
        ])
