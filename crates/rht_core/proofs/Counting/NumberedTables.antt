-- Each table in force has a draw of a serial for its own, which is that of the ghost's table; and its slot says the serial.
use Rattle.std.proofs.Common.{◌≡◌, ℕ, ◌+◌, ◌%◌, ◌^◌, ◌<◌, ◌≤◌, cond, List, [], ◌∷◌, ◌++◌, arith, sym, ap, ◌∙◌, subst}
use Rattle.std.specs.Prelude.{Option, ◌==◌}
use Rattle.rht_words.specs.declared.env.Env.{Env}
use Rattle.rht_words.specs.Members.{In}
use Rattle.rht_words.specs.Places.{NextSerial, Slot, SerialWord}
use Rattle.rht_words.proofs.EachElement.{AllByRecursion-cut}
use Rattle.rht_core.proofs.Events.Worlds.{run_from-append}
use Rattle.rht_core.specs.declared.event.Event.{Event}
use Rattle.rht_core.specs.Runs.{World, opening, world_step, run_from, run_of, IsAdmitted, IsAdmittedEvent}
use Rattle.rht_core.specs.Tables.{AreNumbered, next_serial, drawn_from, drawn_in, NeverAgain}
use Rattle.rht_ghost.proofs.Theory.Ghosts.{Ghost, index_at}
use Rattle.rht_ghost.proofs.Theory.Wholes.{Whole, force-there}
use Rattle.rht_ghost.proofs.Theory.Steps.{mem}
use Rattle.rht_stands.specs.StandsFor.{in_force}
use Rattle.rht_core.proofs.Meaning.TablesInForce.{in_force_is, table_in_force}
use Rattle.rht_core.proofs.Counting.TableDraws.{AreDrawn}
use Rattle.rht_core.proofs.Counting.DrawnRuns.{runs-drawn, from-drawn}
use Rattle.rht_core.proofs.Counting.StepDraws.{HasDrawn, IsLater}

module _ (env : Env) (mix : ℕ → ℕ → ℕ → ℕ) (words : List ℕ) (G : Ghost) (whole : Whole env mix (mem env mix words) G)
    (drawn : ℕ) (T : ℕ → ℕ) where
  abbrev Force : ℕ → Type 0
  Force slot = In slot (in_force env.geometry words)

  -- which table it is in the order of attaching
  here : (slot : ℕ) → (i : Force slot) → index_at G slot ≡ (in_force_is env mix words G whole slot i).table
  here slot i =
      let at = in_force_is env mix words G whole slot i in
      ap (index_at G) at.slot_is ∙ (force-there env mix whole.tables at.table at.current at.attached).index

  numbered-by : (C : ℕ → Option ℕ) → AreDrawn drawn (mem env mix words NextSerial) G T C → AreNumbered env words drawn
  numbered-by C are = record {
    next = are.next;
    draw = λ slot. T (index_at G slot);
    before = λ slot i.
        let at = in_force_is env mix words G whole slot i in
        subst (λ τ. T τ < drawn) (sym (here slot i)) (are.before at.table at.attached);
    serial = λ slot i.
        let at = in_force_is env mix words G whole slot i in
        let right = whole.tables.each at.table (force-there env mix whole.tables at.table at.current at.attached) in
        ap (λ s. mem env mix words (Slot s SerialWord)) at.slot_is ∙ right.serial_is ∙ are.serials at.table at.attached
        ∙ ap (λ τ. T τ % 2 ^ 64) (sym (here slot i));
    apart = λ one other i j same.
        let at = in_force_is env mix words G whole one i in
        let to = in_force_is env mix words G whole other j in
        let tables = are.apart at.table to.table at.attached to.attached
        (ap T (sym (here one i)) ∙ same ∙ ap T (here other j)) in
        at.slot_is ∙ ap (λ τ. (G.table τ).slot) tables ∙ sym to.slot_is;
  }

pub numbered : (M : Type 0) (mix : ℕ → ℕ → ℕ → ℕ) (env : Env) (events : List Event) → IsAdmitted events
    → AreNumbered env (run_of {M = M} mix env events).core.words (drawn_in M mix env events)
numbered M mix env events admitted =
    let has = runs-drawn env mix M events admitted in
    numbered-by env mix (run_of {M = M} mix env events).core.words has.ghost has.inv.whole (drawn_in M mix env events) has.of_table
    has.of_caller has.drawn_are

-- ---- two ends of a run

-- what two lists of events draw, one behind the other
drawn-append : (M : Type 0) (mix : ℕ → ℕ → ℕ → ℕ) (w : World M) (past rest : List Event)
    → drawn_from M mix w (past ++ rest) ≡ drawn_from M mix w past + drawn_from M mix (run_from mix w past) rest
drawn-append M mix w [] rest =
    let same : drawn_from M mix w rest ≡ 0 + drawn_from M mix w rest = omega arith in same
drawn-append M mix w (event ∷ past) rest =
    let next = world_step mix w event in
    let tail = drawn-append M mix next past rest in
    let one = cond {A = ℕ} (next_serial w == next_serial next) 0 1 in
    let all : one + drawn_from M mix next (past ++ rest)
    ≡ one + drawn_from M mix next past + drawn_from M mix (run_from mix next past) rest = omega (arith, tail) in
    all

-- draws with one number in 64 bits are the same where fewer were made
same-draw : (n one other : ℕ) → n < 2 ^ 64 → one < n → other < n → one % 2 ^ 64 ≡ other % 2 ^ 64 → one ≡ other
same-draw n one other few low high same = omega (arith, few, low, high, same)

module _ (M : Type 0) (mix : ℕ → ℕ → ℕ → ℕ) (env : Env) (start between end : World M) (some more all : ℕ)
    (has : HasDrawn env mix M start some) (mid : IsLater env mix M start some has between more)
    (last : IsLater env mix M between more mid.now end all) where
  -- a table that is in force at the start and at the end is so between
  stays : all < 2 ^ 64 → some ≤ all → (one other : ℕ) → In one (in_force env.geometry start.core.words)
      → In other (in_force env.geometry end.core.words)
      → mem env mix start.core.words (Slot one SerialWord) ≡ mem env mix end.core.words (Slot other SerialWord)
      → (one ≡ other) × In one (in_force env.geometry between.core.words)
  stays few less one other i j same =
      let at = in_force_is env mix start.core.words has.ghost has.inv.whole one i in
      let to = in_force_is env mix end.core.words last.now.ghost last.now.inv.whole other j in
      let tables = has.inv.whole.tables in
      let right = tables.each at.table (force-there env mix tables at.table at.current at.attached) in
      let tables_then = last.now.inv.whole.tables in
      let right_then = tables_then.each to.table (force-there env mix tables_then to.table to.current to.attached) in
      let serial : has.of_table at.table % 2 ^ 64 ≡ last.now.of_table to.table % 2 ^ 64 =
      sym (ap (λ s. mem env mix start.core.words (Slot s SerialWord)) at.slot_is ∙ right.serial_is
      ∙ has.drawn_are.serials at.table at.attached)
      ∙ same
      ∙ (ap (λ s. mem env mix end.core.words (Slot s SerialWord)) to.slot_is ∙ right_then.serial_is
      ∙ last.now.drawn_are.serials to.table to.attached) in
      let low = has.drawn_are.before at.table at.attached in
      let high = last.now.drawn_are.before to.table to.attached in
      let draws = same-draw all (has.of_table at.table) (last.now.of_table to.table) few (omega (arith, low, less)) high serial in
      let grown_mid = mid.grown.attached in
      let grown_last = last.grown.attached in
      let attached = at.attached in
      let in_mid : at.table < mid.now.ghost.attached = omega (arith, attached, grown_mid) in
      let kept : last.now.of_table at.table ≡ has.of_table at.table =
      last.grown.draws at.table in_mid ∙ mid.grown.draws at.table at.attached in
      let table : at.table ≡ to.table =
      last.now.drawn_are.apart at.table to.table (omega (arith, in_mid, grown_last)) to.attached (kept ∙ draws) in
      let mid_slot = mid.grown.slots at.table at.attached in
      let slot : (last.now.ghost.table at.table).slot ≡ (has.ghost.table at.table).slot =
      last.grown.slots at.table in_mid ∙ mid_slot in
      let current = last.grown.current in
      let late = to.current in (
        at.slot_is ∙ sym slot ∙ ap (λ τ. (last.now.ghost.table τ).slot) table ∙ sym to.slot_is,
        subst (λ s. In s (in_force env.geometry between.core.words)) (mid_slot ∙ sym at.slot_is)
            (table_in_force env mix between.core.words mid.now.ghost mid.now.inv.whole at.table (omega (arith, current, late, table)) in_mid),
      )

pub never_again : (M : Type 0) (mix : ℕ → ℕ → ℕ → ℕ) → NeverAgain M mix
never_again M mix env before between behind admitted few one other i j same =
    let parts = AllByRecursion-cut IsAdmittedEvent (before ++ between) behind admitted in
    let first = AllByRecursion-cut IsAdmittedEvent before between parts.0 in
    let start = run_of {M = M} mix env before in
    let middle = run_from mix start between in
    let some = 1 + drawn_from M mix (opening env) before in
    let more = some + drawn_from M mix start between in
    let all = more + drawn_from M mix middle behind in
    let has = runs-drawn env mix M before first.0 in
    let mid = from-drawn env mix M start some between first.1 has in
    let last = from-drawn env mix M middle more behind parts.1 mid.now in
    let at_middle : run_of {M = M} mix env (before ++ between) ≡ middle = run_from-append M mix (opening env) before between in
    let worlds : run_of {M = M} mix env (before ++ between ++ behind) ≡ run_from mix middle behind =
    run_from-append M mix (opening env) (before ++ between) behind ∙ ap (λ (w : World M). run_from mix w behind) at_middle in
    let two_parts = drawn-append M mix (opening env) (before ++ between) behind in
    let one_part = drawn-append M mix (opening env) before between in
    let rest = ap (λ (w : World M). drawn_from M mix w behind) at_middle in
    let count : drawn_in M mix env (before ++ between ++ behind) ≡ all = omega (arith, one_part, two_parts, rest) in
    let end = run_from mix middle behind in
    let found = stays M mix env start middle end some more all has mid last (omega (arith, few, count)) (omega arith) one other i
    (subst (λ (w : World M). In other (in_force env.geometry w.core.words)) worlds j)
    (same ∙ ap (λ (w : World M). mem env mix w.core.words (Slot other SerialWord)) worlds) in
    record {
      same = found.0;
      stayed = subst (λ (w : World M). In one (in_force env.geometry w.core.words)) (sym at_middle) found.1;
    }
