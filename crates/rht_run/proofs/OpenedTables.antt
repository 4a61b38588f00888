-- How a table is opened. The first seat draws the numbers from 0 on and hands out the greatest one each time, so it is always
-- known which numbers it has: those below the next one.
use Rattle.std.proofs.Common.{◌≡◌, ◌≢◌, ℕ, zero, suc, ◌+◌, ◌%◌, ◌^◌, ◌<◌, inl, inr, ⊎_elim, [], ◌∷◌, refl, sym, ap, ◌∙◌, subst, arith, add-one}
use Rattle.std.specs.Prelude.{Some}
use Rattle.atomic_table.specs.declared.shared.Seat.{Seat}
use Rattle.atomic_table.specs.Table.{Allows, Splits}
use Rattle.rht_words.specs.declared.env.Env.{Env}
use Rattle.rht_core.specs.Locals.{fresh}
use Rattle.rht_core.specs.Runs.{new_book, run_of, IsAdmitted}
use Rattle.rht_run.specs.declared.seats.Held.{Held}
use Rattle.rht_run.specs.declared.seats.SeatView.{SeatView}
use Rattle.rht_run.specs.declared.table.Table.{Table}
use Rattle.rht_run.specs.declared.pass.Pass.{Pass}
use Rattle.rht_run.specs.Layout.{physical}
use Rattle.rht_run.specs.Rule.{In, Shows, Holds, IsInRun, first_view, idle_held, drew, Drew, drawn_held, opening_view, others, newest, split_left, split_right}
use Rattle.rht_run.specs.Passes.{IsFit, IsOpening, IsNew, book_of, book_in}
use Rattle.rht_run.proofs.LaidWords.{physical_enrolled}
use Rattle.rht_run.proofs.SeatMoves.{draws, splits}

module _ {M : Type 0} where
  below_drawn : (env : Env) (n : ℕ) (g : Held M) → In g (drawn_held env n) → g.number < n
  below_drawn env zero g i = absurd i
  below_drawn env (suc n) g i = ⊎_elim
      (λ (e : g ≡ idle_held env n). let q : g.number ≡ n = ap (λ (h : Held M). h.number) e in omega arith)
      (λ j. let b = below_drawn env n g j in omega arith) i

  apart_drawn : (env : Env) (n : ℕ) (g : Held M) → In g (drawn_held env n) → g.number ≢ n
  apart_drawn env n g i = let b = below_drawn env n g i in λ e. omega arith

  -- a view of fewer callers is so in the same run
  fewer : (mix : ℕ → ℕ → ℕ → ℕ) (v w : SeatView M) → w.env ≡ v.env → ((g : Held M) → In g w.held → In g v.held)
      → IsInRun mix v → IsInRun mix w
  fewer mix v w same within run = record {
    events = run.events;
    admitted = run.admitted;
    shows = λ h i. subst (λ (e : Env). Shows e (run_of mix e run.events) h) (sym same) (run.shows h (within h i));
  }

  module _ (mix : ℕ → ℕ → ℕ → ℕ) (t : Table M) where
    abbrev Z : Type 0
    Z = Seat (Unit {0}) (SeatView M)

    abbrev key : Env
    key = t.words.shared.key

    -- the first seat has drawn no number
    pub first_opening : (seat : Z) → IsFit t → seat.table_id ≡ t.words.shared.table_id
        → seat.me ≡ (first_view t.env, []) → IsOpening mix t 0 0 seat
    first_opening seat fit table me = record {
      fit = fit;
      table = table;
      slots = ap (λ x. x.1) me;
      view = ap (λ x. x.0) me;
      in_run = subst (λ (v : SeatView M). IsInRun mix v) (sym (ap (λ x. x.0) me))
          (record { events = []; admitted = tt; shows = λ h i. absurd i });
    }

    -- ---- drawing

    -- the seat may draw a number at this physical place
    abbrev pub MayDraw : Z → ℕ → Type 0
    MayDraw seat at = (seat.table_id ≡ t.words.shared.table_id) × (at < t.words.shared.table_id.words)
        × Allows (Holds mix key) t.words.shared.table_id.slots seat.id seat.me at (λ x. (x + 1) % 2 ^ 64) (λ old after. (after.1 ≡ seat.me.1)
        × Drew mix seat.me.0 old after.0)

    pub enrolling : (n at : ℕ) (seat : Z) → IsOpening mix t n n seat → n < t.env.geometry.callers → at ≡ physical 4
        → MayDraw seat at
    enrolling n at seat is room lies = subst (MayDraw seat) (sym (lies ∙ physical_enrolled)) (
      is.table,
      omega (arith, is.fit.count),
      draws M mix key t.words.shared.table_id.slots seat.id seat.me n
          (ap (λ (v : SeatView M). v.env) is.view ∙ sym is.fit.key) (ap (λ (v : SeatView M). v.drawn) is.view)
          (subst (λ (e : Env). n < e.geometry.callers) (sym is.fit.key) room),
    )

    pub enrolled : (n old : ℕ) (seat after : Z) → IsOpening mix t n n seat → after.table_id ≡ seat.table_id
        → (after.me.1 ≡ seat.me.1) × Drew mix seat.me.0 old after.me.0 → IsOpening mix t (n + 1) (n + 1) after
    enrolled n old seat after is table then =
        let said : Some n ≡ Some old = sym (ap (λ (v : SeatView M). v.drawn) is.view) ∙ then.1.said in
        let same : n ≡ old = cc in
        record {
          fit = is.fit;
          table = table ∙ is.table;
          slots = then.0 ∙ is.slots;
          view = then.1.same ∙ ap (λ (v : SeatView M). drew old v) is.view
              ∙ ap (λ (m : ℕ). drew m (opening_view t.env n n)) (sym same)
              ∙ (λ i. record { env = t.env; held = drawn_held t.env (sym (add-one n) i); drawn = Some (n + 1) });
          in_run = then.1.in_run;
        }

    -- ---- handing out

    held_now : (n drawn : ℕ) (seat : Z) → IsOpening mix t (n + 1) drawn seat
        → seat.me.0.held ≡ idle_held t.env n ∷ drawn_held t.env n
    held_now n drawn seat is =
        ap (λ (v : SeatView M). v.held) is.view ∙ ap (λ (m : ℕ). drawn_held t.env m) (add-one n)

    pub handing : (n drawn : ℕ) (seat : Z) → IsOpening mix t (n + 1) drawn seat
        → (seat.table_id ≡ t.words.shared.table_id) × (0 < t.words.shared.table_id.words)
        × Splits (Holds mix key) seat.id seat.me.0 (split_left seat.me.0) (split_right seat.me.0)
    handing n drawn seat is = (
      is.table,
      omega (arith, is.fit.count),
      splits M mix key seat.id seat.me.0 (idle_held t.env n) (drawn_held t.env n)
          (ap (λ (v : SeatView M). v.env) is.view ∙ sym is.fit.key) (held_now n drawn seat is)
          (apart_drawn t.env n),
    )

    pub handed : (n drawn : ℕ) (seat after : Z) → IsOpening mix t (n + 1) drawn seat → after.table_id ≡ seat.table_id
        → after.me ≡ (split_left seat.me.0, seat.me.1) → IsOpening mix t n drawn after
    handed n drawn seat after is table me =
        let v : SeatView M = seat.me.0 in
        let view_is : after.me.0 ≡ split_left v = ap (λ x. x.0) me in
        let held = held_now n drawn seat is in
        let rest : others v.held ≡ drawn_held t.env n = ap others held in
        record {
          fit = is.fit;
          table = table ∙ is.table;
          slots = ap (λ x. x.1) me ∙ is.slots;
          view = view_is ∙ (λ i. record { env = (is.view i).env; held = rest i; drawn = (is.view i).drawn });
          in_run = subst (λ (x : SeatView M). IsInRun mix x) (sym view_is)
              (fewer mix v (split_left v) refl (λ g j. subst (In g) (sym held) (inr (subst (In g) rest j))) is.in_run);
        }

    -- the seat that has one number and nothing done by it is that of a new pass
    new_pass : (n : ℕ) (p : Pass M) → IsFit t → p.seat.table_id ≡ t.words.shared.table_id → p.seat.me.1 ≡ []
        → p.seat.me.0.env ≡ t.env → p.seat.me.0.held ≡ idle_held t.env n ∷ [] → IsInRun mix p.seat.me.0
        → p.number ≡ n → p.local ≡ fresh t.env → IsNew mix t n p
    new_pass n p fit table slots same_env held in_run number local =
        let book : book_of p ≡ new_book = ap book_in held in
        record {
          pass = record {
            fit = fit;
            table = table;
            slots = slots;
            same_env = same_env;
            held = held
                ∙ (λ i. record { number = sym number i; local = sym local i; book = sym book i } ∷ []);
            in_run = in_run;
          };
          number = number;
          local = local;
          book = book;
        }

    pub given : (n drawn : ℕ) (seat : Z) (p : Pass M) → IsOpening mix t (n + 1) drawn seat
        → p.seat.table_id ≡ seat.table_id → p.seat.me ≡ (split_right seat.me.0, []) → p.number ≡ n
        → p.local ≡ fresh t.env → IsNew mix t n p
    given n drawn seat p is table me number local =
        let v : SeatView M = seat.me.0 in
        let view_is : p.seat.me.0 ≡ split_right v = ap (λ x. x.0) me in
        let all = held_now n drawn seat is in
        let held : p.seat.me.0.held ≡ idle_held t.env n ∷ [] =
        ap (λ (x : SeatView M). x.held) view_is ∙ ap newest all in
        let same_env : p.seat.me.0.env ≡ v.env = ap (λ (x : SeatView M). x.env) view_is in
        new_pass n p is.fit (table ∙ is.table) (ap (λ x. x.1) me)
        (same_env ∙ ap (λ (x : SeatView M). x.env) is.view) held
        (fewer mix v p.seat.me.0 same_env
        (λ g j. subst (In g) (sym all) (⊎_elim inl absurd (subst (In g) held j))) is.in_run)
        number local

    pub first_given : (drawn : ℕ) (p : Pass M) → IsOpening mix t 1 drawn p.seat → p.number ≡ 0 → p.local ≡ fresh t.env
        → IsNew mix t 0 p
    first_given drawn p is number local =
        new_pass 0 p is.fit is.table is.slots (ap (λ (x : SeatView M). x.env) is.view)
        (ap (λ (v : SeatView M). v.held) is.view) is.in_run number local
