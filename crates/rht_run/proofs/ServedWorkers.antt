-- How a caller gets on that serves commands: the calls that a command has added to its pass are served behind the others. And where the
-- table is closed, with all its passes, it is a run that serves the commands: the end of the run says of each pass what its caller has in
-- the run, and what the pass has is known.
use Rattle.std.proofs.Common.{◌≡◌, ℕ, zero, suc, ◌+◌, ◌<◌, ◌≤◌, Bool, List, [], ◌∷◌, ◌++◌, length, get_or, inl, inr, ⊎_elim, refl, sym, ◌∙◌, ap, subst, append_assoc, arith}
use Rattle.std.proofs.lemmas.List.{append-nil}
use Rattle.rht_words.specs.declared.config.Config.{Config}
use Rattle.rht_model.specs.declared.bindings.Closed.{Closed}
use Rattle.rht_model.specs.declared.history.Call.{Call}
use Rattle.rht_model.specs.declared.history.Reply.{Reply}
use Rattle.rht_model.specs.declared.finished.Finished.{Finished}
use Rattle.rht_model.specs.Endings.{Ending, replied}
use Rattle.rht_core.specs.declared.book.Book.{Book}
use Rattle.rht_core.specs.Closing.{IsClosedOf}
use Rattle.rht_core.specs.Locals.{is_idle}
use Rattle.rht_core.specs.Runs.{World, View, run_of}
use Rattle.rht_core.specs.Serving.{AreForCommand, Serves, calls_of, IsServing, IsServedRun}
use Rattle.rht_run.specs.declared.table.Table.{Table}
use Rattle.rht_run.specs.declared.pass.Pass.{Pass}
use Rattle.rht_run.specs.Passes.{IsPassOf, IsNew, AreNew, Among, IsClosedWith, book_of, seen_by}
use Rattle.rht_run.specs.Rule.{In, held_at}
use Rattle.rht_run.specs.Served.{HasServed}
use Rattle.rht_run.specs.Workers.{HasServedCalls, HaveServedAll}

-- ---- one command more

-- one command more, behind the others, with its calls
pub Serves-push : (auto : Bool) (calls : List Call) (endings : List Ending) (done : List Finished) (call : Call) (ending : Ending)
    (more : List Finished) → AreForCommand auto call ending more → Serves auto calls endings done
    → Serves auto (calls ++ call ∷ []) (endings ++ ending ∷ []) (done ++ more)
Serves-push auto [] [] done call ending more for serves =
    rw serves (record { first = more; rest = []; whole = sym (append-nil more); first_is = for; rest_is = refl })
Serves-push auto [] (e ∷ endings) done call ending more for serves = absurd serves
Serves-push auto (own ∷ calls) [] done call ending more for serves = absurd serves
Serves-push auto (own ∷ calls) (e ∷ endings) done call ending more for serves = record {
  first = serves.first;
  rest = serves.rest ++ more;
  whole = ap (λ l. l ++ more) serves.whole ∙ append_assoc serves.first serves.rest more;
  first_is = serves.first_is;
  rest_is = Serves-push auto calls endings serves.rest call ending more for serves.rest_is;
}

module _ {M : Type 0} (mix : ℕ → ℕ → ℕ → ℕ) (t : Table M) (auto : Bool) (number : ℕ) where
  -- a new pass has served none
  pub HasServedCalls-new : (pass : Pass M) → IsNew mix t number pass → HasServedCalls mix t auto number [] pass []
  HasServedCalls-new pass new = record {
    pass_of = new.pass;
    number_is = new.number;
    idle = ap is_idle new.local;
    serves = ap (λ (b : Book). b.finished) new.book;
  }

  -- and what a command leaves is served behind the others
  pub HasServedCalls-more : (calls : List Call) (call : Call) (reply : Reply) (before now : Pass M) (endings : List Ending)
      → HasServed mix t auto call reply before now → HasServedCalls mix t auto number calls before endings
      → HasServedCalls mix t auto number (calls ++ call ∷ []) now
      (endings ++ replied reply now.local.owners.items now.local.pairs.items ∷ [])
  HasServedCalls-more calls call reply before now endings has served =
      let ending = replied reply now.local.owners.items now.local.pairs.items in
      record {
        pass_of = has.pass;
        number_is = has.same.number ∙ served.number_is;
        idle = has.idle;
        serves =
            subst (Serves auto (calls ++ call ∷ []) (endings ++ ending ∷ [])) (sym has.finished)
            (Serves-push auto calls endings (book_of before).finished call ending has.more has.made served.serves);
      }

-- a new pass has the number of a caller
pub new-below : {M : Type 0} (mix : ℕ → ℕ → ℕ → ℕ) (t : Table M) (number : ℕ) (pass : Pass M) → IsNew mix t number pass → number ≤ 16
new-below mix t number pass new =
    let view = pass.seat.me.0 in
    let held = held_at pass.number (seen_by pass) in
    let shows = new.pass.in_run.shows held (subst (In held) (sym new.pass.held) (inl refl)) in
    let below : pass.number < view.env.geometry.callers = shows.below in
    let most : view.env.geometry.callers ≤ 16 = view.env.geometry.within.callers_within.1 in
    let same : pass.number ≡ number = new.number in
    omega (arith, below, most, same)

-- ---- places

module _ {M : Type 0} where
  -- a new table's passes have the numbers of their places
  AreNew-at : (mix : ℕ → ℕ → ℕ → ℕ) (t : Table M) (first : ℕ) (passes : List (Pass M)) (i : ℕ) (default : Pass M)
      → AreNew mix t first passes → i < length passes → IsNew mix t (first + i) (get_or passes i default)
  AreNew-at mix t first [] i default new below = absurd (omega (arith, below))
  AreNew-at mix t first (pass ∷ passes) zero default new below =
      let same : first ≡ first + 0 = omega arith in
      subst (λ n. IsNew mix t n pass) same new.0
  AreNew-at mix t first (pass ∷ passes) (suc i) default new below =
      let same : first + 1 + i ≡ first + suc i = omega arith in
      subst (λ n. IsNew mix t n (get_or passes i default)) same
      (AreNew-at mix t (first + 1) passes i default new.1 (omega (arith, below)))

  pub AreNew-place : (mix : ℕ → ℕ → ℕ → ℕ) (t : Table M) (passes : List (Pass M)) (i : ℕ) (default : Pass M)
      → AreNew mix t 0 passes → i < length passes → IsNew mix t i (get_or passes i default)
  AreNew-place mix t passes i default new below =
      let same : 0 + i ≡ i = omega arith in
      subst (λ n. IsNew mix t n (get_or passes i default)) same (AreNew-at mix t 0 passes i default new below)

  -- a pass that is one of these stands at some place
  pub Among-place : (pass : Pass M) (passes : List (Pass M)) → Among pass passes
      → (i : ℕ) × (i < length passes) × (pass ≡ get_or passes i pass)
  Among-place pass [] among = absurd among
  Among-place pass (other ∷ passes) among = ⊎_elim
      (λ (is : pass ≡ other). (0, omega arith, is))
      (λ (behind : Among pass passes). let at = Among-place pass passes behind in (suc at.0, (let h = at.1 in omega (arith, h)), at.2))
      among

  -- and what stands at a place is one of them
  pub place-Among : (passes : List (Pass M)) (i : ℕ) (default : Pass M) → i < length passes → Among (get_or passes i default) passes
  place-Among [] i default below = absurd (omega (arith, below))
  place-Among (pass ∷ passes) zero default below = inl refl
  place-Among (pass ∷ passes) (suc i) default below = inr (place-Among passes i default (omega (arith, below)))

-- ---- the closed table

module _ {M : Type 0} (mix : ℕ → ℕ → ℕ → ℕ) (config : Config) (t : Table M) (auto : Bool) (commands : List (ℕ × Call))
    (passes : List (Pass M)) (endings : List (List Ending)) (all : HaveServedAll mix config t auto commands passes endings) where
  -- all passes are the table's
  pub HaveServedAll-passes : (pass : Pass M) → Among pass passes → IsPassOf mix t pass
  HaveServedAll-passes pass among =
      let at = Among-place pass passes among in
      let below = at.1 in
      let many = all.many in
      subst (IsPassOf mix t) (sym at.2) (all.each at.0 pass (omega (arith, below, many))).pass_of

  -- the caller of each worker is in the run as the worker's pass says
  module _ (closed : Closed) (end : IsClosedWith mix t.env passes closed) where
    abbrev w : World M
    w = run_of mix t.env end.end.events

    serving : (caller : ℕ) (default : Pass M) → caller < config.callers
        → IsServing w auto caller (calls_of (caller + 1) commands) (get_or endings caller [])
    serving caller default below =
        let many = all.many in
        let pass = get_or passes caller default in
        let served = all.each caller default below in
        let among = place-Among passes caller default (omega (arith, below, many)) in
        let shown = (end.end.shows pass among).shown in
        let own = served.number_is in
        let calls = calls_of (caller + 1) commands in
        let here = get_or endings caller [] in
        subst (λ (c : ℕ). IsServing w auto c calls here) own
        record {
          idle = ap (λ (v : View M). is_idle v.local) shown ∙ served.idle;
          serves =
              subst (λ done. Serves auto calls here done) (sym (ap (λ (v : View M). v.book.finished) shown)) served.serves;
        }

    -- there is a pass, where there is a worker
    some-pass : 0 < length passes → (others : List (Pass M)) → passes ≡ others → Pass M
    some-pass some [] same = absurd (omega (arith, some, ap length same))
    some-pass some (pass ∷ others) same = pass

    pub IsServedRun-closed : IsServedRun M mix config auto commands endings closed
    IsServedRun-closed = record {
      env = t.env;
      config_same = all.config_same;
      ways_plain = all.ways_plain;
      events = end.end.events;
      admitted = end.end.admitted;
      workers = all.workers;
      each = λ caller below.
          let many = all.many in
          serving caller (some-pass (omega (arith, below, many)) passes refl) below;
      closed_is = subst (λ (words : List ℕ). IsClosedOf t.env.geometry words closed) (sym end.end.words_are) end.closed_of;
    }
