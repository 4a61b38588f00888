-- Opening a table, drawing a number, handing one out and joining two seats keep the rule.
-- A number that is drawn is the count of enrolled callers, and no view has it yet, since each view's numbers are below that
-- count. Splitting and joining are no events: they change which seat owns a number.
use Rattle.std.proofs.Common.{◌≡◌, ◌≢◌, ℕ, ◌+◌, ◌%◌, ◌^◌, ◌<◌, ◌⊎◌, inl, inr, ⊎_elim, cond, nat_eq, max, List, [], ◌∷◌, ◌++◌, length, get_or, set, refl, sym, ap, ◌∙◌, subst, arith, length-set, get_or-set_same}
use Rattle.std.specs.Prelude.{Option, Some, None}
use Rattle.std.proofs.lemmas.Bool.{lt-ltb, eq-eqb, ne_eqb}
use mathlib.Core.Option.{some}
use lib.ListN.{get_elem?}
use Rattle.atomic_table.specs.Table.{Me, keeps, Allows, Splits, Joins, stepped as table_stepped, opening as table_opening}
use Rattle.atomic_table.proofs.Lists.{at_set}
use Rattle.rht_words.specs.declared.env.Env.{Env}
use Rattle.rht_words.specs.Opening.{opening_words}
use Rattle.rht_words.specs.Places.{EnrolledCallers}
use Rattle.rht_words.proofs.OpeningLaws.{stand_in_place}
use Rattle.rht_core.specs.declared.event.Event.TheVariants.{Enroll}
use Rattle.rht_core.specs.Locals.{fresh}
use Rattle.rht_core.specs.Runs.{World, View, view_of, new_book, run_of, world_step}
use Rattle.rht_core.proofs.Events.Worlds.{run_of-push}
use Rattle.rht_core.proofs.Events.SoundRuns.{runs-in}
use Rattle.rht_core.proofs.Events.CallersNotEnrolled.{all-fresh}
use Rattle.rht_run.specs.declared.seats.Held.{Held}
use Rattle.rht_run.specs.declared.seats.SeatView.{SeatView}
use Rattle.rht_run.specs.Layout.{physical, IsLaidOut}
use Rattle.rht_run.specs.Rule.{In, Shows, Holds, first_view, idle_held, drew, Drew, others, newest, split_left, split_right, either_drawn, joined, spent_view}
use Rattle.rht_run.proofs.LaidWords.{laid-set, physical_enrolled}
use Rattle.rht_run.proofs.ViewLists.{at_one, at_push, set_there, only, in_append}
use Rattle.rht_run.proofs.CallerEvents.{admitted_more, in_run}

-- a choice by whether two numbers are the same
same_as : (n m a b : ℕ) → n ≡ m → cond (nat_eq n m) a b ≡ a
same_as n m a b e = ap (λ t. cond t a b) (eq-eqb n m e)

apart_from : (n m a b : ℕ) → n ≢ m → cond (nat_eq n m) a b ≡ b
apart_from n m a b ne = ap (λ t. cond t a b) (ne_eqb n m ne)

drawn_either : (a b : Option ℕ) (n : ℕ) → either_drawn a b ≡ Some n → (a ≡ Some n) ⊎ (b ≡ Some n)
drawn_either None b n e = inr e
drawn_either (Some m) b n e = inl e

module _ (M : Type 0) (mix : ℕ → ℕ → ℕ → ℕ) (env : Env) where
  -- ---- opening

  pub opens : (laid : List ℕ) → IsLaidOut laid (opening_words env)
      → Holds {M = M} mix env (table_opening {S = Unit {0}} {V = SeatView M} laid [] (first_view env))
  opens laid is = record {
    events = [];
    admitted = tt;
    words = is;
    counted = (stand_in_place env).each EnrolledCallers tt;
    shows = λ k u au g i.
        absurd (subst (λ (x : SeatView M). In g x.held) (sym (at_one (first_view env) u k au).1) i);
    owner = λ n. 0;
    owned = λ k u au g i.
        absurd (subst (λ (x : SeatView M). In g x.held) (sym (at_one (first_view env) u k au).1) i);
    drawer = 0;
    drawn = λ k u au n d.
        let first = at_one (first_view env) u k au in
        let said : Some 0 ≡ Some n = ap (λ (x : SeatView M). x.drawn) first.1 ∙ d in
        let none : 0 ≡ n = cc in
        record {
          same_seat = first.0;
          same_env = ap (λ (x : SeatView M). x.env) (sym first.1);
          count = sym none;
          few = omega (arith, none);
        };
  }

  -- ---- a number is drawn

  pub draws : (slots id : ℕ) (me : Me (Unit {0}) (SeatView M)) (d : ℕ) → me.0.env ≡ env → me.0.drawn ≡ Some d
      → d < env.geometry.callers
      → Allows (Holds mix env) slots id me 32 (λ n. (n + 1) % 2 ^ 64) (λ old after. (after.1 ≡ me.1)
      × Drew mix me.0 old after.0)
  draws slots id me d same is room s r wide at fits =
      let n : ℕ = get_or s.words 32 0 in
      let v : SeatView M = me.0 in
      let w : SeatView M = drew n v in
      let told = r.drawn id v at d is in
      let Wo : World M = run_of mix env r.events in
      let Wn : World M = world_step mix Wo Enroll in
      let after : World M = run_of mix env (r.events ++ Enroll ∷ []) in
      let stays = runs-in M mix env r.events in
      let more : after ≡ Wn = run_of-push M mix env r.events Enroll in
      let old : ℕ = get_or Wo.core.words 4 0 in
      let some_words : 4 < length Wo.core.words = omega (arith, stays.all_words) in
      let there : n ≡ old =
      subst (λ (p : ℕ). get_or s.words p 0 ≡ old) physical_enrolled (r.words.at 4 some_words) in
      let counted : old ≡ Wo.core.enrolled = r.counted in
      let small : n < env.geometry.callers = omega (arith, there, counted, told.count, room) in
      let few = env.settled.geometry.callers_within.1 in
      let next : (n + 1) % 2 ^ 64 ≡ n + 1 = omega (arith, small, few, env.agrees.callers_same) in
      let callers_are : Wo.core.env.geometry.callers ≡ env.geometry.callers =
      ap (λ (e : Env). e.geometry.callers) stays.same_env in
      let one_more : max Wo.core.enrolled (old + 1) ≡ n + 1 = omega (arith, there, counted) in
      let count_now : after.core.enrolled ≡ n + 1 =
      ap (λ (x : World M). x.core.enrolled) more
      ∙ ap (λ b. cond b (max Wo.core.enrolled (old + 1)) Wo.core.enrolled)
      (lt-ltb old Wo.core.env.geometry.callers (omega (arith, there, small, callers_are))) ∙ one_more in
      let word_now : get_or after.core.words 4 0 ≡ n + 1 =
      ap (λ (x : World M). get_or x.core.words 4 0) more ∙ get_or-set_same Wo.core.words 4 _ 0 some_words
      ∙ ap (λ (x : ℕ). (x + 1) % 2 ^ 64) (sym there) ∙ next in
      let laid : IsLaidOut (set s.words 32 ((n + 1) % 2 ^ 64)) Wn.core.words =
      subst (λ (p : ℕ). IsLaidOut (set s.words p ((n + 1) % 2 ^ 64)) Wn.core.words) physical_enrolled
      (subst (λ (x : ℕ). IsLaidOut (set s.words (physical 4) ((n + 1) % 2 ^ 64)) (set Wo.core.words 4 ((x + 1) % 2 ^ 64))) there
      (laid-set s.words Wo.core.words 4 ((n + 1) % 2 ^ 64) r.words some_words)) in
      let kept : (g : Held M) → Shows env Wo g → Shows env after g = λ g sh. record {
        below = sh.below;
        enrolled = omega (arith, sh.enrolled, count_now, counted, there);
        shown = ap (λ (x : World M). view_of x g.number) more ∙ sh.shown;
      } in
      let fresh_is : view_of Wo n ≡ record { local = fresh env; book = new_book } =
      all-fresh M mix env r.events n (omega (arith, counted, there)) in
      let new : Shows env after (idle_held v.env n) = record {
        below = small;
        enrolled = omega (arith, count_now);
        shown = ap (λ (x : World M). view_of x n) more ∙ fresh_is
            ∙ ap (λ (e : Env). view_fresh e) (sym same);
      } in
      let old_owner : (g : Held M) → Shows env Wo g
      → cond (nat_eq g.number n) id (r.owner g.number) ≡ r.owner g.number = λ g sh.
      apart_from g.number n id (r.owner g.number) (λ q. omega (arith, q, sh.enrolled, counted, there)) in
      let env_of : (u : SeatView M) → w ≡ u → u.env ≡ env = λ u is.
      ap (λ (x : SeatView M). x.env) (sym is) ∙ same in
      let after_it : Holds mix env (table_stepped s 32 ((n + 1) % 2 ^ 64) id me.1 w keeps) = record {
        events = r.events ++ Enroll ∷ [];
        admitted = admitted_more M mix env r.events Enroll r.admitted tt;
        words = subst (λ (x : World M). IsLaidOut (set s.words 32 ((n + 1) % 2 ^ 64)) x.core.words) (sym more) laid;
        counted = word_now ∙ sym count_now;
        shows = λ k u au g i. ⊎_elim
            (λ t. record {
              same_env = env_of u t.1;
              shows = ⊎_elim (λ e. subst (Shows env after) (sym e) new)
                  (λ before. kept g (r.shows id v at g before).shows)
                  (subst (λ (x : SeatView M). In g x.held) (sym t.1) i);
            })
            (λ t. let p = r.shows k u t.1 g i in record { same_env = p.same_env; shows = kept g p.shows })
            (at_set s.views id k w u au);
        owner = λ m. cond (nat_eq m n) id (r.owner m);
        owned = λ k u au g i. ⊎_elim
            (λ t. ⊎_elim
            (λ e. ap (λ (x : Held M). cond (nat_eq x.number n) id (r.owner x.number)) e
            ∙ same_as n n id (r.owner n) refl ∙ sym t.0)
            (λ before. old_owner g (r.shows id v at g before).shows ∙ r.owned id v at g before ∙ sym t.0)
            (subst (λ (x : SeatView M). In g x.held) (sym t.1) i))
            (λ t. old_owner g (r.shows k u t.1 g i).shows ∙ r.owned k u t.1 g i)
            (at_set s.views id k w u au);
        drawer = r.drawer;
        drawn = λ k u au m e. ⊎_elim
            (λ t. let said : Some (n + 1) ≡ Some m = ap (λ (x : SeatView M). x.drawn) t.1 ∙ e in
            let many : n + 1 ≡ m = cc in
            record {
              same_seat = t.0 ∙ told.same_seat;
              same_env = env_of u t.1;
              count = sym many ∙ sym count_now;
              few = omega (arith, many, small);
            })
            (λ t. let p = r.drawn k u t.1 m e in absurd (t.0 (p.same_seat ∙ sym told.same_seat)))
            (at_set s.views id k w u au);
      } in
      let so_many : d ≡ n = omega (arith, told.count, counted, there) in (
        w,
        keeps,
        tt,
        after_it,
        (
          refl,
          record {
            same = refl;
            said = is ∙ ap Some so_many;
            in_run = in_run M mix env _ after_it id w (set_there s.views id me.0 w at) same;
          },
        ),
      )
    where
      -- what a caller sees that has made no call
      view_fresh : Env → View M
      view_fresh e = record { local = fresh e; book = new_book }

  -- ---- a number is handed to a new seat

  pub splits : (id : ℕ) (v : SeatView M) (h : Held M) (hs : List (Held M)) → v.env ≡ env → v.held ≡ h ∷ hs
      → ((g : Held M) → In g hs → g.number ≢ h.number)
      → Splits (Holds mix env) id v (split_left v) (split_right v)
  splits id v h hs same is apart s r at =
      let l : SeatView M = split_left v in
      let x : SeatView M = split_right v in
      let left_is : l.held ≡ hs = ap others is in
      let right_is : x.held ≡ h ∷ [] = ap newest is in
      let h_in : In h v.held = subst (In h) (sym is) (inl refl) in
      let h_owned : r.owner h.number ≡ id = r.owned id v at h h_in in
      let in_left : (g : Held M) → In g l.held → In g v.held =
      λ g i. subst (In g) (sym is) (inr (subst (In g) left_is i)) in
      let in_right : (g : Held M) → In g x.held → g ≡ h = λ g i. only g h x.held i right_is in
      let own : ℕ → ℕ = λ n. cond (nat_eq n h.number) (length s.views) (r.owner n) in
      let own_old : (n : ℕ) → n ≢ h.number → own n ≡ r.owner n =
      λ n ne. apart_from n h.number (length s.views) (r.owner n) ne in
      let shown : World M = run_of mix env r.events in
      let left_env : (u : SeatView M) → l ≡ u → u.env ≡ env = λ u e. ap (λ (y : SeatView M). y.env) (sym e) ∙ same in
      let right_env : (u : SeatView M) → x ≡ u → u.env ≡ env = λ u e. ap (λ (y : SeatView M). y.env) (sym e) ∙ same in
      record {
        events = r.events;
        admitted = r.admitted;
        words = r.words;
        counted = r.counted;
        shows = λ k u au g i. ⊎_elim
            (λ t. ⊎_elim
            (λ w. record {
              same_env = left_env u w.1;
              shows = (r.shows id v at g (in_left g (subst (λ (y : SeatView M). In g y.held) (sym w.1) i))).shows;
            })
            (λ w. r.shows k u w.1 g i)
            (at_set s.views id k l u t.1))
            (λ t. let q : g ≡ h = in_right g (subst (λ (y : SeatView M). In g y.held) (sym t.1) i) in
            record {
              same_env = right_env u t.1;
              shows = subst (Shows env shown) (sym q) (r.shows id v at h h_in).shows;
            })
            (at_push (set s.views id l) x u k au);
        owner = own;
        owned = λ k u au g i. ⊎_elim
            (λ t. ⊎_elim
            (λ w. let j : In g l.held = subst (λ (y : SeatView M). In g y.held) (sym w.1) i in
            own_old g.number (apart g (subst (In g) left_is j)) ∙ r.owned id v at g (in_left g j) ∙ sym w.0)
            (λ w. let o = r.owned k u w.1 g i in
            own_old g.number (λ q. w.0 (sym o ∙ ap r.owner q ∙ h_owned)) ∙ o)
            (at_set s.views id k l u t.1))
            (λ t. let q : g ≡ h = in_right g (subst (λ (y : SeatView M). In g y.held) (sym t.1) i) in
            ap (λ (y : Held M). own y.number) q
            ∙ same_as h.number h.number (length s.views) (r.owner h.number) refl ∙ sym (length-set s.views id l)
            ∙ sym t.0)
            (at_push (set s.views id l) x u k au);
        drawer = r.drawer;
        drawn = λ k u au n d. ⊎_elim
            (λ t. ⊎_elim
            (λ w. let p = r.drawn id v at n (ap (λ (y : SeatView M). y.drawn) w.1 ∙ d) in record {
              same_seat = w.0 ∙ p.same_seat;
              same_env = left_env u w.1;
              count = p.count;
              few = p.few;
            })
            (λ w. r.drawn k u w.1 n d)
            (at_set s.views id k l u t.1))
            (λ t. let none : None ≡ Some n = ap (λ (y : SeatView M). y.drawn) t.1 ∙ d in absurd (cc))
            (at_push (set s.views id l) x u k au);
      }

  -- ---- one seat takes in what another one has

  pub joins : (id other : ℕ) (v w : SeatView M) → v.env ≡ env
      → Joins (Holds mix env) id v other w (joined v w) (spent_view M)
  joins id other v w same s r at ne at_other =
      let both : SeatView M = joined v w in
      let gone : SeatView M = spent_view M in
      let at_w : get_elem? s.views other ≡ some w =
      ⊎_elim (λ t. absurd (ne t.0)) (λ t. t.1) (at_set s.views id other both w at_other) in
      let from : (k : ℕ) (u : SeatView M) → get_elem? (set (set s.views id both) other gone) k ≡ some u
      → (gone ≡ u) ⊎ (((k ≡ id) × (both ≡ u)) ⊎ ((k ≢ id) × (k ≢ other) × (get_elem? s.views k ≡ some u))) =
      λ k u au. ⊎_elim (λ t. inl t.1)
      (λ t. inr (⊎_elim inl (λ q. inr (q.0, t.0, q.1)) (at_set s.views id k both u t.1)))
      (at_set (set s.views id both) other k gone u au) in
      let own : ℕ → ℕ = λ n. cond (nat_eq (r.owner n) other) id (r.owner n) in
      let own_other : (n : ℕ) → r.owner n ≡ other → own n ≡ id =
      λ n q. same_as (r.owner n) other id (r.owner n) q in
      let own_old : (n k : ℕ) → r.owner n ≡ k → k ≢ other → own n ≡ k =
      λ n k q z. apart_from (r.owner n) other id (r.owner n) (λ y. z (sym q ∙ y)) ∙ q in
      let env_of : (u : SeatView M) → both ≡ u → u.env ≡ env = λ u e. ap (λ (y : SeatView M). y.env) (sym e) ∙ same in
      record {
        events = r.events;
        admitted = r.admitted;
        words = r.words;
        counted = r.counted;
        shows = λ k u au g i. ⊎_elim
            (λ t. absurd (subst (λ (y : SeatView M). In g y.held) (sym t) i))
            (⊎_elim
            (λ t. record {
              same_env = env_of u t.1;
              shows = ⊎_elim (λ a. (r.shows id v at g a).shows) (λ b. (r.shows other w at_w g b).shows)
                  (in_append g v.held w.held (subst (λ (y : SeatView M). In g y.held) (sym t.1) i));
            })
            (λ t. r.shows k u t.2 g i))
            (from k u au);
        owner = own;
        owned = λ k u au g i. ⊎_elim
            (λ t. absurd (subst (λ (y : SeatView M). In g y.held) (sym t) i))
            (⊎_elim
            (λ t. ⊎_elim
            (λ a. own_old g.number id (r.owned id v at g a) (λ q. ne (sym q)) ∙ sym t.0)
            (λ b. own_other g.number (r.owned other w at_w g b) ∙ sym t.0)
            (in_append g v.held w.held (subst (λ (y : SeatView M). In g y.held) (sym t.1) i)))
            (λ t. own_old g.number k (r.owned k u t.2 g i) t.1))
            (from k u au);
        drawer = cond (nat_eq r.drawer other) id r.drawer;
        drawn = λ k u au n d. ⊎_elim
            (λ t. let none : None ≡ Some n = ap (λ (y : SeatView M). y.drawn) t ∙ d in absurd (cc))
            (⊎_elim
            (λ t. let said : either_drawn v.drawn w.drawn ≡ Some n = ap (λ (y : SeatView M). y.drawn) t.1 ∙ d in
            ⊎_elim
            (λ a. let p = r.drawn id v at n a in record {
              same_seat = t.0 ∙ p.same_seat
                  ∙ sym (apart_from r.drawer other id r.drawer (λ y. ne (sym (p.same_seat ∙ y))));
              same_env = env_of u t.1;
              count = p.count;
              few = p.few;
            })
            (λ b. let p = r.drawn other w at_w n b in record {
              same_seat = t.0 ∙ sym (same_as r.drawer other id r.drawer (sym p.same_seat));
              same_env = env_of u t.1;
              count = p.count;
              few = p.few;
            })
            (drawn_either v.drawn w.drawn n said))
            (λ t. let p = r.drawn k u t.2 n d in record {
              same_seat = p.same_seat ∙ sym (apart_from r.drawer other id r.drawer (λ y. t.1 (p.same_seat ∙ y)));
              same_env = p.same_env;
              count = p.count;
              few = p.few;
            }))
            (from k u au);
      }
