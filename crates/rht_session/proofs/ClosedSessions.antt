-- Sessions of one table, whose passes are gathered one after another.
use Rattle.std.proofs.Common.{◌≡◌, ℕ, zero, suc, ◌+◌, ◌<◌, ⊎_elim, Bool, ◌&&◌, List, [], ◌∷◌, ◌++◌, length, map, take, drop, get_or, refl, sym, ap, ◌∙◌, subst, arith}
use Rattle.std.proofs.lemmas.List.{length-map, get_or-map, map_more, take_all}
use Rattle.std.specs.Prelude.{Option, Some, None, IfSome}
use Rattle.std.specs.List.{AllByRecursion, list_all}
use Rattle.std.specs.Arc.{arc_value}
use Rattle.std.specs.declared.sync.Arc.{Arc}
use Rattle.std.specs.Global.{Global}
use Rattle.rht_model.specs.declared.bindings.Closed.{Closed}
use Rattle.rht_policy.specs.declared.mix.Lookup3.{Lookup3}
use Rattle.rht_policy.specs.declared.mix.Low.{Low}
use Rattle.rht_policy.specs.Mix.{final_mix, low_mix}
use Rattle.rht_run.specs.declared.table.Table.{Table}
use Rattle.rht_run.specs.declared.pass.Pass.{Pass}
use Rattle.rht_run.specs.declared.closing.ClosingSpace.{ClosingSpace}
use Rattle.rht_run.specs.Passes.{IsPassOf, Among, IsClosedWith}
use Rattle.rht_run.specs.ClosingSpaces.{IsSpaceFor}
use Rattle.rht_session.specs.declared.shared.Shared.{Shared}
use Rattle.rht_session.specs.declared.session.Session.{Session}
use Rattle.rht_session.specs.declared.session.Session.TheVariants as sessions
use Rattle.rht_session.specs.Sessions.{table_of, IsFit}
use Rattle.rht_session.specs.Closings.{ShareATable, ShareOneTable, IsClosedOver}

-- ---- a list by its first item

pub first_of : {A : Type 0} (items : List A) (first default : A) → 0 < length items → first ≡ get_or items 0 default
    → items ≡ first ∷ drop 1 items
first_of [] first default some is = absurd (omega (arith, some))
first_of (item ∷ items) first default some is = ap (λ x. x ∷ items) (sym is)

-- a test of what is read off items
pub all_read : {A B : Type 0} (test : B → Bool) (read : A → B) (items : List A)
    → list_all (λ (a : A). test (read a)) items ≡ list_all test (map read items)
all_read test read [] = refl
all_read test read (item ∷ items) = ap (λ b. test (read item) && b) (all_read test read items)

-- ---- sessions of one table, by their hash

module _ {M : Type 0} (mix : ℕ → ℕ → ℕ → ℕ) (t : Table M) where
  -- it shares this table, and its pass is one of it
  pub record IsOf (shared : Shared M) : Type 0 where
    pub table : table_of shared ≡ t
    pub pass : IsPassOf mix t shared.pass

  pub tables : (all : List (Shared M)) → AllByRecursion IsOf all → AllByRecursion (λ s. table_of s ≡ t) all
  tables [] are = tt
  tables (shared ∷ all) are = (are.0.table, tables all are.1)

  pub among_pass : (all : List (Shared M)) → AllByRecursion IsOf all → (pass : Pass M) → Among pass (map (λ (s : Shared M). s.pass) all)
      → IsPassOf mix t pass
  among_pass [] are pass among = absurd among
  among_pass (shared ∷ all) are pass among =
      ⊎_elim (λ (e : pass ≡ shared.pass). subst (IsPassOf mix t) (sym e) are.0.pass) (λ a. among_pass all are.1 pass a) among

  pub one_of : (all : List (Shared M)) (place : ℕ) (default : Shared M) → AllByRecursion IsOf all → place < length all
      → IsOf (get_or all place default)
  one_of [] place default are below = absurd (omega (arith, below))
  one_of (shared ∷ all) zero default are below = are.0
  one_of (shared ∷ all) (suc place) default are below = one_of all place default are.1 (omega (arith, below))

module _ {M : Type 0} (mix : ℕ → ℕ → ℕ → ℕ) (kind : Shared M → Session) where
  -- these are of this hash, and of one table
  pub record AreOf (t : Table M) (all : List Session) : Type 0 where
    pub shared : List (Shared M)
    pub all_are : all ≡ map kind shared
    pub of : AllByRecursion (IsOf mix t) shared

  pub one_more : (t : Table M) (first : Shared M) (others : List Session) → IsOf mix t first → AreOf t others → AreOf t (kind first ∷ others)
  one_more t first others is are = record {
    shared = first ∷ are.shared;
    all_are = ap (λ (l : List Session). kind first ∷ l) are.all_are;
    of = (is, are.of);
  }

none_of : {M : Type 0} (mix : ℕ → ℕ → ℕ → ℕ) (kind : Shared M → Session) (t : Table M) → AreOf mix kind t []
none_of mix kind t = record { shared = []; all_are = refl; of = tt }

-- by induction over the sessions that share their table with one
mixed_others : (first : Shared Lookup3) (others : List Session) → AllByRecursion (ShareATable (sessions.Mix first)) others
    → AllByRecursion IsFit others → AreOf final_mix sessions.Mix (table_of first) others
mixed_others first [] share fit = none_of final_mix sessions.Mix (table_of first)
mixed_others first (sessions.Mix other ∷ others) share fit =
    one_more final_mix sessions.Mix (table_of first) other others
    (record { table = sym share.0; pass = subst (λ (t : Table Lookup3). IsPassOf final_mix t other.pass) (sym share.0) fit.0 })
    (mixed_others first others share.1 fit.1)
mixed_others first (sessions.Low other ∷ others) share fit = absurd share.0

low_others : (first : Shared Low) (others : List Session) → AllByRecursion (ShareATable (sessions.Low first)) others
    → AllByRecursion IsFit others → AreOf low_mix sessions.Low (table_of first) others
low_others first [] share fit = none_of low_mix sessions.Low (table_of first)
low_others first (sessions.Low other ∷ others) share fit =
    one_more low_mix sessions.Low (table_of first) other others
    (record { table = sym share.0; pass = subst (λ (t : Table Low). IsPassOf low_mix t other.pass) (sym share.0) fit.0 })
    (low_others first others share.1 fit.1)
low_others first (sessions.Mix other ∷ others) share fit = absurd share.0

pub mixed_of : (all : List Session) (first : Shared Lookup3) (others : List Session) → all ≡ sessions.Mix first ∷ others
    → ShareOneTable all → AllByRecursion IsFit all → AreOf final_mix sessions.Mix (table_of first) all
mixed_of all first others are share fit =
    let share_all : AllByRecursion (ShareATable (sessions.Mix first)) others = subst ShareOneTable are share in
    let fit_all = subst (AllByRecursion IsFit) are fit in
    subst (AreOf final_mix sessions.Mix (table_of first)) (sym are)
    (one_more final_mix sessions.Mix (table_of first) first others (record { table = refl; pass = fit_all.0 })
    (mixed_others first others share_all fit_all.1))

pub low_of : (all : List Session) (first : Shared Low) (others : List Session) → all ≡ sessions.Low first ∷ others
    → ShareOneTable all → AllByRecursion IsFit all → AreOf low_mix sessions.Low (table_of first) all
low_of all first others are share fit =
    let share_all : AllByRecursion (ShareATable (sessions.Low first)) others = subst ShareOneTable are share in
    let fit_all = subst (AllByRecursion IsFit) are fit in
    subst (AreOf low_mix sessions.Low (table_of first)) (sym are)
    (one_more low_mix sessions.Low (table_of first) first others (record { table = refl; pass = fit_all.0 })
    (low_others first others share_all fit_all.1))

-- ---- gathering their passes

if_some_else : {A : Type 0} {P Q : A → Type 0} (found : Option A) → ((a : A) → P a → Q a) → IfSome found P → IfSome found Q
if_some_else None turn has = tt
if_some_else (Some a) turn has = turn a has

module _ {M : Type 0} (mix : ℕ → ℕ → ℕ → ℕ) (kind : Shared M → Session) where
  -- Sessions of one table, with space for its closing. So many passes are gathered, and if any is, the table is kept too.
  pub record IsGathered (all : List Session) (space : ClosingSpace) (made : ℕ) (passes : List (Pass M)) (table : Option (Arc (Table M) Global))
      : Type 0 where
    pub t : Table M
    pub are : AreOf mix kind t all
    pub space_for : IsSpaceFor t.env.geometry space
    pub gathered : passes ≡ map (λ (s : Shared M). s.pass) (take made are.shared)
    pub own : IfSome table (λ (a : Arc (Table M) Global). arc_value a ≡ t)

  -- which kind the session at a place is of
  kind_at : (shared : List (Shared M)) (place : ℕ) (session : Session) → place < length (map kind shared)
      → session ≡ get_or (map kind shared) place session → (s : Shared M) × (session ≡ kind s)
  kind_at [] place session below is = absurd (omega (arith, below))
  kind_at (s ∷ shared) zero session below is = (s, is)
  kind_at (s ∷ shared) (suc place) session below is = kind_at shared place session (omega (arith, below)) is

  -- among sessions that are all of this kind
  pub kind_among : (all : List Session) (shared : List (Shared M)) → all ≡ map kind shared → (place : ℕ) → place < length all
      → (session : Session) → session ≡ get_or all place session → (s : Shared M) × (session ≡ kind s)
  kind_among all shared are place below session at =
      kind_at shared place session (subst (λ (l : List Session). place < length l) are below)
      (at ∙ ap (λ (l : List Session). get_or l place session) are)

  module _ (all : List Session) (space : ClosingSpace) where
    -- the pass of one more
    pub gathers : ((a b : Shared M) → kind a ≡ kind b → a ≡ b) → (made : ℕ) (passes : List (Pass M)) (table : Option (Arc (Table M) Global))
        → IsGathered all space made passes table → made < length all → (session : Session) → session ≡ get_or all made session
        → (s : Shared M) → session ≡ kind s → IsGathered all space (made + 1) (passes ++ s.pass ∷ []) (Some s.table)
    gathers same made passes table is below session at s of_kind =
        let shared = is.are.shared in
        let many : length all ≡ length shared = ap length is.are.all_are ∙ length-map shared kind in
        let inside : made < length shared = omega (arith, below, many) in
        let here : s ≡ get_or shared made s =
        same s (get_or shared made s) (sym of_kind ∙ at ∙ ap (λ (l : List Session). get_or l made session) is.are.all_are
        ∙ get_or-map kind shared made s session inside) in
        record {
          t = is.t;
          are = is.are;
          space_for = is.space_for;
          gathered = ap (λ l. l ++ s.pass ∷ []) is.gathered
              ∙ ap (λ (x : Shared M). map (λ (y : Shared M). y.pass) (take made shared) ++ x.pass ∷ []) here
              ∙ sym (map_more (λ (y : Shared M). y.pass) shared made s inside);
          own = ap (λ (x : Shared M). table_of x) here ∙ (one_of mix is.t shared made s is.are.of inside).table;
        }

    -- all of them
    module _ (made : ℕ) (passes : List (Pass M)) (own : Arc (Table M) Global) (is : IsGathered all space made passes (Some own))
        (whole : made ≡ length all) where
      pub passes_are : passes ≡ map (λ (s : Shared M). s.pass) is.are.shared
      passes_are =
          let many : length all ≡ length is.are.shared = ap length is.are.all_are ∙ length-map is.are.shared kind in
          is.gathered ∙ ap (map (λ (s : Shared M). s.pass)) (take_all made is.are.shared (omega (arith, many, whole)))

      pub count : length passes ≡ length all
      count = ap length passes_are ∙ length-map is.are.shared (λ (s : Shared M). s.pass)
          ∙ sym (ap length is.are.all_are ∙ length-map is.are.shared kind)

      pub all_passes : (pass : Pass M) → Among pass passes → IsPassOf mix (arc_value own) pass
      all_passes pass among = subst (λ (t : Table M). IsPassOf mix t pass) (sym is.own)
          (among_pass mix is.t is.are.shared is.are.of pass (subst (Among pass) passes_are among))

      pub space_is : IsSpaceFor (arc_value own).env.geometry space
      space_is = subst (λ (t : Table M). IsSpaceFor t.env.geometry space) (sym is.own) is.space_for

      pub closed_over : (found : Option Closed) → IfSome found (IsClosedWith mix (arc_value own).env passes)
          → IfSome found (IsClosedOver mix kind all)
      closed_over found has = if_some_else found (λ closed with. record {
        table = is.t;
        shared = is.are.shared;
        all_are = is.are.all_are;
        one = tables mix is.t is.are.shared is.are.of;
        with = subst (λ (l : List (Pass M)). IsClosedWith mix is.t.env l closed) passes_are
            (subst (λ (t : Table M). IsClosedWith mix t.env passes closed) is.own with);
      }) has
