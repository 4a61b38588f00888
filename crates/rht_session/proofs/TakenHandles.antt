-- Handles whose sessions are taken out one after another, and put back from the last one on.
use Rattle.std.proofs.Common.{◌≡◌, ℕ, ◌+◌, ◌<◌, zero, suc, ◌==◌, Bool, true, false, not, ◌&&◌, List, [], ◌∷◌, ◌++◌, length, map, take, drop, get_or, set, length-set, refl, sym, ap, ◌∙◌, subst, arith}
use Rattle.std.proofs.lemmas.List.{take_more, take_more_set, drop_more, drop-set, drop-set-lt, map_push}
use lib.Dec.{eqb-suc-zero}
use Rattle.std.specs.List.{AllByRecursion, list_all}
use Rattle.rht_session.specs.declared.session.Session.{Session}
use Rattle.rht_session.specs.declared.handle.Handle.{Handle}
use Rattle.rht_session.specs.Sessions.{IsFit}
use Rattle.rht_session.specs.Held.{one_if, is_some}
use Rattle.rht_session.specs.Handles.{sessions_of, is_blank, IsBlank, Holds, IsFitHandle}
use Rattle.rht_session.specs.Closings.{HaveAll, IsWhyNotClosed, IsWhyKept}
use Rattle.rht_session.specs.declared.closing.NotClosed.{NotClosed}
use Rattle.rht_session.specs.declared.closing.NotClosed.TheVariants as reasons
use Rattle.rht_session.proofs.OneSession.{the_one, told_is_some}

-- ---- a test of all, with one more

both_true : (a b : Bool) → (a && b) ≡ true → (a ≡ true) × (b ≡ true)
both_true true b e = (refl, e)
both_true false b e = absurd (cc)

module _ {A : Type 0} (test : A → Bool) where
  all_push : (items : List A) (item : A) → list_all test items ≡ true → test item ≡ true → list_all test (items ++ item ∷ []) ≡ true
  all_push [] item all is = ap (λ b. b && true) is
  all_push (first ∷ items) item all is =
      let both = both_true (test first) (list_all test items) all in
      subst (λ (b : Bool). (b && list_all test (items ++ item ∷ [])) ≡ true) (sym both.0) (all_push items item both.1 is)

  pub all_at : (items : List A) (place : ℕ) (default : A) → list_all test items ≡ true → place < length items
      → test (get_or items place default) ≡ true
  all_at [] place default all below = absurd (omega (arith, below))
  all_at (first ∷ items) zero default all below = (both_true (test first) (list_all test items) all).0
  all_at (first ∷ items) (suc place) default all below =
      all_at items place default (both_true (test first) (list_all test items) all).1 (omega (arith, below))

-- ---- sessions of handles, with one more

have_push : (handles : List Handle) (all : List Session) (handle : Handle) (session : Session) → HaveAll handles all → Holds handle session
    → HaveAll (handles ++ handle ∷ []) (all ++ session ∷ [])
have_push handles all handle session have has =
    map_push sessions_of handles handle ∙ ap (λ l. l ++ sessions_of handle ∷ []) have
    ∙ ap (λ s. map (λ (one : Session). one ∷ []) all ++ s ∷ []) has ∙ sym (map_push (λ (one : Session). one ∷ []) all session)

-- where there is no handle there is no session
pub none_have : (handles : List Handle) (all : List Session) → HaveAll handles all → true ≡ (length handles == 0) → 0 < length all → ⊥
none_have [] [] have none some = omega (arith, some)
none_have [] (session ∷ all) have none some = absurd cc
none_have (handle ∷ handles) all have none some =
    let no : true ≡ false = none ∙ eqb-suc-zero (length handles) in
    absurd cc

-- and where there is a handle there is one
pub some_have : (handles : List Handle) (all : List Session) → HaveAll handles all → (length handles == 0) ≡ false → 0 < length all
some_have [] all have some = absurd cc
some_have (handle ∷ handles) [] have some = absurd cc
some_have (handle ∷ handles) (session ∷ all) have some = omega arith

-- handles that have sessions are open; by induction over them
pub have_open : (handles : List Handle) (all : List Session) → HaveAll handles all
    → list_all (λ (h : Handle). is_some (sessions_of h)) handles ≡ true
have_open [] all have = refl
have_open (handle ∷ handles) [] have = absurd cc
have_open (handle ∷ handles) (session ∷ all) have =
    let here : sessions_of handle ≡ session ∷ [] = cc in
    let behind : HaveAll handles all = cc in
    ap (λ (l : List Session). is_some l && list_all (λ (h : Handle). is_some (sessions_of h)) handles) here ∙ have_open handles all behind

-- and each session is fit where its handle is
pub have_fit : (handles : List Handle) (all : List Session) → HaveAll handles all → AllByRecursion IsFitHandle handles
    → AllByRecursion IsFit all
have_fit [] [] have fit = tt
have_fit [] (session ∷ all) have fit = absurd cc
have_fit (handle ∷ handles) [] have fit = absurd cc
have_fit (handle ∷ handles) (session ∷ all) have fit =
    let here : sessions_of handle ≡ session ∷ [] = cc in
    let behind : HaveAll handles all = cc in
    ((subst (AllByRecursion IsFit) here fit.0).0, have_fit handles all behind fit.1)

-- blank handles are fit
no_session : (sessions : List Session) → not (is_some sessions) ≡ true → sessions ≡ []
no_session [] none = refl
no_session (session ∷ sessions) none = absurd cc

pub all_blank_fit : (handles : List Handle) → list_all is_blank handles ≡ true → AllByRecursion IsFitHandle handles
all_blank_fit [] blank = tt
all_blank_fit (handle ∷ handles) blank =
    let both = both_true (is_blank handle) (list_all is_blank handles) blank in
    (subst (AllByRecursion IsFit) (sym (no_session (sessions_of handle) both.0)) tt, all_blank_fit handles both.1)

-- and such as have the sessions of fit ones
pub all_same_fit : (old new : List Handle) → map sessions_of new ≡ map sessions_of old → AllByRecursion IsFitHandle old
    → AllByRecursion IsFitHandle new
all_same_fit [] [] same fit = tt
all_same_fit [] (handle ∷ new) same fit = absurd cc
all_same_fit (handle ∷ old) [] same fit = tt
all_same_fit (handle ∷ old) (other ∷ new) same fit =
    let here : sessions_of other ≡ sessions_of handle = cc in
    let behind : map sessions_of new ≡ map sessions_of old = cc in
    (subst (AllByRecursion IsFit) (sym here) fit.0, all_same_fit old new behind fit.1)

-- handles that are open have sessions
pub open_have : (handles : List Handle) → list_all (λ (h : Handle). is_some (sessions_of h)) handles ≡ true
    → (all : List Session) × HaveAll handles all
open_have [] are = ([], refl)
open_have (handle ∷ handles) are =
    let both = both_true (is_some (sessions_of handle)) (list_all (λ (h : Handle). is_some (sessions_of h)) handles) are in
    let in_use : handle.in_use ≡ true = told_is_some (sessions_of handle) handle.in_use handle.told ∙ both.0 in
    let one = the_one (sessions_of handle) (handle.told ∙ ap one_if in_use) in
    let others = open_have handles both.1 in
    (one.0 ∷ others.0, ap (λ l. l ∷ map sessions_of handles) one.1 ∙ ap (λ l. (one.0 ∷ []) ∷ l) others.1)

-- why their sessions were kept is why they weren't closed
pub why_kept : (handles : List Handle) (all : List Session) → HaveAll handles all → 0 < length all → (why : NotClosed) → IsWhyKept all why
    → IsWhyNotClosed handles why
why_kept handles all have some reasons.NotOpen is = absurd is
why_kept handles all have some reasons.TwoTables is = (all, is, have)
why_kept handles all have some reasons.InCall is = (all, some, have, is)
why_kept handles all have some reasons.Memory is = (all, some, have)

-- ---- taking them out

-- what the handles before this place had is taken, and they are blank; the others are as they were
pub record AreTaken (old now : List Handle) (place : ℕ) (taken : List Session) : Type 0 where
  pub taken_is : HaveAll (take place old) taken
  pub blank : list_all is_blank (take place now) ≡ true
  pub rest : drop place now ≡ drop place old
  pub count : length now ≡ length old

module _ (old now : List Handle) (place : ℕ) (taken : List Session) (are : AreTaken old now place taken) (below : place < length old)
    (handle : Handle) (here : handle ≡ get_or now place handle) where
  -- the handle at this place is the one that was there
  was : get_or old place handle ≡ handle
  was =
      let count = are.count in
      let both : get_or now place handle ∷ drop (place + 1) now ≡ get_or old place handle ∷ drop (place + 1) old =
      sym (drop_more now place handle (omega (arith, below, count))) ∙ are.rest ∙ drop_more old place handle below in
      let heads : get_or now place handle ≡ get_or old place handle = cc in
      sym (here ∙ heads)

  behind : drop (place + 1) now ≡ drop (place + 1) old
  behind =
      let count = are.count in
      let both : get_or now place handle ∷ drop (place + 1) now ≡ get_or old place handle ∷ drop (place + 1) old =
      sym (drop_more now place handle (omega (arith, below, count))) ∙ are.rest ∙ drop_more old place handle below in
      cc

  -- with the one at this place
  pub one_taken : (after : Handle) (session : Session) → IsBlank after → Holds handle session
      → AreTaken old (set now place after) (place + 1) (taken ++ session ∷ [])
  one_taken after session blank has =
      let count = are.count in
      let below_now : place < length now = omega (arith, below, count) in
      record {
        taken_is = subst (λ (l : List Handle). HaveAll l (taken ++ session ∷ []))
            (sym (take_more old place handle below ∙ ap (λ (h : Handle). take place old ++ h ∷ []) was))
            (have_push (take place old) taken handle session are.taken_is has);
        blank = subst (λ (l : List Handle). list_all is_blank l ≡ true) (sym (take_more_set now place after below_now))
            (all_push is_blank (take place now) after are.blank (ap (λ (l : List Session). not (is_some l)) blank));
        rest = drop-set-lt (place + 1) now place after (omega arith) ∙ behind;
        count = length-set now place after ∙ count;
      }

  -- if all of them were open, there is one
  pub is_open : list_all (λ (h : Handle). is_some (sessions_of h)) old ≡ true → is_some (sessions_of handle) ≡ true
  is_open all = subst (λ (h : Handle). is_some (sessions_of h) ≡ true) was (all_at (λ h. is_some (sessions_of h)) old place handle all below)

-- ---- putting them back

-- the sessions from this place on are in their handles
pub put_one : (handles : List Handle) (all : List Session) (place : ℕ) (after : Handle) (session default : Session)
    → HaveAll (drop (place + 1) handles) (drop (place + 1) all) → place < length handles → place < length all → get_or all place default ≡ session
    → Holds after session → HaveAll (drop place (set handles place after)) (drop place all)
put_one handles all place after session default have below within is has =
    ap (map sessions_of) (drop-set handles place after below)
    ∙ ap (λ l. sessions_of after ∷ l) have
    ∙ ap (λ s. s ∷ map (λ (one : Session). one ∷ []) (drop (place + 1) all)) (has ∙ ap (λ (s : Session). s ∷ []) (sym is))
    ∙ ap (map (λ (one : Session). one ∷ [])) (sym (drop_more all place default within))
