-- The calls of a command. Its own is made once more behind a tidying, where it found no node. Behind it comes `work`, until that doesn't
-- answer that it is to be made again, where the reply asks for it and the pass makes it by itself. A reply that asks for it comes without
-- lists, and so does one of `work`: so what is in the rooms at the end are the lists of the command's last try.
use Rattle.std.proofs.Common.{◌≡◌, ◌≢◌, ◌⊎◌, inl, inr, ℕ, Bool, true, false, List, [], ◌∷◌, ◌++◌, refl, sym, ◌∙◌, ap, subst, append_assoc}
use Rattle.std.specs.Prelude.{Option, Some, None, is_some, ◌&&◌}
use Rattle.std.specs.List.{AllByRecursion}
use Rattle.std.proofs.lemmas.List.{append-nil}
use Rattle.rht_words.specs.declared.env.Env.{Env}
use Rattle.rht_words.proofs.EachElement.{AllByRecursion-append, AllByRecursion-cut}
use Rattle.rht_model.specs.declared.history.Call.{Call}
use Rattle.rht_model.specs.declared.history.Call.TheVariants.{Bind, Find, All, Release, Rebind, Walk, Work, Tidy, Count}
use Rattle.rht_model.specs.declared.history.Reply.{Reply}
use Rattle.rht_model.specs.declared.history.Reply.TheVariants.{Bound, Exists, Found, Missing, Listed, Released, Absent, Rebound, TooBig, Again, Busy, NoTable, NoNode, Pending, Elsewhere, Walked, Moved, Idle, Clear, Counted}
use Rattle.rht_model.specs.declared.history.Cursor.{Cursor}
use Rattle.rht_model.specs.declared.finished.Finished.{Finished}
use Rattle.rht_model.specs.Endings.{ended_with, replied}
use Rattle.rht_callers.specs.declared.local.Local.{Local}
use Rattle.rht_grace.specs.Batch.{BatchModel}
use Rattle.rht_callers.specs.Batches.{IsBatchIn}
use Rattle.rht_core.specs.Locals.{is_idle, machine_of, tidying_of}
use Rattle.rht_core.specs.Runs.{IsAdmittedCall}
use Rattle.rht_core.specs.Replies.{IsFindReply, IsWorkReply, IsRightlyAnswered, AreOwnersWith, ArePairsWith}
use Rattle.rht_core.specs.Serving.{asks_for_work, AreWorks, AreBehind, AreTries}
use Rattle.rht_core.proofs.Histories.ToldEntries.{tries-last, tries-split}
use Rattle.rht_run.specs.declared.table.Table.{Table}
use Rattle.rht_run.specs.declared.pass.Pass.{Pass}
use Rattle.rht_run.specs.Passes.{IsPassOf, IsSamePass, HasCalled, book_of}
use Rattle.rht_run.specs.Caused.{IsCaused}
use Rattle.rht_run.specs.Rule.{MayBegin}
use Rattle.rht_run.specs.Served.{HasServed, HasTried, HasWorked}
use Rattle.rht_run.proofs.CallSteps.{answers, answered}
use Rattle.rht_run.proofs.CallCauses.{caused}

-- ---- replies without lists

-- a reply that lists neither owners nor pairs comes without either
no_lists : (reply : Reply) (owners : List ℕ) (pairs : List (ℕ × ℕ)) → ((len : ℕ) → reply ≢ Listed len)
    → ((len : ℕ) (next : Option Cursor) → reply ≢ Walked len next) → AreOwnersWith reply owners → ArePairsWith reply pairs
    → (owners ≡ []) × (pairs ≡ [])
no_lists (Bound kick) owners pairs listed walked none nobody = (none, nobody)
no_lists (Exists owner) owners pairs listed walked none nobody = (none, nobody)
no_lists (Found owner) owners pairs listed walked none nobody = (none, nobody)
no_lists Missing owners pairs listed walked none nobody = (none, nobody)
no_lists (Listed len) owners pairs listed walked none nobody = absurd (listed len refl)
no_lists (Released kick) owners pairs listed walked none nobody = (none, nobody)
no_lists Absent owners pairs listed walked none nobody = (none, nobody)
no_lists Rebound owners pairs listed walked none nobody = (none, nobody)
no_lists (TooBig count) owners pairs listed walked none nobody = (none, nobody)
no_lists (Again table) owners pairs listed walked none nobody = (none, nobody)
no_lists (Busy root last) owners pairs listed walked none nobody = (none, nobody)
no_lists (NoTable size) owners pairs listed walked none nobody = (none, nobody)
no_lists NoNode owners pairs listed walked none nobody = (none, nobody)
no_lists (Pending caller section) owners pairs listed walked none nobody = (none, nobody)
no_lists Elsewhere owners pairs listed walked none nobody = (none, nobody)
no_lists (Walked len next) owners pairs listed walked none nobody = absurd (walked len next refl)
no_lists (Moved again) owners pairs listed walked none nobody = (none, nobody)
no_lists Idle owners pairs listed walked none nobody = (none, nobody)
no_lists (Clear returned) owners pairs listed walked none nobody = (none, nobody)
no_lists (Counted count) owners pairs listed walked none nobody = (none, nobody)

-- such is each reply that asks for `work`
asks_no_lists : (call : Call) (reply : Reply) (owners : List ℕ) (pairs : List (ℕ × ℕ)) → asks_for_work call reply ≡ true
    → AreOwnersWith reply owners → ArePairsWith reply pairs → (owners ≡ []) × (pairs ≡ [])
asks_no_lists call reply owners pairs asks =
    no_lists reply owners pairs
    (λ len is. let no : false ≡ true = subst (λ (r : Reply). asks_for_work call r ≡ true) is asks in cc)
    (λ len next is. let no : false ≡ true = subst (λ (r : Reply). asks_for_work call r ≡ true) is asks in cc)

-- and each of `work`
work_no_lists : (reply : Reply) (owners : List ℕ) (pairs : List (ℕ × ℕ)) → IsWorkReply reply
    → AreOwnersWith reply owners → ArePairsWith reply pairs → (owners ≡ []) × (pairs ≡ [])
work_no_lists reply owners pairs right =
    no_lists reply owners pairs (λ len is. subst IsWorkReply is right) (λ len next is. subst IsWorkReply is right)

-- that of a look-up doesn't ask for it
find_asks_none : (port : ℕ) (reply : Reply) → IsFindReply reply → asks_for_work (Find port) reply ≡ false
find_asks_none port (Found owner) right = refl
find_asks_none port Missing right = refl
find_asks_none port _ right = absurd right

-- ---- a machine for the command's own call

-- there is one for a tidying of who has a batch
tidying-machine : (M : Type 0) (env : Env) (batch : Option BatchModel) → IsBatchIn env batch
    → is_some (tidying_of {M = M} env batch) ≡ true
tidying-machine M env None own = absurd own
tidying-machine M env (Some batch) own = refl

-- by cases of the call
made-machine : (M : Type 0) (env : Env) (c : ℕ) (batch : Option BatchModel) (call : Call) → IsBatchIn env batch
    → is_some (machine_of {M = M} env c batch call) ≡ true
made-machine M env c batch (Bind port owner once) own = refl
made-machine M env c batch (Find port) own = refl
made-machine M env c batch (All port) own = refl
made-machine M env c batch (Release port owner) own = refl
made-machine M env c batch (Rebind port owner new) own = refl
made-machine M env c batch (Walk from limit) own = refl
made-machine M env c batch Work own = refl
made-machine M env c batch Tidy own = tidying-machine M env batch own
made-machine M env c batch Count own = refl

-- where there is something it is some thing
some-thing : {A : Type 0} (o : Option A) → is_some o ≡ true → (a : A) × (o ≡ Some a)
some-thing None none = absurd (cc)
some-thing (Some a) some = (a, refl)

-- so a pass in no call, which has its batch, can be given it
pub MayBegin-made : {M : Type 0} (env : Env) (c : ℕ) (call : Call) (local : Local M) → is_idle local ≡ true → IsAdmittedCall call
    → IsBatchIn env local.batch → MayBegin env c call local
MayBegin-made {M} env c call local idle admitted own =
    let machine = some-thing (machine_of {M = M} env c local.batch call) (made-machine M env c local.batch call own) in
    record { idle = idle; admitted = admitted; machine = machine.0; machine_is = machine.1 }

-- ---- the work behind a call

-- `work` was made, and answered that it is to be made again
pub record IsAgain (done : Finished) : Type 0 where
  pub call : done.call ≡ Work
  pub reply : done.reply ≡ Moved true

-- by induction: one that answers otherwise ends it
AreWorks-last : (works : List Finished) (last : Finished) → AllByRecursion IsAgain works → last.call ≡ Work
    → last.reply ≢ Moved true → AreWorks (works ++ last ∷ [])
AreWorks-last [] last again call other = (call, other)
AreWorks-last (d ∷ []) last again call other = (again.0.call, again.0.reply, (call, other))
AreWorks-last (d ∷ next ∷ works) last again call other =
    (again.0.call, again.0.reply, AreWorks-last (next ∷ works) last again.1 call other)

module _ {M : Type 0} (mix : ℕ → ℕ → ℕ → ℕ) (t : Table M) where
  -- so far each `work` that the pass has made since it was as `before` has answered that it is to be made again
  pub record IsWorking (before now : Pass M) : Type 0 where
    pub pass : IsPassOf mix t now
    pub same : IsSamePass before now
    pub idle : is_idle now.local ≡ true
    pub works : List Finished
    pub finished : (book_of now).finished ≡ (book_of before).finished ++ works
    pub again : AllByRecursion IsAgain works

  pub works_begin : (p : Pass M) → IsPassOf mix t p → is_idle p.local ≡ true → IsWorking p p
  works_begin p is idle = record {
    pass = is;
    same = record { table = refl; number = refl };
    idle = idle;
    works = [];
    finished = sym (append-nil (book_of p).finished);
    again = tt;
  }

  module _ (before p after : Pass M) (reply : Reply) (so_far : IsWorking before p) (has : HasCalled mix t Work reply p after)
    where
      -- the `work` that was made now
      abbrev last : Finished
      last = record { call = Work; reply = reply; owners = after.local.owners.items; pairs = after.local.pairs.items }

      same : IsSamePass before after
      same = record { table = has.same.table ∙ so_far.same.table; number = has.same.number ∙ so_far.same.number }

      finished : (book_of after).finished ≡ (book_of before).finished ++ (so_far.works ++ last ∷ [])
      finished =
          has.finished ∙ ap (λ l. l ++ last ∷ []) so_far.finished
          ∙ append_assoc (book_of before).finished so_far.works (last ∷ [])

      pub works_on : reply ≡ Moved true → IsWorking before after
      works_on moved = record {
        pass = has.pass;
        same = same;
        idle = has.idle;
        works = so_far.works ++ last ∷ [];
        finished = finished;
        again =
            AllByRecursion-append IsAgain so_far.works (last ∷ []) so_far.again (record { call = refl; reply = moved }, tt);
      }

      pub works_end : reply ≢ Moved true → HasWorked mix t before after
      works_end other =
          let right = answered mix t Work reply p after has in
          let none = work_no_lists reply after.local.owners.items after.local.pairs.items right.reply right.owners right.pairs in
          record {
            pass = has.pass;
            same = same;
            idle = has.idle;
            works = so_far.works ++ last ∷ [];
            finished = finished;
            are_works = AreWorks-last so_far.works last so_far.again refl other;
            owners = none.0;
            pairs = none.1;
          }

  -- ---- the tries of a command

  -- a try that found a node, or needed none, is the only one
  pub tries_once : (call : Call) (reply : Reply) (before now : Pass M) → reply ≢ NoNode → HasCalled mix t call reply before now
      → HasTried mix t call reply before now
  tries_once call reply before now found has = record {
    pass = has.pass;
    same = has.same;
    idle = has.idle;
    tries = ended_with call (replied reply now.local.owners.items now.local.pairs.items) ∷ [];
    finished = has.finished;
    are_tries = (refl, found);
  }

  -- behind one that found none there are a tidying and another one
  pub tries_again : (call : Call) (first tidied reply : Reply) (before p q now : Pass M) → first ≡ NoNode
      → HasCalled mix t call first before p → HasCalled mix t Tidy tidied p q → HasCalled mix t call reply q now
      → HasTried mix t call reply before now
  tries_again call first tidied reply before p q now none has tidy again =
      let done : Call → Reply → Pass M → Finished =
      λ asked answer pass. ended_with asked (replied answer pass.local.owners.items pass.local.pairs.items) in
      record {
        pass = again.pass;
        same = record {
          table = again.same.table ∙ tidy.same.table ∙ has.same.table;
          number = again.same.number ∙ tidy.same.number ∙ has.same.number;
        };
        idle = again.idle;
        tries = done call first p ∷ done Tidy tidied q ∷ done call reply now ∷ [];
        finished =
            again.finished ∙ ap (λ l. l ++ done call reply now ∷ []) (tidy.finished ∙ ap (λ l. l ++ done Tidy tidied q ∷ []) has.finished)
            ∙ ap (λ l. l ++ done call reply now ∷ [])
            (append_assoc (book_of before).finished (done call first p ∷ []) (done Tidy tidied q ∷ []))
            ∙ append_assoc (book_of before).finished (done call first p ∷ done Tidy tidied q ∷ []) (done call reply now ∷ []);
        are_tries = (refl, none, refl, refl);
      }

  -- the last one was answered rightly
  pub tried_rightly : (call : Call) (reply : Reply) (before now : Pass M) → HasTried mix t call reply before now
      → IsRightlyAnswered (ended_with call (replied reply now.local.owners.items now.local.pairs.items))
  tried_rightly call reply before now has =
      tries-last IsRightlyAnswered call (replied reply now.local.owners.items now.local.pairs.items) has.tries has.are_tries
      (AllByRecursion-cut IsRightlyAnswered (book_of before).finished has.tries
      (subst (AllByRecursion IsRightlyAnswered) has.finished (answers mix t now has.pass).finished)).1

  -- ---- a command

  module _ (auto : Bool) (call : Call) (reply : Reply) (before : Pass M) where
    -- it is its tries alone
    pub serves_alone : (now : Pass M) → (auto ≡ false) ⊎ (asks_for_work call reply ≡ false) → HasTried mix t call reply before now
        → HasServed mix t auto call reply before now
    serves_alone now not has = record {
      pass = has.pass;
      same = has.same;
      idle = has.idle;
      more = has.tries;
      finished = has.finished;
      made = record {
        tries = has.tries;
        behind = [];
        whole = sym (append-nil has.tries);
        are_tries = has.are_tries;
        works = none not;
      };
    }
      where
        none_asked : (auto : Bool) → AreBehind (auto && false) []
        none_asked true = refl
        none_asked false = refl

        none : (auto ≡ false) ⊎ (asks_for_work call reply ≡ false) → AreBehind (auto && asks_for_work call reply) []
        none (inl manual) = rw manual refl
        none (inr asks) = rw asks (none_asked auto)

    -- as it is where that is a look-up
    pub serves_find : (port : ℕ) (now : Pass M) → call ≡ Find port → IsFindReply reply → HasCalled mix t (Find port) reply before now
        → HasServed mix t auto call reply before now
    serves_find port now is right has =
        serves_alone now (inr (rw is (find_asks_none port reply right)))
        (tries_once call reply before now (λ none. subst IsFindReply none right)
        (subst (λ (asked : Call). HasCalled mix t asked reply before now) (sym is) has))

    -- or the work behind it too
    pub serves_works : (p now : Pass M) → auto ≡ true → asks_for_work call reply ≡ true → HasTried mix t call reply before p
        → HasWorked mix t p now → HasServed mix t auto call reply before now
    serves_works p now own asks has worked =
        let right = tried_rightly call reply before p has in
        let none =
        asks_no_lists call reply p.local.owners.items p.local.pairs.items asks right.owners right.pairs in
        let IsEnded : List ℕ → List (ℕ × ℕ) → Type 0 = λ owners pairs. AreTries call (replied reply owners pairs) has.tries in
        let are : IsEnded now.local.owners.items now.local.pairs.items =
        subst (λ o. IsEnded o now.local.pairs.items) (none.0 ∙ sym worked.owners)
        (subst (λ q. IsEnded p.local.owners.items q) (none.1 ∙ sym worked.pairs) has.are_tries) in
        record {
          pass = worked.pass;
          same = record { table = worked.same.table ∙ has.same.table; number = worked.same.number ∙ has.same.number };
          idle = worked.idle;
          more = has.tries ++ worked.works;
          finished =
              worked.finished ∙ ap (λ l. l ++ worked.works) has.finished
              ∙ append_assoc (book_of before).finished has.tries worked.works;
          made = record {
            tries = has.tries;
            behind = worked.works;
            whole = refl;
            are_tries = are;
            works = rw (own, asks) worked.are_works;
          };
        }

    -- the one with which it ended has its cause
    pub served_caused : (now : Pass M) → HasServed mix t auto call reply before now → IsCaused mix t call reply before now
    served_caused now has =
        let done = ended_with call (replied reply now.local.owners.items now.local.pairs.items) in
        let split = tries-split call (replied reply now.local.owners.items now.local.pairs.items) has.made.tries has.made.are_tries in
        let others = (book_of before).finished in
        caused mix t call reply before now split.0 has.made.behind has.pass
        (has.finished
        ∙ ap (λ l. others ++ l)
        (has.made.whole ∙ ap (λ tries. tries ++ has.made.behind) split.1 ∙ append_assoc split.0 (done ∷ []) has.made.behind)
        ∙ sym (append_assoc others split.0 (done ∷ has.made.behind)))
