-- A pass that goes on with its call, operation by operation. Each leaves it in the call, or ends that; and whichever call it is in, with
-- so many operations behind it, it has as many more.
use Rattle.std.proofs.Common.{◌≡◌, ℕ, ◌+◌, ◌<◌, false, List, [], ◌∷◌, ◌++◌, length, refl, sym, ap, ◌∙◌, subst, arith}
use Rattle.std.proofs.lemmas.List.{length_push}
use Rattle.std.specs.Prelude.{Option, Some, None}
use Rattle.rht_model.specs.declared.history.Call.{Call}
use Rattle.rht_model.specs.declared.history.Reply.{Reply}
use Rattle.rht_core.specs.Locals.{is_idle}
use Rattle.rht_core.specs.Runs.{View}
use Rattle.rht_core.specs.Laws.{view_stepped}
use Rattle.rht_core.proofs.Events.BusyCallers.{goes_on, ends}
use Rattle.rht_run.specs.declared.table.Table.{Table}
use Rattle.rht_run.specs.declared.pass.Pass.{Pass}
use Rattle.rht_run.specs.Passes.{IsPassOf, IsSamePass, IsCalling, Turned, HasGone, seen_by}
use Rattle.rht_session.specs.Sessions.{view_behind, HasGoneOn}
use Rattle.rht_session.proofs.CallEnds.{ended}

module _ {M : Type 0} (mix : ℕ → ℕ → ℕ → ℕ) where
  -- one word more is found behind these; by induction over them
  view_behind-push : (found : List ℕ) (old : ℕ) (view : View M)
      → view_behind mix (found ++ old ∷ []) view ≡ view_stepped mix old (view_behind mix found view)
  view_behind-push [] old view = refl
  view_behind-push (first ∷ found) old view = view_behind-push found old (view_stepped mix first view)

  module _ (t : Table M) (before : Pass M) where
    -- the pass is in its call still, so many operations behind where it was
    pub record IsOnItsWay (made : ℕ) (now : Pass M) : Type 0 where
      pub pass : IsPassOf mix t now
      pub same : IsSamePass before now
      pub busy : is_idle now.local ≡ false
      pub found : List ℕ
      pub count : length found ≡ made
      pub seen : seen_by now ≡ view_behind mix found (seen_by before)
      pub calling : (call : Call) (steps : ℕ) (p : Pass M) → IsCalling mix t call steps p before
          → IsCalling mix t call (steps + made) p now

    -- what is said of one operation of a pass
    abbrev pub Turns : Pass M → Option Reply → Pass M → Type 0
    Turns now reply after = (call : Call) (steps : ℕ) (p : Pass M) → IsCalling mix t call steps p now
        → Turned mix t call (steps + 1) p reply after

    -- it has made none yet
    pub sets_out : IsPassOf mix t before → is_idle before.local ≡ false → IsOnItsWay 0 before
    sets_out is busy = record {
      pass = is;
      same = record { table = refl; number = refl };
      busy = busy;
      found = [];
      count = refl;
      seen = refl;
      calling = λ call steps p calling. let none : steps ≡ steps + 0 = omega arith in
          subst (λ (n : ℕ). IsCalling mix t call n p before) none calling;
    }

    module _ (made : ℕ) (now after : Pass M) (is : IsOnItsWay made now) where
      -- the words that are found with one more
      module _ (reply : Option Reply) (gone : HasGone mix t None now reply after) where
        counted : length (is.found ++ gone.old ∷ []) ≡ made + 1
        counted = length_push is.found gone.old ∙ ap (λ (n : ℕ). n + 1) is.count

        seen_more : seen_by after ≡ view_behind mix (is.found ++ gone.old ∷ []) (seen_by before)
        seen_more = gone.seen ∙ ap (view_stepped mix gone.old) is.seen ∙ sym (view_behind-push is.found gone.old (seen_by before))

      -- one more has left it in the call
      pub goes_farther : HasGone mix t None now None after → IsPassOf mix t after → IsSamePass now after → Turns now None after
          → IsOnItsWay (made + 1) after
      goes_farther gone pass same turns = record {
        pass = pass;
        same = record { table = same.table ∙ is.same.table; number = same.number ∙ is.same.number };
        busy = ap (λ (v : View M). is_idle v.local) gone.seen ∙ goes_on M mix now.local gone.old is.busy (sym gone.replied);
        found = is.found ++ gone.old ∷ [];
        count = counted None gone;
        seen = seen_more None gone;
        calling = λ call steps p calling. let more : steps + made + 1 ≡ steps + (made + 1) = omega arith in
            subst (λ (n : ℕ). IsCalling mix t call n p after) more (turns call (steps + made) p (is.calling call steps p calling));
      }

      -- one more has ended the call
      pub comes_to : (most : ℕ) (reply : Reply) → made < most → HasGone mix t None now (Some reply) after → IsPassOf mix t after
          → IsSamePass now after → Turns now (Some reply) after → HasGoneOn mix t most before (Some reply) after
      comes_to most reply below gone pass same turns = let many = counted (Some reply) gone in record {
        pass = pass;
        same = record { table = same.table ∙ is.same.table; number = same.number ∙ is.same.number };
        found = is.found ++ gone.old ∷ [];
        some = omega (arith, many);
        few = omega (arith, many, below);
        all = tt;
        seen = seen_more (Some reply) gone;
        ended = ap (λ (v : View M). is_idle v.local) gone.seen ∙ ends M mix now.local gone.old reply is.busy (sym gone.replied);
        turned = λ call steps p calling.
            ended mix t call p after reply (turns call (steps + made) p (is.calling call steps p calling));
      }

    -- it has made all that it may
    pub stops : (most : ℕ) (now : Pass M) → 0 < most → IsOnItsWay most now → HasGoneOn mix t most before None now
    stops most now some is = let many = is.count in record {
      pass = is.pass;
      same = is.same;
      found = is.found;
      some = omega (arith, many, some);
      few = omega (arith, many);
      all = many;
      seen = is.seen;
      ended = is.busy;
      turned = λ call steps p calling. subst (λ (n : ℕ). IsCalling mix t call (steps + n) p now) (sym many) (is.calling call steps p calling);
    }
