-- Behind the last table that it walked a bind raised the count of ports, or it had nothing to raise. By what
-- the raise found it says whether there is something to do, but where it has attached a table it says so
-- anyway.
use Rattle.std.proofs.Common.{◌≡◌, ◌⊎◌, ℕ, ◌+◌, Bool, ◌≢◌, List, [], ◌∷◌, ◌++◌, min, refl, sym, ap, ◌∙◌, subst, inl, inr, arith}
use Rattle.std.specs.Prelude.{◌||◌}
use Rattle.std.specs.List.{AllByRecursion}
use Rattle.rht_words.specs.declared.op.Op.{Op}
use Rattle.rht_words.specs.declared.op.Op.TheVariants.{Load, Add}
use Rattle.rht_words.specs.declared.env.Env.{Env}
use Rattle.rht_words.specs.declared.config.Kind.TheVariants.{Listed}
use Rattle.rht_words.specs.declared.geometry.Geometry.{Geometry}
use Rattle.rht_words.specs.Operations.{op_place}
use Rattle.rht_words.specs.Places.{PortCount, Section, place_of}
use Rattle.rht_words.proofs.EachElement.{AllByRecursion-cut, AllByRecursion-push}
use Rattle.rht_policy.specs.Thresholds.{is_above_75}
use Rattle.rht_words.specs.Shapes.{unpacked, size_of}
use Rattle.rht_nest.specs.Unmake.{unmake_plan_at}
use Rattle.rht_nest.specs.declared.unmake.UnmakeAt.{UnmakeAt}
use Rattle.rht_nest.specs.declared.unmake.UnmakeAt.TheVariants as unmakes
use Rattle.rht_chain.specs.Relink.{RelinkModel, relink_plan_at}
use Rattle.rht_chain.specs.declared.relink.RelinkAt.{RelinkAt}
use Rattle.rht_chain.specs.declared.relink.RelinkAt.TheVariants as relinks
use Rattle.rht_bind.specs.Bind.{kicks}
use Rattle.rht_bind.specs.declared.bind.Claimed.{Claimed}
use Rattle.rht_core.specs.Traces.{Did}
use Rattle.rht_core.specs.Seen.{IsNoShapeLoad, LastWalked}
use Rattle.rht_core.specs.Causes.{IsRaise}
use Rattle.rht_core.proofs.Reasons.TablesWalked.{IsNoRaise, no_load, LastWalked-push, Walked, WalkedSeeing, walked-quiet}
use Rattle.rht_core.proofs.Reasons.RoomSeen.{RoomSeen, RaisedSeen, RaisedSeen-push}
use Rattle.rht_core.proofs.Reasons.AttachedTables.{IsNoFutureExchange, IsNoAttach, no_attach, AttachedSo, AttachedSo-push}

-- a store of a link loads nothing and adds nothing
pub relink-no_load : (m : RelinkModel) (state : RelinkAt) (place : ℕ) → relink_plan_at m state ≢ Load place
relink-no_load m (relinks.ChainLink before) place load = cc
relink-no_load m (relinks.Word word) place load = cc

pub relink-no_add : (m : RelinkModel) (state : RelinkAt) (place value : ℕ)
    → relink_plan_at m state ≢ Add place value
relink-no_add m (relinks.ChainLink before) place value adds = cc
relink-no_add m (relinks.Word word) place value adds = cc

-- nor does the giving back of a table
pub unmake-no_load : (h : Geometry) (slot : ℕ) (state : UnmakeAt) (place : ℕ)
    → unmake_plan_at h slot state ≢ Load place
unmake-no_load h slot (unmakes.Giving give) place load = cc
unmake-no_load h slot unmakes.SlotBack place load = cc

pub unmake-no_add : (h : Geometry) (slot : ℕ) (state : UnmakeAt) (place value : ℕ)
    → unmake_plan_at h slot state ≢ Add place value
unmake-no_add h slot (unmakes.Giving give) place value adds = cc
unmake-no_add h slot unmakes.SlotBack place value adds = cc

module _ (env : Env) where
  -- the operation tells nothing of the last table that was walked, raises no count, and attaches no table
  pub record IsStill (did : Did) : Type 0 where
    pub no_shape : IsNoShapeLoad env.geometry did
    pub no_raise : IsNoRaise env.geometry did
    pub no_attach : IsNoAttach env.geometry did

  -- such are operations that load nothing, add nothing and attach no table
  pub still : (did : Did) (op : Op) → did.op ≡ op → ((place : ℕ) → op ≢ Load place)
      → ((place value : ℕ) → op ≢ Add place value) → IsNoFutureExchange env.geometry op → IsStill did
  still did op is none no_add apart = record {
    no_shape = no_load env.geometry did op is none;
    no_raise = λ adds. no_add (place_of env.geometry PortCount) 1 (sym is ∙ adds);
    no_attach = no_attach env.geometry did op is apart;
  }

  -- such is what opens or closes a section
  pub turning-still : (c : ℕ) (did : Did) → did.op ≡ Add (place_of env.geometry (Section c)) 1 → IsStill did
  turning-still c did is = record {
    no_shape = no_load env.geometry did _ is (λ place load. cc);
    no_raise = λ adds. absurd (let at : 8 + c ≡ 2 = ap op_place (sym is ∙ adds) in omega (arith, at));
    no_attach = no_attach env.geometry did _ is (λ table old new l e. cc);
  }

  -- what raised no count raised none before the last table was walked, nor behind that
  each_part : (steps : List Did) (table shape : ℕ) (walked : LastWalked env.geometry table shape steps)
      → AllByRecursion (IsNoRaise env.geometry) steps
      → AllByRecursion (IsNoRaise env.geometry) walked.before
      × AllByRecursion (IsNoRaise env.geometry) walked.behind
  each_part steps table shape walked none =
      let parts = AllByRecursion-cut (IsNoRaise env.geometry) walked.before (walked.at ∷ walked.behind)
      (subst (AllByRecursion (IsNoRaise env.geometry)) walked.split none) in (parts.0, parts.1.1)

-- where these are the words before the event with each number
module _ (env : Env) (words_at : ℕ → List ℕ) where
  -- with this count raised a table of this shape is due to grow
  abbrev pub due_by : ℕ → ℕ → Bool
  due_by shape count = is_above_75 (min count 65535 + 1) (size_of (unpacked shape)) env.config.max

  -- where the operation raised the count, this is what a bind that has attached a table or none made of that
  -- for a table of this shape
  abbrev pub SaysOfRaise : Bool → ℕ → Bool → Did → Type 0
  SaysOfRaise attached shape kick did = IsRaise env.geometry did → kick ≡ (attached || due_by shape did.old)

  -- while no count was raised, there is nothing to say of that
  unraised-says : (attached : Bool) (shape : ℕ) (kick : Bool) (steps : List Did)
      → AllByRecursion (IsNoRaise env.geometry) steps → AllByRecursion (SaysOfRaise attached shape kick) steps
  unraised-says attached shape kick [] none = tt
  unraised-says attached shape kick (did ∷ steps) none =
      ((λ adds. absurd (none.0 adds)), unraised-says attached shape kick steps none.1)

-- of a bind of this port
module _ (env : Env) (words_at : ℕ → List ℕ) (mix : ℕ → ℕ → ℕ → ℕ) (port : ℕ) where
  -- a bind in a table of lists had nothing to raise, and raised nothing
  pub record HasNone (kick attached : Bool) (behind : List Did) : Type 0 where
    pub unraised : AllByRecursion (IsNoRaise env.geometry) behind
    pub same : kick ≡ attached
    pub listed : env.config.kind ≡ Listed

  -- behind the last table that it walked a bind raised the count, where there was room, or it had nothing to raise
  pub record Raised (kick : Bool) (steps : List Did) : Type 0 where
    pub attached : Bool
    pub so : AttachedSo env.geometry attached steps
    pub table : ℕ
    pub shape : ℕ
    pub walked : LastWalked env.geometry table shape steps
    pub unraised : AllByRecursion (IsNoRaise env.geometry) walked.before
    pub each : AllByRecursion (SaysOfRaise env words_at attached shape kick) walked.behind
    pub some : RaisedSeen env words_at mix port table shape walked.behind ⊎ HasNone kick attached walked.behind

  pub Raised-push : (kick : Bool) (steps : List Did) (did : Did) → IsStill env did → Raised kick steps
      → Raised kick (steps ++ did ∷ [])
  unfolding LastWalked-push
  Raised-push kick steps did none raised = record {
    attached = raised.attached;
    so = AttachedSo-push env.geometry raised.attached steps did none.no_attach raised.so;
    table = raised.table;
    shape = raised.shape;
    walked =
        LastWalked-push env.geometry raised.table raised.shape steps did none.no_shape raised.walked;
    unraised = raised.unraised;
    each =
        AllByRecursion-push (SaysOfRaise env words_at raised.attached raised.shape kick) raised.walked.behind did
        raised.each
        (λ adds. absurd (none.no_raise adds));
    some = elim raised.some [
      | inl seen ↦ inl (RaisedSeen-push env words_at mix port raised.table raised.shape raised.walked.behind did seen)
      | inr nothing ↦ inr (record {
        unraised = AllByRecursion-push (IsNoRaise env.geometry) raised.walked.behind did nothing.unraised none.no_raise;
        same = nothing.same;
        listed = nothing.listed;
      })
    ];
  }

  -- the count is raised behind the walk, where there was room
  pub raise-saw : (claimed : Claimed) (steps : List Did) (did : Did)
      → did.op ≡ Add (place_of env.geometry PortCount) 1
      → WalkedSeeing env.geometry claimed.table claimed.shape (RoomSeen env words_at mix port claimed.table claimed.shape) steps
      → AttachedSo env.geometry claimed.attempt.attached steps → AllByRecursion (IsNoRaise env.geometry) steps
      → Raised (kicks env claimed did.old) (steps ++ did ∷ [])
  unfolding LastWalked-push
  raise-saw claimed steps did is seeing so none =
      let walked = seeing.walked in
      let behind = walked.last.behind in
      let parts = each_part env steps claimed.table claimed.shape walked.last none in
      let kick = kicks env claimed did.old in
      let attached = claimed.attempt.attached in
      record {
        attached = attached;
        so = AttachedSo-push env.geometry attached steps did
            (no_attach env.geometry did _ is (λ table old new l e. cc)) so;
        table = claimed.table;
        shape = claimed.shape;
        walked =
            LastWalked-push env.geometry claimed.table claimed.shape steps did
            (no_load env.geometry did _ is (λ place load. cc)) walked.last;
        unraised = parts.0;
        each =
            AllByRecursion-push (SaysOfRaise env words_at attached claimed.shape kick) behind did
            (unraised-says env words_at attached claimed.shape kick behind parts.1)
            (λ adds. refl);
        some = inl (record {
          before = behind;
          at = did;
          rest = [];
          split = refl;
          raises = is;
          inside = walked-quiet env.geometry claimed.table claimed.shape steps walked;
          first = parts.1;
          seen = seeing.saw;
        });
      }

  -- a bind that has put its node in front of a list has raised none
  pub none-raised : (claimed : Claimed) (steps : List Did) → env.config.kind ≡ Listed
      → Walked env.geometry claimed.table claimed.shape steps
      → AttachedSo env.geometry claimed.attempt.attached steps → AllByRecursion (IsNoRaise env.geometry) steps
      → Raised claimed.attempt.attached steps
  none-raised claimed steps listed walked so none =
      let parts = each_part env steps claimed.table claimed.shape walked.last none in
      let attached = claimed.attempt.attached in
      record {
        attached = attached;
        so = so;
        table = claimed.table;
        shape = claimed.shape;
        walked = walked.last;
        unraised = parts.0;
        each = unraised-says env words_at attached claimed.shape attached walked.last.behind parts.1;
        some = inr (record { unraised = parts.1; same = refl; listed = listed });
      }
