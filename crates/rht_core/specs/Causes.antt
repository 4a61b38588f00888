-- Why calls were answered as they were: a table of causes, by call and by reply, over the call's own operations.
-- Each row says what the operations of a call that ended with this reply have to show. A row with nothing to show says so. The
-- last row of a table stands for all other replies, which aren't the call's and can have no cause. So it lets nothing pass.
use Rattle.std.specs.Prelude.{◌≡◌, ◌↔◌, ℕ, ◌+◌, ◌-◌, ◌<◌, ◌≤◌, ◌⊎◌, Bool, true, Option, List, ◌∷◌, ◌++◌, map}
use Rattle.std.specs.List.{AllByRecursion, Any}
use Rattle.rht_words.specs.declared.op.Op.TheVariants.{Load, Sub}
use Rattle.rht_words.specs.declared.env.Env.{Env}
use Rattle.rht_words.specs.declared.config.Kind.TheVariants.{Single}
use Rattle.rht_words.specs.declared.geometry.Geometry.{Geometry}
use Rattle.rht_words.specs.Places.{PortCount, place_of}
use Rattle.rht_words.specs.Shapes.{unpacked, size_of}
use Rattle.rht_policy.specs.Thresholds.{is_above_75}
use Rattle.rht_policy.specs.Sizes.{most_ports}
use Rattle.rht_model.specs.declared.history.Call.{Call}
use Rattle.rht_model.specs.declared.history.Call.TheVariants.{Bind, Find, All, Release, Rebind, Walk, Work, Tidy, Count}
use Rattle.rht_model.specs.declared.history.Cursor.{Cursor}
use Rattle.rht_model.specs.declared.history.Reply.{Reply}
use Rattle.rht_model.specs.declared.history.Reply.TheVariants.{Bound, Exists, Found, Missing, Listed, Released, Absent, Rebound, TooBig, Again, Busy, NoTable, NoNode, Elsewhere, Moved, Idle, Counted, Clear, Pending, Walked}
use Rattle.rht_arena.specs.Laws.{SeesTaken}
use Rattle.rht_core.specs.declared.event.Event.{Event}
use Rattle.rht_core.specs.Runs.{IsAdmitted}
use Rattle.rht_core.specs.Traces.{Did, Past, performed_of, traced_of}
use Rattle.rht_core.specs.Due.{is_due_to_shrink}
use Rattle.rht_core.specs.Seen.{TurnsNoSection, LastWalked, CountedAt, SawCount, words_before}
use Rattle.rht_core.specs.ResizeCauses.{IsUnboundAt, AttachesSome, HasFollowed, SawBusy, SawNoTable, SawNoPage}
pub use Rattle.rht_core.specs.RoomCauses.{IsRaise}
use Rattle.rht_core.specs.RoomCauses.{HadRoom}
use Rattle.rht_core.specs.Tidied.{HasTidied}
use Rattle.rht_core.specs.TidyCauses.{HasGiven, SawInSection}
use Rattle.rht_core.specs.WalkCauses.{SawForWalk}
use Rattle.rht_core.specs.WorkCauses.{SawElsewhere, SawNoTableDue, SawNothingDue, SawMoved}

-- why a look-up ended with this reply: it has nothing to show for its answers
abbrev pub FindCause : Reply → Type 0
FindCause (Found owner) = Unit {0}
FindCause Missing = Unit {0}
FindCause _ = ⊥

-- why a listing ended with this reply: it has nothing to show for its owners
abbrev pub AllCause : Reply → Type 0
AllCause (Listed len) = Unit {0}
AllCause _ = ⊥

-- the call found the bit of every node clear
abbrev pub SawNoNode : Env → Past → Type 0
SawNoNode env past =
    (node : ℕ) → node < env.geometry.nodes → Any (SeesTaken env.geometry node) (map performed_of past.steps)

-- why a rebind ended with this reply: for want of a node, as a bind; its other answers have nothing to show
abbrev pub RebindCause : Env → Past → Reply → Type 0
RebindCause env past Rebound = Unit {0}
RebindCause env past Absent = Unit {0}
RebindCause env past NoNode = SawNoNode env past
RebindCause env past _ = ⊥

-- Why a resizing of this caller ended with this reply: another caller was at work, a table was due that couldn't be had, or nothing was due.
-- Or another table became the current one, or the move stopped before a nested one. `words_at` gives the words before the event with each
-- number.
abbrev pub WorkCause : Env → ℕ → (ℕ → List ℕ) → Past → Reply → Type 0
WorkCause env c words_at past Elsewhere = SawElsewhere env.geometry past.steps
WorkCause env c words_at past (Moved again) = SawMoved env c words_at again past.steps
WorkCause env c words_at past Idle = SawNothingDue env c past.steps
WorkCause env c words_at past (NoTable size) = SawNoTableDue env c size past.steps
WorkCause env c words_at past _ = ⊥

-- why a walk of this caller from this cursor ended with this reply, and with its pairs
abbrev pub WalkCause : Env → ℕ → Option Cursor → ℕ → Past → Reply → Type 0
WalkCause env c from limit past (Walked len next) = SawForWalk env c from limit (Walked len next) past.done.pairs past.steps
WalkCause env c from limit past (Again table) = SawForWalk env c from limit (Again table) past.done.pairs past.steps
WalkCause env c from limit past _ = ⊥

-- and by the raised count a table of this shape is due to grow
pub record IsDueBy (env : Env) (shape : ℕ) (did : Did) : Type 0 where
  pub raised : IsRaise env.geometry did
  pub due : is_above_75 (did.old + 1) (size_of (unpacked shape)) env.config.max ≡ true

-- A bind says that there is something to do for `work` exactly where it attached a table, or, behind the last table that
-- it walked, raised the count and that table is due to grow by this. It has raised none before. In a table of one owner each it
-- did raise the count; in one of lists a port that is bound already raises none.
pub record KicksRightly (env : Env) (kick : Bool) (steps : List Did) : Type 0 where
  pub table : ℕ
  pub shape : ℕ
  pub walked : LastWalked env.geometry table shape steps
  pub unraised : AllByRecursion (λ did. IsRaise env.geometry did → ⊥) walked.before
  pub kicks : (kick ≡ true) ↔ (Any (AttachesSome env.geometry) steps ⊎ Any (IsDueBy env shape) walked.behind)
  pub raised : env.config.kind ≡ Single → Any (IsRaise env.geometry) walked.behind

-- the operation lowered the count of ports
abbrev pub IsLowering : Geometry → Did → Type 0
IsLowering g did = did.op ≡ Sub (place_of g PortCount) 1

-- and by the lowered count a table of this shape is due to shrink
pub record IsSparseBy (env : Env) (shape : ℕ) (did : Did) : Type 0 where
  pub lowered : IsLowering env.geometry did
  pub due : is_due_to_shrink env (did.old - 1) (size_of (unpacked shape)) ≡ true

-- A release says that there is something to do for `work` exactly where, behind the last table that it walked, it lowered the count
-- and that table is due to shrink by this. It has lowered none before.
pub record KicksOnRelease (env : Env) (kick : Bool) (steps : List Did) : Type 0 where
  pub table : ℕ
  pub shape : ℕ
  pub walked : LastWalked env.geometry table shape steps
  pub unlowered : AllByRecursion (λ did. IsLowering env.geometry did → ⊥) walked.before
  pub kicks : (kick ≡ true) ↔ Any (IsSparseBy env shape) walked.behind

-- why a release ended with this reply: its kick has a cause, and its other answer has nothing to show
abbrev pub ReleaseCause : Env → Past → Reply → Type 0
ReleaseCause env past (Released kick) = KicksOnRelease env kick past.steps
ReleaseCause env past Absent = Unit {0}
ReleaseCause env past _ = ⊥

module _ (M : Type 0) (mix : ℕ → ℕ → ℕ → ℕ) where
  -- the operation loaded this count of ports, which is as many as the table may hold or more, and so many there were
  pub record SawFull (env : Env) (events : List Event) (c count : ℕ) (did : Did) : Type 0 where
    pub loaded : did.op ≡ Load (place_of env.geometry PortCount)
    pub found : did.old ≡ count
    pub full : most_ports env.config.max ≤ count
    pub counted : CountedAt M mix env events c count did

  -- A bind of this port is refused since there are too many ports: behind the load of the shape of the last table that it walked,
  -- in the same section, it loaded this count, while the port had no owner.
  pub record SawTooBig (env : Env) (events : List Event) (c port count : ℕ) (steps : List Did) : Type 0 where
    pub table : ℕ
    pub shape : ℕ
    pub walked : LastWalked env.geometry table shape steps
    pub before : List Did
    pub at : Did
    pub rest : List Did
    pub split : walked.behind ≡ before ++ at ∷ rest
    pub inside : AllByRecursion (TurnsNoSection env.geometry) before
    pub unbound : IsUnboundAt env.geometry (words_before M mix env events) port at
    pub full : SawFull env events c count at

  -- why a reading of the count ended with this reply
  abbrev pub CountCause : Env → List Event → ℕ → Past → Reply → Type 0
  CountCause env events c past (Counted count) = Any (SawCount M mix env events c count) past.steps
  CountCause env events c past _ = ⊥

  -- why a bind of this port ended with this reply; in a table of lists none ends with `Exists`
  abbrev pub BindCause : Env → List Event → ℕ → ℕ → Past → Reply → Type 0
  BindCause env events c port past (Bound kick) = KicksRightly env kick past.steps × HadRoom M mix env events c port past.steps
  BindCause env events c port past (Exists owner) = env.config.kind ≡ Single
  BindCause env events c port past NoNode = SawNoNode env past
  BindCause env events c port past (TooBig count) = SawTooBig env events c port count past.steps
  BindCause env events c port past (Again table) = HasFollowed M mix env events c port table past.steps
  BindCause env events c port past (Busy root last) = SawBusy M mix env events c port root last past.steps
  BindCause env events c port past (NoTable size) =
      SawNoTable M mix env events c port size past.steps
      ⊎ SawNoPage env.geometry (words_before M mix env events) mix port size past.steps
  BindCause env events c port past _ = ⊥

  -- why a tidying ended with this reply; and its batch is then what it is to be
  abbrev pub TidyCause : Env → List Event → ℕ → Past → Reply → Type 0
  TidyCause env events c past (Clear count) = HasGiven env.geometry count past.steps × HasTidied M mix env events c past
  TidyCause env events c past (Pending caller section) =
      SawInSection env.geometry caller section past.steps × HasTidied M mix env events c past
  TidyCause env events c past _ = ⊥

  -- why a call ended with this reply
  abbrev pub CauseOf : Env → List Event → ℕ → Past → Call → Reply → Type 0
  CauseOf env events c past (Bind port owner once) reply = BindCause env events c port past reply
  CauseOf env events c past (Find port) reply = FindCause reply
  CauseOf env events c past (All port) reply = AllCause reply
  CauseOf env events c past (Release port owner) reply = ReleaseCause env past reply
  CauseOf env events c past (Rebind port owner new) reply = RebindCause env past reply
  CauseOf env events c past Work reply = WorkCause env c (words_before M mix env events) past reply
  CauseOf env events c past Tidy reply = TidyCause env events c past reply
  CauseOf env events c past Count reply = CountCause env events c past reply
  CauseOf env events c past (Walk from limit) reply = WalkCause env c from limit past reply

  -- a call that has ended has the cause of its reply
  abbrev pub HasCause : Env → List Event → ℕ → Past → Type 0
  HasCause env events c past = CauseOf env events c past past.done.call past.done.reply

  -- in every run each call that has ended has a reply with its cause
  abbrev pub Causes : Type 0
  Causes =
      (env : Env) (events : List Event) (c : ℕ) → IsAdmitted events → AllByRecursion (HasCause env events c) ((traced_of {M = M} mix env events).traces c).past
