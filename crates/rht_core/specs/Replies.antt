-- What calls are answered, what a caller's book says of the call in progress, and what its rooms have.
use Rattle.std.specs.Prelude.{◌≡◌, ℕ, if◌then◌else◌, List, [], Option, Some, None}
use Rattle.std.specs.List.{AllByRecursion, last_or}
use Rattle.rht_words.specs.declared.env.Env.{Env}
use Rattle.rht_model.specs.declared.history.Call.TheVariants.{Bind, Find, All, Release, Rebind, Walk, Work, Tidy, Count}
use Rattle.rht_model.specs.declared.finished.Finished.{Finished}
use Rattle.rht_find.specs.Find.{FindModel}
use Rattle.rht_bind.specs.Bind.{BindModel}
use Rattle.rht_release.specs.All.{AllModel}
use Rattle.rht_core.specs.declared.book.Book.{Book}
use Rattle.rht_callers.specs.declared.local.Local.{Local}
use Rattle.rht_release.specs.Release.{ReleaseModel}
use Rattle.rht_release.specs.Rebind.{RebindModel}
use Rattle.rht_move.specs.Work.{WorkModel}
use Rattle.rht_grace.specs.Tidy.{TidyModel}
use Rattle.rht_walk.specs.Walk.{WalkModel}
use Rattle.rht_callers.specs.declared.count.PortCount.{PortCount}
use Rattle.rht_callers.specs.declared.local.Doing.{Doing}
use Rattle.rht_callers.specs.declared.local.Doing.TheVariants.{Idle, Finding, Binding, Releasing, Rebinding, Listing, Working, Counting, Tidying, Walking}
use Rattle.rht_callers.specs.Locals.{is_idle}
pub use Rattle.rht_model.specs.Replies.{IsBindReply, IsFindReply, IsAllReply, IsReleaseReply, IsRebindReply, IsWalkReply, IsWorkReply, IsTidyReply, IsCountReply, IsReplyTo, AreOwnersWith, ArePairsWith}

-- a call that has ended has a reply of its kind, and the lists that come with that
pub record IsRightlyAnswered (done : Finished) : Type 0 where
  pub reply : IsReplyTo done.call done.reply
  pub owners : AreOwnersWith done.reply done.owners
  pub pairs : ArePairsWith done.reply done.pairs

-- ---- the call in progress

-- in no call a caller has made no step
pub record IsBookOfIdle (book : Book) : Type 0 where
  pub call : book.call ≡ None
  pub steps : book.steps ≡ 0

-- the machine works at the call that is in progress, for this caller, in this table
pub record IsBookOfFind (env : Env) (c : ℕ) (m : FindModel) (book : Book) : Type 0 where
  pub same_env : m.env ≡ env
  pub same_caller : m.caller ≡ c
  pub call : book.call ≡ Some (Find m.port)

pub record IsBookOfBind (env : Env) (c : ℕ) (m : BindModel) (book : Book) : Type 0 where
  pub same_env : m.env ≡ env
  pub same_caller : m.caller ≡ c
  pub call : book.call ≡ Some (Bind m.port m.owner m.once)

pub record IsBookOfAll (env : Env) (c : ℕ) (m : AllModel) (book : Book) : Type 0 where
  pub same_env : m.env ≡ env
  pub same_caller : m.caller ≡ c
  pub call : book.call ≡ Some (All m.port)

pub record IsBookOfRelease (env : Env) (c : ℕ) (m : ReleaseModel) (book : Book) : Type 0 where
  pub same_env : m.env ≡ env
  pub same_caller : m.caller ≡ c
  pub call : book.call ≡ Some (Release m.port m.owner)

pub record IsBookOfRebind (env : Env) (c : ℕ) (m : RebindModel) (book : Book) : Type 0 where
  pub same_env : m.env ≡ env
  pub same_caller : m.caller ≡ c
  pub call : book.call ≡ Some (Rebind m.port m.owner m.new_owner)

pub record IsBookOfWork (env : Env) (c : ℕ) (m : WorkModel) (book : Book) : Type 0 where
  pub same_env : m.env ≡ env
  pub same_caller : m.caller ≡ c
  pub call : book.call ≡ Some Work

pub record IsBookOfCount (env : Env) (m : PortCount) (book : Book) : Type 0 where
  pub same_env : m.env ≡ env
  pub call : book.call ≡ Some Count

pub record IsBookOfTidy (env : Env) (m : TidyModel) (book : Book) : Type 0 where
  pub same_geometry : m.geometry ≡ env.geometry
  pub call : book.call ≡ Some Tidy

pub record IsBookOfWalk (env : Env) (c : ℕ) (m : WalkModel) (book : Book) : Type 0 where
  pub same_env : m.env ≡ env
  pub same_caller : m.caller ≡ c
  pub call : book.call ≡ Some (Walk m.from m.limit)

module _ {M : Type 0} where
  -- what a caller does is what its book says
  abbrev pub IsBookOf : Env → ℕ → Doing M → Book → Type 0
  IsBookOf env c Idle book = IsBookOfIdle book
  IsBookOf env c (Finding m) book = IsBookOfFind env c m book
  IsBookOf env c (Binding m) book = IsBookOfBind env c m book
  IsBookOf env c (Listing m) book = IsBookOfAll env c m book
  IsBookOf env c (Releasing m) book = IsBookOfRelease env c m book
  IsBookOf env c (Rebinding m) book = IsBookOfRebind env c m book
  IsBookOf env c (Working m) book = IsBookOfWork env c m book
  IsBookOf env c (Counting m) book = IsBookOfCount env m book
  IsBookOf env c (Tidying m) book = IsBookOfTidy env m book
  IsBookOf env c (Walking m) book = IsBookOfWalk env c m book

-- ---- the rooms

-- the owners that came with a call, and the pairs; none where there is no call
abbrev pub owners_with : Option Finished → List ℕ
owners_with None = []
owners_with (Some done) = done.owners

abbrev pub pairs_with : Option Finished → List (ℕ × ℕ)
pairs_with None = []
pairs_with (Some done) = done.pairs

-- in no call a caller's rooms have the lists that came with its last finished call, and in a call they are empty
pub record HasLists {M : Type 0} (local : Local M) (book : Book) : Type 0 where
  pub owners : local.owners.items ≡ (if is_idle local then owners_with (last_or None book.finished) else [])
  pub pairs : local.pairs.items ≡ (if is_idle local then pairs_with (last_or None book.finished) else [])

-- each call of a caller that has ended was answered, the one in progress is the one that it works at, and its rooms
-- have the lists of the last one that has ended
pub record AnswersIn {M : Type 0} (env : Env) (c : ℕ) (local : Local M) (book : Book) : Type 0 where
  pub finished : AllByRecursion IsRightlyAnswered book.finished
  pub progress : IsBookOf env c local.doing book
  pub lists : HasLists local book
