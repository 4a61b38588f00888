-- Making a table: what each state performs, and what comes after it. Where there is no run of pages for a flat table a nested one
-- is made, if it may be, which takes one page.
use Rattle.std.specs.Prelude.{◌≡◌, ℕ, Bool, true, false, nat_le, ◌&&◌, ◌+◌, ◌<◌, ◌≤◌, ◌==◌, nat_lt, List, [], Option, None, Some, if◌then◌else◌}
use Rattle.std.specs.List.{range_with_len}
use Rattle.rht_words.specs.declared.op.Op.{Op}
use Rattle.rht_words.specs.declared.op.Op.TheVariants.{Store, Exchange, Add}
use Rattle.rht_words.specs.declared.machine.Next.{Next}
use Rattle.rht_words.specs.declared.machine.Next.TheVariants.{Go, Done}
use Rattle.rht_words.specs.declared.machine.Start.{Start}
use Rattle.rht_words.specs.declared.machine.Start.TheVariants as starts
use Rattle.rht_words.specs.declared.geometry.Geometry.{Geometry}
use Rattle.rht_words.specs.Places.{NextSerial, Slot, ShapeWord, SeedWord, FutureWord, SerialWord, StateWord, place_of}
use Rattle.rht_words.specs.Planned.{IsWord}
use Rattle.rht_words.specs.declared.shape.Shape.{Shape}
use Rattle.rht_words.specs.Shapes.{packed}
use Rattle.rht_arena.specs.PageRuns.{IsRunIn}
use Rattle.rht_arena.specs.TakeRun.{TakeRunModel, first_run, take_run_new, take_run_plan, take_run_after, pages_of_take_run, IsTakeRunIn}
use Rattle.rht_nest.specs.Tables.{exponent_made, flat_shape, nested_shape, table_pages, table_seed}
use Rattle.rht_nest.specs.declared.make.MakeAt.{MakeAt}
use Rattle.rht_nest.specs.declared.make.MakeAt.TheVariants as at

-- what contracts see of the machine: the size by its binary exponent, and the config's seed
pub record MakeModel : Type 0 where
  pub geometry : Geometry
  pub exponent : ℕ
  pub seed : ℕ
  pub nested : Bool
  pub at : MakeAt

-- it begins with the first slot
abbrev pub make_new : Geometry → ℕ → ℕ → Bool → MakeModel
make_new g size seed nested =
    record { geometry = g; exponent = exponent_made size; seed = seed; nested = nested; at = at.Slot 0 }

-- a nested table may be made, where that is allowed and there are so many buckets that they take more than a page
abbrev pub may_nest : ℕ → Bool → Bool
may_nest exponent allowed = allowed && nat_le 7 exponent

-- how many pages a flat table of this size takes
abbrev pub made_pages : ℕ → ℕ
made_pages exponent = table_pages (flat_shape exponent 0)

-- the shape of a table, nested or not, from this page on
abbrev pub shape_made : ℕ → Bool → ℕ → Shape
shape_made exponent nested page = if nested then nested_shape exponent page else flat_shape exponent page

-- the word of its shape
abbrev pub made_shape : ℕ → Bool → ℕ → ℕ
made_shape exponent nested page = packed (shape_made exponent nested page)

-- and how many pages it takes
abbrev pub pages_taken : ℕ → Bool → ℕ
pages_taken exponent nested = if nested then 1 else made_pages exponent

-- the state's one operation
abbrev pub make_plan_at : Geometry → ℕ → ℕ → MakeAt → Op
make_plan_at g exponent seed (at.Slot slot) = Exchange (place_of g (Slot slot StateWord)) 0 1
make_plan_at g exponent seed (at.Taking slot take) = take_run_plan take
make_plan_at g exponent seed (at.TakingTop slot take) = take_run_plan take
make_plan_at g exponent seed (at.SlotBack slot) = Store (place_of g (Slot slot StateWord)) 0
make_plan_at g exponent seed (at.NextSerial slot nested page) = Add (place_of g NextSerial) 1
make_plan_at g exponent seed (at.Shape slot nested page serial) =
    Store (place_of g (Slot slot ShapeWord)) (made_shape exponent nested page)
make_plan_at g exponent seed (at.Seed slot nested page serial) =
    Store (place_of g (Slot slot SeedWord)) (table_seed seed serial)
make_plan_at g exponent seed (at.Future slot nested page serial) = Store (place_of g (Slot slot FutureWord)) 0
make_plan_at g exponent seed (at.Serial slot nested page serial) = Store (place_of g (Slot slot SerialWord)) serial

abbrev pub make_plan : MakeModel → Op
make_plan m = make_plan_at m.geometry m.exponent m.seed m.at

-- with a run of pages taken the words of a flat table are stored
abbrev pub run_found : ℕ → ℕ → MakeAt
run_found slot page = at.NextSerial slot false page

-- where there is none a page is looked for, the top one of a nested table, if that may be; else the slot is given back
abbrev pub no_run : Geometry → Bool → ℕ → MakeAt
no_run g nests slot = if nests then at.TakingTop slot (first_run g 1) else at.SlotBack slot

-- so it goes on after an operation of the taking of a run
abbrev pub run_taken : Geometry → Bool → ℕ → TakeRunModel → Next (Option ℕ) → MakeAt
run_taken g nests slot take Go = at.Taking slot take
run_taken g nests slot take (Done None) = no_run g nests slot
run_taken g nests slot take (Done (Some page)) = run_found slot page

-- and as it begins
abbrev pub run_started : Geometry → Bool → ℕ → Start TakeRunModel (Option ℕ) → MakeAt
run_started g nests slot (starts.Running take) = at.Taking slot take
run_started g nests slot (starts.Done None) = no_run g nests slot
run_started g nests slot (starts.Done (Some page)) = run_found slot page

-- with a top page taken the words of a nested table are stored; where there is none the slot is given back
abbrev pub top_taken : ℕ → TakeRunModel → Next (Option ℕ) → MakeAt
top_taken slot take Go = at.TakingTop slot take
top_taken slot take (Done None) = at.SlotBack slot
top_taken slot take (Done (Some page)) = at.NextSerial slot true page

-- a slot that was free is taken; behind one that wasn't comes the next one, and after the last one none is free
abbrev pub slot_seen : Geometry → ℕ → Bool → ℕ → ℕ → MakeAt × Next (Option (ℕ × ℕ))
slot_seen g exponent nests slot state =
    if state == 0 then (run_started g nests slot (take_run_new g (made_pages exponent)), Go)
    else if nat_lt (slot + 1) 8 then (at.Slot (slot + 1), Go)
    else (at.Slot slot, Done None)

-- what comes after a state that found this word
abbrev pub make_after_at : Geometry → ℕ → Bool → MakeAt → ℕ → MakeAt × Next (Option (ℕ × ℕ))
make_after_at g exponent allowed (at.Slot slot) word = slot_seen g exponent (may_nest exponent allowed) slot word
make_after_at g exponent allowed (at.Taking slot take) word =
    (run_taken g (may_nest exponent allowed) slot (take_run_after take word).0 (take_run_after take word).1, Go)
make_after_at g exponent allowed (at.TakingTop slot take) word =
    (top_taken slot (take_run_after take word).0 (take_run_after take word).1, Go)
make_after_at g exponent allowed (at.SlotBack slot) word = (at.SlotBack slot, Done None)
make_after_at g exponent allowed (at.NextSerial slot nested page) word = (at.Shape slot nested page word, Go)
make_after_at g exponent allowed (at.Shape slot nested page serial) word = (at.Seed slot nested page serial, Go)
make_after_at g exponent allowed (at.Seed slot nested page serial) word = (at.Future slot nested page serial, Go)
make_after_at g exponent allowed (at.Future slot nested page serial) word = (at.Serial slot nested page serial, Go)
make_after_at g exponent allowed (at.Serial slot nested page serial) word =
    (at.Serial slot nested page serial, Done (Some (slot, made_shape exponent nested page)))

abbrev pub make_after : MakeModel → ℕ → MakeModel × Next (Option (ℕ × ℕ))
make_after m word = (
  record m { at = (make_after_at m.geometry m.exponent m.nested m.at word).0 },
  (make_after_at m.geometry m.exponent m.nested m.at word).1,
)

-- ---- what it holds

-- the slot that it has taken and not given back
abbrev pub slot_of_make : MakeAt → Option ℕ
slot_of_make (at.Slot slot) = None
slot_of_make (at.Taking slot take) = Some slot
slot_of_make (at.TakingTop slot take) = Some slot
slot_of_make (at.SlotBack slot) = Some slot
slot_of_make (at.NextSerial slot nested page) = Some slot
slot_of_make (at.Shape slot nested page serial) = Some slot
slot_of_make (at.Seed slot nested page serial) = Some slot
slot_of_make (at.Future slot nested page serial) = Some slot
slot_of_make (at.Serial slot nested page serial) = Some slot

-- and the pages
abbrev pub pages_of_make : ℕ → MakeAt → List ℕ
pages_of_make exponent (at.Slot slot) = []
pages_of_make exponent (at.Taking slot take) = pages_of_take_run take
pages_of_make exponent (at.TakingTop slot take) = pages_of_take_run take
pages_of_make exponent (at.SlotBack slot) = []
pages_of_make exponent (at.NextSerial slot nested page) = range_with_len page (pages_taken exponent nested)
pages_of_make exponent (at.Shape slot nested page serial) = range_with_len page (pages_taken exponent nested)
pages_of_make exponent (at.Seed slot nested page serial) = range_with_len page (pages_taken exponent nested)
pages_of_make exponent (at.Future slot nested page serial) = range_with_len page (pages_taken exponent nested)
pages_of_make exponent (at.Serial slot nested page serial) = range_with_len page (pages_taken exponent nested)

-- ---- what keeps it in range

-- a table is nested only where it may be
abbrev pub IsKind : ℕ → Bool → Bool → Type 0
IsKind exponent allowed true = may_nest exponent allowed ≡ true
IsKind exponent allowed false = Unit {0}

-- a slot, and the pages of a table that is nested or not
pub record IsSlotAndRun (g : Geometry) (exponent : ℕ) (allowed nested : Bool) (slot page : ℕ) : Type 0 where
  pub slot_in : slot < 8
  pub kind : IsKind exponent allowed nested
  pub run_in : IsRunIn g page (pages_taken exponent nested)

-- and the serial's word
pub record IsNumbered (g : Geometry) (exponent : ℕ) (allowed nested : Bool) (slot page serial : ℕ) : Type 0 where
  pub taken : IsSlotAndRun g exponent allowed nested slot page
  pub serial_in : IsWord serial

-- a slot, while so many pages are taken for it
pub record IsTakingIn (g : Geometry) (pages slot : ℕ) (take : TakeRunModel) : Type 0 where
  pub slot_in : slot < 8
  pub pages_same : take.pages ≡ pages
  pub take_in : IsTakeRunIn g take

-- or one page, for a table that may be nested
pub record IsTakingTopIn (g : Geometry) (exponent : ℕ) (allowed : Bool) (slot : ℕ) (take : TakeRunModel) : Type 0 where
  pub kind : IsKind exponent allowed true
  pub taking : IsTakingIn g 1 slot take

-- the state names a slot that there is, and pages of the table
abbrev pub IsMakeAtIn : Geometry → ℕ → Bool → MakeAt → Type 0
IsMakeAtIn g exponent allowed (at.Slot slot) = slot < 8
IsMakeAtIn g exponent allowed (at.Taking slot take) = IsTakingIn g (made_pages exponent) slot take
IsMakeAtIn g exponent allowed (at.TakingTop slot take) = IsTakingTopIn g exponent allowed slot take
IsMakeAtIn g exponent allowed (at.SlotBack slot) = slot < 8
IsMakeAtIn g exponent allowed (at.NextSerial slot nested page) = IsSlotAndRun g exponent allowed nested slot page
IsMakeAtIn g exponent allowed (at.Shape slot nested page serial) = IsNumbered g exponent allowed nested slot page serial
IsMakeAtIn g exponent allowed (at.Seed slot nested page serial) = IsNumbered g exponent allowed nested slot page serial
IsMakeAtIn g exponent allowed (at.Future slot nested page serial) = IsNumbered g exponent allowed nested slot page serial
IsMakeAtIn g exponent allowed (at.Serial slot nested page serial) = IsNumbered g exponent allowed nested slot page serial

-- the machine makes a table of one of the sizes in this table of words
pub record IsMakeIn (g : Geometry) (m : MakeModel) : Type 0 where
  pub geometry_same : m.geometry ≡ g
  pub least : 2 ≤ m.exponent
  pub greatest : m.exponent ≤ 17
  pub at_in : IsMakeAtIn g m.exponent m.nested m.at

-- what it answers is a slot with the shape of a table of this size, whose pages are the table's
pub record IsMadeIn (g : Geometry) (exponent : ℕ) (allowed : Bool) (slot shape : ℕ) : Type 0 where
  pub slot_in : slot < 8
  pub nested : Bool
  pub page : ℕ
  pub kind : IsKind exponent allowed nested
  pub shape_is : shape ≡ made_shape exponent nested page
  pub run_in : IsRunIn g page (pages_taken exponent nested)

abbrev pub IsMakeEndIn : Geometry → ℕ → Bool → Next (Option (ℕ × ℕ)) → Type 0
IsMakeEndIn g exponent allowed Go = Unit {0}
IsMakeEndIn g exponent allowed (Done None) = Unit {0}
IsMakeEndIn g exponent allowed (Done (Some made)) = IsMadeIn g exponent allowed made.0 made.1
