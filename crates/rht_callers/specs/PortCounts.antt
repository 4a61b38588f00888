-- The reading of how many ports are bound: its one operation, and what it answers.
use Rattle.std.specs.Prelude.{ℕ}
use Rattle.rht_words.specs.declared.op.Op.{Op}
use Rattle.rht_words.specs.declared.op.Op.TheVariants.{Load}
use Rattle.rht_words.specs.declared.env.Env.{Env}
use Rattle.rht_words.specs.declared.machine.Next.{Next}
use Rattle.rht_words.specs.declared.machine.Next.TheVariants.{Done}
use Rattle.rht_words.specs.Places as places
use Rattle.rht_words.specs.Places.{place_of}
use Rattle.rht_model.specs.declared.history.Reply.{Reply}
use Rattle.rht_model.specs.declared.history.Reply.TheVariants.{Counted}
use Rattle.rht_callers.specs.declared.count.PortCount.{PortCount}

abbrev pub count_plan_in : Env → Op
count_plan_in env = Load (place_of env.geometry places.PortCount)

abbrev pub count_plan : PortCount → Op
count_plan m = count_plan_in m.env

abbrev pub count_after : PortCount → ℕ → PortCount × Next Reply
count_after m word = (m, Done (Counted word))
