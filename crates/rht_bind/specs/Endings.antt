-- What comes behind the closing of a bind's read section: the end, the giving back of its node, or its next attempt.
use Rattle.std.specs.Prelude.{ℕ, ◌<◌}
use Rattle.rht_words.specs.declared.machine.Next.{Next}
use Rattle.rht_words.specs.declared.machine.Next.TheVariants.{Go, Done}
use Rattle.rht_words.specs.declared.env.Env.{Env}
use Rattle.rht_words.specs.declared.geometry.Geometry.{Geometry}
use Rattle.rht_model.specs.declared.history.Reply.{Reply}
use Rattle.rht_model.specs.declared.history.Reply.TheVariants.{Bound}
use Rattle.rht_bind.specs.declared.bind.ending.Ending.{Ending}
use Rattle.rht_bind.specs.declared.bind.ending.Ending.TheVariants as endings
use Rattle.rht_bind.specs.declared.bind.BindAt.{BindAt}
use Rattle.rht_bind.specs.declared.bind.BindAt.TheVariants as at

-- the section is closed, the node given back, and then the bind ends with this reply
abbrev pub answering : ℕ → Reply → BindAt
answering node reply = at.Closing (endings.Answered node reply)

-- the node is given back, and then the bind ends with this reply
abbrev pub giving : Env → ℕ → Reply → BindAt
giving env node reply = at.Giving (record { geometry = env.geometry; node = node }) reply

-- with its section closed a bind that has linked its node has ended, another gives it back, or begins anew with it
abbrev pub closed : Env → Ending → BindAt × Next Reply
closed env (endings.Bound kick) = (at.Closing (endings.Bound kick), Done (Bound kick))
closed env (endings.Answered node reply) = (giving env node reply, Go)
closed env (endings.Anew attempt) = (at.Opening attempt, Go)

-- the node that it still has is the table's
abbrev pub IsEndingIn : Geometry → Ending → Type 0
IsEndingIn g (endings.Bound kick) = Unit {0}
IsEndingIn g (endings.Answered node reply) = node < g.nodes
IsEndingIn g (endings.Anew attempt) = attempt.node < g.nodes
