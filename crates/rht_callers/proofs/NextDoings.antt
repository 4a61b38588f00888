-- What is so of a machine that goes on, and of a caller in no call, is so of what the caller does next.
use Rattle.rht_words.specs.declared.machine.Next.{Next}
use Rattle.rht_words.specs.declared.machine.Next.TheVariants.{Go, Done}
use Rattle.rht_model.specs.declared.history.Reply.{Reply}
use Rattle.rht_callers.specs.declared.local.Doing.{Doing}
use Rattle.rht_callers.specs.declared.local.Doing.TheVariants.{Idle}
use Rattle.rht_callers.specs.Locals.{doing_next}

pub next_so : {M A : Type 0} (So : Doing M → Type 0) (doing : A → Doing M) → So Idle → (m : A) (next : Next Reply)
    → So (doing m) → So (doing_next doing (m, next)).0
next_so So doing idle m Go is = is
next_so So doing idle m (Done reply) is = idle
