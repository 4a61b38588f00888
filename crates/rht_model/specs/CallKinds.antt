-- Which kind of call it is.
use Rattle.std.specs.Prelude.{Bool, true, false}
use Rattle.rht_model.specs.declared.history.Call.{Call}
use Rattle.rht_model.specs.declared.history.Call.TheVariants.{Bind, Find, All, Release, Rebind, Walk, Work, Tidy, Count}

-- the call is a bind
abbrev pub is_bind : Call → Bool
is_bind (Bind port owner once) = true
is_bind (Find port) = false
is_bind (All port) = false
is_bind (Release port owner) = false
is_bind (Rebind port owner new) = false
is_bind (Walk from limit) = false
is_bind Work = false
is_bind Tidy = false
is_bind Count = false

abbrev pub is_find : Call → Bool
is_find (Bind port owner once) = false
is_find (Find port) = true
is_find (All port) = false
is_find (Release port owner) = false
is_find (Rebind port owner new) = false
is_find (Walk from limit) = false
is_find Work = false
is_find Tidy = false
is_find Count = false

abbrev pub is_release : Call → Bool
is_release (Bind port owner once) = false
is_release (Find port) = false
is_release (All port) = false
is_release (Release port owner) = true
is_release (Rebind port owner new) = false
is_release (Walk from limit) = false
is_release Work = false
is_release Tidy = false
is_release Count = false
