-- The time of an entry that is within the limits.
use Rattle.std.proofs.Common.{◌≡◌, ◌≤◌, ◌^◌, true, arith}
use Rattle.std.specs.Prelude.{◌&&◌, nat_le, nat_lt}
use Rattle.std.proofs.lemmas.Bool.{and_parts, leb-true}
use Rattle.stream_base.specs.Key.{is_key}
use Rattle.stream_base.specs.Limits.{is_value}
use Rattle.stream_base.specs.declared.entry.Entry.{Entry}
use Rattle.stream_base.specs.declared.limits.TheConstants.{TIME_MAX}
use Rattle.stream_base.specs.declared.what.What.{What}
use Rattle.stream_base.specs.declared.what.What.TheVariants.{Tuple, Mark, Water, Idle, End}
use Rattle.stream_base.specs.Model.Journals.{is_entry_within}
use Rattle.stream_base.specs.Model.What.{is_what_within}
use Rattle.tail_windows.specs.Following.{time_in}

what_within : (what : What) → is_what_within what ≡ true → time_in what ≤ TIME_MAX
what_within (Tuple key time value) h = leb-true time TIME_MAX (and_parts (nat_le time TIME_MAX) (is_value value && is_key key) h).0
what_within (Mark key time) h = leb-true time TIME_MAX (and_parts (nat_le time TIME_MAX) (is_key key) h).0
what_within (Water time) h = leb-true time TIME_MAX h
what_within Idle h = omega arith
what_within End h = omega arith

pub time_within : (e : Entry) → is_entry_within e ≡ true → time_in e.what ≤ TIME_MAX
time_within e h = what_within e.what (and_parts (nat_lt e.source (2 ^ 16)) (is_what_within e.what) h).1
