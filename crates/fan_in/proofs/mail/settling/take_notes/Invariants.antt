use Rattle.std.proofs.Common.{◌≡◌, ◌<◌, ◌≤◌, ℕ, length, slice_index_or}
use Rattle.fan_in.specs.Owning.{note_of}
use Rattle.fan_in.specs.Settling.{worse}
use Rattle.fan_in.proofs.mail.settling.take_notes.Given as goal

abbrev pub invariant-loop-i : goal.invariant-loop-i
invariant-loop-i g l = record {
  many : length l.ends ≡ length l.initial.ends;
  made_feeds : (i : ℕ) (e : _) → i < l.i → (slice_index_or l.ends i e).feed ≡ (slice_index_or l.initial.ends i e).feed;
  made_outcomes : (i : ℕ) (e : _) → i < l.i → (slice_index_or l.ends i e).outcome ≡ worse (slice_index_or l.initial.ends i e).outcome (note_of i l.notes);
  rest : (i : ℕ) (e : _) → l.i ≤ i → slice_index_or l.ends i e ≡ slice_index_or l.initial.ends i e;
}
