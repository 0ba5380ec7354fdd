-- Journals all of whose sources have ended.
use Rattle.std.specs.Prelude.{◌≡◌, ◌==◌, ◌&&◌, ℕ, Bool, not, List}
use Rattle.std.specs.List.{list_any}
use Rattle.stream_base.specs.declared.entry.Entry.{Entry}
use Rattle.stream_base.specs.Model.Watermark.{has_ended}

-- each source that has an entry in the journal has its end there
abbrev pub is_closed : List Entry → Bool
is_closed journal = not (list_any (λ e. not (has_ended e.source journal)) journal)

-- the list has the sources that have an entry in the journal, and the other list those that have their end there
pub record AreSourcesOf (journal : List Entry) (spoken ended : List ℕ) : Type 0 where
  pub spoken_are : (s : ℕ) → list_any (λ x. x == s) spoken ≡ list_any (λ e. e.source == s) journal
  pub ended_are : (s : ℕ) → list_any (λ x. x == s) ended ≡ has_ended s journal

-- a source is this one, if it is wanted at all
abbrev pub with_test : Bool → ℕ → ℕ → Bool
with_test wanted source s = wanted && (source == s)
