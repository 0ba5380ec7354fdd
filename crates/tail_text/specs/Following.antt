-- A follower that takes in the entries of a journal, whose changes are listed.
use Rattle.std.specs.Prelude.{◌≡◌, ◌++◌, List, [], ◌∷◌}
use Rattle.stream_base.specs.declared.entry.Entry.{Entry}
use Rattle.tail_windows.specs.Following.{Followed, IsOfSame, StandsFor, changes_behind}
use Rattle.tail_text.specs.Texts.{ByPosition}

-- a follower of a journal has taken in one more entry, whose changes are listed behind the others
pub record HasFollowed (old : Followed) (journal : List Entry) (e : Entry) (new : Followed) (lists later : ByPosition) : Type 0 where
  pub same : IsOfSame old new
  pub stands : StandsFor new (journal ++ e ∷ [])
  pub kept : later ≡ lists ++ changes_behind old journal e ∷ []
