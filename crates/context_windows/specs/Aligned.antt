-- Stores whose slices part where the instances of a window start and end.
use Rattle.std.specs.Prelude.{◌<◌, List, All}
use Rattle.std.specs.List.{Contains}
use Rattle.stream_base.specs.declared.def.Def.{Def}
use Rattle.stream_base.specs.declared.kept.Kept.{Kept}
use Rattle.stream_base.specs.declared.limits.TheConstants.{FINAL}
use Rattle.stream_base.specs.Laws.{TimesDoNotFall}
use Rattle.stream_base.specs.Kinds.{IsKindWithin}
use Rattle.agg_store.specs.Stored.{IsSliced, Stored, tuples_of}
use Rattle.context_windows.specs.Spanned.{IsSession}

-- the slices are those of tuples in order under these definitions
pub record IsOfWindows (windows : List Def) (store : Stored) : Type 0 where
  pub kinds : All (λ w. IsKindWithin w.kind) windows
  pub sliced : IsSliced windows store
  pub in_order : TimesDoNotFall (tuples_of store)
  pub early : All (λ x. x.time < FINAL) (tuples_of store)

-- the tuples are some of those that are kept of a key, and the window is one of the definitions, of sessions
pub record IsOfSessions (windows : List Def) (w : Def) (kept : List Kept) (store : Stored) : Type 0 where
  pub sliced : IsOfWindows windows store
  pub member : Contains windows w
  pub session : IsSession w.kind
  pub early : All (λ x. x.time < FINAL) kept
  pub some : All (Contains kept) (tuples_of store)
