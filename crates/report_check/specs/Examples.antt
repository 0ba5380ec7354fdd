-- A report in parts, for examples.
use Rattle.std.specs.Prelude.{ℕ, List, [], ◌∷◌, codes}
use Rattle.stream_base.specs.Examples.{window, with_lateness}
use Rattle.stream_base.specs.Limits.{Definitions}
use Rattle.stream_base.specs.declared.func.Func.TheVariants.{Sum}
use Rattle.stream_base.specs.declared.kind.Kind.TheVariants.{Session}
use Rattle.report_check.specs.Apart.{line_apart}
use Rattle.report_check.specs.Findings.{report_in}

-- sessions that end after 5, and reopen up to 5 behind the watermark
abbrev pub sessions : Definitions
sessions = with_lateness 5 (window (Session 5) Sum ∷ [])

-- a session ends
abbrev pub front : List ℕ
front = codes "shard 0\nj 0 t 0 1 a\nj 0 w 5\n+ 0 0 5 1 1 a\n"

-- it reopens
abbrev pub reopened : List ℕ
reopened = codes "j 0 t 3 2 a\n- 0 0 5 a\n"

-- it ends again, and the report too
abbrev pub back : List ℕ
back = codes "j 0 w 8\n+ 0 0 8 2 3 a\nj 0 e\nend\n"

-- the first line in which a text isn't its report
abbrev pub apart : List ℕ → ℕ
apart text = line_apart text (report_in sessions 1 text)
